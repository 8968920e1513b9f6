use Rattle.std.proofs.Common.{◌≡◌, ◌≤◌, sym, ◌∙◌, ap, subst, [], ◌∷◌, length, take, arith}
use Rattle.std.proofs.lemmas.Result.{on_ok_weaker}
use Rattle.endian.specs.Bytes.{put}
use Rattle.journal.specs.Disk.{Disk}
use Rattle.journal.specs.Journal.{ComesFrom, copied, copying_in, steps_in, record_count, is_copied}
use Rattle.journal.proofs.Heads.{head_of, steps_same, record_count_same}
use Rattle.journal.proofs.Torn.{put-torn_end}
use Rattle.journal.proofs.Copies.{copied_twice}
use Rattle.journal.proofs.Gates.{is_copied-put, behind_second, steps-behind, record_count-behind}
use Rattle.journal.proofs.OnDisk.{leaves_seen}
use Rattle.journal.proofs.Recovered.{comes_from_same, can_copy, long_open}
use Rattle.journal.proofs.Drafts.{draft_none, draft_on}
use Rattle.journal.proofs.recovery.bring_once.Goals as goal

pub returns-then-head-eq1-clause-rest : goal.returns-then-head-eq1-clause-rest
returns-then-head-eq1-clause-rest g c known =
    let journal = (g.F.Files.state c.args.files.now).seen.journal in
    let same = head_of c.args.head.now journal (c.requires.same known) c.requires.head in
    (steps_same c.args.head.now journal same, record_count_same c.args.head.now journal same)

pub returns-then-head-eq1-clause-any_moment : goal.returns-then-head-eq1-clause-any_moment
returns-then-head-eq1-clause-any_moment g c known =
    let old = g.F.Files.state c.args.files.now in
    leaves_seen old (ComesFrom c.args.number old.seen) (c.requires.pending known).on_disk (comes_from_same c.args.number old.seen)

pub mark-requires-clause-done : goal.mark-requires-clause-done
mark-requires-clause-done g c known =
    let old = (g.F.Files.state c.args.files.now).seen in
    let p = c.requires.pending known in
    subst (λ (d : Disk). copied (copying_in d.journal) d.image ≡ d.image) (sym (c.in_ok-copy_over.ensures.done known))
    (copied_twice (copying_in old.journal) old.image (can_copy c.args.number old p.gate_open p.can_apply))

pub returns-clause-rest : goal.returns-clause-rest
returns-clause-rest g c = on_ok_weaker c.mark.result (λ marked known.
    let old = (g.F.Files.state c.args.files.now).seen.journal in
    let mid = (g.F.Files.state c.copy_over.new.files).seen.journal in
    let new = (g.F.Files.state c.mark.new.files).seen.journal in
    let unchanged : mid ≡ old = ap (λ (d : Disk). d.journal) (c.in_ok-copy_over.ensures.done known) in
    let long : 1266 ≤ length mid = long_open mid (c.in_ok-copy_over.ensures.pending known).gate_open in
    let behind = behind_second mid (put mid 1 (1 ∷ [])) (put-torn_end mid 1 (1 ∷ []) (omega (arith, long))) in
    let journal : new ≡ put mid 1 (1 ∷ []) = ap (λ (d : Disk). d.journal) (marked known) in
    let same = head_of c.args.head.now mid (c.requires.same known ∙ ap (take 1266) (sym unchanged)) c.requires.head in (
      steps_same c.args.head.now mid same ∙ sym (ap steps_in journal ∙ steps-behind (put mid 1 (1 ∷ [])) mid behind long),
      record_count_same c.args.head.now mid same ∙ sym (ap record_count journal ∙ record_count-behind (put mid 1 (1 ∷ [])) mid behind long),
    )) c.mark.ensures.marked

pub returns-clause-copied : goal.returns-clause-copied
returns-clause-copied g c = on_ok_weaker c.mark.result (λ marked known.
    let mid = (g.F.Files.state c.copy_over.new.files).seen.journal in
    let long : 1266 ≤ length mid = long_open mid (c.in_ok-copy_over.ensures.pending known).gate_open in
    ap (λ (d : Disk). is_copied d.journal) (marked known) ∙ is_copied-put mid (omega (arith, long))) c.mark.ensures.marked

pub returns-then-head-eq1-clause-keeps : goal.returns-then-head-eq1-clause-keeps
returns-then-head-eq1-clause-keeps g c = draft_none _

pub returns-clause-keeps : goal.returns-clause-keeps
returns-clause-keeps g c = draft_on _ _ _ c.copy_over.ensures.keeps c.mark.ensures.keeps
