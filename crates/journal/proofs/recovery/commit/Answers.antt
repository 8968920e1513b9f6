use Rattle.std.proofs.Common.{◌≡◌, ◌∙◌, ap}
use Rattle.std.proofs.lemmas.Result.{on_ok_weaker, IfOk-weaker}
use Rattle.journal.specs.Disk.{TearsJournal}
use Rattle.journal.specs.Journal.{ComesFrom, IsBeforeOrAfter, kept_of, finished, opened_disk, recovered, found_in}
use Rattle.journal.specs.declared.recovery.Found.TheVariants.{Finished}
use Rattle.journal.proofs.Torn.{tears_journal_refl}
use Rattle.journal.proofs.Carried.{then_on}
use Rattle.journal.proofs.OnDisk.{leaves-carried, if_ok_both}
use Rattle.journal.proofs.Recovered.{opening_leaves, opened_comes_from, recovered-opened, found_in-opened, whole-opened}
use Rattle.journal.proofs.Drafts.{draft_first, draft_on}
use Rattle.journal.proofs.recovery.commit.Goals as goal

pub returns-in_err-write_gate-clause-any_moment : goal.returns-in_err-write_gate-clause-any_moment
returns-in_err-write_gate-clause-any_moment g c known =
    let old = g.F.Files.state c.args.files.now in
    leaves-carried (TearsJournal 0 1) (tears_journal_refl 0 1) old (g.F.Files.state c.write_gate.new.files) (IsBeforeOrAfter c.args.number (kept_of old.seen) (finished (opened_disk old.seen))) (c.requires.settled known).on_disk
    c.write_gate.ensures.carried (λ d torn. opening_leaves c.args.number old.seen d (c.requires.ready known) torn)

pub returns-clause-any_moment : goal.returns-clause-any_moment
returns-clause-any_moment g c known =
    let old = g.F.Files.state c.args.files.now in
    let opened = g.F.Files.state c.write_gate.new.files in
    let P = IsBeforeOrAfter c.args.number (kept_of old.seen) (finished (opened_disk old.seen)) in
    let opening = leaves-carried (TearsJournal 0 1) (tears_journal_refl 0 1) old opened P (c.requires.settled known).on_disk c.write_gate.ensures.carried (λ d torn. opening_leaves c.args.number old.seen d (c.requires.ready known) torn) in
    then_on old opened (g.F.Files.state c.recover.new.files) P (ComesFrom c.args.number opened.seen) opening (c.recover.ensures.any_moment known)
    (λ d from. opened_comes_from c.args.number old.seen opened.seen d (c.requires.ready known) (c.in_ok-write_gate.ensures.written known) from)

pub returns-clause-found : goal.returns-clause-found
returns-clause-found g c = IfOk-weaker c.recover.result _ _ (λ found is known.
    is known ∙ ap (found_in c.args.number) (c.in_ok-write_gate.ensures.written known) ∙ found_in-opened c.args.number (g.F.Files.state c.args.files.now).seen (c.requires.ready known)) c.recover.ensures.found

pub returns-clause-done : goal.returns-clause-done
returns-clause-done g c = on_ok_weaker c.recover.result (λ is known.
    is known ∙ ap (recovered c.args.number) (c.in_ok-write_gate.ensures.written known) ∙ recovered-opened c.args.number (g.F.Files.state c.args.files.now).seen (c.requires.ready known)) c.recover.ensures.done

pub returns-clause-settled : goal.returns-clause-settled
returns-clause-settled g c = IfOk-weaker c.recover.result _ _ (λ found both known.
    let is : found ≡ Finished = both.0 known ∙ ap (found_in c.args.number) (c.in_ok-write_gate.ensures.written known) ∙ found_in-opened c.args.number (g.F.Files.state c.args.files.now).seen (c.requires.ready known) in
    both.1 (λ another. cc) known) (if_ok_both _ _ c.recover.result c.recover.ensures.found c.recover.ensures.settled)

pub returns-in_err-write_gate-clause-keeps : goal.returns-in_err-write_gate-clause-keeps
returns-in_err-write_gate-clause-keeps g c = draft_first _ _ c.write_gate.ensures.carried

pub returns-clause-keeps : goal.returns-clause-keeps
returns-clause-keeps g c = draft_on _ _ _ (draft_first _ _ c.write_gate.ensures.carried) c.recover.ensures.keeps

pub recover-requires-clause-whole : goal.recover-requires-clause-whole
recover-requires-clause-whole g c known gate = whole-opened c.args.number (g.F.Files.state c.args.files.now).seen _ (c.requires.ready known) (c.in_ok-write_gate.ensures.written known)
