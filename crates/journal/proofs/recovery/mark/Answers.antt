use Rattle.std.proofs.lemmas.Result.{on_ok_weaker}
use Rattle.journal.specs.Disk.{TearsJournal}
use Rattle.journal.specs.Journal.{ComesFrom}
use Rattle.journal.proofs.Torn.{tears_journal_refl}
use Rattle.journal.proofs.OnDisk.{leaves-carried}
use Rattle.journal.proofs.Recovered.{marking_leaves, is_open-marking, applies-marking}
use Rattle.journal.proofs.Drafts.{draft_second}
use Rattle.journal.proofs.recovery.mark.Goals as goal

pub returns-clause-any_moment : goal.returns-clause-any_moment
returns-clause-any_moment g c known =
    let old = g.F.Files.state c.args.files.now in
    let p = c.requires.pending known in
    leaves-carried (TearsJournal 1 1) (tears_journal_refl 1 1) old (g.F.Files.state c.write_gate.new.files) (ComesFrom c.args.number old.seen) p.on_disk c.write_gate.ensures.carried
    (λ d torn. marking_leaves c.args.number old.seen p.gate_open p.can_apply d torn (c.requires.done known))

pub returns-clause-stays : goal.returns-clause-stays
returns-clause-stays g c = on_ok_weaker c.write_gate.result (λ on_disk known.
    let p = c.requires.pending known in
    marking_leaves c.args.number (g.F.Files.state c.args.files.now).seen p.gate_open p.can_apply (g.F.Files.state c.write_gate.new.files).seen c.write_gate.ensures.carried.part (c.requires.done known)) c.write_gate.ensures.on_disk

pub returns-clause-pending : goal.returns-clause-pending
returns-clause-pending g c = on_ok_weaker c.write_gate.result (λ on_disk known.
    let old = (g.F.Files.state c.args.files.now).seen in
    let new = (g.F.Files.state c.write_gate.new.files).seen in
    let p = c.requires.pending known in
    record {
      on_disk = on_disk known;
      gate_open = is_open-marking c.args.number old p.gate_open p.can_apply new c.write_gate.ensures.carried.part;
      can_apply = applies-marking c.args.number old p.gate_open p.can_apply new c.write_gate.ensures.carried.part;
    }) c.write_gate.ensures.on_disk

pub returns-clause-keeps : goal.returns-clause-keeps
returns-clause-keeps g c = draft_second _ _ c.write_gate.ensures.carried
