use Rattle.std.proofs.lemmas.Result.{on_ok_weaker}
use Rattle.journal.specs.Disk.{TearsJournal}
use Rattle.journal.specs.Inner.Head.{EndsAs}
use Rattle.journal.proofs.Torn.{tears_journal_refl}
use Rattle.journal.proofs.OnDisk.{leaves-carried, if_ok_both}
use Rattle.journal.proofs.Gates.{settled_shut}
use Rattle.journal.proofs.Recovered.{closing_leaves}
use Rattle.journal.proofs.Drafts.{draft_first}
use Rattle.journal.proofs.recovery.close.Goals as goal

pub returns-clause-any_moment : goal.returns-clause-any_moment
returns-clause-any_moment g c known =
    let old = g.F.Files.state c.args.files.now in
    let p = c.requires.pending known in
    leaves-carried (TearsJournal 0 1) (tears_journal_refl 0 1) old (g.F.Files.state c.write_gate.new.files) (EndsAs c.args.number old.seen) p.on_disk c.write_gate.ensures.carried
    (λ d torn. closing_leaves c.args.number old.seen p.gate_open p.can_apply d (c.requires.done known) torn)

pub returns-clause-settled : goal.returns-clause-settled
returns-clause-settled g c = on_ok_weaker c.write_gate.result (λ both known.
    settled_shut (g.F.Files.state c.args.files.now).seen (g.F.Files.state c.write_gate.new.files) (both.1 known) (both.0 known)) (if_ok_both _ _ c.write_gate.result c.write_gate.ensures.written c.write_gate.ensures.on_disk)

pub returns-clause-keeps : goal.returns-clause-keeps
returns-clause-keeps g c = draft_first _ _ c.write_gate.ensures.carried
