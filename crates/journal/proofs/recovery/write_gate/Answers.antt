use Rattle.std.proofs.lemmas.Result.{on_ok_weaker}
use Rattle.journal.specs.Disk.{TearsJournal}
use Rattle.journal.proofs.Carried.{carried-steps}
use Rattle.journal.proofs.OnDisk.{carried_looks, on_disk-journal}
use Rattle.journal.proofs.recovery.write_gate.Goals as goal

pub returns-in_err-write_journal-clause-carried : goal.returns-in_err-write_journal-clause-carried
returns-in_err-write_journal-clause-carried g c = carried-steps (TearsJournal c.args.at 1) _ _ c.write_journal.ensures.steps

pub returns-clause-carried : goal.returns-clause-carried
returns-clause-carried g c = carried_looks (TearsJournal c.args.at 1) _ _ _ (carried-steps (TearsJournal c.args.at 1) _ _ c.write_journal.ensures.steps) c.sync_journal.ensures.looks

pub returns-clause-on_disk : goal.returns-clause-on_disk
returns-clause-on_disk g c = on_ok_weaker c.sync_journal.result (λ only known.
    on_disk-journal (TearsJournal c.args.at 1) (g.F.Files.state c.args.files.now) (g.F.Files.state c.write_journal.new.self) (g.F.Files.state c.sync_journal.new.self) (c.requires.on_disk known)
    (carried-steps (TearsJournal c.args.at 1) _ _ c.write_journal.ensures.steps) c.sync_journal.ensures.looks (λ d e torn. torn.image) (λ d e torn. torn.record_text) only) c.sync_journal.ensures.durable
