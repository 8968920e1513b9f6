use Rattle.std.proofs.Common.{◌<◌, sym, ◌∙◌, ap, length, arith}
use Rattle.std.proofs.lemmas.Result.{on_ok_weaker}
use Rattle.journal.specs.Disk.{TearsJournal}
use Rattle.journal.specs.Journal.{ComesFrom, kept_of}
use Rattle.journal.proofs.Torn.{tears_journal_refl}
use Rattle.journal.proofs.OnDisk.{leaves-carried, if_ok_both}
use Rattle.journal.proofs.Gates.{settled_shut}
use Rattle.journal.proofs.Recovered.{keeping_leaves, short_closed, recovered-closed}
use Rattle.journal.proofs.Drafts.{draft_none, draft_first}
use Rattle.journal.proofs.recovery.keep_closed.Goals.{else-journal_len-gt0-via-then-journal_len-gt0+else-gate-ne1, else-journal_len-gt0-via-else-journal_len-gt0}
use Rattle.journal.proofs.recovery.keep_closed.Goals as goal

pub returns-then-gate-ne1-clause-done : goal.returns-then-gate-ne1-clause-done
returns-then-gate-ne1-clause-done g c known number = sym (recovered-closed number (g.F.Files.state c.args.files.now).seen (c.requires.closed known))

pub returns-clause-any_moment : goal.returns-clause-any_moment
returns-clause-any_moment g c known number =
    let old = g.F.Files.state c.args.files.now in
    let short : length old.seen.journal < 1266 = elim c.else-journal_len-gt0.branch [
      | else-journal_len-gt0-via-then-journal_len-gt0+else-gate-ne1 w ↦ short_closed old.seen.journal (c.requires.closed known) (c.requires.gate known (omega (arith, w.if-journal_len-gt0.true, c.journal_len.ensures)) ∙ w.if-gate-ne1.false)
      | else-journal_len-gt0-via-else-journal_len-gt0 w ↦ omega (arith, w.if-journal_len-gt0.false, c.journal_len.ensures)
    ] in
    leaves-carried (TearsJournal 0 1) (tears_journal_refl 0 1) old (g.F.Files.state c.write_gate.new.files) (ComesFrom number old.seen) (c.requires.on_disk known) c.write_gate.ensures.carried
    (λ d torn. keeping_leaves number old.seen d short torn)

pub returns-clause-settled : goal.returns-clause-settled
returns-clause-settled g c = on_ok_weaker c.write_gate.result (λ both known.
    settled_shut (g.F.Files.state c.args.files.now).seen (g.F.Files.state c.write_gate.new.files) (both.1 known) (both.0 known)) (if_ok_both _ _ c.write_gate.result c.write_gate.ensures.written c.write_gate.ensures.on_disk)

pub returns-clause-done : goal.returns-clause-done
returns-clause-done g c = on_ok_weaker c.write_gate.result (λ written known number.
    ap kept_of (written known) ∙ sym (recovered-closed number (g.F.Files.state c.args.files.now).seen (c.requires.closed known))) c.write_gate.ensures.written

pub returns-then-gate-ne1-clause-keeps : goal.returns-then-gate-ne1-clause-keeps
returns-then-gate-ne1-clause-keeps g c = draft_none _

pub returns-clause-keeps : goal.returns-clause-keeps
returns-clause-keeps g c = draft_first _ _ c.write_gate.ensures.carried
