-- `noting::write_parts` meets its contract: each part stands right behind the one before it, and none on the gate.
use Rattle.std.proofs.Common.{◌++◌, refl, ap, arith, length-append}
use Rattle.std.proofs.lemmas.Result.{on_ok_weaker}
use Rattle.journal.specs.declared.noting.Places.{Places}
use Rattle.journal.specs.Inner.Noted.{record_part}
use Rattle.journal.proofs.Behind.{keeps_gate-steps, keeps_gate_on}
use Rattle.journal.proofs.Brought.{journal-more}
use Rattle.journal.proofs.noting.write_parts.Goals as goal

pub returns-in_err-write_journal-clause-carried : goal.returns-in_err-write_journal-clause-carried
returns-in_err-write_journal-clause-carried g c = keeps_gate-steps 1266 _ _ _ (omega arith) c.write_journal.ensures.steps

pub returns-in_err-write_journal-2-clause-carried : goal.returns-in_err-write_journal-2-clause-carried
returns-in_err-write_journal-2-clause-carried g c =
    let first = keeps_gate-steps 1266 _ _ _ (omega arith) c.write_journal.ensures.steps in
    let note = ap (λ (p : Places). p.note) c.requires.places in
    keeps_gate_on _ _ _ first (keeps_gate-steps c.args.places.note _ _ _ (omega arith) c.write_journal-2.ensures.steps)

pub returns-in_err-write_journal-3-clause-carried : goal.returns-in_err-write_journal-3-clause-carried
returns-in_err-write_journal-3-clause-carried g c =
    let first = keeps_gate-steps 1266 _ _ _ (omega arith) c.write_journal.ensures.steps in
    let note = ap (λ (p : Places). p.note) c.requires.places in
    let second = keeps_gate_on _ _ _ first (keeps_gate-steps c.args.places.note _ _ _ (omega arith) c.write_journal-2.ensures.steps) in
    let word = ap (λ (p : Places). p.word) c.requires.places in
    keeps_gate_on _ _ _ second (keeps_gate-steps c.args.places.word _ _ _ (omega arith) c.write_journal-3.ensures.steps)

pub returns-clause-carried : goal.returns-clause-carried
returns-clause-carried g c =
    let first = keeps_gate-steps 1266 _ _ _ (omega arith) c.write_journal.ensures.steps in
    let note = ap (λ (p : Places). p.note) c.requires.places in
    let second = keeps_gate_on _ _ _ first (keeps_gate-steps c.args.places.note _ _ _ (omega arith) c.write_journal-2.ensures.steps) in
    let word = ap (λ (p : Places). p.word) c.requires.places in
    let third = keeps_gate_on _ _ _ second (keeps_gate-steps c.args.places.word _ _ _ (omega arith) c.write_journal-3.ensures.steps) in
    let table = ap (λ (p : Places). p.table) c.requires.places in
    keeps_gate_on _ _ _ third (keeps_gate-steps c.args.places.table _ _ _ (omega arith) c.write_journal-4.ensures.steps)

pub returns-clause-done : goal.returns-clause-done
returns-clause-done g c =
    let d = c.args.draft.now in
    let text = record_part d in
    let note = text ++ d.note.now in
    let word = note ++ d.word.bytes.now in
    let old = (g.F.Files.state c.args.files.now).seen in
    let places = c.requires.places in
    on_ok_weaker c.write_journal-4.result
    (λ written known.
    let first = rw c.record_part.ensures at (c.in_ok-write_journal.ensures.written known) in
    let second = journal-more old _ _ _ 1266 _ text d.note.now note (ap (λ (p : Places). p.note) places) refl refl (omega arith) first (c.in_ok-write_journal-2.ensures.written known) in
    let third = journal-more old _ _ _ 1266 _ note d.word.bytes.now word (omega (arith, ap (λ (p : Places). p.word) places, length-append text d.note.now)) refl refl (omega arith) second (c.in_ok-write_journal-3.ensures.written known) in
    journal-more old _ _ _ 1266 _ word d.table.bytes.now (word ++ d.table.bytes.now)
    (omega (arith, ap (λ (p : Places). p.table) places, length-append text d.note.now, length-append note d.word.bytes.now)) refl refl (omega arith) third (written known))
    c.write_journal-4.ensures.written
