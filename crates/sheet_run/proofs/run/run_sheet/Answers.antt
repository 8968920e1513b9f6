-- `run::run_sheet` meets its contract: the sheet may not start, or its lines run; and what the theorems about lists say of its calls.
use Rattle.std.proofs.Common.{rules, []}
use Rattle.endian.specs.Bytes.{AllBytes}
use Rattle.edit_rules.specs.Promise.{loan}
use Rattle.sheet_run.proofs.Whole.{few, read, runs, runs-not, ledger, record_tells, shares}
use Rattle.sheet_run.proofs.run.run_sheet.Goals as goal

pub run_lines-requires-clause-few : goal.run_lines-requires-clause-few
run_lines-requires-clause-few c = few _ _ (read _ _ (loan c.args.image.now c.new-words.result.memory.now [] c.args.totals.now) _ (rw c.in-Ok.is at c.start.ensures))

pub returns-in-Ok-clause-run : goal.returns-in-Ok-clause-run
returns-in-Ok-clause-run c =
    let s = rw (c.in-Ok.is, c.new-words.ensures.memory) at c.start.ensures in
    runs _ _ _ _ s _ _ _ (rw (c.start.auto.words, c.new-words.ensures.memory, c.new-bytes.ensures.memory) at c.run_lines.ensures) _ _ (search rules) (search rules)

pub returns-clause-run : goal.returns-clause-run
returns-clause-run c =
    let s = rw (c.in-Err.is, c.new-words.ensures.memory) at c.start.ensures in
    runs-not _ _ _ _ s _ _ (search rules) (search rules)

pub returns-in-Ok-clause-ledger_holds : goal.returns-in-Ok-clause-ledger_holds
returns-in-Ok-clause-ledger_holds c =
    let s : AllBytes c.args.sheet.now = search rules in
    let b : AllBytes c.args.image.now = search rules in
    ledger (returns-in-Ok-clause-run c) s b

pub returns-in-Ok-clause-record_tells : goal.returns-in-Ok-clause-record_tells
returns-in-Ok-clause-record_tells c =
    let s : AllBytes c.args.sheet.now = search rules in
    let b : AllBytes c.args.image.now = search rules in
    record_tells (returns-in-Ok-clause-run c) s b

pub returns-in-Ok-clause-shares_hold : goal.returns-in-Ok-clause-shares_hold
returns-in-Ok-clause-shares_hold c =
    let s : AllBytes c.args.sheet.now = search rules in
    let b : AllBytes c.args.image.now = search rules in
    shares (returns-in-Ok-clause-run c) s b

pub returns-clause-ledger_holds : goal.returns-clause-ledger_holds
returns-clause-ledger_holds c =
    let s : AllBytes c.args.sheet.now = search rules in
    let b : AllBytes c.args.image.now = search rules in
    ledger (returns-clause-run c) s b

pub returns-clause-record_tells : goal.returns-clause-record_tells
returns-clause-record_tells c =
    let s : AllBytes c.args.sheet.now = search rules in
    let b : AllBytes c.args.image.now = search rules in
    record_tells (returns-clause-run c) s b

pub returns-clause-shares_hold : goal.returns-clause-shares_hold
returns-clause-shares_hold c =
    let s : AllBytes c.args.sheet.now = search rules in
    let b : AllBytes c.args.image.now = search rules in
    shares (returns-clause-run c) s b
