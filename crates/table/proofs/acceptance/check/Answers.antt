-- `table::acceptance::check` meets its contract: each return by the tests that led there. Entries that pass stand in the table.
use native.Mathlib.Omega.{arith}
use mathlib.Core.Path.{◌≡◌, sym}
use Prim.Native.Nat.{◌-◌}
use borrow.Author.Tests.{lt-ltb, le-ltb, eq-eqb, ne_eqb}
use lib.ListN.{length}
use Rattle.std.specs.Prelude.{Ok, Err}
use Rattle.std.proofs.lemmas.Result.{err_from_is_err_and}
use Rattle.tree.specs.Table.{kind, count, entries_verdict, check}
use Rattle.table.specs.Inner.Reading.{texts_verdict}
use Rattle.table.proofs.Walking.{entries-inside, count-some}
use borrow.Author.Rules.{rules}
use Rattle.table.proofs.acceptance.check.Goals as goal

pub returns-then-table-lt12 : goal.returns-then-table-lt12
unfolding check
returns-then-table-lt12 c = search (lt-ltb, rules)

pub returns-then-table-gt1 : goal.returns-then-table-gt1
unfolding check
returns-then-table-gt1 c = search (le-ltb, lt-ltb)

pub returns-then-table-eq0 : goal.returns-then-table-eq0
unfolding check
returns-then-table-eq0 c = search (le-ltb, eq-eqb)

pub returns-then-count-gt-ENTRIES_LIMIT : goal.returns-then-count-gt-ENTRIES_LIMIT
unfolding check
returns-then-count-gt-ENTRIES_LIMIT c =
    let T = c.args.table.now in
    rw (le-ltb (length T) 12 c.if-table-lt12.false, le-ltb 1 (kind T 0) c.if-table-gt1.false, ne_eqb (kind T 0) 0 c.if-table-eq0.false, lt-ltb 16384 (count T) (omega arith))

pub entries_verdict-requires : goal.entries_verdict-requires
entries_verdict-requires c = omega (arith, count-some c.args.table.now)

pub returns-in_err-entries_verdict : goal.returns-in_err-entries_verdict
unfolding check
returns-in_err-entries_verdict c =
    let T = c.args.table.now in
    let p = err_from_is_err_and c.from_residual.result c.from_residual.ensures.1 in
    let e : Err c.in_err-entries_verdict.field-0.0 ≡ entries_verdict T 1 (count T - 1) = rw c.count-count.ensures at c.in_err-entries_verdict.ensures in
    rw (p.1, p.2) (rw (le-ltb (length T) 12 c.if-table-lt12.false, le-ltb 1 (kind T 0) c.if-table-gt1.false, ne_eqb (kind T 0) 0 c.if-table-eq0.false, le-ltb 16384 (count T) (omega arith), ← e))

pub invariant_of-texts_verdict : goal.invariant_of-texts_verdict
invariant_of-texts_verdict c = record {
  inside = entries-inside c.args.table.now c.count-count.result (omega arith) (omega (arith, count-some c.args.table.now)) (omega arith) (sym c.in_ok-entries_verdict.ensures);
}

pub returns : goal.returns
unfolding check texts_verdict
returns c =
    let T = c.args.table.now in
    let e : Ok tt ≡ entries_verdict T 1 (count T - 1) = rw c.count-count.ensures at c.in_ok-entries_verdict.ensures in
    let t : c.texts_verdict.result ≡ texts_verdict T (count T) c.args.words = rw c.count-count.ensures at c.texts_verdict.ensures in
    rw (le-ltb (length T) 12 c.if-table-lt12.false, le-ltb 1 (kind T 0) c.if-table-gt1.false, ne_eqb (kind T 0) 0 c.if-table-eq0.false, le-ltb 16384 (count T) (omega arith), ← e) t
