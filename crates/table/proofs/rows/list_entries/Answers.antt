-- `table::rows::list_entries` meets its contract. The invariant of its loop: the rows of the entries below k stand in the list, and the ends that are kept are of this table.
use native.Mathlib.Omega.{arith}
use Prim.Native.Nat.{◌*◌, ◌≤◌}
use mathlib.Core.Path.{◌≡◌}
use mathlib.Core.Bool.{true}
use borrow.Author.Tests.{lt-ltb, le-ltb}
use lib.ListN.{length}
use lib.Dec.{ltb}
use Rattle.tree.specs.Table as tab
use Rattle.table.specs.Rows.{list_verdict, list_with_rows}
use Rattle.table.proofs.RowLaws.{listing_start, listing-parents, listing-turn, listing-end}
use Rattle.table.proofs.rows.list_entries.Goals as goal

pub returns-then-list-count : goal.returns-then-list-count
unfolding list_verdict list_with_rows
returns-then-list-count c =
    let T = c.args.table.now in
    let L = c.args.list.now in
    let t : ltb (length L) (6 * tab.count T) ≡ true = lt-ltb (length L) (6 * tab.count T) (omega (arith, c.len-count.ensures.len)) in
    record { value = rw t; list_after = rw t }

pub loop-k-init : goal.loop-k-init
loop-k-init c = record {
  rows = listing_start c.args.base c.args.table.now c.args.list.now;
  same = c.new-ends.ensures;
}

pub add-requires-clause-parents_in : goal.add-requires-clause-parents_in
add-requires-clause-parents_in c =
    let T = c.args.table.now in
    let L = c.args.list.now in
    let r : 6 * tab.count T ≤ length L = omega (arith, c.len-count.ensures.len, c.if-list-count.false) in
    listing-parents c.args.base T L c.loop-k.list c.loop-k.k r c.loop-k.invariant.rows

pub loop-k-preserved : goal.loop-k-preserved
loop-k-preserved c =
    let T = c.args.table.now in
    let L = c.args.list.now in
    let r : 6 * tab.count T ≤ length L = omega (arith, c.len-count.ensures.len, c.if-list-count.false) in
    record {
      rows = listing-turn c.args.base T L c.loop-k.list c.loop-k.k r c.loop-k.invariant.rows (omega (arith, c.len-count.ensures.len, c.loop-k-test.true)) _ c.add.ensures;
      same = rw c.name_length-size.ensures.table c.loop-k.invariant.same;
    }

pub returns : goal.returns
unfolding list_verdict
returns c =
    let T = c.args.table.now in
    let L = c.args.list.now in
    let r : 6 * tab.count T ≤ length L = omega (arith, c.len-count.ensures.len, c.if-list-count.false) in
    record {
      value = rw (le-ltb (length L) (6 * tab.count T) r);
      list_after = listing-end c.args.base T L c.loop-k.list c.loop-k.k r c.loop-k.invariant.rows (omega (arith, c.len-count.ensures.len, c.loop-k-test.false));
    }
