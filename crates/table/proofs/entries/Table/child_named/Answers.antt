-- `Table::child_named` meets its contract. The invariant of its loop: entry k is a child, if it stands in the directory, no child before
-- it has the name, and none of the texts that are kept is the name.
use native.Mathlib.Omega.{arith}
use Prim.Native.Nat.{ℕ, ◌<◌, ◌/◌, ◌%◌}
use mathlib.Core.Path.{◌≡◌, sym, ◌∙◌}
use mathlib.Core.Bool.{Bool}
use mathlib.Core.List.{List}
use lib.ListN.{length, get_or}
use Rattle.endian.specs.Bytes.{are_same_bytes}
use Rattle.tree.specs.Table.{empty_root, count, name_of, nodes_of, name_place}
use Rattle.tree.proofs.Laws.Accepted.{length-nodes_of}
use Rattle.table.specs.Inner.Texts.{text_at}
use Rattle.table.proofs.Nodes.{held}
use Rattle.table.proofs.NamePlaces.{place_inside}
use Rattle.table.proofs.Ended.{name-there}
use Rattle.table.proofs.ChildLaws.{search-start, search-found, search-turn, search-end, next_le, after-past}
use Rattle.table.proofs.Unlike.{unlike-start, unlike-turn}
use Rattle.table.proofs.entries.Table.child_named.Goals as goal

named : (T nm : List ℕ) (k place : ℕ) (r : Bool) → 0 < k → k < count T → place ≡ name_place T k → r ≡ are_same_bytes (text_at T place) nm → are_same_bytes (name_of (get_or (nodes_of T) k empty_root)) nm ≡ r
named T nm k place r h l p e = rw (name-there T k h l) (sym (rw p at e))

pub loop-k-init : goal.loop-k-init
loop-k-init c =
    let T = c.args.self.now in
    let w = (held (rw c.self.view_is at c.self.invariant)).well in
    let d = rw (← length-nodes_of T) at c.requires.within in
    record {
      within = omega (arith, next_le (nodes_of T) c.args.d w d, c.next-stop.ensures, length-nodes_of T);
      search = search-start (nodes_of T) c.args.d c.args.name.now c.next-stop.result w d c.next-stop.ensures;
      unlike = unlike-start T c.args.name.now;
    }

pub has_name-requires-clause-inside : goal.has_name-requires-clause-inside
has_name-requires-clause-inside c =
    let T = c.args.self.now in
    let k = c.loop-k.k in
    let a = held (rw c.self.view_is at c.self.invariant) in
    let b = c.loop-k.invariant in
    let p : c.name_place-place.result < length T = omega (arith, c.name_place-place.ensures.place, place_inside a k (omega (arith, b.search.later)) (omega (arith, b.within))) in
    rw c.self.view_is (omega (arith, p))

pub returns-then-has_name : goal.returns-then-has_name
returns-then-has_name c =
    let T = c.args.self.now in
    let nm = c.args.name.now in
    let l = c.loop-k in
    let w = (held (rw c.self.view_is at c.self.invariant)).well in
    let e = named T nm l.k c.name_place-place.result c.has_name.result (omega (arith, l.invariant.search.later)) (omega (arith, l.invariant.within)) c.name_place-place.ensures.place (rw c.self.view_is at c.has_name.ensures) in
    sym (search-found (nodes_of T) c.args.d nm c.next-stop.result w (rw (← length-nodes_of T) at c.requires.within) c.next-stop.ensures l.k l.invariant.search (omega (arith, c.loop-k-test.true, l.invariant.search.later)) (e ∙ c.if-has_name.true))

pub loop-k-smaller : goal.loop-k-smaller
loop-k-smaller c =
    let T = c.args.self.now in
    let w = (held (rw c.self.view_is at c.self.invariant)).well in
    omega (arith, c.after-k.ensures, c.loop-k-test.true, c.loop-k.invariant.search.later, after-past (nodes_of T) c.loop-k.k w (rw (length-nodes_of T) (omega (arith, c.loop-k.invariant.within))))

pub loop-k-preserved : goal.loop-k-preserved
loop-k-preserved c =
    let T = c.args.self.now in
    let nm = c.args.name.now in
    let l = c.loop-k in
    let h = rw c.self.view_is at c.has_name.ensures in
    let p = c.name_place-place in
    let w = (held (rw c.self.view_is at c.self.invariant)).well in
    let e = named T nm l.k p.result c.has_name.result (omega (arith, l.invariant.search.later)) (omega (arith, l.invariant.within)) p.ensures.place h in
    record {
      within = l.invariant.within;
      search =
          rw c.after-k.ensures (search-turn (nodes_of T) c.args.d nm c.next-stop.result w (rw (← length-nodes_of T) at c.requires.within) c.next-stop.ensures l.k l.invariant.search (omega (arith, c.loop-k-test.true, l.invariant.search.later)) (e ∙ c.if-has_name.false));
      unlike = unlike-turn T nm l.differs (p.result / 65536 % 32) p.result l.invariant.unlike (omega arith) (sym h ∙ c.if-has_name.false);
    }

pub returns : goal.returns
returns c =
    let T = c.args.self.now in
    let w = (held (rw c.self.view_is at c.self.invariant)).well in
    sym (search-end (nodes_of T) c.args.d c.args.name.now c.next-stop.result w (rw (← length-nodes_of T) at c.requires.within) c.next-stop.ensures c.loop-k.k c.loop-k.invariant.search c.loop-k-test.false)
