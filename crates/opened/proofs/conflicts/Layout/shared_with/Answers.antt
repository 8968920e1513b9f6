-- `Layout::shared_with` meets its contract. The invariant of its loop: what is left has the answer of the whole.
use Rattle.std.proofs.Common.{◌≡◌, ◌≤◌, length, not, true, false, sym, ◌∙◌, arith}
use Rattle.space.specs.Layout.{are_disjoint}
use Rattle.opened.specs.Inner.Owned.{layout_regions, region_numbered}
use Rattle.opened.proofs.OwnedRegions.{length-owned, sharing-here, sharing-later, sharing_none}
use Rattle.opened.proofs.conflicts.Layout.shared_with.Goals as goal

pub returns-then-overlaps-clause-found : goal.returns-then-overlaps-clause-found
returns-then-overlaps-clause-found c =
    let s = c.args.self.now in
    let room : c.args.i ≤ length (layout_regions s) = omega (arith, length-owned s.table s.table_end s.own) in
    let t : not (are_disjoint (region_numbered s c.loop-j.j) (region_numbered s c.args.i)) ≡ true =
    rw (← c.region.ensures, ← c.region-region.ensures) (sym c.overlaps.ensures ∙ c.if-overlaps.true) in
    sym (c.loop-j.invariant ∙ sharing-here _ (layout_regions s) _ _ room c.loop-j-test.true t)

pub loop-j-preserved : goal.loop-j-preserved
loop-j-preserved c =
    let s = c.args.self.now in
    let room : c.args.i ≤ length (layout_regions s) = omega (arith, length-owned s.table s.table_end s.own) in
    let t : not (are_disjoint (region_numbered s c.loop-j.j) (region_numbered s c.args.i)) ≡ false =
    rw (← c.region.ensures, ← c.region-region.ensures) (sym c.overlaps.ensures ∙ c.if-overlaps.false) in
    c.loop-j.invariant ∙ sharing-later _ (layout_regions s) _ _ room c.loop-j-test.true t

pub returns-clause-found : goal.returns-clause-found
returns-clause-found c =
    let s = c.args.self.now in
    let room : c.args.i ≤ length (layout_regions s) = omega (arith, length-owned s.table s.table_end s.own) in
    sym (c.loop-j.invariant ∙ sharing_none _ (layout_regions s) _ _ room c.loop-j-test.false)
