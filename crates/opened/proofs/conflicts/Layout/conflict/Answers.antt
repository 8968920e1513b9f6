-- `Layout::conflict` meets its contract: each return by the tests that led there.
use Rattle.std.proofs.Common.{◌<◌, ◌≤◌, length, sym, ◌∙◌, arith}
use Rattle.opened.specs.Inner.Owned.{layout_regions}
use Rattle.opened.proofs.OwnedRegions.{length-owned, conflict-past, conflict-shared, conflict_none}
use Rattle.opened.proofs.conflicts.Layout.conflict.Goals as goal

pub returns-then-is_past : goal.returns-then-is_past
returns-then-is_past c =
    let s = c.args.self.now in
    let room : c.args.i ≤ length (layout_regions s) = omega (arith, length-owned s.table s.table_end s.own) in
    rw (c.owner_at.ensures, ← c.region-region.ensures) (conflict-past c.args.disc_end (layout_regions s) c.args.i room c.region-region.result (sym c.is_past.ensures ∙ c.if-is_past.true))

pub returns-in_err-j : goal.returns-in_err-j
returns-in_err-j c =
    let s = c.args.self.now in
    let room : c.args.i ≤ length (layout_regions s) = omega (arith, length-owned s.table s.table_end s.own) in
    let w = sym c.is_past.ensures ∙ c.if-is_past.false in
    rw (c.from_residual.ensures, ← c.region-region.ensures) (conflict_none c.args.disc_end (layout_regions s) c.args.i room c.region-region.result w (rw c.region-region.ensures (sym c.in_err-j.ensures.found)))

pub owner_at-requires-2 : goal.owner_at-requires-2
owner_at-requires-2 c = let b : c.in_ok-j.j < c.args.i = c.in_ok-j.ensures.before in omega arith

pub returns : goal.returns
returns c =
    let s = c.args.self.now in
    let room : c.args.i ≤ length (layout_regions s) = omega (arith, length-owned s.table s.table_end s.own) in
    let w = sym c.is_past.ensures ∙ c.if-is_past.false in
    rw (c.owner_at-2.ensures, c.owner_at-3.ensures, ← c.region-region.ensures) (conflict-shared c.args.disc_end (layout_regions s) c.args.i room c.region-region.result w c.in_ok-j.j (rw c.region-region.ensures (sym c.in_ok-j.ensures.found)))
