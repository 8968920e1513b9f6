-- `UsedRegions::list_free` meets its contract: the regions listed, and those that are left, are the free regions.
use Rattle.std.proofs.Common.{rules, arith}
use Rattle.endian.proofs.Parts.{part-put}
use Rattle.space.specs.Inner.UsedSpace.{free_space_in}
use Rattle.space.proofs.Listed.{list-short, list-fits, short-by-rows, fits-by-rows}
use Rattle.space.proofs.Written.{listed-start, listed-room, listed-one, listed-end}
use Rattle.space.proofs.used.UsedRegions.list_free.Goals as goal

pub returns-then-list-found-clause-answer : goal.returns-then-list-found-clause-answer
returns-then-list-found-clause-answer g c =
    let row = g.met.R.Row in
    (list-short _ (free_space_in c.args.self.now) c.args.list.now (short-by-rows _ g.row.N row.some row.width _ _ _ c.count_free-found.ensures c.if-list-found.true)).0

pub returns-then-list-found-clause-list_after : goal.returns-then-list-found-clause-list_after
returns-then-list-found-clause-list_after g c =
    let row = g.met.R.Row in
    (list-short _ (free_space_in c.args.self.now) c.args.list.now (short-by-rows _ g.row.N row.some row.width _ _ _ c.count_free-found.ensures c.if-list-found.true)).1

pub loop-region-init : goal.loop-region-init
loop-region-init g c = rw (c.into_iter-region-iterator.ensures.into_iter_gives, c.free_regions-region-items.ensures) (tt, tt, listed-start _ _ _)

pub overflow_add-at : goal.overflow_add-at
overflow_add-at g c =
    let row = g.met.R.Row in
    let i = rw c.in-Some.ensures.steps at c.loop-region.invariant in
    omega (arith, listed-room _ _ _ _ _ _ _ i.2 g.row.N (row.width _) (fits-by-rows _ g.row.N row.some row.width _ _ _ c.count_free-found.ensures c.if-list-found.false))

pub offset_bounds-list-at : goal.offset_bounds-list-at
offset_bounds-list-at g c =
    let row = g.met.R.Row in
    let i = rw c.in-Some.ensures.steps at c.loop-region.invariant in
    omega (arith, listed-room _ _ _ _ _ _ _ i.2 g.row.N (row.width _) (fits-by-rows _ g.row.N row.some row.width _ _ _ c.count_free-found.ensures c.if-list-found.false))

pub slice_bounds-put-end : goal.slice_bounds-put-end
slice_bounds-put-end g c =
    let row = g.met.R.Row in
    let i = rw c.in-Some.ensures.steps at c.loop-region.invariant in
    let r = listed-room _ _ _ _ _ _ _ i.2 g.row.N (row.width _) (fits-by-rows _ g.row.N row.some row.width _ _ _ c.count_free-found.ensures c.if-list-found.false) in
    search rules

pub loop-region-preserved : goal.loop-region-preserved
loop-region-preserved g c =
    let row = g.met.R.Row in
    let i = rw c.in-Some.ensures.steps at c.loop-region.invariant in
    let fits = fits-by-rows _ g.row.N row.some row.width _ _ _ c.count_free-found.ensures c.if-list-found.false in
    (tt, tt, listed-one _ _ _ _ _ _ _ i.2 g.row.N (row.width _) fits _ (part-put _ _ _ _ g.row.N c.put.ensures (row.width _)))

pub returns-clause-answer : goal.returns-clause-answer
returns-clause-answer g c =
    let row = g.met.R.Row in
    let fits = fits-by-rows _ g.row.N row.some row.width _ _ _ c.count_free-found.ensures c.if-list-found.false in
    let i = rw c.in-None.ensures.steps.0 at c.loop-region.invariant in
    (list-fits _ (free_space_in c.args.self.now) c.args.list.now _ _ c.count_free-found.ensures fits (listed-end _ _ _ _ _ i.2)).0

pub returns-clause-list_after : goal.returns-clause-list_after
returns-clause-list_after g c =
    let row = g.met.R.Row in
    let fits = fits-by-rows _ g.row.N row.some row.width _ _ _ c.count_free-found.ensures c.if-list-found.false in
    let i = rw c.in-None.ensures.steps.0 at c.loop-region.invariant in
    (list-fits _ (free_space_in c.args.self.now) c.args.list.now _ _ c.count_free-found.ensures fits (listed-end _ _ _ _ _ i.2)).1
