-- Each offset is the placement's, and the next file lies behind what was placed.
use Rattle.std.specs.Prelude.{◌≡◌, refl, length}
use Rattle.std.proofs.Common.{◌∙◌, inl, inr, arith}
use Rattle.std.proofs.lemmas.List.{take_all}
use Rattle.placement.specs.Placement.{whole_size, last_file, offsets_of}
use Rattle.placement.proofs.Laws.Sound.{sum-holds}
use Rattle.placement.proofs.Laws.Passes.{whole-bound, sum_bound, sum-room}
use Rattle.placement.proofs.Laws.Offsets.{first_written-next, LiesAt, next_first, next-last, next-other, next-most, offset-of, offset-least, length-offsets_of}
use Rattle.placement.proofs.placing.place.Goals as goal
use Rattle.placement.proofs.placing.place.Goals.{then-i-need, else-i-need, then-i-need-2, else-i-need-2}

pub overflow_add-end : goal.overflow_add-end
overflow_add-end c =
    omega (arith, c.need_of-need.ensures.whole, whole-bound c.args.table_end c.ranges.table_end.fits, sum_bound c.args.sizes.now (λ k. (c.type_inv.sizes k).fits))

pub loop-i-init : goal.loop-i-init
loop-i-init c = (refl, rw c.whole_size-next.ensures (next_first (last_file c.args.sizes.now) (whole_size c.args.table_end) c.args.sizes.now))

pub overflow_sub-at : goal.overflow_sub-at
overflow_sub-at c = omega (arith, c.need_of-need.ensures.whole, sum-holds c.args.sizes.now c.loop-i.i)

pub offset_at-requires : goal.offset_at-requires
offset_at-requires c z =
    let lies : LiesAt (last_file c.args.sizes.now) (whole_size c.args.table_end) c.args.sizes.now c.loop-i.i c.loop-i.next c.if-i-need.at =
    elim c.if-i-need.branch [
      | then-i-need w ↦ inl (omega (arith, c.need_of-need.ensures.last), omega (arith, c.need_of-need.ensures.whole))
      | else-i-need w ↦ inr (λ e. w.if-i-need.false (omega (arith, c.need_of-need.ensures.last)), omega arith)
    ] in
    omega (arith, c.requires.disc_end, offset-least c.args.table_end c.args.sizes.now c.loop-i.i c.loop-i.next c.if-i-need.at c.loop-i-test.true c.loop-i.invariant.1 lies z)

pub overflow_add-next : goal.overflow_add-next
overflow_add-next c =
    omega (arith, whole-bound c.args.table_end c.ranges.table_end.fits, sum_bound c.args.sizes.now (λ k. (c.type_inv.sizes k).fits), sum-room c.args.sizes.now c.loop-i.i c.loop-i-test.true, next-most (last_file c.args.sizes.now) (whole_size c.args.table_end) c.args.sizes.now c.loop-i.i c.loop-i.next c.loop-i.invariant.1)

pub loop-i-preserved : goal.loop-i-preserved
loop-i-preserved c =
    let lies : LiesAt (last_file c.args.sizes.now) (whole_size c.args.table_end) c.args.sizes.now c.loop-i.i c.loop-i.next c.if-i-need.at =
    elim c.if-i-need.branch [
      | then-i-need w ↦ inl (omega (arith, c.need_of-need.ensures.last), omega (arith, c.need_of-need.ensures.whole))
      | else-i-need w ↦ inr (λ e. w.if-i-need.false (omega (arith, c.need_of-need.ensures.last)), omega arith)
    ] in
    let here = offset-of c.args.table_end c.args.sizes.now c.loop-i.i c.loop-i.next c.if-i-need.at c.loop-i-test.true c.loop-i.invariant.1 lies in (
      rw (c.loop-i.invariant.0, c.offset_at.ensures, ← here)
          (first_written-next c.args.offsets.now (offsets_of c.args.table_end c.args.sizes.now) c.loop-i.i (omega (arith, c.requires.room)) (omega (arith, length-offsets_of c.args.table_end c.args.sizes.now))),
      elim c.if-i-need-2.branch [
        | then-i-need-2 w ↦ next-other (last_file c.args.sizes.now) (whole_size c.args.table_end) c.args.sizes.now c.loop-i.i c.loop-i.next c.if-i-need-2.next c.loop-i-test.true (λ e. w.if-i-need-2.true (omega (arith, c.need_of-need.ensures.last))) c.loop-i.invariant.1 (omega arith)
        | else-i-need-2 w ↦ rw w.next-is (next-last (last_file c.args.sizes.now) (whole_size c.args.table_end) c.args.sizes.now c.loop-i.i c.loop-i.next c.loop-i-test.true (omega (arith, c.need_of-need.ensures.last)) c.loop-i.invariant.1)
      ],
    )

pub returns : goal.returns
returns c =
    let all : c.loop-i.i ≡ length c.args.sizes.now = omega arith in
    c.loop-i.invariant.0 ∙ rw (← all, take_all c.loop-i.i (offsets_of c.args.table_end c.args.sizes.now) (omega (arith, length-offsets_of c.args.table_end c.args.sizes.now)))
