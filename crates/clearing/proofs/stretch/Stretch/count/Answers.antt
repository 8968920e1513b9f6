-- `Stretch::count` meets its contract: no run starts behind the first so many regions, and one behind each of them.
use Rattle.std.proofs.Common.{◌≡◌, ◌∙◌, sym, arith}
use Rattle.clearing.proofs.Stretches.{one-less, all-fit, none-of}
use Rattle.clearing.proofs.stretch.Stretch.count.Goals as goal

pub loop-count-preserved : goal.loop-count-preserved
loop-count-preserved c =
    let i = c.loop-count.invariant in
    (omega (arith, i.0), i.1 ∙ one-less _ _ _ _ _ c.requires _ (omega arith) i.0 _ c.region_at-last.ensures (omega arith))

pub returns-after-loop-count : goal.returns-after-loop-count
returns-after-loop-count c =
    let z : c.loop-count.count ≡ 0 = omega (arith, c.loop-count-test.false) in
    rw z (sym (rw z at c.loop-count.invariant.1 ∙ none-of _ _ _ _))

pub returns-then-end-from : goal.returns-then-end-from
returns-then-end-from c =
    let i = c.loop-count.invariant in
    sym (i.1 ∙ all-fit _ _ _ _ _ c.requires _ (omega arith) i.0 _ c.region_at-last.ensures (omega arith))
