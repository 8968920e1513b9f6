-- `Stretch::try_first` meets its contract: what was tried and what is left make the whole.
use Rattle.std.proofs.Common.{refl, ap, arith}
use Rattle.space.specs.declared.region.DiscRegion.{DiscRegion}
use Rattle.space.specs.Used.{end_of}
use Rattle.clearing.proofs.Stretches.{runs-within}
use Rattle.clearing.proofs.Trying.{trying-begin, trying-here, trying-ends, trying-between, past-stands, past-fits, trying-dearer, trying-cheaper, trying-free}
use Rattle.clearing.proofs.stretch.Stretch.try_first.Goals as goal

pub overflow_add-end : goal.overflow_add-end
overflow_add-end c = omega (arith, runs-within c.args.self.words.now c.args.size c.args.self.from c.args.self.to c.args.self.limit c.requires.stretch, c.requires.tried, c.requires.stretch.held, c.requires.stretch.first)

pub loop-marks-init : goal.loop-marks-init
loop-marks-init c = trying-begin _ _ _ _ _ _ c.requires.some c.requires.stretch c.requires.tried _

pub region_at-requires : goal.region_at-requires
region_at-requires c = omega (arith, trying-here _ _ _ _ _ _ _ _ c.loop-marks.invariant c.loop-marks-test.true, c.requires.stretch.held)

pub past-marks-requires-clause-end : goal.past-marks-requires-clause-end
past-marks-requires-clause-end c = omega (arith, trying-ends _ _ _ _ _ _ _ _ c.loop-marks.invariant c.loop-marks-test.true, c.requires.stretch.small, ap end_of c.region_at.ensures)

pub past-marks-requires-clause-between : goal.past-marks-requires-clause-between
past-marks-requires-clause-between c = λ some. omega (arith, trying-between _ _ _ _ _ _ _ _ c.loop-marks.invariant c.loop-marks-test.true some, ap (λ (r : DiscRegion). r.size) c.region_at.ensures)

pub reach-marks-requires-clause-marks : goal.reach-marks-requires-clause-marks
reach-marks-requires-clause-marks c = past-stands _ _ _ _ _ _ _ _ c.loop-marks.invariant c.loop-marks-test.true _ (rw c.region_at.ensures at c.past-marks.ensures)

pub reach-marks-requires-clause-fits : goal.reach-marks-requires-clause-fits
reach-marks-requires-clause-fits c = past-fits _ _ _ _ _ _ _ _ c.loop-marks.invariant c.loop-marks-test.true _ (rw c.region_at.ensures at c.past-marks.ensures)

pub returns-then-marks-eq0 : goal.returns-then-marks-eq0
returns-then-marks-eq0 c =
    let e = c.reach-marks.ensures in
    trying-free _ _ _ _ _ _ _ _ c.loop-marks.invariant c.loop-marks-test.true _ (rw c.region_at.ensures at c.past-marks.ensures) _ e.marks e.offset e.to_end e.cost (omega arith) (omega arith)

pub loop-marks-preserved-else-marks-eq0 : goal.loop-marks-preserved-else-marks-eq0
loop-marks-preserved-else-marks-eq0 c =
    let e = c.reach-marks.ensures in
    trying-cheaper _ _ _ _ _ _ _ _ c.loop-marks.invariant c.loop-marks-test.true _ (rw c.region_at.ensures at c.past-marks.ensures) _ e.marks e.offset e.to_end e.cost (omega arith)

pub loop-marks-preserved-else-marks-cheapest-2 : goal.loop-marks-preserved-else-marks-cheapest-2
loop-marks-preserved-else-marks-cheapest-2 c =
    let e = c.reach-marks.ensures in
    trying-dearer _ _ _ _ _ _ _ _ c.loop-marks.invariant c.loop-marks-test.true _ (rw c.region_at.ensures at c.past-marks.ensures) _ e.marks e.offset e.to_end (omega arith)

pub loop-marks-preserved : goal.loop-marks-preserved
loop-marks-preserved c =
    let i = c.loop-marks.invariant in
    let more = c.loop-marks-test.true in
    let is = rw c.region_at.ensures at c.past-marks.ensures in
    trying-dearer _ _ _ _ _ _ _ _ i more _ is _ (past-stands _ _ _ _ _ _ _ _ i more _ is) refl refl (omega arith)
