-- `Stretch::has_free` meets its contract: those that are left tell it.
use Rattle.std.proofs.Common.{ap, arith}
use Rattle.space.specs.declared.region.DiscRegion.{DiscRegion}
use Rattle.space.specs.Used.{end_of}
use Rattle.clearing.proofs.Stretches.{runs-within, looking-begin, looking-more, looking-last, looking-free, looking-on}
use Rattle.clearing.proofs.stretch.Stretch.has_free.Goals as goal
use Rattle.clearing.proofs.stretch.Stretch.has_free.Goals.{then-k-self-via-then-k-self, then-k-self-via-else-k-self+then-run_end-from}

pub overflow_add-end : goal.overflow_add-end
overflow_add-end c = omega (arith, runs-within c.args.self.words.now c.args.size c.args.self.from c.args.self.to c.args.self.limit c.requires.stretch, c.requires.count, c.requires.stretch.held, c.requires.stretch.first)

pub overflow_add-k : goal.overflow_add-k
overflow_add-k c = omega (arith, runs-within c.args.self.words.now c.args.size c.args.self.from c.args.self.to c.args.self.limit c.requires.stretch, c.requires.count, c.requires.tried, c.requires.stretch.held, c.requires.stretch.first)

pub loop-k-init : goal.loop-k-init
loop-k-init c = rw c.requires.count (looking-begin _ _ _ _ _ _ c.requires.stretch (omega (arith, c.requires.tried, c.requires.count)))

pub region_at-requires : goal.region_at-requires
region_at-requires c = omega (arith, looking-more _ _ _ _ _ _ _ c.loop-k.invariant c.loop-k-test.true, c.requires.stretch.held)

pub region_at-requires-else-k-self : goal.region_at-requires-else-k-self
region_at-requires-else-k-self c = omega (arith, looking-more _ _ _ _ _ _ _ c.loop-k.invariant c.loop-k-test.true, c.requires.stretch.held)

pub returns-then-k-self : goal.returns-then-k-self
returns-then-k-self c =
    let i = c.loop-k.invariant in
    let more = c.loop-k-test.true in
    elim c.then-k-self.branch [
      | then-k-self-via-then-k-self w ↦ looking-last _ _ _ _ _ _ _ i more w.if-k-self.true
      | then-k-self-via-else-k-self+then-run_end-from w ↦ looking-free _ _ _ _ _ _ _ i more (omega (arith, w.if-k-self.false, looking-more _ _ _ _ _ _ _ i more)) (omega (arith, w.if-run_end-from.true, c.end.ensures, c.from.ensures, ap end_of c.region_at.ensures, w.from-else-k-self.ensures, ap (λ (r : DiscRegion). r.offset) w.region_at-else-k-self.ensures))
    ]

pub loop-k-preserved : goal.loop-k-preserved
loop-k-preserved c =
    let i = c.loop-k.invariant in
    let more = c.loop-k-test.true in
    looking-on _ _ _ _ _ _ _ i more (omega (arith, c.if-k-self.false, looking-more _ _ _ _ _ _ _ i more)) (omega (arith, c.if-run_end-from.false, c.end.ensures, c.from.ensures, ap end_of c.region_at.ensures, c.from-else-k-self.ensures, ap (λ (r : DiscRegion). r.offset) c.region_at-else-k-self.ensures))
