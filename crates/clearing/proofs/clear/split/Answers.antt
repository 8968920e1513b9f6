-- `split` meets its contract: the program is among the regions that were not passed.
use Rattle.std.proofs.Common.{◌-◌, ◌≡◌, true, ap, ◌∙◌, arith}
use Rattle.space.specs.declared.region.DiscRegion.{DiscRegion}
use Rattle.space.specs.Inner.Sort.{is_among, regions_in}
use Rattle.opened.proofs.Discs.{sorted_backed}
use Rattle.clearing.proofs.Own.{own-among, runs-backed}
use Rattle.clearing.proofs.Splitting.{among-passed, among-more, among-here, IsSplit, held-all, held-on, split-at, split-none}
use Rattle.clearing.proofs.clear.split.Goals as goal
use Rattle.clearing.proofs.clear.split.Goals.{then-disc-gt0+then-loop-first-test+else-region_at-disc, then-disc-gt0+else-loop-first-test, else-disc-gt0}

pub loop-first-init : goal.loop-first-init
loop-first-init c =
    let all : c.disc.inside.used - 0 ≡ c.disc.inside.used = omega arith in
    let i : is_among c.disc.inside.own (regions_in c.disc.inside.words.now 0 (c.disc.inside.used - 0)) ≡ true = rw all (own-among _ _ _ _ _ c.disc.invariant _ c.disc.view_is c.if-disc-gt0.true) in
    (omega arith, i)

pub loop-first-preserved : goal.loop-first-preserved
loop-first-preserved c = (
  omega (arith, c.loop-first-test.true),
  among-passed _ _ _ _ c.loop-first-test.true (omega (arith, c.if-region_at-disc.true, ap (λ (r : DiscRegion). r.offset) c.region_at.ensures)) c.loop-first.invariant.1,
)

parts : (c : goal.After-end) → IsSplit c.disc.inside.own c.disc.inside.words.now c.disc.inside.used c.end.result c.if-disc-gt0.first
parts c =
    let all = held-all _ _ _ c.end.type_inv (sorted_backed _ _ _ _ _ c.disc.invariant _ c.disc.view_is _ c.end.ensures) in
    elim c.if-disc-gt0.branch [
      | then-disc-gt0+then-loop-first-test+else-region_at-disc w ↦ rw w.first-is (split-at _ _ _ _ all w.if-disc-gt0.true _ w.loop-first-test.true
          (among-here _ _ _ _ _ (held-on _ _ _ _ all w.loop-first.invariant.0) (omega (arith, w.if-region_at-disc.false, ap (λ (r : DiscRegion). r.offset) w.region_at.ensures)) w.loop-first.invariant.1))
      | then-disc-gt0+else-loop-first-test w ↦ absurd (omega (arith, w.loop-first-test.false, among-more _ _ _ _ w.loop-first.invariant.1))
      | else-disc-gt0 w ↦ rw w.first-is (split-none _ _ _ _ all (omega (arith, w.if-disc-gt0.false)) (omega arith))
    ]

pub returns-clause-before : goal.returns-clause-before
returns-clause-before c = (parts c).before

pub returns-clause-behind : goal.returns-clause-behind
returns-clause-behind c = (parts c).behind

pub returns-clause-runs : goal.returns-clause-runs
returns-clause-runs c = λ image i size some. runs-backed _ _ _ _ _ c.disc.invariant _ c.disc.view_is image i size _ some c.end.ensures ∙ (parts c).runs size some
