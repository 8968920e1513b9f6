-- `split` meets its contract: the program is among the regions that were not passed.
use Rattle.std.proofs.Common.{◌-◌, ◌≡◌, ◌≤◌, true}
use Rattle.space.specs.Inner.Sort.{regions_in, is_among}
use Rattle.clearing.proofs.clear.split.Given as goal

abbrev pub invariant-loop-first : goal.invariant-loop-first
invariant-loop-first l =
    let d = l.disc-inside in
    (l.first ≤ d.used) × (is_among d.own (regions_in d.words.now l.first (d.used - l.first)) ≡ true)

abbrev pub decreases-loop-first : goal.decreases-loop-first
decreases-loop-first l = l.disc-inside.used - l.first
