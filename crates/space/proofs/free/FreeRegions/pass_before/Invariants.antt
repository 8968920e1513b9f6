-- `FreeRegions::pass_before` meets its contract: the search goes on from where the walk stands.
use Rattle.std.proofs.Common.{◌≡◌, length}
use Rattle.space.proofs.Left.{left}
use Rattle.space.proofs.Passing.{Standing}
use Rattle.space.proofs.free.FreeRegions.pass_before.Given as goal

abbrev pub invariant-loop-self : goal.invariant-loop-self
invariant-loop-self l =
    let f = l.initial.self-inside in
    let g = l.self-inside in
    Standing f.disc_end l.offset (left f.disc_end f.at f.used) g.at g.used l.last × (g.disc_end ≡ f.disc_end)

abbrev pub decreases-loop-self : goal.decreases-loop-self
decreases-loop-self l = length l.self-inside.used
