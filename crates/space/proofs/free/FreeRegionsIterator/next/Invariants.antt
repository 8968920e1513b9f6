-- `FreeRegions::next` meets its contract: used regions with no free byte before them are passed.
use Rattle.std.proofs.Common.{◌≡◌, length}
use Rattle.space.proofs.Left.{left, IsPassed}
use Rattle.space.proofs.free.FreeRegionsIterator.next.Given as goal

abbrev pub invariant-loop-region : goal.invariant-loop-region
invariant-loop-region l =
    let f = l.initial.self-inside in
    let g = l.self-inside in
    IsPassed l.disc_end (left f.disc_end f.at f.used) g.at g.used × (g.disc_end ≡ l.disc_end)

abbrev pub decreases-loop-region : goal.decreases-loop-region
decreases-loop-region l = length l.self-inside.used
