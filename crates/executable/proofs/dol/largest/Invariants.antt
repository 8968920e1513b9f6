-- `dol::largest` meets its contract. The invariant of its loop: the larger of `top` and the largest of what is left is the largest of all.
use Rattle.std.proofs.Common.{◌≡◌}
use Rattle.std.specs.Prelude.{max}
use Rattle.std.specs.Iterator.Adapters.{zip_first, zip_second}
use Rattle.std.specs.Slice.Iter.{iter_rest}
use Rattle.executable.specs.Dol.{largest_of}
use Rattle.executable.proofs.dol.largest.Given as goal

abbrev pub invariant-loop-offset : goal.invariant-loop-offset
invariant-loop-offset g l = largest_of l.fn.offsets l.fn.sizes ≡ max l.top (largest_of (iter_rest (zip_first l.offset-iterator)) (iter_rest (zip_second l.offset-iterator)))
