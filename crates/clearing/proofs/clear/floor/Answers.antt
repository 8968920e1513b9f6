-- `floor` meets its contract: what is not used is free.
use Rattle.std.proofs.Common.{arith}
use Rattle.opened.proofs.Discs.{means_backed}
use Rattle.clearing.proofs.Free.{free-beside}
use Rattle.clearing.proofs.clear.floor.Goals as goal

pub overflow_sub-free : goal.overflow_sub-free
overflow_sub-free c = omega (arith, free-beside _ _ (means_backed _ _ _ _ _ c.disc.invariant _ c.disc.view_is), c.end.ensures, c.used_size.ensures)

pub returns : goal.returns
returns c = λ image i. omega (arith, free-beside image _ i, c.end.ensures, c.used_size.ensures)
