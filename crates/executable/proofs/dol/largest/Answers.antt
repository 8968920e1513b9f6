-- `dol::largest` meets its contract. The invariant of its loop: the larger of `top` and the largest of what is left is the largest of all.
use Rattle.std.proofs.Common.{arith}
use Rattle.std.proofs.lemmas.Slice.Zip.{Zip-more, either_empty_from_Zip}
use Rattle.executable.proofs.Turns.{largest-turn, largest-end}
use Rattle.executable.proofs.dol.largest.Goals as goal

pub loop-offset-preserved : goal.loop-offset-preserved
loop-offset-preserved g c =
    let z = Zip-more c.loop-offset.offset-iterator c.next.new.self _ _ c.in-Some.is c.next.ensures.steps in
    largest-turn _ _ _ _ _ _ _ _ _ z.0 z.1 c.loop-offset.invariant (omega arith)

pub returns : goal.returns
returns g c = largest-end _ _ _ _ (either_empty_from_Zip c.loop-offset.offset-iterator c.next.new.self _ c.in-None.is c.next.ensures.steps) c.loop-offset.invariant
