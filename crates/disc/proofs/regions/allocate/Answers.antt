-- `disc::regions::allocate` meets its contract: what the disc answers, behind opening's tests.
use Rattle.std.specs.Prelude.{Err}
use Rattle.std.proofs.Common.{refl}
use Rattle.space.specs.Allocate.{allocation_of}
use Rattle.disc.specs.Calls.{allocate_answer}
use Rattle.disc.proofs.Asked.{free_asked}
use Rattle.disc.proofs.regions.allocate.Goals as goal

pub returns-clause-answer : goal.returns-clause-answer
unfolding allocate_answer
returns-clause-answer c = rw (← c.new-lent.ensures.memory) (free_asked _ _ _ c.of_image.ensures _ c.in_ok-disc.was Err (allocation_of c.args.align c.args.size) _ refl _ c.allocate.ensures)
