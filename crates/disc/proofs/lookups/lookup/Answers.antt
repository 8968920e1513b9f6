-- `disc::lookups::lookup` meets its contract: what the disc answers, behind opening's tests.
use Rattle.std.specs.Prelude.{List}
use Rattle.tree.specs.Table.{Node}
use Rattle.tree.specs.declared.Found.TheVariants as found
use Rattle.disc.specs.Files.{lookup_answer, path_found}
use Rattle.disc.proofs.Asked.{nodes_asked}
use Rattle.disc.proofs.lookups.lookup.Goals as goal

pub returns-in-Ok-clause-answer : goal.returns-in-Ok-clause-answer
unfolding lookup_answer
returns-in-Ok-clause-answer c =
    rw (← c.new-lent.ensures.memory) (nodes_asked _ _ _ c.of_image.ensures _ c.in-Ok.is found.Refused (λ (nodes : List Node). path_found nodes c.args.start c.args.path.now) _ c.found_in.ensures)
