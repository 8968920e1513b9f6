-- `disc::lookups::entry` meets its contract: what the disc answers, behind opening's tests.
use Rattle.std.specs.Prelude.{List}
use Rattle.tree.specs.Table.{Node}
use Rattle.tree.specs.Lookup.{entry_found}
use Rattle.tree.specs.declared.Found.TheVariants as found
use Rattle.disc.specs.Files.{entry_answer}
use Rattle.disc.proofs.Asked.{nodes_asked}
use Rattle.disc.proofs.lookups.entry.Goals as goal

pub returns-in-Ok-clause-answer : goal.returns-in-Ok-clause-answer
unfolding entry_answer
returns-in-Ok-clause-answer c =
    rw (← c.new-lent.ensures.memory) (nodes_asked _ _ _ c.of_image.ensures _ c.in-Ok.is found.Refused (λ (nodes : List Node). entry_found nodes c.args.number) _ c.entry_in.ensures)
