-- `new_table::draft::Place::write_directory` meets its contract: its record and its name are put.
use Rattle.new_table.specs.Inner.Drafts.{entry_put}
use Rattle.new_table.proofs.draft.Place.write_directory.Goals as goal

pub returns-clause-bytes : goal.returns-clause-bytes
unfolding entry_put
returns-clause-bytes c = cc
