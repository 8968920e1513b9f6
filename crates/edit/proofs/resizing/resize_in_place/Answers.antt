-- `edit::resizing::resize_in_place` meets its contract: the change that keeps the place, whose lost end lies in the old one.
use Rattle.edit.proofs.Outcomes.{resized-in-image}
use Rattle.edit.proofs.resizing.resize_in_place.Goals as goal

pub place_file-requires-clause-inside : goal.place_file-requires-clause-inside
place_file-requires-clause-inside c = λ image m. resized-in-image image c.args.disc.now m c.args.file c.requires c.args.new_size _ c.saturating_sub.ensures
