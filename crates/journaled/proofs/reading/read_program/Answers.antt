-- `reading::read_program` meets its contract: what was read, with what the header and the table have of it.
use Rattle.std.proofs.Common.{◌∙◌}
use Rattle.journaled.proofs.Behind.{program-read}
use Rattle.journaled.proofs.reading.read_program.Goals as goal

pub returns-clause-program : goal.returns-clause-program
returns-clause-program g c =
    program-read _ _ _ _ c.read_image.new.bytes _ _ c.requires.header c.requires.table c.dol_offset-at.ensures _ c.requires.room (c.take_held.auto.program ∙ c.read_image.auto.bytes) c.in_ok-read_image.ensures.bytes c.take_held.ensures
