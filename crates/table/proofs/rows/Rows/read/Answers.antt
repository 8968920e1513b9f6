-- `Rows::read` meets its contract: the row by the entry's fields.
use Rattle.table.proofs.RowLaws.{row-is}
use Rattle.table.proofs.rows.Rows.read.Goals as goal

pub returns : goal.returns
returns c =
    let s = c.args.self.now in
    rw (row-is s.base s.table.now c.args.k, c.from.ensures, c.is_directory.ensures, c.requires.parent, c.requires.size, c.image_place.ensures, c.last.ensures.last, c.offset.ensures)
