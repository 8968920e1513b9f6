-- `header::value::DiscHeader::write_magics_and_name` meets its contract: each call puts one field, in the order of the table.
use Rattle.header.specs.Fields.{fields}
use Rattle.header.specs.Header.{field_bytes, put_fields}
use Rattle.header.specs.Inner.Writing.{put_some}
use Rattle.header.proofs.value.DiscHeader.write_magics_and_name.Goals as goal

pub returns : goal.returns
unfolding fields field_bytes put_fields put_some
returns c = rw (c.write_all-2.ensures, c.write_u32-4.ensures, c.write_u32-3.ensures, c.write_all.ensures, c.write_u32-2.ensures, c.write_u32.ensures)
