-- `header::value::DiscHeader::read_from` meets its contract: the fields of a header that passed are read, and such a header lies in the image whole.
use Rattle.std.proofs.Common.{sym}
use Rattle.header.specs.Laws.FieldTests.{header-passed}
use Rattle.header.proofs.value.DiscHeader.read_from.Goals as goal

pub read_fields-requires : goal.read_fields-requires
read_fields-requires c = (header-passed c.args.image.now (sym c.in_ok-check.ensures)).whole
