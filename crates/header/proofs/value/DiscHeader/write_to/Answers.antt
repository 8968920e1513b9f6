-- `header::value::DiscHeader::write_to` meets its contract: the three parts are all fields.
use mathlib.Core.Path.{refl}
use borrow.Author.Tests.{le-ltb}
use lib.ListN.{length}
use Rattle.header.proofs.Parts.{put-parts}
use Rattle.header.proofs.value.DiscHeader.write_to.Goals as goal

pub returns : goal.returns
returns c =
    let i = c.args.image.now in
    rw (le-ltb (length i) 0x440 c.if-image-lt-HEADER_LEN.false) (record { value = refl; image_after = cc (put-parts c.args.self i) })
