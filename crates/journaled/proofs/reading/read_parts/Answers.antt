-- `reading::read_parts` meets its contract: three reads, one after the other, of one image.
use Rattle.journaled.proofs.Behind.{parts-behind}
use Rattle.journaled.proofs.reading.read_parts.Goals as goal

pub returns-clause-parts : goal.returns-clause-parts
returns-clause-parts g c =
    let one = c.in_ok-n.ensures.read.seen in
    let two = c.in_ok-n-2.ensures.read.seen in
    let table = rw (c.in-Some.is, one) at c.in_ok-n-2.ensures.table in
    let program = rw (two, one) at c.in_ok-n-3.ensures.program in
    parts-behind _ _ _ c.image_len-length.ensures.len c.in_ok-n.ensures.header table program c.image_len-length.ensures.bytes c.of_bytes.ensures c.of_bytes-2.ensures c.of_bytes-3.ensures
