-- `reading::read_header` meets its contract: what the image has of 0x440 bytes is read.
use Rattle.std.proofs.Common.{arith}
use Rattle.journaled.proofs.Behind.{header-read}
use Rattle.journaled.proofs.reading.read_header.Goals as goal

pub returns-clause-header : goal.returns-clause-header
returns-clause-header g c = header-read _ _ _ _ _ c.requires (omega (arith, c.min-n.ensures, c.image_len.ensures.len)) c.read_image.auto.bytes c.in_ok-read_image.ensures.bytes
