use Rattle.std.proofs.Common.{refl, lit≤}
use Rattle.conversation.proofs.Numbers.{decimal_read}
use Rattle.conversation.proofs.reading.read_long.Goals as goal

pub returns-in-Ok : goal.returns-in-Ok
returns-in-Ok c =
    decimal_read 64 c.args.word.now c.in-Ok.number (lit≤ tt) c.in-Ok.ensures.value.0
    (c.if-is_plain.ensures.sign refl) (c.if-is_plain.ensures.zero refl)
