use Rattle.std.proofs.Common.{◌≡◌, ℕ, ◌<◌, false, length, slice_index, rules}
use Rattle.std.specs.Char.{is_ascii_uppercase}
use Rattle.conversation.proofs.HexText.{hex_word-read}
use Rattle.conversation.proofs.hexadecimal.read_hex.Goals as goal

pub returns : goal.returns
returns c =
    let some : 0 < length c.args.word.now = search rules in
    let low : (k : ℕ) → k < length c.args.word.now → is_ascii_uppercase (slice_index c.args.word.now k) ≡ false =
    rw c.as_bytes.ensures.value at (c.has_no_capital.ensures.0 c.if-not-has_no_capital.false) in
    hex_word-read c.args.word.now _ c.in_ok-decode.ensures.ok some low
