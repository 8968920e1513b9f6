-- `noting::set_number` meets its contract: the two halves stand one behind the other.
use Rattle.std.proofs.Common.{◌+◌, ◌/◌, ◌%◌, ◌^◌, ◌∙◌, refl, arith}
use Rattle.endian.specs.Bytes.{be32_bytes}
use Rattle.journal.specs.Inner.Noted.{number_bytes}
use Rattle.journal.proofs.Torn.{put-behind}
use Rattle.journal.proofs.noting.set_number.Goals as goal

pub returns : goal.returns
unfolding number_bytes
returns c =
    let a = c.args in
    c.write_u32-2.ensures ∙ rw c.write_u32.ensures (put-behind a.head.now a.at (be32_bytes (a.n / 2 ^ 32)) (a.at + 4) (be32_bytes (a.n % 2 ^ 32)) (omega arith) refl)
