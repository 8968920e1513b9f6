-- `endian::copy_part` meets its contract: the array holds the bytes of the part before the first is written.
use Rattle.std.proofs.Common.{ℕ, ◌+◌, ◌*◌, arith}
use Rattle.std.proofs.Math.ListN.{length-replicate}
use Rattle.endian.proofs.Parts.{by_way}
use Rattle.endian.proofs.copy_part.Goals as goal

pub returns : goal.returns
returns c =
    let a = c.args in
    rw (← c.min-len.ensures)
    (by_way a.s.now _ _ _ (a.from + 65536 * a.k) (a.to + 65536 * a.k) c.min-len.result c.copy.ensures c.copy-2.ensures (omega (arith, length-replicate {A = ℕ} 65536 0)) (omega arith))
