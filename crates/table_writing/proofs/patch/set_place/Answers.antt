-- `table_writing::patch::set_place` meets its contract: the second number stands right behind the first.
use Prim.Native.Nat.{◌+◌, ◌*◌}
use native.Mathlib.Omega.{arith}
use Rattle.endian.specs.Bytes.{be32_bytes}
use Rattle.endian.proofs.Parts.{put-append}
use Rattle.table_writing.proofs.patch.set_place.Goals as goal

pub returns : goal.returns
returns c =
    let s = c in
    cc (put-append s.args.table.now (12 * s.args.k + 4) (be32_bytes s.args.offset) (12 * s.args.k + 8) (be32_bytes s.args.size) (omega arith) (omega (arith, s.requires)))
