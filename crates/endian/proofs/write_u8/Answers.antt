-- `endian::write_u8` meets its contract: single stores, one behind the other, put the bytes.
use native.Mathlib.Omega.{arith}
use mathlib.Core.List.{[], ◌∷◌}
use Rattle.endian.specs.Laws.Stored.{put-sets}
use Rattle.endian.proofs.write_u8.Goals as goal

pub returns : goal.returns
returns c = put-sets c.args.s.now c.args.at (c.args.v ∷ []) (omega arith)
