-- `endian::write_u32` meets its contract: the bytes of the number are put.
use Rattle.std.proofs.Common.{refl, ◌∙◌}
use Rattle.endian.proofs.Parts.{part-put}
use Rattle.endian.proofs.write_u32.Goals as goal

pub returns : goal.returns
returns c = part-put c.args.s.now _ _ c.args.at 4 (c.copy_from_slice.ensures.after ∙ c.to_be_bytes.ensures) refl
