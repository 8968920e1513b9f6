-- `endian::write_u24` meets its contract: the lowest three bytes of the number are put.
use Rattle.std.proofs.Common.{refl, ◌∙◌}
use Rattle.endian.proofs.Parts.{part-put}
use Rattle.endian.proofs.write_u24.Goals as goal

pub returns : goal.returns
returns c = part-put c.args.s.now _ _ c.args.at 3 (c.copy_from_slice.ensures.after ∙ rw c.to_be_bytes.ensures) refl
