-- `cut::parts_of` meets its contract: each part is what the image has at its place.
use Rattle.std.proofs.Common.{refl, arith}
use Rattle.opened.proofs.Discs.{cut_program}
use Rattle.opened.proofs.cut.parts_of.Goals as goal

pub returns : goal.returns
returns c = record {
  bytes = λ i. omega (arith, c.type_inv.image i);
  head = record { start = c.cut-header.ensures; long_is = refl };
  table_is = λ b. c.table_of-table.ensures;
  program_is = λ h. cut_program _ _ _ c.dol_offset.ensures c.cut-program.ensures;
}
