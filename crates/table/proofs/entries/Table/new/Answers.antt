-- `Table::new` meets its contract: the entries of a table that opens stand in it.
use native.Mathlib.Omega.{arith}
use Rattle.table.proofs.Nodes.{opens-inside}
use Rattle.table.proofs.entries.Table.new.Goals as goal

pub invariant_of-result : goal.invariant_of-result
invariant_of-result c = record { bytes = λ i. omega (arith, c.type_inv.bytes i); opens = c.requires; inside = opens-inside c.args.bytes.now c.requires }
