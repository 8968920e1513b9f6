-- `Growing::new` meets its contract: what its caller says stands there does.
use Rattle.table_writing.proofs.growing.Growing.new.Goals as goal

pub invariant_of-result : goal.invariant_of-result
invariant_of-result c = record { stands = c.requires }
