-- `Ends::new` meets its contract: no end is kept at first.
use Rattle.table.proofs.Lengths.{ends-start}
use Rattle.table.proofs.rows.Ends.new.Goals as goal

pub invariant_of-result : goal.invariant_of-result
invariant_of-result c = record { small = c.requires; ends_in = ends-start c.args.table.now }
