-- `Walk::new` meets its contract: the table's length is the number of entries.
use Rattle.std.proofs.Common.{arith}
use Rattle.std.proofs.lemmas.Grind.{common_steps}
use Rattle.tree.proofs.Laws.Accepted.{length-nodes_of}
use Rattle.edit.proofs.walk.Walk.new.Goals as goal

pub returns-then-len-start : goal.returns-then-len-start
returns-then-len-start c = grind (arith, common_steps, length-nodes_of)

pub returns : goal.returns
returns c = grind (arith, common_steps, length-nodes_of)
