-- `Walk::into` meets its contract: a child is an entry of the table.
use Rattle.std.proofs.Common.{arith, sym, ◌∙◌}
use Rattle.tree.specs.Table.{nodes_of}
use Rattle.tree.proofs.Laws.Accepted.{length-nodes_of}
use Rattle.tree.proofs.Laws.LookupLaws.{child-inside}
use Rattle.table.proofs.Nodes.{opened}
use Rattle.edit.proofs.walk.Walk.into.Goals as goal

pub invariant_of-result : goal.invariant_of-result
invariant_of-result c =
    let T = c.self.inside.table in
    let held = c.self.invariant.0 in
    let l = length-nodes_of T in
    let child = child-inside (nodes_of T) c.self.inside.entry _ _ (opened T held.bytes held.opens).well (omega (arith, c.self.invariant.1)) (sym c.child.ensures ∙ c.in-Ok.is) in
    (held, omega (arith, child))
