-- `Table::parent` meets its contract: the last directory before the entry whose next is past it.
use Rattle.std.proofs.Common.{rules, tests, sym, refl, ◌∙◌, arith}
use Rattle.tree.specs.Table.{nodes_of}
use Rattle.table.proofs.Nodes.{parent-whole}
use Rattle.table.proofs.Backward.{parent-back}
use Rattle.table.proofs.entries.Table.parent.Goals as goal

pub returns-clause-parent : goal.returns-clause-parent
returns-clause-parent c =
    let nodes = nodes_of c.args.self.now in
    let k = c.args.k in
    let ran = c.rfind.ensures.ran in
    sym (parent-whole nodes k ∙ parent-back _ (λ r. r.start) (λ r. r.end) (λ s t r d. d) nodes k _ (λ x q h. grind (arith, tests)) (λ x q h. (search rules, grind (arith, tests))) ran.0 _ _ c.rfind.result _ ran.1 refl refl ran.2 ran.3 ran.4 ∙ sym c.unwrap_or.ensures)
