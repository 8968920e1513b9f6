-- `Table::name` meets its contract: the root has no name, and any other is the text at its place.
use native.Mathlib.Omega.{arith}
use mathlib.Core.Path.{sym}
use Rattle.table.proofs.Nodes.{root-name}
use Rattle.table.proofs.Ended.{name-cut}
use Rattle.table.proofs.entries.Table.name.Goals as goal

pub returns-then-k-eq0 : goal.returns-then-k-eq0
returns-then-k-eq0 c = sym (root-name c.args.self.now c.args.k c.if-k-eq0.true)

pub returns : goal.returns
returns c =
    let p = c.name_place-place in
    rw (← c.self.view_is) (name-cut c.self.inside.bytes.now c.args.k p.result _ (omega (arith, c.if-k-eq0.false)) (rw c.self.view_is c.requires) (rw c.self.view_is p.ensures.place) c.text_length.ensures)
