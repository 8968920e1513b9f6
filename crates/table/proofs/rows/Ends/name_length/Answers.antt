-- `Ends::name_length` meets its contract: the length of the text at the name's place, which the texts' limit bounds.
use native.Mathlib.Omega.{arith}
use mathlib.Core.Path.{◌≡◌}
use lib.ListN.{get_or}
use Rattle.tree.specs.Table.{empty_root, nodes_of, name_of, name_place}
use Rattle.table.specs.Inner.Texts.{text_at}
use Rattle.table.proofs.Nodes.{root-name}
use Rattle.table.proofs.Ended.{name-there}
use borrow.Author.Rules.{rules}
use Rattle.table.proofs.rows.Ends.name_length.Goals as goal

pub returns-then-k-eq0-clause-value : goal.returns-then-k-eq0-clause-value
returns-then-k-eq0-clause-value c = search (root-name, rules)

pub returns-clause-value : goal.returns-clause-value
returns-clause-value c =
    let T = c.args.self.now.table.now in
    let n : name_of (get_or (nodes_of T) c.args.k empty_root) ≡ text_at T (name_place T c.args.k) = name-there T c.args.k (omega arith) c.requires in
    rw n (rw c.name_place.ensures.place at c.text_length.ensures.value)

pub returns-clause-short : goal.returns-clause-short
returns-clause-short c = omega (arith, c.text_length.ensures.value, c.name_place.ensures.short)
