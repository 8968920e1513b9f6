-- `make_along` meets its contract. The invariant of its loop: what is left of the walk makes what the whole makes.
use Rattle.std.proofs.Common.{◌≡◌, false, [], length}
use Rattle.tree.specs.Lookup.{components}
use Rattle.edit_rules.specs.Edits.{make}
use Rattle.table_writing.specs.Inner.Growing.{growing_tree}
use Rattle.edit.specs.Inner.Making.{made_tree, made_entry}
use Rattle.edit.proofs.Turns.{Making}
use Rattle.edit.proofs.making.make_along.Given as goal

abbrev pub invariant-loop-name : goal.invariant-loop-name
invariant-loop-name l =
    (goal.iterator-loop-name).can_next l.name-iterator ×
    (goal.iterator-loop-name).is_finite l.name-iterator ×
    Making (made_tree (make (growing_tree l.initial.table) [] l.start false (components l.path))) (made_entry (make (growing_tree l.initial.table) [] l.start false (components l.path))) l.initial.table.words (length l.initial.table.bytes.now)
    l.table l.entry l.name-iterator ×
    (l.table.bytes.ghost_name ≡ l.initial.table.bytes.ghost_name)
