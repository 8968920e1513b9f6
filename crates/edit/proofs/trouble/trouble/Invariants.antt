-- `edit::trouble::trouble` meets its contract. The invariant of its loop: what is left of the walk is what the whole has.
use Rattle.std.proofs.Common.{length}
use Rattle.tree.specs.Table.{nodes_of}
use Rattle.tree.specs.Lookup.{components}
use Rattle.edit.specs.Inner.Walk.{path_trouble}
use Rattle.edit.proofs.WalkLaws.{Walking}
use Rattle.edit.proofs.trouble.trouble.Given as goal

abbrev pub invariant-loop-name : goal.invariant-loop-name
invariant-loop-name l =
    (goal.iterator-loop-name).can_next l.name-iterator ×
    (goal.iterator-loop-name).is_finite l.name-iterator ×
    Walking (path_trouble (nodes_of l.fn.table) l.start l.path) (length (components l.path)) l.walk l.name-iterator
