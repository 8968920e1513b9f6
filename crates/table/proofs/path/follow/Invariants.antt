-- `table::path::follow` meets its contract. The invariant of its loop: what is left of the path leads from here, with the trail kept, to where the whole leads from the start.
use mathlib.Core.Path.{◌≡◌}
use mathlib.Core.List.{[]}
use Rattle.tree.specs.Table.{nodes_of}
use Rattle.tree.specs.Lookup.{components, follow}
use Rattle.table.specs.Inner.Steps.{IsTrail}
use Rattle.table.proofs.path.follow.Given as goal

abbrev pub invariant-loop-name : goal.invariant-loop-name
invariant-loop-name l =
    (goal.iterator-loop-name).can_next l.name-iterator ×
    (goal.iterator-loop-name).is_finite l.name-iterator ×
    IsTrail (nodes_of l.table) l.trail l.k ×
    (follow (nodes_of l.table) [] l.start (components l.path) ≡ follow (nodes_of l.table) l.trail l.k l.name-iterator)
