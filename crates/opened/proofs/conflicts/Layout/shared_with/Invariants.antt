-- `Layout::shared_with` meets its contract. The invariant of its loop: what is left has the answer of the whole.
use Rattle.std.proofs.Common.{◌≡◌, not, drop}
use Rattle.std.specs.List.{position_from}
use Rattle.space.specs.Layout.{are_disjoint}
use Rattle.opened.specs.Inner.Owned.{region_numbered, regions_before, shared_with}
use Rattle.opened.proofs.conflicts.Layout.shared_with.Given as goal

abbrev pub invariant-loop-j : goal.invariant-loop-j
invariant-loop-j l = shared_with l.self l.i ≡ position_from (λ x. not (are_disjoint x (region_numbered l.self l.i))) l.j (drop l.j (regions_before l.self l.i))
