-- `table::text::clean_to` meets its contract. The invariant of its loop: no byte passed is a lead byte, and the rest has the answer of the whole.
use Rattle.std.proofs.Common.{◌≤◌, max}
use mathlib.Core.Path.{◌≡◌}
use lib.ListN.{length}
use Rattle.table.specs.Inner.Texts.{is_clean_from, HasNoLead}
use Rattle.table.proofs.text.clean_to.Given as goal

abbrev pub invariant-loop-end : goal.invariant-loop-end
invariant-loop-end l =
    (HasNoLead l.table l.from l.end × (is_clean_from l.table l.from ≡ is_clean_from l.table l.end)) × (l.end ≤ max l.from (length l.table))
