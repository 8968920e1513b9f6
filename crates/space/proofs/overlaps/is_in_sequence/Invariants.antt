-- `space::overlaps::is_in_sequence` meets its contract: the regions that are left decide, from the end of the one before them on.
use Rattle.std.proofs.Common.{◌≡◌}
use Rattle.space.specs.Inner.Words.{is_in_sequence}
use Rattle.space.proofs.overlaps.is_in_sequence.Given as goal

abbrev pub invariant-loop-region : goal.invariant-loop-region
invariant-loop-region l =
    (goal.iterator-loop-region).can_next l.region-iterator ×
    (goal.iterator-loop-region).is_finite l.region-iterator ×
    (is_in_sequence 0 l.disc_end l.fn.regions ≡ is_in_sequence l.end l.disc_end l.region-iterator)
