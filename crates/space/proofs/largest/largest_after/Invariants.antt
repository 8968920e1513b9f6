-- `largest::largest_after` meets its contract: the best so far, carried on over the regions that are left, is the best of all.
use Rattle.std.proofs.Common.{◌≡◌, ◌<◌, ◌^◌, drop}
use Rattle.space.specs.Inner.Scan.{longest_from}
use Rattle.space.proofs.largest.largest_after.Given as goal

abbrev pub invariant-loop-region : goal.invariant-loop-region
invariant-loop-region l =
    (goal.iterator-loop-region).can_next l.region-iterator ×
    (goal.iterator-loop-region).is_finite l.region-iterator ×
    (l.at < 2 ^ 33) ×
    (longest_from l.disc_end l.gone l.new l.at l.best l.region-iterator ≡ longest_from l.disc_end l.gone l.new l.table_end 0 (drop 1 l.used.regions))
