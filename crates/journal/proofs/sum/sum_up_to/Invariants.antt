use Rattle.std.proofs.Common.{◌-◌, ◌≡◌, ◌≤◌, max, length}
use Rattle.endian.specs.Bytes.{span}
use Rattle.journal.specs.Disk.{Known, Looks}
use Rattle.journal.specs.Journal.{sum_from}
use Rattle.journal.proofs.sum.sum_up_to.Given as goal

-- the bytes before `at` are in the sum
abbrev pub invariant-loop-at : goal.invariant-loop-at
invariant-loop-at g l = record {
  from : 2 ≤ l.at;
  within : l.at ≤ max 2 l.end;
  inside : l.end ≤ length (g.F.Files.state l.files).seen.journal;
  summed : Known g.F.Files.known (l.sum ≡ sum_from 0 (span (g.F.Files.state l.fn.files).seen.journal 2 (l.at - 2)));
  looks : Looks (g.F.Files.state l.fn.files) (g.F.Files.state l.files);
  faults : (g.F.Files.state l.fn.files).faults ≤ (g.F.Files.state l.files).faults;
}

abbrev pub decreases-loop-at : goal.decreases-loop-at
decreases-loop-at g l = l.end - l.at
