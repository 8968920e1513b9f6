use Rattle.std.proofs.Common.{◌-◌, ◌≡◌, ◌≤◌}
use Rattle.endian.specs.Bytes.{put, span}
use Rattle.journal.specs.Disk.{Known, TearsImage, with_image}
use Rattle.journal.specs.Inner.Carried.{Carries}
use Rattle.journal.proofs.pieces.bring.Given as goal

-- the first bytes are there
abbrev pub invariant-loop-done : goal.invariant-loop-done
invariant-loop-done g l = record {
  within : l.done ≤ l.len;
  written : Known g.F.Files.known ((g.F.Files.state l.files).seen
      ≡ with_image (g.F.Files.state l.fn.files).seen
      (put (g.F.Files.state l.fn.files).seen.image l.at (span (g.F.Files.state l.fn.files).seen.journal l.from l.done)));
  carried : Carries (TearsImage l.at l.len) (g.F.Files.state l.fn.files) (g.F.Files.state l.files);
  faults : (g.F.Files.state l.fn.files).faults ≤ (g.F.Files.state l.files).faults;
}

abbrev pub decreases-loop-done : goal.decreases-loop-done
decreases-loop-done g l = l.len - l.done
