use Rattle.std.proofs.Common.{◌-◌, ◌+◌, ◌≡◌, ◌≤◌, length}
use Rattle.endian.specs.Bytes.{put, span}
use Rattle.journal.specs.Disk.{Known, TearsJournal, with_journal}
use Rattle.journal.specs.Inner.Carried.{Carries}
use Rattle.journal.proofs.pieces.note_clip.Given as goal

-- the first bytes of the clip are there
abbrev pub invariant-loop-done : goal.invariant-loop-done
invariant-loop-done g l = record {
  within : l.done ≤ l.len;
  place : l.at + l.done ≤ length (g.F.Files.state l.files).seen.journal;
  written : Known g.F.Files.known ((g.F.Files.state l.files).seen
      ≡ with_journal (g.F.Files.state l.fn.files).seen (put (g.F.Files.state l.fn.files).seen.journal l.at (span (g.F.Files.state l.fn.files).clip 0 l.done)));
  carried : Carries (TearsJournal l.at l.len) (g.F.Files.state l.fn.files) (g.F.Files.state l.files);
  faults : (g.F.Files.state l.fn.files).faults ≤ (g.F.Files.state l.files).faults;
}

abbrev pub decreases-loop-done : goal.decreases-loop-done
decreases-loop-done g l = l.len - l.done
