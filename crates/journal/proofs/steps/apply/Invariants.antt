use Rattle.std.proofs.Common.{◌≡◌, ◌≤◌, true, length, drop}
use Rattle.journal.specs.Disk.{Known}
use Rattle.journal.specs.Journal.{after, writes_of, steps_fit}
use Rattle.journal.specs.Inner.Carried.{Carries, Loose}
use Rattle.journal.proofs.steps.apply.Given as goal

-- what is left leads to the same image; so far a crash leaves the steps done in part
abbrev pub invariant-loop-step : goal.invariant-loop-step
invariant-loop-step g l =
    let old = (g.F.Files.state l.fn.files).seen in
    let now = (g.F.Files.state l.files).seen in
    record {
      left : Known g.F.Files.known (after (writes_of old.journal (drop l.step-index l.steps)) now.image ≡ after (writes_of old.journal l.steps) old.image);
      fits : steps_fit now.journal (length now.image) (drop l.step-index l.steps) ≡ true;
      carried : Carries (Loose l.steps) (g.F.Files.state l.fn.files) (g.F.Files.state l.files);
      faults : (g.F.Files.state l.fn.files).faults ≤ (g.F.Files.state l.files).faults;
    }
