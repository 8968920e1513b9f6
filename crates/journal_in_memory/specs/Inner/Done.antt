-- What a crash may have left of files in memory, at each moment: what was done to them says it. Assumes nothing: these
-- are definitions.
use Rattle.std.specs.Prelude.{ℕ, zero, suc, ◌≡◌, ◌⊎◌, List, [], ◌∷◌, length, take, drop}
use mathlib.Core.Logic.{inr}
use Rattle.journal.specs.Disk.{Disk, Outcomes, State, TearsImage, TearsJournal, with_record}
use Rattle.journal_in_memory.specs.declared.done.Contents.{Contents}
use Rattle.journal_in_memory.specs.declared.done.Event.{Event}
use Rattle.journal_in_memory.specs.declared.done.Event.TheVariants.{WroteImage, WroteJournal, PutRecord, SyncedImage, SyncedJournal, SyncedRecord}

abbrev pub disk_of : Contents → Disk
disk_of c = record { image = c.image.items; journal = c.journal.items; record_text = c.record_text.items }

-- what a crash may leave once this was done too
unfoldable pub LeftBy : Event → Outcomes → Outcomes
LeftBy (WroteImage at bytes) old d = (c : Disk) × old c × TearsImage at (length bytes.items) c d
LeftBy (WroteJournal at bytes) old d = (c : Disk) × old c × TearsJournal at (length bytes.items) c d
LeftBy (PutRecord text) old d = (c : Disk) × old c × (d ≡ with_record c text.items)
LeftBy (SyncedImage bytes) old d = old d × (d.image ≡ bytes.items)
LeftBy (SyncedJournal bytes) old d = old d × (d.journal ≡ bytes.items)
LeftBy (SyncedRecord bytes) old d = old d × (d.record_text ≡ bytes.items)

-- what a crash may leave once all of it was done
unfoldable pub LeftAfter : Outcomes → List Event → Outcomes
LeftAfter old [] d = old d
LeftAfter old (e ∷ log) d = LeftAfter (LeftBy e old) log d

-- what it may have left at some moment, before the first of them or after any
unfoldable pub LeftDuring : Outcomes → List Event → Outcomes
LeftDuring old [] d = old d
LeftDuring old (e ∷ log) d = old d ⊎ LeftDuring (LeftBy e old) log d

-- ---- the moments: one behind each event

unfoldable pub LeftSince : Outcomes → List Event → ℕ → Outcomes
LeftSince old log t d = LeftDuring (LeftAfter old (take t log)) (drop t log) d

at_last : (old : Outcomes) (log : List Event) (d : Disk) → LeftAfter old log d → LeftDuring old log d
unfolding LeftAfter LeftDuring
at_last old [] d left = left
at_last old (e ∷ log) d left = inr (at_last (LeftBy e old) log d left)

-- this moment is one of those since an earlier one, and since this moment there is no other
pub counts_now : (old : Outcomes) (log : List Event) (t : ℕ) (d : Disk) → LeftAfter old log d → LeftSince old log t d
unfolding LeftAfter LeftDuring LeftSince
counts_now old log zero d left = at_last old log d left
counts_now old [] (suc t) d left = left
counts_now old (e ∷ log) (suc t) d left = counts_now (LeftBy e old) log t d left

pub only_now : (old : Outcomes) (log : List Event) (d : Disk) → LeftSince old log (length log) d → LeftAfter old log d
unfolding LeftAfter LeftDuring LeftSince
only_now old [] d left = left
only_now old (e ∷ log) d left = only_now (LeftBy e old) log d left

-- files of which all was on the disk at first
abbrev pub state_of : Disk → Disk → List ℕ → List Event → ℕ → State
state_of first seen clip log faults =
    let start : Outcomes = λ d. d ≡ first in
    record {
      seen = seen;
      clip = clip;
      may_leave = LeftAfter start log;
      moment = length log;
      left_since = LeftSince start log;
      faults = faults;
      counts_now = λ t d le left. counts_now start log t d left;
      only_now = λ d left. only_now start log d left;
    }
