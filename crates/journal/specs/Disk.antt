-- An image, its journal and its totals record, three files of one machine: what a call does to them, and what a
-- crash may leave of them (docs/DISK.md). Assumes nothing: these are definitions.
use Rattle.std.specs.Prelude.{ℕ, Bool, true, ◌+◌, ◌<◌, ◌≤◌, ◌≡◌, ◌⊎◌, List, length, take, drop, slice_index, Result, OnErr}

-- the bytes of the three; a file that is not there has none
pub record Disk : Type 0 where
  pub image : List ℕ
  pub journal : List ℕ
  pub record_text : List ℕ

-- what a crash may leave
abbrev pub Outcomes : Type 1
Outcomes = Disk → Type 0

-- What is known of the files at one moment. Each has what a read returns; a crash may leave something else.
pub record State : Type 1 where
  -- what a read returns
  pub seen : Disk
  -- the clip that fills a file; no call changes it
  pub clip : List ℕ
  -- what a crash now may leave
  pub may_leave : Outcomes
  -- the moment, a number that does not fall; a call that settles anything has to take another
  pub moment : ℕ
  -- what a crash at some moment from that one on might have left, during a call or between two
  pub left_since : ℕ → Outcomes
  -- how often a file has failed so far
  pub faults : ℕ
  -- this moment is one of those since an earlier one, and since this moment there is no other
  pub counts_now : (t : ℕ) (d : Disk) → t ≤ moment → may_leave d → left_since t d
  pub only_now : (d : Disk) → left_since moment d → may_leave d

-- ---- what a call may do to the bytes, where a crash may cut it short

-- a write of n bytes at `at`: any bytes there, all others as they were
pub record Torn (at n : ℕ) (old new : List ℕ) : Type 0 where
  pub same_length : length new ≡ length old
  pub below : (i : ℕ) → i < at → slice_index new i ≡ slice_index old i
  pub above : (i : ℕ) → at + n ≤ i → slice_index new i ≡ slice_index old i

-- the same of a file that may grow by it
pub record TornEnd (at n : ℕ) (old new : List ℕ) : Type 0 where
  pub before : take at new ≡ take at old
  pub after : drop (at + n) new ≡ drop (at + n) old

pub record TearsImage (at n : ℕ) (old new : Disk) : Type 0 where
  pub image : Torn at n old.image new.image
  pub journal : new.journal ≡ old.journal
  pub record_text : new.record_text ≡ old.record_text

pub record TearsJournal (at n : ℕ) (old new : Disk) : Type 0 where
  pub image : new.image ≡ old.image
  pub journal : TornEnd at n old.journal new.journal
  pub record_text : new.record_text ≡ old.record_text

-- a record put in the place of another: the old one or the new one, whole
pub record PutsRecord (text : List ℕ) (old new : Disk) : Type 0 where
  pub image : new.image ≡ old.image
  pub journal : new.journal ≡ old.journal
  pub record_text : (new.record_text ≡ old.record_text) ⊎ (new.record_text ≡ text)

-- each new outcome is an old one after a step
abbrev pub Follows : (Disk → Disk → Type 0) → Outcomes → Outcomes → Type 0
Follows step old new = (d : Disk) → new d → (c : Disk) × old c × step c d

-- no outcome is new
abbrev pub NoMore : Outcomes → Outcomes → Type 0
NoMore old new = (d : Disk) → new d → old d

-- ---- time

-- Time goes on: what a crash since t might have left it might have left before, or may leave now.
pub record Elapses (old new : State) : Type 0 where
  pub later : old.moment ≤ new.moment
  pub nothing_else : (t : ℕ) (d : Disk) → t ≤ old.moment → new.left_since t d → old.left_since t d ⊎ new.may_leave d
  pub keeps : (t : ℕ) (d : Disk) → t ≤ old.moment → old.left_since t d → new.left_since t d
  -- all that was written may have reached the disk: so a process that ends alone is a crash, which leaves what is seen
  pub seen_too : old.may_leave old.seen → new.may_leave new.seen
  pub same_clip : new.clip ≡ old.clip

-- A crash at any moment since old leaves files that have P.
pub record LeavesOnly (old new : State) (P : Outcomes) : Type 0 where
  pub later : old.moment ≤ new.moment
  pub each : (d : Disk) → new.left_since old.moment d → P d
  -- for a run that began earlier
  pub before : (t : ℕ) (d : Disk) → t ≤ old.moment → new.left_since t d → old.left_since t d ⊎ P d
  -- and so does the end of the process alone, after an error too: what is seen then is one of those files
  pub seen_too : old.may_leave old.seen → new.may_leave new.seen

-- an error is told only where a file has failed since; of files whose bytes are not known no count is kept either
pub record HasCause {A E : Type 0} (known : Bool) (old new : State) (result : Result A E) : Type 0 where
  pub later : old.faults ≤ new.faults
  pub failed : OnErr result (known ≡ true → old.faults < new.faults)

-- ---- what is on the disk

-- a crash leaves this image
abbrev pub OnlyImage : List ℕ → Outcomes → Type 0
OnlyImage image outcomes = (d : Disk) → outcomes d → d.image ≡ image

abbrev pub OnlyJournal : List ℕ → Outcomes → Type 0
OnlyJournal journal outcomes = (d : Disk) → outcomes d → d.journal ≡ journal

abbrev pub OnlyRecord : List ℕ → Outcomes → Type 0
OnlyRecord text outcomes = (d : Disk) → outcomes d → d.record_text ≡ text

-- all three are on the disk
pub record IsOnDisk (s : State) : Type 0 where
  pub only_image : OnlyImage s.seen.image s.may_leave
  pub only_journal : OnlyJournal s.seen.journal s.may_leave
  pub only_record : OnlyRecord s.seen.record_text s.may_leave

-- ---- files whose bytes no contract knows

-- where the bytes are known
abbrev pub Known : Bool → Type 0 → Type 0
Known known P = known ≡ true → P

-- ---- a disk with another image, journal or record

abbrev pub with_image : Disk → List ℕ → Disk
with_image d image = record { image = image; journal = d.journal; record_text = d.record_text }

abbrev pub with_journal : Disk → List ℕ → Disk
with_journal d journal = record { image = d.image; journal = journal; record_text = d.record_text }

abbrev pub with_record : Disk → List ℕ → Disk
with_record d text = record { image = d.image; journal = d.journal; record_text = text }

-- ---- whole calls, as the trait promises them

-- a call that changes nothing, and settles nothing
pub record Looks (old new : State) : Type 0 where
  pub seen : new.seen ≡ old.seen
  pub no_more : NoMore old.may_leave new.may_leave
  pub time : Elapses old new

-- a call that writes: what is seen and what a crash may leave change by the step, and a part of it may be done
pub record Steps (step : Disk → Disk → Type 0) (old new : State) : Type 0 where
  pub part : step old.seen new.seen
  pub crash : Follows step old.may_leave new.may_leave
  pub time : Elapses old new
