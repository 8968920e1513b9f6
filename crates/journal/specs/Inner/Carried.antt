-- What several calls come to. Assumes nothing: these are definitions.
use Rattle.std.specs.Prelude.{ℕ, ◌+◌, ◌≤◌, ◌<◌, ◌≡◌, ◌⊎◌, List, [], ◌∷◌, length, drop, slice_index}
use Rattle.journal.specs.declared.plan.Step.{Step}
use Rattle.journal.specs.Disk.{Disk, State, Follows}

-- calls one after the other that each make the same step, where a part of them may be done
pub record Carries (step : Disk → Disk → Type 0) (old new : State) : Type 0 where
  pub later : old.moment ≤ new.moment
  pub part : step old.seen new.seen
  pub now : Follows step old.may_leave new.may_leave
  pub since : (t : ℕ) (d : Disk) → t ≤ old.moment → new.left_since t d → old.left_since t d ⊎ ((c : Disk) × old.may_leave c × step c d)
  pub seen_too : old.may_leave old.seen → new.may_leave new.seen
  pub same_clip : new.clip ≡ old.clip

-- all that stands behind the two gates is as it was
abbrev pub KeepsDraft : Disk → Disk → Type 0
KeepsDraft old new = drop 2 new.journal ≡ drop 2 old.journal

-- a step writes the byte at i
abbrev pub IsCovered : List Step → ℕ → Type 0
IsCovered [] i = ⊥
IsCovered (s ∷ steps) i = ((s.at ≤ i) × (i < s.at + s.len)) ⊎ IsCovered steps i

-- the steps may have been done in part, in any order, any number of times, with any bytes where they write
pub record LooseBytes (steps : List Step) (old new : List ℕ) : Type 0 where
  pub same_length : length new ≡ length old
  pub each : (i : ℕ) → (slice_index new i ≡ slice_index old i) ⊎ IsCovered steps i

-- the same on the image of a disk
pub record Loose (steps : List Step) (old new : Disk) : Type 0 where
  pub image : LooseBytes steps old.image new.image
  pub journal : new.journal ≡ old.journal
  pub record_text : new.record_text ≡ old.record_text
