-- What a crash leaves of files that are settled, while they are only read. Assumes nothing.
use Rattle.std.specs.Prelude.{Result, Ok, Err, IfErr, ℕ, List}
use Rattle.std.proofs.Common.{inl, ◌∙◌, subst}
use Rattle.journal.specs.Disk.{Disk, State, LeavesOnly}
use Rattle.journal.specs.Journal.{Kept, kept_of, IsSettled, IsBefore, IsBeforeOrAfter}
use Rattle.journal.proofs.Carried.{leaves_none, leaves-wider, then_on}
use Rattle.journal.proofs.Recovered.{recovered-closed, is_open-closed}
use Rattle.journaled.specs.Inner.Behind.{IsRead}

-- a crash now leaves what is there
settled-leaves : (number : ℕ) (s : State) → IsSettled s → (d : Disk) → s.may_leave d → IsBefore number (kept_of s.seen) d
settled-leaves number s settled d left =
    let image = settled.on_disk.only_image d left in
    let journal = settled.on_disk.only_journal d left in
    let text = settled.on_disk.only_record d left in
    (recovered-closed number d (is_open-closed d.journal (λ e. settled.closed (rw journal at e))) ∙ rw (image, text), text)

pub before-or_after : (number : ℕ) (old new : Kept) (d : Disk) → IsBefore number old d → IsBeforeOrAfter number old new d
before-or_after number old new d before = inl before

-- nothing was done yet
pub still-leaves : (number : ℕ) (s : State) (new : Kept) → IsSettled s → LeavesOnly s s (IsBeforeOrAfter number (kept_of s.seen) new)
still-leaves number s new settled = leaves_none s _ (λ d left. before-or_after number (kept_of s.seen) new d (settled-leaves number s settled d left))

module _ (number : ℕ) (old new : State) (settled : IsSettled old) (read : IsRead old new) where
  pub read-settled : IsSettled new
  read-settled = record {
    on_disk = record {
      only_image = λ d left. rw read.seen (settled.on_disk.only_image d (read.no_more d left));
      only_journal = λ d left. rw read.seen (settled.on_disk.only_journal d (read.no_more d left));
      only_record = λ d left. rw read.seen (settled.on_disk.only_record d (read.no_more d left));
    };
    some = rw read.seen settled.some;
    closed = rw read.seen settled.closed;
  }

  -- only read
  pub read-before : LeavesOnly old new (IsBefore number (kept_of old.seen))
  read-before = leaves-wider old new (IsBefore number (kept_of old.seen)) old.may_leave read.any_moment (settled-leaves number old settled)

  pub read-leaves : (after : Kept) → LeavesOnly old new (IsBeforeOrAfter number (kept_of old.seen) after)
  read-leaves after = leaves-wider old new _ _ read-before (before-or_after number (kept_of old.seen) after)

  -- read, and then what is done, of the clip and the disk as they were read
  pub read_then : (last : State) (after : List ℕ → Disk → Kept) → LeavesOnly new last (IsBeforeOrAfter number (kept_of new.seen) (after new.clip new.seen))
      → LeavesOnly old last (IsBeforeOrAfter number (kept_of old.seen) (after old.clip old.seen))
  read_then last after leaves =
      then_on old new last _ _ (read-leaves (after old.clip old.seen)) leaves
      (λ d is.
      subst (λ (s : Disk). IsBeforeOrAfter number (kept_of s) (after old.clip s) d) read.seen
      (subst (λ (clip : List ℕ). IsBeforeOrAfter number (kept_of new.seen) (after clip new.seen) d) read.clip is))

  pub read-then_before : (last : State) → LeavesOnly new last (IsBefore number (kept_of new.seen)) → LeavesOnly old last (IsBefore number (kept_of old.seen))
  read-then_before last leaves = then_on old new last _ _ read-before leaves (λ d is. subst (λ (s : Disk). IsBefore number (kept_of s) d) read.seen is)

-- whatever the error
pub if_err : {A E : Type 0} (r : Result A E) (P : E → Type 0) → ((e : E) → P e) → IfErr r P
if_err (Ok a) P h = tt
if_err (Err e) P h = h e
