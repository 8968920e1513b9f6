-- A head that fits files of these lengths. Assumes nothing: these are definitions.
use Rattle.std.specs.Prelude.{ℕ, ◌+◌, ◌-◌, ◌≤◌, ◌≡◌, true, List, length}
use Rattle.journal.specs.Journal.{copying_in, steps_in, copying_fits, steps_fit, record_count, head_len, most_record, is_open, applies, kept_of, recovered}
use Rattle.journal.specs.Disk.{Disk, State, IsOnDisk}

pub record HeadFits (head : List ℕ) (journal_len image_len : ℕ) : Type 0 where
  pub copying_fit : copying_fits image_len (copying_in head) ≡ true
  pub steps_fit_in : (journal : List ℕ) → length journal ≡ journal_len → steps_fit journal image_len (steps_in head) ≡ true
  pub short_record : record_count head ≤ most_record + 1
  pub held : head_len + (record_count head - 1) ≤ journal_len

-- all is on the disk, the gate is open, and the journal is this image's
pub record IsPending (number : ℕ) (s : State) : Type 0 where
  pub on_disk : IsOnDisk s
  pub gate_open : is_open s.seen.journal ≡ true
  pub can_apply : applies s.seen.journal number s.seen.image ≡ true

-- what a crash leaves once the record is put: recovery makes the same of it, and image and record are those already
pub record EndsAs (number : ℕ) (d c : Disk) : Type 0 where
  pub same : recovered number c ≡ recovered number d
  pub kept : kept_of c ≡ recovered number d

-- journal and image of the same lengths
pub record SameLengths (old new : Disk) : Type 0 where
  pub journal : length new.journal ≡ length old.journal
  pub image : length new.image ≡ length old.image
