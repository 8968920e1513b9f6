-- What goes on between two edits. Assumes nothing: these are definitions.
use Rattle.std.specs.Prelude.{◌≡◌, ◌<◌, Bool, length}
use Rattle.journal.specs.Disk.{Disk, State, Known, NoMore}
use Rattle.journal.specs.Journal.{IsSettled}

-- an edit can be begun: none is left half made, all is on the disk, and the journal is closed
pub record IsReady (known : Bool) (s : State) : Type 0 where
  pub settled : Known known (IsSettled s)
  pub some : 0 < length s.seen.journal

-- another clip: image, journal and record as they were
pub record Keeps (old new : State) : Type 0 where
  pub seen : new.seen ≡ old.seen
  pub no_more : NoMore old.may_leave new.may_leave

-- another record: image and journal as they were
pub record KeepsOthers (old new : State) : Type 0 where
  pub image : new.seen.image ≡ old.seen.image
  pub journal : new.seen.journal ≡ old.seen.journal
  pub no_more : (d : Disk) → new.may_leave d → (c : Disk) × old.may_leave c × (d.image ≡ c.image) × (d.journal ≡ c.journal)
