-- Changes of one image, with crashes and recoveries between them, as one claim about the list: of the image and the record
-- at last, and of each disk that was left on the way. A sheet's lines are edits one after the other, so it holds at each of
-- them. Proved in proofs/Laws: `any-events` of AnyEvents. Assumes nothing: these are definitions.
use Rattle.std.specs.Prelude.{Ok, ℕ, ◌≤◌, ◌≡◌, ◌⊎◌, Bool, true, false, not, List, [], ◌∷◌, map, All, slice_index_or}
use Rattle.endian.specs.Bytes.{AllBytes}
use Rattle.totals.specs.declared.Totals.{Totals}
use Rattle.tree.specs.Table.{file, empty_root}
use Rattle.opened.specs.Opening.{nodes_in, opening}
use Rattle.ledger.specs.Ledger.{files_before, first_ledger, Report, ledger_after}
use Rattle.ledger.specs.Runs.{Call, image_after_all, IsPassable}
use Rattle.ledger.specs.Spared.{number_after, IsSpared}
use Rattle.ledger.specs.Theorem.{LedgerHolds, StillThere}
use Rattle.journal.specs.Disk.{Disk, Outcomes}
use Rattle.journal.specs.Journal.{Kept, kept_of, recovered, IsBefore, IsBeforeOrAfter, ComesFrom}
use Rattle.journaled.specs.declared.making.Answer.{Answer}
use Rattle.journaled.specs.declared.making.Answer.TheVariants.{Refused, Declined, Unread, Unkept, Done}
use Rattle.journaled.specs.Edited.{Turn, is_accepted, kept_edited, IsAnswered, kept_stated, IsStated}

-- ---- what is begun, each on files that are settled

-- an edit; or another FST maximum, where so many words are lent
pub data Change : Type 0 where
  edit : Turn → Change
  maximum : ℕ → ℕ → Change

-- image and record once it is made
abbrev pub kept_changed : Change → Kept → Kept
kept_changed (edit t) k = kept_edited t k
kept_changed (maximum words n) k = kept_stated n k

-- ---- what becomes of it

-- It is answered, where so many bytes are lent for the table, and the record comes back. Or an `Err` or a crash stops it, at
-- any moment or before it is begun, and leaves a disk; and each recovery that is stopped too leaves another, which comes
-- from one that was left before it, until one ends.
pub data End : Type 0 where
  answered : ℕ → Totals → Answer → End
  not_begun : Disk → List Disk → End
  cut : Disk → List Disk → End

-- a change, its end, and the files then
pub record Event : Type 0 where
  pub change : Change
  pub end : End
  pub disk : Disk

-- what `run` and `state_maximum` promise of their answers
abbrev pub IsAnsweredSo : Change → ℕ → Disk → Disk → Totals → Answer → Type 0
IsAnsweredSo (edit t) room old new totals a = IsAnswered t room old new totals a
IsAnsweredSo (maximum words n) room old new totals a = IsStated n words room old new a

-- what `resume` promises of each moment, and of its end
abbrev pub IsRecovered : ℕ → Disk → List Disk → Disk → Type 0
IsRecovered number d [] new = kept_of new ≡ recovered number d
IsRecovered number d (c ∷ disks) new = ComesFrom number d c × IsRecovered number c disks new

-- what the first two promise of each moment, and of each before the change is begun
abbrev pub Ends : ℕ → Change → Disk → End → Disk → Type 0
Ends number c old (answered room totals a) new = IsAnsweredSo c room old new totals a
Ends number c old (not_begun d disks) new = IsBefore number (kept_of old) d × IsRecovered number d disks new
Ends number c old (cut d disks) new =
    IsBeforeOrAfter number (kept_of old) (kept_changed c (kept_of old)) d × IsRecovered number d disks new

-- one after the other, on the image in the file of that number
abbrev pub Happen : ℕ → Disk → List Event → Type 0
Happen number old [] = Unit {0}
Happen number old (e ∷ events) = Ends number e.change old e.end e.disk × Happen number e.disk events

abbrev pub last_disk : Disk → List Event → Disk
last_disk old [] = old
last_disk old (e ∷ events) = last_disk e.disk events

-- an edit is lent no more than w words, and its offset or size has 32 bits, or its clip is of bytes
abbrev pub IsLent : ℕ → Change → Type 0
IsLent w (edit t) = (t.words ≤ w) × IsPassable t.edit
IsLent w (maximum words n) = Unit {0}

abbrev pub AllLent : ℕ → List Event → Type 0
AllLent w [] = Unit {0}
AllLent w (e ∷ events) = IsLent w e.change × AllLent w events

-- ---- which of them were made

abbrev pub is_done : Answer → Bool
is_done (Done k) = true
is_done (Refused c) = false
is_done Declined = false
is_done Unread = false
is_done Unkept = false

-- where the answer says so; one that was cut may be made or not
abbrev pub can_be_made : End → Bool
can_be_made (answered room totals a) = is_done a
can_be_made (not_begun d disks) = false
can_be_made (cut d disks) = true

abbrev pub can_be_left : End → Bool
can_be_left (answered room totals a) = not (is_done a)
can_be_left (not_begun d disks) = true
can_be_left (cut d disks) = true

-- image and record are as its rules define them; or both are as they were
pub record IsMade (old : Disk) (e : Event) : Type 0 where
  pub can : can_be_made e.end ≡ true
  pub kept : kept_of e.disk ≡ kept_changed e.change (kept_of old)

pub record IsLeft (old : Disk) (e : Event) : Type 0 where
  pub can : can_be_left e.end ≡ true
  pub kept : kept_of e.disk ≡ kept_of old

-- these, in order, and no others
abbrev pub AreMade : Disk → List Event → List Change → Type 0
AreMade old [] changes = changes ≡ []
AreMade old (e ∷ events) [] = IsLeft old e × AreMade e.disk events []
AreMade old (e ∷ events) (c ∷ changes) =
    ((c ≡ e.change) × IsMade old e × AreMade e.disk events changes)
    ⊎ (IsLeft old e × AreMade e.disk events (c ∷ changes))

-- ---- changes that were made one after the other

unfoldable pub kept_changed_all : List Change → Kept → Kept
kept_changed_all [] k = k
kept_changed_all (c ∷ changes) k = kept_changed_all changes (kept_changed c k)

-- what the ledger is told: of edits alone
unfoldable pub reports_in : List Change → Kept → List Report
reports_in [] k = []
reports_in (edit t ∷ changes) k =
    record { edit = t.edit; accepted = is_accepted t k.image } ∷ reports_in changes (kept_edited t k)
reports_in (maximum words n ∷ changes) k = reports_in changes (kept_stated n k)

abbrev pub call_of : Turn → Call
call_of t = record { edit = t.edit; account = t.account; words = t.words; bytes = t.bytes }

-- what holds after any list of edits: of the last image, by the ledger of these reports; and of a file of the first image
-- that no accepted edit named
pub record HoldsAfter (w : ℕ) (first last : List ℕ) (reports : List Report) : Type 0 where
  pub ledger : LedgerHolds w first last (ledger_after reports (first_ledger first))
  pub unnamed : (k : ℕ) (nm : List ℕ) (offset size : ℕ) → slice_index_or (nodes_in first) k empty_root ≡ file nm offset size →
      IsSpared reports (first_ledger first) (files_before k (nodes_in first)) →
      StillThere first last (number_after reports (first_ledger first) (files_before k (nodes_in first))) nm offset size

-- ---- the disks that were left on the way

-- recovery makes image and record from before, and the record's file still has that one; or it makes those from after, and
-- the record's file has one of the two, whole: it is never ahead of what recovery makes
abbrev pub IsNeverAhead : ℕ → Kept → Kept → Outcomes
IsNeverAhead number old new d =
    IsBefore number old d
    ⊎ ((recovered number d ≡ new) × ((d.record_text ≡ old.record_text) ⊎ (d.record_text ≡ new.record_text)))

-- of each disk that a change and its recoveries left
abbrev pub LeavesWhole : ℕ → Change → Kept → End → Type 0
LeavesWhole number c k (answered room totals a) = Unit {0}
LeavesWhole number c k (not_begun d disks) = All (IsBefore number k) (d ∷ disks)
LeavesWhole number c k (cut d disks) = All (IsNeverAhead number k (kept_changed c k)) (d ∷ disks)

abbrev pub AllLeaveWhole : ℕ → Disk → List Event → Type 0
AllLeaveWhole number old [] = Unit {0}
AllLeaveWhole number old (e ∷ events) = LeavesWhole number e.change (kept_of old) e.end × AllLeaveWhole number e.disk events

-- ---- the claim

pub record IsStory (number w : ℕ) (first : Disk) (events : List Event) (last : Disk) : Type 0 where
  -- those whose answers say that they were made, and those that a recovery finished
  pub changes : List Change
  pub are_made : AreMade first events changes
  -- image and record at last are those of these changes
  pub kept : kept_of last ≡ kept_changed_all changes (kept_of first)
  -- what holds after any list of edits holds of the image
  pub holds : HoldsAfter w first.image last.image (reports_in changes (kept_of first))
  -- of edits alone, it is the image after these calls, so that each theorem about lists of calls is one about it
  pub calls : (turns : List Turn) → changes ≡ map edit turns → last.image ≡ image_after_all (map call_of turns) first.image
  -- on the way the record's file was never ahead
  pub never_ahead : AllLeaveWhole number first events

-- THEOREM: any files whose image is of bytes and opens with w₀ words; any events; and w words, which are no fewer than w₀ and
-- than any edit was lent
abbrev pub AnyEvents : Type 0
AnyEvents =
    (number w₀ w : ℕ) (first : Disk) (events : List Event) → AllBytes first.image → opening first.image w₀ ≡ Ok tt → w₀ ≤ w →
    AllLent w events → Happen number first events →
    IsStory number w first events (last_disk first events)
