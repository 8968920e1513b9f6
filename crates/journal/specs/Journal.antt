-- The journal as bytes, and what recovery makes of an image with it (docs/DISK.md). Assumes nothing: these are
-- definitions.
use Rattle.std.specs.Prelude.{ℕ, ◌+◌, ◌-◌, ◌*◌, ◌%◌, ◌^◌, ◌<◌, ◌≡◌, ◌≢◌, ◌⊎◌}
use Rattle.std.specs.Prelude.{Bool, true, ◌==◌, ◌&&◌, ◌||◌, nat_le, if◌then◌else◌}
use Rattle.std.specs.Prelude.{List, [], ◌∷◌, length, replicate, slice_index}
use Rattle.endian.specs.Bytes.{put, span, be32, are_same_bytes}
use Rattle.journal.specs.declared.plan.Copying.{Copying}
use Rattle.journal.specs.declared.plan.Step.{Step}
use Rattle.journal.specs.Disk.{Disk, State, Outcomes, IsOnDisk, with_journal}
use Rattle.journal.specs.declared.recovery.Found.{Found}
use Rattle.journal.specs.declared.recovery.Found.TheVariants.{Nothing, Finished, Another}

-- ---- an image changed

-- bytes that are written at a place
pub record Write : Type 0 where
  pub at : ℕ
  pub bytes : List ℕ

-- an image after the writes, in order
unfoldable pub after : List Write → List ℕ → List ℕ
after [] image = image
after (w ∷ writes) image = after writes (put image w.at w.bytes)

-- an image after the copy
abbrev pub copied : Copying → List ℕ → List ℕ
copied copy image = put image copy.to (span image copy.from copy.len)

-- ---- where things stand in a journal: two gates, 1 is open and all else closed; behind them numbers of 8 bytes

abbrev pub head_len : ℕ
head_len = 1266

-- the number in the 8 bytes at `at`
abbrev pub number_at : List ℕ → ℕ → ℕ
number_at journal at = be32 journal at * 2 ^ 32 + be32 journal (at + 4)

-- the first gate, with a whole head behind it
abbrev pub is_open : List ℕ → Bool
is_open journal = slice_index journal 0 == 1 && nat_le head_len (length journal)

-- the second gate: the copy is on the disk
abbrev pub is_copied : List ℕ → Bool
is_copied journal = slice_index journal 1 == 1

abbrev pub copying_in : List ℕ → Copying
copying_in journal = record { from = number_at journal 34; to = number_at journal 42; len = number_at journal 50 }

-- five steps: `len` bytes go to `at`, those from `from` on in the journal, or zeros where that is 0
abbrev pub step_in : List ℕ → ℕ → Step
step_in journal k = record { at = number_at journal (58 + 24 * k); len = number_at journal (66 + 24 * k); from = number_at journal (74 + 24 * k) }

abbrev pub steps_in : List ℕ → List Step
steps_in journal = step_in journal 0 ∷ step_in journal 1 ∷ step_in journal 2 ∷ step_in journal 3 ∷ step_in journal 4 ∷ []

-- what a step writes
abbrev pub write_of : List ℕ → Step → Write
write_of journal s = record { at = s.at; bytes = if s.from == 0 then replicate s.len 0 else span journal s.from s.len }

unfoldable pub writes_of : List ℕ → List Step → List Write
writes_of journal [] = []
writes_of journal (s ∷ steps) = write_of journal s ∷ writes_of journal steps

abbrev pub writes_in : List ℕ → List Write
writes_in journal = writes_of journal (steps_in journal)

-- one more than the bytes of the record that goes with the edit; 0 where none does. They stand behind the head
abbrev pub record_count : List ℕ → ℕ
record_count journal = number_at journal 18

-- the record once the edit is done: the journal's, or the one that is there
abbrev pub record_after : List ℕ → List ℕ → List ℕ
record_after journal text = if record_count journal == 0 then text else span journal head_len (record_count journal - 1)

-- what whoever finishes the edit should know of it; it stands behind the record
abbrev pub note_in : List ℕ → List ℕ
note_in journal = span journal (head_len + (record_count journal - 1)) (number_at journal 26)

-- ---- whether all of it is as it was noted

-- the sum once these bytes have followed; the factor is odd, so that another byte is always another sum
unfoldable pub sum_from : ℕ → List ℕ → ℕ
sum_from sum [] = sum
sum_from sum (byte ∷ bytes) = sum_from ((sum * 0x9E3779B97F4A7C15 + byte + 1) % 2 ^ 64) bytes

-- what is noted ends with the first step's bytes, and behind them stands its sum
abbrev pub noted_end : List ℕ → ℕ
noted_end journal = (step_in journal 0).from + (step_in journal 0).len

-- the sum is that of all behind the gates; what an older, longer journal left behind it does not count
abbrev pub is_whole : List ℕ → Bool
is_whole journal =
    nat_le head_len (noted_end journal)
    && nat_le (noted_end journal + 8) (length journal)
    && number_at journal (noted_end journal) == sum_from 0 (span journal 2 (noted_end journal - 2))

-- ---- whether a journal is this image's, and can be carried out on it

-- an image of that length, in the file of that number, with that header; the table's size and its maximum in it may be
-- others
abbrev pub is_owner : List ℕ → ℕ → List ℕ → Bool
is_owner journal number image =
    number_at journal 2 == length image
    && number_at journal 10 == number
    && are_same_bytes (span image 0 0x428) (span journal 178 0x428)
    && are_same_bytes (span image 0x430 0x10) (span journal 1250 0x10)

-- n bytes at `at` lie in the image, behind the header or in the two fields of it that edits write
abbrev pub can_write : ℕ → ℕ → ℕ → Bool
can_write long at n = nat_le (at + n) long && (nat_le 0x440 at || (nat_le 0x428 at && nat_le (at + n) 0x430))

-- they go to a place apart from them
abbrev pub is_apart : Copying → Bool
is_apart copy = nat_le (copy.from + copy.len) copy.to || nat_le (copy.to + copy.len) copy.from

-- nothing is asked of no byte
abbrev pub copying_fits : ℕ → Copying → Bool
copying_fits long copy = copy.len == 0 || (can_write long copy.to copy.len && nat_le (copy.from + copy.len) long && is_apart copy)

abbrev pub has_source : List ℕ → Step → Bool
has_source journal s = s.from == 0 || (nat_le head_len s.from && nat_le (s.from + s.len) (length journal))

abbrev pub step_fits : List ℕ → ℕ → Step → Bool
step_fits journal long s = s.len == 0 || (can_write long s.at s.len && has_source journal s)

unfoldable pub steps_fit : List ℕ → ℕ → List Step → Bool
steps_fit journal long [] = true
steps_fit journal long (s ∷ steps) = step_fits journal long s && steps_fit journal long steps

-- no record is longer
abbrev pub most_record : ℕ
most_record = 0x1000

abbrev pub record_fits : List ℕ → Bool
record_fits journal = nat_le (record_count journal) (most_record + 1) && nat_le (head_len + (record_count journal - 1)) (length journal)

-- as its head tells
abbrev pub head_applies : List ℕ → ℕ → List ℕ → Bool
head_applies journal number image =
    is_owner journal number image
    && copying_fits (length image) (copying_in journal)
    && steps_fit journal (length image) (steps_in journal)
    && record_fits journal

abbrev pub applies : List ℕ → ℕ → List ℕ → Bool
applies journal number image = head_applies journal number image && is_whole journal

-- ---- what recovery makes of an image and its record

pub record Kept : Type 0 where
  pub image : List ℕ
  pub record_text : List ℕ

abbrev pub kept_of : Disk → Kept
kept_of d = record { image = d.image; record_text = d.record_text }

-- the copy, unless it is on the disk, and then the writes
abbrev pub finished_image : List ℕ → List ℕ → List ℕ
finished_image journal image = after (writes_in journal) (if is_copied journal then image else copied (copying_in journal) image)

abbrev pub finished : Disk → Kept
finished d = record { image = finished_image d.journal d.image; record_text = record_after d.journal d.record_text }

-- of the image in the file of that number; a journal that is closed, or not this image's, is left alone
unfoldable pub recovered : ℕ → Disk → Kept
recovered number d = if is_open d.journal && applies d.journal number d.image then finished d else kept_of d

-- ---- what is claimed of an edit and of a recovery

-- all is on the disk, and the journal is closed
pub record IsSettled (s : State) : Type 0 where
  pub on_disk : IsOnDisk s
  pub some : 0 < length s.seen.journal
  pub closed : slice_index s.seen.journal 0 ≢ 1

-- recovery makes image and record from before an edit, and the record's file still has that one
abbrev pub IsBefore : ℕ → Kept → Outcomes
IsBefore number old d = (recovered number d ≡ old) × (d.record_text ≡ old.record_text)

-- recovery makes those from after it; and the record's file still has the one from before, or image and record are those
-- from after already
abbrev pub IsAfter : ℕ → Kept → Kept → Outcomes
IsAfter number old new d = (recovered number d ≡ new) × ((d.record_text ≡ old.record_text) ⊎ (kept_of d ≡ new))

-- what a crash leaves of an edit that goes from one image and record to another
abbrev pub IsBeforeOrAfter : ℕ → Kept → Kept → Outcomes
IsBeforeOrAfter number old new d = IsBefore number old d ⊎ IsAfter number old new d

-- c, which a crash leaves of a recovery, comes from d, with which it began: another makes of c what it would have made
-- of d; and the record's file has the same, or image and record are what recovery makes
pub record ComesFrom (number : ℕ) (d c : Disk) : Type 0 where
  pub same : recovered number c ≡ recovered number d
  pub not_ahead : (c.record_text ≡ d.record_text) ⊎ (kept_of c ≡ recovered number d)

-- d is what was read at first, or something that a crash might have left then
abbrev pub IsStillRecovered : ℕ → State → Outcomes
IsStillRecovered number old c = (d : Disk) × ((d ≡ old.seen) ⊎ old.may_leave d) × ComesFrom number d c

-- where a crash leaves the gate open, whoever finishes the edit reads this note
abbrev pub Tells : List ℕ → Outcomes
Tells note d = is_open d.journal ≡ true → note_in d.journal ≡ note

-- ---- what a recovery finds

-- an edit of this image that was cut, another's journal, or neither
abbrev pub found_in : ℕ → Disk → Found
found_in number d = if is_open d.journal then (if applies d.journal number d.image then Finished else Another) else Nothing

-- the bytes from before the gate was opened, once it is open
abbrev pub opened : List ℕ → List ℕ
opened journal = put journal 0 (1 ∷ [])

-- with its gate opened it would be this image's; so a commit carries it out
abbrev pub opened_disk : Disk → Disk
opened_disk d = with_journal d (opened d.journal)

abbrev pub will_apply : ℕ → Disk → Bool
will_apply number d = is_open (opened d.journal) && applies (opened d.journal) number d.image
