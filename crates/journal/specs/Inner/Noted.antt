-- What the journal holds of a draft. Assumes nothing: these are definitions.
use Rattle.std.specs.Prelude.{ℕ, ◌+◌, ◌/◌, ◌%◌, ◌^◌, ◌<◌, ◌≤◌, ◌≡◌, ◌==◌, if◌then◌else◌}
use Rattle.std.specs.Prelude.{List, [], ◌∷◌, ◌++◌, length, take, slice_index}
use Rattle.std.specs.List.{flat_map}
use Rattle.endian.specs.Bytes.{put, be32_bytes}
use Rattle.journal.specs.declared.draft.Draft.{Draft}
use Rattle.journal.specs.declared.noting.Places.{Places}
use Rattle.journal.specs.Disk.{Disk}
use Rattle.journal.specs.Journal.{head_len, most_record, sum_from}

-- ---- numbers of 8 bytes

-- a number below 2^64, highest byte first
unfoldable pub number_bytes : ℕ → List ℕ
number_bytes n = be32_bytes (n / 2 ^ 32) ++ be32_bytes (n % 2 ^ 32)

unfoldable pub bytes_of : List ℕ → List ℕ
bytes_of numbers = flat_map number_bytes numbers

-- each has its place in 8 bytes
abbrev pub FitInBytes : List ℕ → Type 0
FitInBytes numbers = (k : ℕ) → slice_index numbers k < 2 ^ 64

-- ---- the parts of a draft

-- so short that their places are numbers of the program
pub record IsShort (d : Draft) : Type 0 where
  pub short_record : length d.record_text.now ≤ most_record
  pub short_note : length d.note.now < 2 ^ 32
  pub short_word : length d.word.bytes.now < 2 ^ 32
  pub short_table : length d.table.bytes.now < 2 ^ 32

-- the record, where one goes with the edit
abbrev pub record_part : Draft → List ℕ
record_part d = if d.has_record then d.record_text.now else []

-- the parts behind the head, before the clip
abbrev pub parts_of : Draft → List ℕ
parts_of d = record_part d ++ d.note.now ++ d.word.bytes.now ++ d.table.bytes.now

abbrev pub places_of : Draft → Places
places_of d =
    let note : ℕ = head_len + length (record_part d) in
    let word : ℕ = note + length d.note.now in
    let table : ℕ = word + length d.word.bytes.now in
    record { note = note; word = word; table = table; clip = table + length d.table.bytes.now }

-- ---- the head of a journal

-- the second gate: open where there is nothing to copy
abbrev pub copied_gate : Draft → ℕ
copied_gate d = if d.copy.len == 0 then 1 else 0

abbrev pub numbers_of : Draft → List ℕ
numbers_of d =
    d.image_len ∷ d.number
    ∷ (if d.has_record then length d.record_text.now + 1 else 0) ∷ length d.note.now
    ∷ d.copy.from ∷ d.copy.to ∷ d.copy.len
    ∷ d.clip.at ∷ d.clip.len ∷ (places_of d).clip
    ∷ d.table.at ∷ length d.table.bytes.now ∷ (places_of d).table
    ∷ d.tail.at ∷ d.tail.len ∷ 0
    ∷ d.word.at ∷ length d.word.bytes.now ∷ (places_of d).word
    ∷ d.lost.at ∷ d.lost.len ∷ 0
    ∷ []

-- all but the first gate
abbrev pub head_of : Draft → List ℕ
head_of d = copied_gate d ∷ (bytes_of (numbers_of d) ++ d.header.now)

-- what stands behind both gates, and is summed
abbrev pub summed : Draft → List ℕ → List ℕ
summed d clip = bytes_of (numbers_of d) ++ d.header.now ++ parts_of d ++ clip

-- a journal with the draft behind its first gate, and its sum behind it
abbrev pub noted : Draft → List ℕ → List ℕ → List ℕ
noted d clip journal = put journal 1 (head_of d ++ parts_of d ++ clip ++ number_bytes (sum_from 0 (summed d clip)))

-- ---- writes behind the first gate

pub record KeepsGate (old new : Disk) : Type 0 where
  pub image : new.image ≡ old.image
  pub record_text : new.record_text ≡ old.record_text
  pub gate : take 1 new.journal ≡ take 1 old.journal
