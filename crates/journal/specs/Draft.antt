-- An edit of one image, drafted: what it copies and writes, and the record that goes with it.
-- Assumes nothing: these are definitions.
use Rattle.std.specs.Prelude.{ℕ, ◌<◌, ◌≤◌, ◌^◌, ◌≡◌, ◌≢◌, true, if◌then◌else◌}
use Rattle.std.specs.Prelude.{List, [], ◌∷◌, length, replicate}
use Rattle.journal.specs.declared.draft.Draft.{Draft}
use Rattle.journal.specs.Journal.{Write, after, copied, Kept, copying_fits, can_write, most_record}

-- what it writes, in this order: the clip, the table, zeros over the table's lost tail, the word of
-- the header, zeros over what is lost
abbrev pub draft_writes : Draft → List ℕ → List Write
draft_writes d clip =
    record { at = d.clip.at; bytes = clip }
    ∷ record { at = d.table.at; bytes = d.table.bytes.now }
    ∷ record { at = d.tail.at; bytes = replicate d.tail.len 0 }
    ∷ record { at = d.word.at; bytes = d.word.bytes.now }
    ∷ record { at = d.lost.at; bytes = replicate d.lost.len 0 }
    ∷ []

-- the record once the edit is done
abbrev pub draft_record : Draft → List ℕ → List ℕ
draft_record d text = if d.has_record then d.record_text.now else text

-- image and record once the edit is done
abbrev pub kept_after : Draft → List ℕ → Kept → Kept
kept_after d clip k = record {
  image = after (draft_writes d clip) (copied d.copy k.image);
  record_text = draft_record d k.record_text;
}

-- n bytes may be written at `at`; nothing is asked of no byte
abbrev pub CanWrite : ℕ → ℕ → ℕ → Type 0
CanWrite long at n = n ≢ 0 → can_write long at n ≡ true

-- it can be carried out on an image of that length, and its bytes stand in a journal
pub record DraftFits (d : Draft) (long clip_long : ℕ) : Type 0 where
  pub image_len : d.image_len ≡ long
  pub header : length d.header.now ≡ 0x440
  pub copy : copying_fits long d.copy ≡ true
  pub clip_len : d.clip.len ≡ clip_long
  pub clip : CanWrite long d.clip.at d.clip.len
  pub table : CanWrite long d.table.at (length d.table.bytes.now)
  pub tail : CanWrite long d.tail.at d.tail.len
  pub word : CanWrite long d.word.at (length d.word.bytes.now)
  pub lost : CanWrite long d.lost.at d.lost.len
  pub short_clip : clip_long < 2 ^ 32
  pub short_table : length d.table.bytes.now < 2 ^ 32
  pub short_word : length d.word.bytes.now < 2 ^ 32
  pub short_note : length d.note.now < 2 ^ 32
  pub short_record : length d.record_text.now ≤ most_record
