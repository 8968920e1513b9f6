-- What is decided on, as a draft, and what is made of one. Assumes nothing: these are definitions.
use Rattle.std.specs.Prelude.{Ok, ℕ, ◌+◌, ◌-◌, ◌^◌, ◌<◌, ◌≤◌, ◌≡◌, true, false, if◌then◌else◌, List, length}
use Rattle.endian.specs.Bytes.{span, be32_bytes}
use Rattle.header.specs.Fields.{fst_size_field}
use Rattle.edit.specs.declared.decision.Writing.{Writing}
use Rattle.edit.specs.declared.decision.Decision.{Decision}
use Rattle.edit.specs.declared.decision.Decision.TheVariants as decision
use Rattle.edit.specs.Inner.Decision.{CanCarry, WritesApart, carried_image, decision_number}
use Rattle.totals.specs.declared.Totals.{Totals}
use Rattle.record_text.specs.Text.{record_text}
use Rattle.journal.specs.declared.draft.Draft.{Draft}
use Rattle.journal.specs.Disk.{Disk}
use Rattle.journal.specs.Journal.{Kept, kept_of, most_record}
use Rattle.journal.specs.Draft.{kept_after}
use Rattle.journaled.specs.declared.request.Order.{Order}
use Rattle.journaled.specs.declared.making.Answer.{Answer}
use Rattle.journaled.specs.declared.making.Answer.TheVariants.{Refused, Declined, Unread, Unkept, Done}

-- ---- a draft of a decision; where there are no bytes, its places lie anywhere

-- nothing is written but a clip
pub record IsClipAlone (d : Draft) : Type 0 where
  pub copy : d.copy.len ≡ 0
  pub table : length d.table.bytes.now ≡ 0
  pub tail : d.tail.len ≡ 0
  pub word : length d.word.bytes.now ≡ 0
  pub lost : d.lost.len ≡ 0

-- nothing is written but a clip and a word of the header
pub record IsWordAlone (d : Draft) : Type 0 where
  pub copy : d.copy.len ≡ 0
  pub table : length d.table.bytes.now ≡ 0
  pub tail : d.tail.len ≡ 0
  pub lost : d.lost.len ≡ 0

-- two drafts of one image, with one clip, record and note
pub record SameBesides (blank d : Draft) : Type 0 where
  pub image_len : d.image_len ≡ blank.image_len
  pub number : d.number ≡ blank.number
  pub header : d.header.now ≡ blank.header.now
  pub clip_len : d.clip.len ≡ blank.clip.len
  pub has_record : d.has_record ≡ blank.has_record
  pub record_text : d.record_text.now ≡ blank.record_text.now
  pub note : d.note.now ≡ blank.note.now

-- the header has the table at f, of so many bytes; the new one has n and stands in the bytes: the copy, the table, zeros over
-- its lost tail, its size in the header, zeros over what is lost
pub record IsWritten (f size : ℕ) (bytes : List ℕ) (n : ℕ) (w : Writing) (d : Draft) : Type 0 where
  pub from : d.copy.from ≡ w.old.offset
  pub to : d.copy.to ≡ w.place.offset
  pub kept : d.copy.len ≡ w.kept
  pub clip : d.clip.at ≡ w.place.offset
  pub table : d.table.at ≡ f
  pub table_bytes : d.table.bytes.now ≡ span bytes 0 n
  pub tail : d.tail.at ≡ f + n
  pub tail_len : d.tail.len ≡ size - n
  pub word : d.word.at ≡ fst_size_field.at
  pub word_bytes : d.word.bytes.now ≡ be32_bytes n
  pub lost : d.lost.at ≡ w.lost.offset
  pub lost_len : d.lost.len ≡ w.lost.size

abbrev pub IsDraftOf : ℕ → ℕ → List ℕ → Decision → Draft → Type 0
IsDraftOf f size bytes decision.Nothing d = IsClipAlone d
IsDraftOf f size bytes (decision.Clip n at) d = IsClipAlone d × (d.clip.at ≡ at)
IsDraftOf f size bytes (decision.Write k n w) d = IsWritten f size bytes n w d

-- how many bytes the new table has
abbrev pub table_len : Decision → ℕ
table_len decision.Nothing = 0
table_len (decision.Clip n at) = 0
table_len (decision.Write k n w) = n

-- neither a clip nor a record either
pub record IsIdle (d : Draft) : Type 0 where
  pub alone : IsClipAlone d
  pub clip : d.clip.len ≡ 0
  pub no_record : d.has_record ≡ false

-- ---- a clip beside a decision

-- nothing is written beside it, or nothing is copied
abbrev pub IsUncopied : Decision → List ℕ → Type 0
IsUncopied decision.Nothing clip = length clip ≡ 0
IsUncopied (decision.Clip n at) clip = Unit {0}
IsUncopied (decision.Write k n w) clip = 0 < length clip → w.kept ≡ 0

pub record IsAside (decided : Decision) (clip : List ℕ) : Type 0 where
  pub uncopied : IsUncopied decided clip
  pub short : length clip < 2 ^ 32

-- ---- what is made of a draft

-- by the cases of the answer, with the number of the entry
abbrev pub IsMade : Draft → ℕ → List ℕ → Disk → Disk → Answer → Type 0
IsMade d k clip old new (Done j) = (j ≡ k) × (kept_of new ≡ kept_after d clip (kept_of old))
IsMade d k clip old new (Refused c) = ⊥
IsMade d k clip old new Declined = new ≡ old
IsMade d k clip old new Unread = ⊥
IsMade d k clip old new Unkept = ⊥

-- ---- what is made of a decision

-- it can be written to the image, in which a whole header lies
pub record CanMake (image bytes clip : List ℕ) (decided : Decision) : Type 0 where
  pub fits : CanCarry image (length bytes) clip (Ok decided)
  pub apart : WritesApart clip (Ok decided)
  pub aside : IsAside decided clip
  pub long : 0x440 ≤ length image

-- image and record then
abbrev pub kept_carried : Order → Totals → Decision → List ℕ → List ℕ → Kept → Kept
kept_carried order totals decided bytes clip k = record {
  image = carried_image (Ok decided) bytes clip k.image;
  record_text = if order.keeps_record then record_text order.teams.now totals else k.record_text;
}

-- by the cases of the answer
abbrev pub IsCarriedOut : Order → Totals → Decision → List ℕ → List ℕ → Disk → Disk → Answer → Type 0
IsCarriedOut order totals decided bytes clip old new (Done j) = (j ≡ decision_number decided) × (kept_of new ≡ kept_carried order totals decided bytes clip (kept_of old))
IsCarriedOut order totals decided bytes clip old new (Refused c) = ⊥
IsCarriedOut order totals decided bytes clip old new Declined = new ≡ old
IsCarriedOut order totals decided bytes clip old new Unread = ⊥
IsCarriedOut order totals decided bytes clip old new Unkept = (order.keeps_record ≡ true) × (most_record < length (record_text order.teams.now totals)) × (new ≡ old)
