-- An edit of files: what it answers, and image and record then. Assumes nothing: these are definitions.
use Rattle.std.specs.Prelude.{Ok, Err, ℕ, ◌≡◌, ◌<◌, Bool, true, false, if◌then◌else◌, ◌&&◌, is_ok, List, length}
use Rattle.endian.specs.Bytes.{put, be32_bytes}
use Rattle.refusal.specs.Refusal.{first}
use Rattle.header.specs.Fields.{fst_max_size_field}
use Rattle.header.specs.Verdicts.{header_verdict, bounds_verdict, fst_size}
use Rattle.totals.specs.declared.Totals.{Totals}
use Rattle.opened.specs.Opening.{opening, disc_of}
use Rattle.edit_rules.specs.Edits as edits
use Rattle.edit_rules.specs.Edits.{Account, account, plan_of, plan_number, verdict_of, image_after, totals_after}
use Rattle.edit.specs.Asked as asked
use Rattle.record_text.specs.Text.{record_text}
use Rattle.record_text.specs.declared.Listed.{Listed}
use Rattle.journal.specs.Disk.{Disk}
use Rattle.journal.specs.Journal.{Kept, kept_of, most_record}
use Rattle.journaled.specs.declared.request.Request.{Request}
use Rattle.journaled.specs.declared.request.Request.TheVariants as request
use Rattle.journaled.specs.declared.request.Order.{Order}
use Rattle.journaled.specs.declared.making.Answer.{Answer}
use Rattle.journaled.specs.declared.making.Answer.TheVariants.{Refused, Declined, Unread, Unkept, Done}

-- the edit that is asked for, where that is the clip
abbrev pub edit_asked : Request → List ℕ → edits.Edit
edit_asked (request.Edit e) clip = asked.edit_of e
edit_asked (request.Fill k) clip = edits.fill_file k clip

-- an edit with the account that goes in, and the memory that is lent; a record whose text is kept, or none
pub record Turn : Type 0 where
  pub edit : edits.Edit
  pub account : Account
  pub words : ℕ
  pub bytes : ℕ
  pub keeps_record : Bool
  pub teams : List Listed

-- by what is asked for, and what is lent
abbrev pub turn_of : Order → Totals → ℕ → ℕ → List ℕ → Turn
turn_of order totals words bytes clip = record {
  edit = edit_asked order.request clip;
  account = account totals order.team;
  words = words;
  bytes = bytes;
  keeps_record = order.keeps_record;
  teams = order.teams.now;
}

abbrev pub is_accepted : Turn → List ℕ → Bool
is_accepted t image = is_ok (verdict_of t.edit t.account image t.words t.bytes)

-- the record's text afterwards: an accepted edit writes it, where one is kept
abbrev pub text_after : Turn → Kept → List ℕ
text_after t k =
    if t.keeps_record && is_accepted t k.image
    then record_text t.teams (totals_after t.edit t.account k.image t.words t.bytes)
    else k.record_text

-- image and record afterwards
unfoldable pub kept_edited : Turn → Kept → Kept
kept_edited t k = record {
  image = image_after t.edit t.account k.image t.words t.bytes;
  record_text = text_after t k;
}

-- an edit that was made, with the number of its entry and the totals then
pub record IsDone (t : Turn) (old new : Disk) (totals : Totals) (k : ℕ) : Type 0 where
  pub verdict : verdict_of t.edit t.account old.image t.words t.bytes ≡ Ok tt
  pub number : k ≡ plan_number (plan_of t.edit (disc_of old.image))
  pub kept : kept_of new ≡ kept_edited t (kept_of old)
  pub handed_back : totals ≡ totals_after t.edit t.account old.image t.words t.bytes

-- nothing was touched
pub record IsAsItWas (t : Turn) (old new : Disk) (totals : Totals) : Type 0 where
  pub same : new ≡ old
  pub handed_back : totals ≡ t.account.totals

-- the header passes its tests, and gives a table that is longer than the memory that is lent for it
pub record IsTableTooLong (room : ℕ) (image : List ℕ) : Type 0 where
  pub passed : first (header_verdict image) (bounds_verdict image) ≡ Ok tt
  pub longer : room < fst_size image

-- it is accepted, and a record is kept, whose text is longer than any that a journal holds
pub record IsTextTooLong (t : Turn) (k : Kept) : Type 0 where
  pub verdict : verdict_of t.edit t.account k.image t.words t.bytes ≡ Ok tt
  pub keeps : t.keeps_record ≡ true
  pub longer : most_record < length (text_after t k)

-- by the cases of the answer: made; refused; given up before it began; its table is not read; or its record cannot be kept
abbrev pub IsAnswered : Turn → ℕ → Disk → Disk → Totals → Answer → Type 0
IsAnswered t room old new totals (Done k) = IsDone t old new totals k
IsAnswered t room old new totals (Refused c) = (verdict_of t.edit t.account old.image t.words t.bytes ≡ Err c) × IsAsItWas t old new totals
IsAnswered t room old new totals Declined = (verdict_of t.edit t.account old.image t.words t.bytes ≡ Ok tt) × IsAsItWas t old new totals
IsAnswered t room old new totals Unread = IsTableTooLong room old.image × IsAsItWas t old new totals
IsAnswered t room old new totals Unkept = IsTextTooLong t (kept_of old) × IsAsItWas t old new totals

-- whoever watches was asked, and answered so: no edit is made that they do not want, and none is given up that they want
abbrev pub IsAgreed : Bool → Answer → Type 0
IsAgreed agreed (Done k) = agreed ≡ true
IsAgreed agreed (Refused c) = Unit {0}
IsAgreed agreed Declined = agreed ≡ false
IsAgreed agreed Unread = Unit {0}
IsAgreed agreed Unkept = Unit {0}

-- ---- another FST maximum

abbrev pub kept_stated : ℕ → Kept → Kept
kept_stated maximum k = record { image = put k.image fst_max_size_field.at (be32_bytes maximum); record_text = k.record_text }

abbrev pub IsStated : ℕ → ℕ → ℕ → Disk → Disk → Answer → Type 0
IsStated maximum words room old new (Done k) = (opening old.image words ≡ Ok tt) × (kept_of new ≡ kept_stated maximum (kept_of old))
IsStated maximum words room old new (Refused c) = (opening old.image words ≡ Err c) × (new ≡ old)
IsStated maximum words room old new Declined = (opening old.image words ≡ Ok tt) × (new ≡ old)
IsStated maximum words room old new Unread = IsTableTooLong room old.image × (new ≡ old)
IsStated maximum words room old new Unkept = ⊥
