-- What is decided on, or why it is refused, entered in the totals record. Assumes nothing: these are definitions.
use Rattle.std.specs.Prelude.{Result, Ok, Err, ℕ, ◌+◌, ◌-◌, ◌≤◌, ◌≡◌, List, [], length, if◌then◌else◌, is_err}
use Rattle.refusal.specs.declared.Refusal.{Refusal}
use Rattle.refusal.specs.Refusal.{Verdict}
use Rattle.header.specs.Verdicts.{fst_offset, fst_size, disc_end}
use Rattle.space.specs.declared.region.DiscRegion.{DiscRegion}
use Rattle.space.specs.Used.{no_region}
use Rattle.space.specs.Inner.Sort.{regions_in}
use Rattle.opened.specs.Inner.Prepared.{IsOpen}
use Rattle.opened.specs.Opening.{Disc, used_of}
use Rattle.opened.specs.Inner.Disc.{Opened, Means}
use Rattle.totals.specs.declared.Totals.{Totals}
use Rattle.totals.specs.declared.SpaceChange.{SpaceChange}
use Rattle.totals.specs.Totals.{totals_verdict, moved_totals}
use Rattle.space.specs.Inner.Scan.{longest_from, gone_of}
use Rattle.edit_rules.specs.Change.{Plan}
use Rattle.edit_rules.specs.Edits.{Account, plan_image, counted_verdict, totals_to}
use Rattle.edit.specs.declared.decision.Decision.{Decision}
use Rattle.edit.specs.declared.decision.Decision.TheVariants as decision
use Rattle.edit.specs.declared.decision.Span.{Span}
use Rattle.edit.specs.Inner.Decision.{DecidedAs, carried_verdict, copied_by, tabled_by, lost_by}

-- a table that is to be written ends on the disc; nothing is asked of an edit that is refused
abbrev pub OnDisc : Disc → Result Decision Refusal → Type 0
OnDisc d (Err c) = Unit {0}
OnDisc d (Ok decision.Nothing) = Unit {0}
OnDisc d (Ok (decision.Clip n at)) = Unit {0}
OnDisc d (Ok (decision.Write n size w)) = d.start + size ≤ d.end

-- P of each image that means the disc, and of its used regions behind the table, in the order in which lent words hold them
pub record OfUsed (d : Opened) (P : List ℕ → List DiscRegion → Type 0) : Type 0 where
  pub words : List ℕ
  pub count : ℕ
  pub long : length words ≡ d.words
  pub held : (image : List ℕ) → Means image d → IsOpen image words count
  pub is : (image : List ℕ) → Means image d → P image (regions_in words 1 (count - 1))

-- ---- what a decision does to used and free bytes, and to the record

-- whether the record can move on, and the record then
pub record Moved : Type 0 where
  pub verdict : Verdict
  pub totals : Totals

abbrev pub moved_with : Verdict → Totals → Moved
moved_with v t = record { verdict = v; totals = t }

-- by the verdict: the next record, or the one that came in
abbrev pub moved_as : Verdict → Totals → Totals → Moved
moved_as (Ok _) t next = moved_with (Ok tt) next
moved_as (Err c) t next = moved_with (Err c) t

abbrev pub moved_by : Account → SpaceChange → Moved
moved_by a x = moved_as (totals_verdict a.totals a.team x) a.totals (moved_totals a.totals a.team x)

-- the new table has `size` bytes, and the edited file goes from `old` to `new`; xs are the used regions behind the table, in order. Used bytes
-- move from `before` to `after`, in two numbers with that difference
abbrev pub change_as : List ℕ → List DiscRegion → ℕ → DiscRegion → DiscRegion → SpaceChange
change_as image xs size old new = record {
  before = fst_size image + old.size;
  after = size + new.size;
  free = disc_end image + (fst_size image + old.size) - (used_of image + (size + new.size));
  largest = longest_from (disc_end image) (gone_of old) new (fst_offset image + size) 0 xs;
}

-- by what is decided on
abbrev pub change_for : List ℕ → List DiscRegion → Decision → SpaceChange
change_for image xs decision.Nothing = change_as image xs (fst_size image) no_region no_region
change_for image xs (decision.Clip n at) = change_as image xs (fst_size image) no_region no_region
change_for image xs (decision.Write n size w) = change_as image xs size w.old w.place

abbrev pub entered_for : List ℕ → List DiscRegion → Decision → Account → Moved
entered_for image xs d a = moved_by a (change_for image xs d)

-- what is decided on once the record is tested too, and the record then
pub record Accounted : Type 0 where
  pub decision : Result Decision Refusal
  pub totals : Totals

abbrev pub account_with : Result Decision Refusal → Totals → Accounted
account_with d t = record { decision = d; totals = t }

-- refused if the record cannot move on
abbrev pub decision_unless : Verdict → Decision → Result Decision Refusal
decision_unless (Ok _) d = Ok d
decision_unless (Err c) d = Err c

abbrev pub settled_as : Decision → Moved → Accounted
settled_as d m = account_with (decision_unless m.verdict d) m.totals

abbrev pub account_of : List ℕ → List DiscRegion → Result Decision Refusal → Account → Accounted
account_of image xs (Err c) a = account_with (Err c) a.totals
account_of image xs (Ok d) a = settled_as d (entered_for image xs d a)

-- the record afterwards
abbrev pub counted_totals : Plan → Account → List ℕ → ℕ → ℕ → Totals
counted_totals p a image words room = if is_err (counted_verdict p a image words room) then a.totals else totals_to a image (plan_image p image)

-- x, with these working bytes and this clip, is what the plan comes to by all its tests, the record's too, where the account a went in
pub record IsAccountedFor (p : Plan) (image : List ℕ) (words room : ℕ) (bytes clip : List ℕ) (a : Account) (x : Accounted) : Type 0 where
  pub decided : DecidedAs (counted_verdict p a image words room) p image room bytes clip x.decision
  pub totals : x.totals ≡ counted_totals p a image words room

-- x is that of each image that means the disc
abbrev pub IsEntered : Plan → Opened → ℕ → List ℕ → List ℕ → Account → Accounted → Type 0
IsEntered p d room bytes clip a x =
    (image : List ℕ) → Means image d → IsAccountedFor p image d.words room bytes clip a x

-- r is decided on so, with a table drafted in some bytes and the record moved on, where neither was
pub record IsForeseen (p : Plan) (image : List ℕ) (words room : ℕ) (a : Account) (r : Result Decision Refusal) : Type 0 where
  pub bytes : List ℕ
  pub totals : Totals
  pub accounted : IsAccountedFor p image words room bytes [] a (account_with r totals)

-- what was decided on so is copied, and nothing else
pub record IsCopied (p : Plan) (image image' : List ℕ) (words room : ℕ) (a : Account) (r : Verdict) : Type 0 where
  pub decision : Result Decision Refusal
  pub foreseen : IsForeseen p image words room a decision
  pub after : image' ≡ copied_by decision image
  pub answer : r ≡ carried_verdict decision

-- its table is written, from these working bytes, and nothing else; the record is t' then
pub record IsTabled (p : Plan) (image image' : List ℕ) (words room : ℕ) (bytes : List ℕ) (a : Account) (t' : Totals) (r : Result Span Refusal) : Type 0 where
  pub decision : Result Decision Refusal
  pub accounted : IsAccountedFor p image words room bytes [] a (account_with decision t')
  pub after : image' ≡ tabled_by decision bytes image
  pub answer : r ≡ lost_by decision
