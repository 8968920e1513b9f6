-- Calls that begin where all is on the disk, and where a sync ends them. Assumes nothing.
use Rattle.std.proofs.Common.{◌≡◌, ◌⊎◌, inl, inr, ⊎_elim, sym, ◌∙◌, ap, subst, ℕ, ◌≤◌, List, arith}
use Rattle.std.specs.Prelude.{Result, Ok, Err, IfOk}
use Rattle.journal.specs.Disk.{Disk, State, Outcomes, IsOnDisk, OnlyImage, OnlyJournal, OnlyRecord, LeavesOnly, Looks, Follows}
use Rattle.journal.specs.Journal.{ComesFrom, IsStillRecovered}
use Rattle.journal.specs.Inner.Carried.{Carries}
use Rattle.journal.proofs.Carried.{carried-leaves, leaves_none, goes_on, then_on}
use Rattle.journal.proofs.Recovered.{comes_from_same}

-- a crash leaves what is seen
pub is_seen : (s : State) → IsOnDisk s → (d : Disk) → s.may_leave d → d ≡ s.seen
is_seen s on_disk d left = λ i. record { image = on_disk.only_image d left i; journal = on_disk.only_journal d left i; record_text = on_disk.only_record d left i }

-- a call that looks, behind others
pub carried_looks : (step : Disk → Disk → Type 0) (old mid new : State) → Carries step old mid → Looks mid new → Carries step old new
carried_looks step old mid new carried looks = record {
  later = omega (arith, carried.later, looks.time.later);
  part = subst (step old.seen) (sym looks.seen) carried.part;
  now = λ d left. carried.now d (looks.no_more d left);
  since = λ t d le left. ⊎_elim (carried.since t d le) (λ here. inr (carried.now d (looks.no_more d here))) (looks.time.nothing_else t d (omega (arith, le, carried.later)) left);
  seen_too = λ left. looks.time.seen_too (carried.seen_too left);
  same_clip = looks.time.same_clip ∙ carried.same_clip;
}

-- where what was seen, stepped, has P
pub leaves-carried : (step : Disk → Disk → Type 0) → ((d : Disk) → step d d) → (old new : State) (P : Outcomes) → IsOnDisk old → Carries step old new → ((d : Disk) → step old.seen d → P d) → LeavesOnly old new P
leaves-carried step same old new P on_disk carried leads = carried-leaves step old new P carried
    (λ d left. leads d (subst (λ (c : Disk). step c d) (is_seen old on_disk d left) (same d)))
    (λ c d left is. leads d (subst (λ (b : Disk). step b d) (is_seen old on_disk c left) is))

-- where no call has written
pub leaves-looks : (old new : State) (P : Outcomes) → IsOnDisk old → Looks old new → P old.seen → LeavesOnly old new P
leaves-looks old new P on_disk looks here =
    let seen : (d : Disk) → old.may_leave d → P d = λ d left. subst P (sym (is_seen old on_disk d left)) here in
    goes_on old old new P (leaves_none old P seen) looks.time (λ d left. seen d (looks.no_more d left))

pub on_disk-looks : (old new : State) → IsOnDisk old → Looks old new → IsOnDisk new
on_disk-looks old new on_disk looks = record {
  only_image = λ d left. on_disk.only_image d (looks.no_more d left) ∙ sym (ap (λ (c : Disk). c.image) looks.seen);
  only_journal = λ d left. on_disk.only_journal d (looks.no_more d left) ∙ sym (ap (λ (c : Disk). c.journal) looks.seen);
  only_record = λ d left. on_disk.only_record d (looks.no_more d left) ∙ sym (ap (λ (c : Disk). c.record_text) looks.seen);
}

-- a file that no step writes is on the disk still
still_only : (file : Disk → List ℕ) (step : Disk → Disk → Type 0) (old new : State) → Carries step old new → ((c d : Disk) → step c d → file d ≡ file c) → ((d : Disk) → old.may_leave d → file d ≡ file old.seen)
    → (d : Disk) → new.may_leave d → file d ≡ file new.seen
still_only file step old new carried keeps only d left = let s = carried.now d left in keeps s.0 d s.2 ∙ only s.0 s.1 ∙ sym (keeps old.seen new.seen carried.part)

-- ---- one file written, and that file synced

module _ (step : Disk → Disk → Type 0) (old mid new : State) (on_disk : IsOnDisk old) (carried : Carries step old mid) (looks : Looks mid new) where
  whole : Carries step old new
  whole = carried_looks step old mid new carried looks

  pub on_disk-image : ((c d : Disk) → step c d → d.journal ≡ c.journal) → ((c d : Disk) → step c d → d.record_text ≡ c.record_text) → OnlyImage mid.seen.image new.may_leave → IsOnDisk new
  on_disk-image journal record_text only = record {
    only_image = λ d left. only d left ∙ sym (ap (λ (c : Disk). c.image) looks.seen);
    only_journal = still_only (λ d. d.journal) step old new whole journal on_disk.only_journal;
    only_record = still_only (λ d. d.record_text) step old new whole record_text on_disk.only_record;
  }

  pub on_disk-journal : ((c d : Disk) → step c d → d.image ≡ c.image) → ((c d : Disk) → step c d → d.record_text ≡ c.record_text) → OnlyJournal mid.seen.journal new.may_leave → IsOnDisk new
  on_disk-journal image record_text only = record {
    only_image = still_only (λ d. d.image) step old new whole image on_disk.only_image;
    only_journal = λ d left. only d left ∙ sym (ap (λ (c : Disk). c.journal) looks.seen);
    only_record = still_only (λ d. d.record_text) step old new whole record_text on_disk.only_record;
  }

-- a record put: on the disk with no sync
pub on_disk-record : (step : Disk → Disk → Type 0) (old new : State) → IsOnDisk old → Carries step old new → ((c d : Disk) → step c d → d.image ≡ c.image) → ((c d : Disk) → step c d → d.journal ≡ c.journal)
    → OnlyRecord new.seen.record_text new.may_leave → IsOnDisk new
on_disk-record step old new on_disk carried image journal only = record {
  only_image = still_only (λ d. d.image) step old new carried image on_disk.only_image;
  only_journal = still_only (λ d. d.journal) step old new carried journal on_disk.only_journal;
  only_record = only;
}

-- where no call was made
pub leaves_seen : (s : State) (P : Outcomes) → IsOnDisk s → P s.seen → LeavesOnly s s P
leaves_seen s P on_disk here = leaves_none s P (λ d left. subst P (sym (is_seen s on_disk d left)) here)

-- a call that looks, and others behind it
pub carried_behind : (step : Disk → Disk → Type 0) (old mid new : State) → Looks old mid → Carries step mid new → Carries step old new
carried_behind step old mid new looks carried = record {
  later = omega (arith, carried.later, looks.time.later);
  part = subst (λ (d : Disk). step d new.seen) looks.seen carried.part;
  now = behind;
  since = λ t d le left. ⊎_elim (first t d le) (λ s. inr (behind_at s.0 d s.1 s.2)) (carried.since t d (omega (arith, le, looks.time.later)) left);
  seen_too = λ left. carried.seen_too (looks.time.seen_too left);
  same_clip = carried.same_clip ∙ looks.time.same_clip;
}
  where
    behind_at : (c d : Disk) → mid.may_leave c → step c d → (b : Disk) × old.may_leave b × step b d
    behind_at c d left is = (c, looks.no_more c left, is)

    behind : Follows step old.may_leave new.may_leave
    behind d left = let s = carried.now d left in behind_at s.0 d s.1 s.2

    first : (t : ℕ) (d : Disk) → t ≤ old.moment → mid.left_since t d → old.left_since t d ⊎ ((c : Disk) × old.may_leave c × step c d)
    first t d le left = ⊎_elim (λ was. inl was) (λ here. inl (old.counts_now t d le (looks.no_more d here))) (looks.time.nothing_else t d le left)

-- two promises of one result
pub if_ok_both : {T E : Type 0} (P Q : T → Type 0) (r : Result T E) → IfOk r P → IfOk r Q → IfOk r (λ x. P x × Q x)
if_ok_both P Q (Ok x) p q = (p, q)
if_ok_both P Q (Err e) p q = tt

-- ---- a recovery that begins with calls that look

pub comes_from_looks : (number : ℕ) (old new : State) → IsOnDisk old → Looks old new → LeavesOnly old new (ComesFrom number old.seen)
comes_from_looks number old new on_disk looks = leaves-looks old new (ComesFrom number old.seen) on_disk looks (comes_from_same number old.seen)

pub comes_from_behind : (number : ℕ) (old mid new : State) → IsOnDisk old → Looks old mid → LeavesOnly mid new (ComesFrom number mid.seen) → LeavesOnly old new (ComesFrom number old.seen)
comes_from_behind number old mid new on_disk looks later = then_on old mid new (ComesFrom number old.seen) (ComesFrom number mid.seen) (comes_from_looks number old mid on_disk looks) later
    (λ d. subst (λ (b : Disk). ComesFrom number b d) looks.seen)

pub still_looks : (number : ℕ) (old new : State) → Looks old new → LeavesOnly old new (IsStillRecovered number old)
still_looks number old new looks =
    let here : (d : Disk) → old.may_leave d → IsStillRecovered number old d = λ d left. (d, inr left, comes_from_same number d) in
    goes_on old old new (IsStillRecovered number old) (leaves_none old (IsStillRecovered number old) here) looks.time (λ d left. here d (looks.no_more d left))
