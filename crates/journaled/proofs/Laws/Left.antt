-- Each disk that was left on the way: what holds of one still holds of what a recovery of it leaves. Assumes nothing.
use Rattle.std.specs.Prelude.{ℕ, List, [], ◌∷◌, All}
use Rattle.std.proofs.Common.{ap, ◌∙◌, inl, inr, ⊎_elim}
use Rattle.std.proofs.lemmas.List.Elements.{All-nil, All-cons}
use Rattle.journal.specs.Disk.{Disk}
use Rattle.journal.specs.Journal.{Kept, kept_of, IsBefore, IsBeforeOrAfter, ComesFrom}
use Rattle.journaled.specs.Theorem.{Change, kept_changed, End, answered, not_begun, cut, Event, IsRecovered, Ends, Happen, IsNeverAhead, LeavesWhole, AllLeaveWhole}

all-left : (number : ℕ) (P : Disk → Type 0) → ((d c : Disk) → ComesFrom number d c → P d → P c) →
    (d : Disk) (disks : List Disk) (new : Disk) → IsRecovered number d disks new → P d → All P (d ∷ disks)
all-left number P keeps d [] new r p = All-cons P d [] p (All-nil P)
all-left number P keeps d (c ∷ disks) new r p = All-cons P d (c ∷ disks) p (all-left number P keeps c disks new r.1 (keeps d c r.0 p))

before-kept : (number : ℕ) (old : Kept) (d c : Disk) → ComesFrom number d c → IsBefore number old d → IsBefore number old c
before-kept number old d c from p = (from.same ∙ p.0, ⊎_elim (λ same. same ∙ p.1) (λ done. ap (λ (k : Kept). k.record_text) (done ∙ p.0)) from.not_ahead)

never_ahead-kept : (number : ℕ) (old new : Kept) (d c : Disk) → ComesFrom number d c → IsNeverAhead number old new d → IsNeverAhead number old new c
never_ahead-kept number old new d c from =
    ⊎_elim (λ before. inl (before-kept number old d c from before))
    (λ after. inr (
      from.same ∙ after.0,
      ⊎_elim (λ same. ⊎_elim (λ was. inl (same ∙ was)) (λ is. inr (same ∙ is)) after.1) (λ done. inr (ap (λ (k : Kept). k.record_text) (done ∙ after.0))) from.not_ahead,
    ))

never_ahead-cut : (number : ℕ) (old new : Kept) (d : Disk) → IsBeforeOrAfter number old new d → IsNeverAhead number old new d
never_ahead-cut number old new d = ⊎_elim inl (λ after. inr (after.0, ⊎_elim inl (λ done. inr (ap (λ (k : Kept). k.record_text) done)) after.1))

-- LAW: so each change leaves
leaves-whole : (number : ℕ) (c : Change) (old : Disk) (end : End) (new : Disk) → Ends number c old end new → LeavesWhole number c (kept_of old) end
leaves-whole number c old (answered room totals a) new h = tt
leaves-whole number c old (not_begun d disks) new h = all-left number (IsBefore number (kept_of old)) (before-kept number (kept_of old)) d disks new h.1 h.0
leaves-whole number c old (cut d disks) new h =
    let after : Kept = kept_changed c (kept_of old) in
    all-left number (IsNeverAhead number (kept_of old) after) (never_ahead-kept number (kept_of old) after) d disks new h.1 (never_ahead-cut number (kept_of old) after d h.0)

-- LAW: and all of them
pub all-leave-whole : (number : ℕ) (old : Disk) (events : List Event) → Happen number old events → AllLeaveWhole number old events
all-leave-whole number old [] h = tt
all-leave-whole number old (e ∷ events) h = (leaves-whole number e.change old e.end e.disk h.0, all-leave-whole number e.disk events h.1)
