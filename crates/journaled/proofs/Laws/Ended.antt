-- What became of one change: it was made, or all is as it was. Assumes nothing.
use Rattle.std.specs.Prelude.{ℕ, ◌≡◌, refl, ◌⊎◌, List, [], ◌∷◌}
use Rattle.std.proofs.Common.{ap, ◌∙◌, inl, inr, ⊎_elim}
use Rattle.totals.specs.declared.Totals.{Totals}
use Rattle.journal.specs.Disk.{Disk}
use Rattle.journal.specs.Journal.{kept_of, recovered}
use Rattle.journaled.specs.declared.making.Answer.{Answer}
use Rattle.journaled.specs.declared.making.Answer.TheVariants.{Refused, Declined, Unread, Unkept, Done}
use Rattle.journaled.specs.Theorem.{Change, edit, maximum, End, answered, not_begun, cut, IsAnsweredSo, IsRecovered, Ends, IsMade, IsLeft}

-- recoveries that were cut make of it what the first would have made
recovered-last : (number : ℕ) (d : Disk) (disks : List Disk) (new : Disk) → IsRecovered number d disks new → kept_of new ≡ recovered number d
recovered-last number d [] new r = r
recovered-last number d (c ∷ disks) new r = recovered-last number c disks new r.1 ∙ r.0.same

answered-ends : (c : Change) (room : ℕ) (old new : Disk) (totals : Totals) (a : Answer) → IsAnsweredSo c room old new totals a
    → IsMade old (record { change = c; end = answered room totals a; disk = new }) ⊎ IsLeft old (record { change = c; end = answered room totals a; disk = new })
answered-ends (edit t) room old new totals (Done k) h = inl (record { can = refl; kept = h.kept })
answered-ends (edit t) room old new totals (Refused c) h = inr (record { can = refl; kept = ap kept_of h.1.same })
answered-ends (edit t) room old new totals Declined h = inr (record { can = refl; kept = ap kept_of h.1.same })
answered-ends (edit t) room old new totals Unread h = inr (record { can = refl; kept = ap kept_of h.1.same })
answered-ends (edit t) room old new totals Unkept h = inr (record { can = refl; kept = ap kept_of h.1.same })
answered-ends (maximum words n) room old new totals (Done k) h = inl (record { can = refl; kept = h.1 })
answered-ends (maximum words n) room old new totals (Refused c) h = inr (record { can = refl; kept = ap kept_of h.1 })
answered-ends (maximum words n) room old new totals Declined h = inr (record { can = refl; kept = ap kept_of h.1 })
answered-ends (maximum words n) room old new totals Unread h = inr (record { can = refl; kept = ap kept_of h.1 })
answered-ends (maximum words n) room old new totals Unkept h = absurd h

-- LAW: so each event ends
pub ended : (number : ℕ) (c : Change) (old : Disk) (end : End) (new : Disk) → Ends number c old end new
    → IsMade old (record { change = c; end = end; disk = new }) ⊎ IsLeft old (record { change = c; end = end; disk = new })
ended number c old (answered room totals a) new h = answered-ends c room old new totals a h
ended number c old (not_begun d disks) new h = inr (record { can = refl; kept = recovered-last number d disks new h.1 ∙ h.0.0 })
ended number c old (cut d disks) new h =
    let last = recovered-last number d disks new h.1 in
    ⊎_elim (λ before. inr (record { can = refl; kept = last ∙ before.0 })) (λ after. inl (record { can = refl; kept = last ∙ after.0 })) h.0
