-- The record moved on as the disc says is the record moved on as each image says that means the disc. Assumes nothing.
use Rattle.std.specs.Prelude.{Result, ℕ, List, ◌+◌, ◌-◌, ◌≡◌, Ok, Err, OnOk, OnErr}
use Rattle.std.proofs.Common.{ap, refl}
use Rattle.refusal.specs.Refusal.{Verdict}
use Rattle.refusal.specs.declared.Refusal.{Refusal}
use Rattle.space.specs.declared.region.DiscRegion.{DiscRegion}
use Rattle.space.specs.Used.{total_size}
use Rattle.space.specs.Inner.Scan.{longest_from, gone_of}
use Rattle.totals.specs.declared.Totals.{Totals}
use Rattle.totals.specs.declared.SpaceChange.{SpaceChange}
use Rattle.totals.specs.Totals.{totals_verdict, moved_totals}
use Rattle.opened.specs.Inner.Disc.{Opened, Means}
use Rattle.opened.proofs.Laws.Meant.{start_meant, room_meant, end_meant, total_meant}
use Rattle.edit_rules.specs.Edits.{Account}
use Rattle.edit.specs.declared.decision.Decision.{Decision}
use Rattle.edit.specs.Inner.Accounting.{OfUsed, change_as, change_for, moved_with, moved_as, moved_by, account_with, decision_unless, settled_as, account_of}

-- what an edit does to used and free bytes, by the disc's own numbers
pub changed-as : (image : List ℕ) (d : Opened) → Means image d → (behind : List DiscRegion) (size : ℕ) (old new : DiscRegion) (before after free largest : ℕ) → before ≡ d.disc.table_size + old.size → after ≡ size + new.size →
    free ≡ d.disc.end + before - (total_size d.disc.used + after) → largest ≡ longest_from d.disc.end (gone_of old) new (d.disc.start + size) 0 behind →
    ◌≡◌ {A = SpaceChange} (record { before = before; after = after; free = free; largest = largest }) (change_as image behind size old new)
changed-as image d m behind size old new before after free largest b a f l =
    rw (start_meant image d m, room_meant image d m, end_meant image d m, total_meant image d m, l, f, a, b) refl

-- by the three clauses of `move_on`
pub moved-by : (a : Account) (x y : SpaceChange) (v : Verdict) (t' : Totals) → x ≡ y → v ≡ totals_verdict a.totals a.team x → OnOk v (t' ≡ moved_totals a.totals a.team x) → OnErr v (t' ≡ a.totals) → moved_with v t' ≡ moved_by a y
moved-by a x y v t' s e k r = rw (← s, ← e) (go v k r)
  where
    go : (u : Verdict) → OnOk u (t' ≡ moved_totals a.totals a.team x) → OnErr u (t' ≡ a.totals) → moved_with u t' ≡ moved_as u a.totals (moved_totals a.totals a.team x)
    go (Ok tt) k r = rw k
    go (Err c) k r = rw r

-- with what is decided on beside it
pub settled : (d : Opened) (decided : Result Decision Refusal) (r : Decision) (a : Account) (x : SpaceChange) (v : Verdict) (t' : Totals) → decided ≡ Ok r → OfUsed d (λ image behind. x ≡ change_for image behind r) →
    v ≡ totals_verdict a.totals a.team x → OnOk v (t' ≡ moved_totals a.totals a.team x) → OnErr v (t' ≡ a.totals) → OfUsed d (λ image behind. account_with (decision_unless v r) t' ≡ account_of image behind decided a)
settled d decided r a x v t' e q w k o =
    rw e (record { words = q.words; count = q.count; long = q.long; held = q.held; is = λ image m. ap (settled_as r) (moved-by a x _ v t' (q.is image m) w k o) })
