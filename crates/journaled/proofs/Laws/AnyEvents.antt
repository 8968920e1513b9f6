-- What is claimed of any list of changes with crashes and recoveries between them holds. Assumes nothing.
use Rattle.std.specs.Prelude.{ℕ, ◌≡◌, refl, List, [], ◌∷◌}
use Rattle.std.proofs.Common.{sym, ap, subst, ◌∙◌, inl, inr, ⊎_elim}
use Rattle.journal.specs.Disk.{Disk}
use Rattle.journal.specs.Journal.{Kept, kept_of}
use Rattle.journaled.specs.Theorem.{Change, Event, Happen, last_disk, AllLent, IsMade, IsLeft, AreMade, kept_changed_all, reports_in, HoldsAfter, AnyEvents}
use Rattle.journaled.proofs.Laws.Changes.{AllChangesLent, changes-hold, turns-calls}
use Rattle.journaled.proofs.Laws.Ended.{ended}
use Rattle.journaled.proofs.Laws.Left.{all-leave-whole}

-- the changes that were made, and image and record then
record Told (w : ℕ) (old : Disk) (events : List Event) : Type 0 where
  pub changes : List Change
  pub are_made : AreMade old events changes
  pub lent : AllChangesLent w changes
  pub kept : kept_of (last_disk old events) ≡ kept_changed_all changes (kept_of old)

told-none : (w : ℕ) (old : Disk) → Told w old []
unfolding kept_changed_all
told-none w old = record { changes = []; are_made = refl; lent = tt; kept = refl }

module _ (w : ℕ) (old : Disk) (e : Event) (events : List Event) (lent : AllLent w (e ∷ events)) (rest : Told w e.disk events) where
  told-made : IsMade old e → Told w old (e ∷ events)
  unfolding kept_changed_all
  told-made m = record {
    changes = e.change ∷ rest.changes;
    are_made = inl (refl, m, rest.are_made);
    lent = (lent.0, rest.lent);
    kept = rest.kept ∙ ap (kept_changed_all rest.changes) m.kept;
  }

  left-first : (changes : List Change) → IsLeft old e → AreMade e.disk events changes → AreMade old (e ∷ events) changes
  left-first [] m made = (m, made)
  left-first (c ∷ changes) m made = inr (m, made)

  told-left : IsLeft old e → Told w old (e ∷ events)
  told-left m = record {
    changes = rest.changes;
    are_made = left-first rest.changes m rest.are_made;
    lent = rest.lent;
    kept = rest.kept ∙ ap (kept_changed_all rest.changes) m.kept;
  }

told : (number w : ℕ) (old : Disk) (events : List Event) → AllLent w events → Happen number old events → Told w old events
told number w old [] lent h = told-none w old
told number w old (e ∷ events) lent h =
    let rest = told number w e.disk events lent.1 h.1 in
    ⊎_elim (told-made w old e events lent rest) (told-left w old e events lent rest) (ended number e.change old e.end e.disk h.0)

pub any-events : AnyEvents
any-events number w₀ w first events b opens h lent happen =
    let t = told number w first events lent happen in
    let image : (last_disk first events).image ≡ (kept_changed_all t.changes (kept_of first)).image = ap (λ (k : Kept). k.image) t.kept in
    record {
      changes = t.changes;
      are_made = t.are_made;
      kept = t.kept;
      holds = subst (λ (last : List ℕ). HoldsAfter w first.image last (reports_in t.changes (kept_of first))) (sym image) (changes-hold w₀ w (kept_of first) t.changes b opens h t.lent);
      calls = λ turns e. image ∙ ap (λ (changes : List Change). (kept_changed_all changes (kept_of first)).image) e ∙ turns-calls turns (kept_of first);
      never_ahead = all-leave-whole number first events happen;
    }
