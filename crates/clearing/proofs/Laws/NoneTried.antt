-- LAW: none is tried exactly if the budget is 0 and there is a run. Assumes nothing.
use Rattle.std.specs.Prelude.{ℕ, zero, suc, ◌<◌, ◌≡◌, refl, ◌⊎◌, ◌∷◌, List, take, Ok, None}
use Rattle.std.proofs.Common.{sym, ◌∙◌, inl, inr, ⊎_elim, arith}
use Rattle.clearing.specs.Clearing.{Occupancy, occupancy_of, cheapest_of, cheapest_run}
use Rattle.clearing.specs.Theorem.{NoneTried}
use Rattle.clearing.proofs.Laws.Sound.{IsSound, IsRunOn}
use Rattle.clearing.proofs.Laws.Told.{IsRefused, IsAnswered, told-cases, first-run, no-candidate}
use Rattle.clearing.proofs.Laws.Opened.{sound, clear-told, run-on, run-of}

-- where there is a first candidate, none is tried of them exactly with no budget
none-of : (o : Occupancy) (n budget x : ℕ) (xs : List ℕ) → cheapest_of o n budget (take budget (x ∷ xs)) ≡ None → budget ≡ 0
none-of o n zero x xs e = refl
none-of o n (suc b) x xs e = absurd (cc)

module _ (o : Occupancy) (s : IsSound o) (n budget : ℕ) where
  none : cheapest_run o n budget ≡ Ok None → (budget ≡ 0) × (0 < n) × ((x : ℕ) × IsRunOn o n x)
  none e = go (told-cases o n budget)
    where
      go : IsRefused o n budget ⊎ IsAnswered o n budget → (budget ≡ 0) × (0 < n) × ((x : ℕ) × IsRunOn o n x)
      go (inl r) = absurd (let q = r.answer in cc)
      go (inr a) = (none-of o n budget a.first a.others (let q = a.answer in cc), a.some, (a.first, first-run o n budget a))

  tried : (budget ≡ 0) × (0 < n) × ((x : ℕ) × IsRunOn o n x) → cheapest_run o n budget ≡ Ok None
  tried h = go (told-cases o n budget)
    where
      go : IsRefused o n budget ⊎ IsAnswered o n budget → cheapest_run o n budget ≡ Ok None
      go (inl r) = absurd (⊎_elim (λ z. omega (arith, h.1)) (λ c. no-candidate o s n c h.2.0 h.2.1) r.none)
      go (inr a) = a.answer ∙ rw h.0

pub none-tried : NoneTried
none-tried image words n budget bytes passed = (
  λ e. let w = none (occupancy_of image) (sound image words bytes passed) n budget (sym (clear-told image words bytes passed n budget) ∙ e) in (w.0, w.1, (w.2.0, run-of image n w.2.0 w.2.1)),
  λ h. clear-told image words bytes passed n budget ∙ tried (occupancy_of image) (sound image words bytes passed) n budget (h.0, h.1, (h.2.0, run-on image n h.2.0 h.2.1)),
)
