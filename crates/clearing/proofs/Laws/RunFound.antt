-- LAW: with a budget a run is told exactly if there is one. Assumes nothing.
use Rattle.std.specs.Prelude.{ℕ, zero, suc, ◌<◌, ◌≡◌, refl, ◌⊎◌, ◌∷◌, List, take, Ok, Some}
use Rattle.std.specs.List.{fold}
use Rattle.std.proofs.Common.{sym, ◌∙◌, inl, inr, ⊎_elim, arith}
use Rattle.clearing.specs.declared.clear.CheapestRun.{CheapestRun}
use Rattle.clearing.specs.Clearing.{Occupancy, occupancy_of, cheaper_of, answer_at, cheapest_of, cheapest_run}
use Rattle.clearing.specs.Theorem.{RunFound}
use Rattle.clearing.proofs.Laws.Sound.{IsSound, IsRunOn}
use Rattle.clearing.proofs.Laws.Told.{IsRefused, IsAnswered, told-cases, first-run, no-candidate}
use Rattle.clearing.proofs.Laws.Opened.{sound, clear-told, run-on, run-of}

-- where there is a first candidate, one is told exactly with a budget
some-of : (o : Occupancy) (n budget x : ℕ) (xs : List ℕ) (found : CheapestRun) → cheapest_of o n budget (take budget (x ∷ xs)) ≡ Some found → 0 < budget
some-of o n zero x xs found e = absurd (cc)
some-of o n (suc b) x xs found e = omega arith

of-some : (o : Occupancy) (n budget x : ℕ) (xs : List ℕ) → 0 < budget → (found : CheapestRun) × (cheapest_of o n budget (take budget (x ∷ xs)) ≡ Some found)
of-some o n zero x xs h = absurd (omega arith)
of-some o n (suc b) x xs h = (answer_at o n (suc b) (fold (cheaper_of o n) x (take b xs)), refl)

module _ (o : Occupancy) (s : IsSound o) (n budget : ℕ) where
  found : (f : CheapestRun) → cheapest_run o n budget ≡ Ok (Some f) → (0 < budget) × (0 < n) × ((x : ℕ) × IsRunOn o n x)
  found f e = go (told-cases o n budget)
    where
      go : IsRefused o n budget ⊎ IsAnswered o n budget → (0 < budget) × (0 < n) × ((x : ℕ) × IsRunOn o n x)
      go (inl r) = absurd (let q = r.answer in cc)
      go (inr a) = (some-of o n budget a.first a.others f (let q = a.answer in cc), a.some, (a.first, first-run o n budget a))

  finds : (0 < budget) × (0 < n) × ((x : ℕ) × IsRunOn o n x) → (f : CheapestRun) × (cheapest_run o n budget ≡ Ok (Some f))
  finds h = go (told-cases o n budget)
    where
      go : IsRefused o n budget ⊎ IsAnswered o n budget → (f : CheapestRun) × (cheapest_run o n budget ≡ Ok (Some f))
      go (inl r) = absurd (⊎_elim (λ z. omega (arith, h.1)) (λ c. no-candidate o s n c h.2.0 h.2.1) r.none)
      go (inr a) = let w = of-some o n budget a.first a.others h.0 in (w.0, a.answer ∙ rw w.1)

pub run-found : RunFound
run-found image words n budget bytes passed = (
  λ e. let w = found (occupancy_of image) (sound image words bytes passed) n budget e.0 (sym (clear-told image words bytes passed n budget) ∙ e.1) in (w.0, w.1, (w.2.0, run-of image n w.2.0 w.2.1)),
  λ h. let w = finds (occupancy_of image) (sound image words bytes passed) n budget (h.0, h.1, (h.2.0, run-on image n h.2.0 h.2.1)) in (w.0, clear-told image words bytes passed n budget ∙ w.1),
)
