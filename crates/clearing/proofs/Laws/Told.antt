-- The answer, by whether there is a candidate. Assumes nothing.
use Rattle.std.specs.Prelude.{ℕ, ◌<◌, ◌≡◌, refl, ◌⊎◌, Bool, true, false, List, [], ◌∷◌, length, take, ◌==◌, Ok, Err}
use Rattle.std.proofs.Common.{inl, inr, arith, eqb-true, ne_eqb}
use Rattle.std.proofs.lemmas.Bool.{eqb-false}
use Rattle.refusal.specs.declared.Refusal.TheVariants.{NotEnoughSpace}
use Rattle.clearing.specs.Clearing.{Occupancy, candidates, cheapest_of, cheapest_run}
use Rattle.clearing.proofs.Laws.Sound.{IsSound, IsRunOn}
use Rattle.clearing.proofs.Laws.CandidateBefore.{candidate-before}
use Rattle.clearing.proofs.Laws.Candidates.{candidate-in, candidates-run}

module _ (o : Occupancy) (n budget : ℕ) where
  -- no byte is asked for, or there is no candidate
  pub record IsRefused : Type 0 where
    pub none : (n ≡ 0) ⊎ (candidates o n ≡ [])
    pub answer : cheapest_run o n budget ≡ Err NotEnoughSpace

  -- there is a first candidate
  pub record IsAnswered : Type 0 where
    pub some : 0 < n
    pub first : ℕ
    pub others : List ℕ
    pub all : candidates o n ≡ first ∷ others
    pub answer : cheapest_run o n budget ≡ Ok (cheapest_of o n budget (take budget (first ∷ others)))

  pub told-cases : IsRefused ⊎ IsAnswered
  unfolding cheapest_run
  told-cases = go (n == 0) refl (candidates o n) refl
    where
      go : (t : Bool) → (n == 0) ≡ t → (cs : List ℕ) → candidates o n ≡ cs → IsRefused ⊎ IsAnswered
      go true e cs c = inl (record { none = inl (eqb-true n 0 e); answer = rw e })
      go false e [] c = inl (record { none = inr c; answer = rw (e, c) })
      go false e (x ∷ xs) c =
          let z : (length (x ∷ xs) == 0) ≡ false = ne_eqb (length (x ∷ xs)) 0 (λ q. omega arith) in
          inr (record { some = omega (arith, eqb-false n 0 e); first = x; others = xs; all = c; answer = rw (e, c, z) })

-- a first candidate is a run
pub first-run : (o : Occupancy) (n budget : ℕ) (a : IsAnswered o n budget) → IsRunOn o n a.first
first-run o n budget a = candidates-run o n a.first (rw a.all (inl refl))

-- LAW: without a candidate no start gives a run
pub no-candidate : (o : Occupancy) → IsSound o → (n : ℕ) → candidates o n ≡ [] → (x : ℕ) → IsRunOn o n x → ⊥
no-candidate o s n e x r = let w = candidate-before o s n x r in rw e at (candidate-in o n w.0 w.1)
