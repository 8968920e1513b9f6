-- LAW: a run that is told is as cheap as any, wherever that starts, but for the bound. Assumes nothing.
use Rattle.std.specs.Prelude.{ℕ, zero, suc, ◌+◌, ◌-◌, ◌<◌, ◌≤◌, ◌≡◌, refl, ◌⊎◌, Bool, true, false, cond, List, ◌∷◌, length, take, Contains, nat_le, Ok, Some}
use Rattle.std.specs.List.{fold}
use Rattle.std.proofs.Common.{sym, ◌∙◌, inl, inr, arith, leb-true, le-leb}
use Rattle.std.proofs.lemmas.Bool.{lt-leb}
use Rattle.std.proofs.lemmas.List.{take_all}
use Rattle.clearing.specs.declared.clear.CheapestRun.{CheapestRun}
use Rattle.clearing.specs.Clearing.{Occupancy, occupancy_of, cost_of, candidates, cheaper_of, floor_of, bound_of, answer_at, cheapest_of, cheapest_run}
use Rattle.clearing.specs.Theorem.{IsCheapestRun, AsCheapAsAny}
use Rattle.clearing.proofs.Laws.Members.{In, in-contains, contains-in, in_take, rising-take}
use Rattle.clearing.proofs.Laws.Cheapest.{cheapest-in, cheapest-least, cheapest-first}
use Rattle.clearing.proofs.Laws.Sound.{IsSound, IsRunOn}
use Rattle.clearing.proofs.Laws.CandidateBefore.{candidate-before}
use Rattle.clearing.proofs.Laws.Candidates.{candidate-in, candidates-run, candidates-rising}
use Rattle.clearing.proofs.Laws.Floors.{floor-least}
use Rattle.clearing.proofs.Laws.Told.{IsRefused, IsAnswered, told-cases}
use Rattle.clearing.proofs.Laws.Opened.{sound, clear-told, run-on, run-of}

-- a budget of b + 1, with x and xs the candidates
module _ (o : Occupancy) (s : IsSound o) (n b x : ℕ) (xs : List ℕ) (some : 0 < n) (e : candidates o n ≡ x ∷ xs) where
  best : ℕ
  best = fold (cheaper_of o n) x (take b xs)

  tried-in : (y : ℕ) → Contains (take (suc b) (candidates o n)) y → In y (x ∷ take b xs)
  tried-in y c = contains-in (x ∷ take b xs) y (rw e at c)

  best-in : In best (x ∷ take b xs)
  unfolding best
  best-in = cheapest-in o n x (take b xs)

  best-run : IsRunOn o n best
  best-run = candidates-run o n best (rw e (in_take (suc b) (x ∷ xs) best best-in))

  best-least : (y : ℕ) → In y (x ∷ take b xs) → cost_of o n best ≤ cost_of o n y
  unfolding best
  best-least y i = cheapest-least o n x (take b xs) y i

  best-first : (y : ℕ) → In y (x ∷ take b xs) → y < best → cost_of o n best < cost_of o n y
  unfolding best
  best-first y i h = cheapest-first o n x (take b xs) (rising-take (suc b) (x ∷ xs) (rw e at (candidates-rising o n))) y i h

  -- no run is cheaper by more than the bound
  near : (y : ℕ) → IsRunOn o n y → cost_of o n best ≤ cost_of o n y + bound_of o n (suc b) (cost_of o n best)
  near y r = go (nat_le (length (candidates o n)) (suc b)) refl
    where
      go : (t : Bool) → nat_le (length (candidates o n)) (suc b) ≡ t → cost_of o n best ≤ cost_of o n y + cond t 0 (cost_of o n best - floor_of o n)
      go true q =
          let w = candidate-before o s n y r in
          let i : In w.0 (x ∷ xs) = rw e at (candidate-in o n w.0 w.1) in
          let l : length (x ∷ xs) ≤ suc b = rw e at (leb-true (length (candidates o n)) (suc b) q) in
          let a : take b xs ≡ xs = take_all b xs (omega arith) in
          omega (arith, w.3, best-least w.0 (rw a i))
      go false q = omega (arith, floor-least o s n y some r)

cheapest : (image : List ℕ) (s : IsSound (occupancy_of image)) (n b x : ℕ) (xs : List ℕ) (some : 0 < n) (e : candidates (occupancy_of image) n ≡ x ∷ xs) →
    IsCheapestRun image n (suc b) (answer_at (occupancy_of image) n (suc b) (best (occupancy_of image) s n b x xs some e))
cheapest image s n b x xs some e = record {
  run = run-of image n y run;
  own = refl;
  count = refl;
  tried = rw e (in-contains (x ∷ take b xs) y (best-in o s n b x xs some e));
  cheapest = λ z c. best-least o s n b x xs some e z (tried-in o s n b x xs some e z c);
  first = λ z c h. best-first o s n b x xs some e z (tried-in o s n b x xs some e z c) h;
  near = λ z r. near o s n b x xs some e z (run-on image n z r);
  all = λ h. rw (le-leb (length (candidates o n)) (suc b) h);
  part = λ h. rw (lt-leb (length (candidates o n)) (suc b) h) (omega (arith, floor-least o s n y some run));
}
  where
    o : Occupancy
    o = occupancy_of image

    y : ℕ
    y = best o s n b x xs some e

    run : IsRunOn o n y
    run = best-run o s n b x xs some e

by-budget : (image : List ℕ) → IsSound (occupancy_of image) → (n budget x : ℕ) (xs : List ℕ) → 0 < n → candidates (occupancy_of image) n ≡ x ∷ xs → (found : CheapestRun) →
    cheapest_of (occupancy_of image) n budget (take budget (x ∷ xs)) ≡ Some found → IsCheapestRun image n budget found
unfolding best
by-budget image s n zero x xs some e found q = absurd (cc)
by-budget image s n (suc b) x xs some e found q =
    let f : found ≡ answer_at (occupancy_of image) n (suc b) (fold (cheaper_of (occupancy_of image) n) x (take b xs)) = cc in
    rw f (cheapest image s n b x xs some e)

pub as-cheap-as-any : AsCheapAsAny
as-cheap-as-any image words n budget found bytes passed e =
    go (told-cases (occupancy_of image) n budget) (sym (clear-told image words bytes passed n budget) ∙ e)
  where
    go : IsRefused (occupancy_of image) n budget ⊎ IsAnswered (occupancy_of image) n budget → cheapest_run (occupancy_of image) n budget ≡ Ok (Some found) → IsCheapestRun image n budget found
    go (inl r) q = absurd (let p = r.answer in cc)
    go (inr a) q = by-budget image (sound image words bytes passed) n budget a.first a.others a.some a.all found (let p = a.answer in cc)
