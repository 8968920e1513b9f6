-- LAW: the candidates are exactly the runs that start at the end of a used region, and they rise.
-- Assumes nothing.
use Rattle.std.specs.Prelude.{ℕ, zero, suc, ◌+◌, ◌<◌, ◌≤◌, ◌≡◌, refl, Bool, true, false, cond, ◌&&◌, List, ◌∷◌, filter}
use Rattle.std.specs.List.{range_with_len}
use Rattle.std.proofs.Common.{inl, inr, ⊎_elim, arith}
use Rattle.refusal.specs.Laws.Tests.{lt-or-le, and_right, never_both}
use Rattle.clearing.specs.Clearing.{Occupancy, is_run, is_end_of_use, candidates}
use Rattle.clearing.proofs.Laws.Sound.{IsRunOn}
use Rattle.clearing.proofs.Laws.CandidateBefore.{run-parts}
use Rattle.clearing.proofs.Laws.Members.{In, IsRising}

abbrev passing : (ℕ → Bool) → ℕ → ℕ → List ℕ
passing p i m = filter p (range_with_len i m)

module _ (p : ℕ → Bool) where
  in-passing : (i m x : ℕ) → In x (passing p i m) → (p x ≡ true) × (i ≤ x) × (x < i + m)
  in-passing i zero x h = absurd h
  in-passing i (suc m) x h = go (p i) refl h (in-passing (i + 1) m x)
    where
      go : (t : Bool) → p i ≡ t → In x (cond t (i ∷ passing p (i + 1) m) (passing p (i + 1) m)) → (In x (passing p (i + 1) m) → (p x ≡ true) × (i + 1 ≤ x) × (x < i + 1 + m)) → (p x ≡ true) × (i ≤ x) × (x < i + suc m)
      go true e (inl q) ih = (rw q e, omega arith, omega arith)
      go true e (inr k) ih = let r = ih k in (r.0, omega (arith, r.1), omega (arith, r.2))
      go false e k ih = let r = ih k in (r.0, omega (arith, r.1), omega (arith, r.2))

  passing-in : (i m x : ℕ) → p x ≡ true → i ≤ x → x < i + m → In x (passing p i m)
  passing-in i zero x e l h = absurd (omega arith)
  passing-in i (suc m) x e l h = go (p i) refl (λ k. passing-in (i + 1) m x e k (omega arith))
    where
      go : (t : Bool) → p i ≡ t → (i + 1 ≤ x → In x (passing p (i + 1) m)) → In x (cond t (i ∷ passing p (i + 1) m) (passing p (i + 1) m))
      go true q ih = ⊎_elim (λ k. inr (ih (omega (arith, k)))) (λ k. inl (omega arith)) (lt-or-le i x)
      go false q ih = ⊎_elim (λ k. ih (omega (arith, k))) (λ k. let z : x ≡ i = omega arith in absurd (never_both (p i) (rw z at e) q)) (lt-or-le i x)

  passing-rising : (i m : ℕ) → IsRising (passing p i m)
  passing-rising i zero = tt
  passing-rising i (suc m) = go (p i) (passing-rising (i + 1) m)
    where
      go : (t : Bool) → IsRising (passing p (i + 1) m) → IsRising (cond t (i ∷ passing p (i + 1) m) (passing p (i + 1) m))
      go true r = (λ y k. let h = in-passing (i + 1) m y k in omega (arith, h.1), r)
      go false r = r

module _ (o : Occupancy) (n : ℕ) where
  pub candidate-in : (x : ℕ) → (is_end_of_use o x && is_run o n x) ≡ true → In x (candidates o n)
  unfolding candidates
  candidate-in x e =
      passing-in (λ y. is_end_of_use o y && is_run o n y) 0 (suc o.disc_end) x e (omega arith) (omega (arith, (run-parts o n x (and_right (is_end_of_use o x) (is_run o n x) e)).before))

  pub in-candidates : (x : ℕ) → In x (candidates o n) → (is_end_of_use o x && is_run o n x) ≡ true
  unfolding candidates
  in-candidates x i = (in-passing (λ y. is_end_of_use o y && is_run o n y) 0 (suc o.disc_end) x i).0

  pub candidates-run : (x : ℕ) → In x (candidates o n) → IsRunOn o n x
  candidates-run x i = run-parts o n x (and_right (is_end_of_use o x) (is_run o n x) (in-candidates x i))

  pub candidates-rising : IsRising (candidates o n)
  unfolding candidates
  candidates-rising = passing-rising (λ y. is_end_of_use o y && is_run o n y) 0 (suc o.disc_end)
