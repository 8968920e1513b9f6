-- The cheapest of some starts: it is one of them, none is cheaper, and where they rise each one before it
-- costs more. Assumes nothing.
use Rattle.std.specs.Prelude.{ℕ, ◌<◌, ◌≤◌, ◌≡◌, refl, ◌⊎◌, List, [], ◌∷◌}
use Rattle.std.specs.List.{fold}
use Rattle.std.proofs.Common.{ap, inl, inr, ⊎_elim, arith, ltb-true, ltb-false}
use Rattle.std.proofs.lemmas.Bool.{cond_both}
use Rattle.clearing.specs.Clearing.{Occupancy, cost_of, cheaper_of}
use Rattle.clearing.proofs.Laws.Members.{In, IsRising}

module _ (o : Occupancy) (n : ℕ) where
  abbrev cost : ℕ → ℕ
  cost x = cost_of o n x

  abbrev cheaper : ℕ → ℕ → ℕ
  cheaper x y = cheaper_of o n x y

  -- the second is taken exactly if it costs less
  cheaper-cases : (x y : ℕ) → ((cheaper x y ≡ y) × (cost y < cost x)) ⊎ ((cheaper x y ≡ x) × (cost x ≤ cost y))
  cheaper-cases x y = cond_both _ y x (λ z. ((z ≡ y) × (cost y < cost x)) ⊎ ((z ≡ x) × (cost x ≤ cost y))) (λ e. inl (refl, omega (arith, ltb-true))) (λ e. inr (refl, omega (arith, ltb-false)))

  pub cheapest-in : (x : ℕ) (ys : List ℕ) → In (fold cheaper x ys) (x ∷ ys)
  cheapest-in x [] = inl refl
  cheapest-in x (y ∷ ys) = go (cheaper-cases x y) (cheapest-in (cheaper x y) ys)
    where
      go : ((cheaper x y ≡ y) × (cost y < cost x)) ⊎ ((cheaper x y ≡ x) × (cost x ≤ cost y)) → In (fold cheaper (cheaper x y) ys) (cheaper x y ∷ ys) → In (fold cheaper (cheaper x y) ys) (x ∷ y ∷ ys)
      go c (inr i) = inr (inr i)
      go (inl c) (inl e) = inr (inl (omega (arith, e, c.0)))
      go (inr c) (inl e) = inl (omega (arith, e, c.0))

  cheaper-under : (x y : ℕ) → (cost (cheaper x y) ≤ cost x) × (cost (cheaper x y) ≤ cost y)
  cheaper-under x y =
      ⊎_elim (λ c. let e : cost (cheaper x y) ≡ cost y = ap cost c.0 in (omega (arith, c.1), omega arith))
      (λ c. let e : cost (cheaper x y) ≡ cost x = ap cost c.0 in (omega arith, omega (arith, c.1))) (cheaper-cases x y)

  pub cheapest-least : (x : ℕ) (ys : List ℕ) (z : ℕ) → In z (x ∷ ys) → cost (fold cheaper x ys) ≤ cost z
  cheapest-least x [] z (inl e) = rw e (omega arith)
  cheapest-least x [] z (inr i) = absurd i
  cheapest-least x (y ∷ ys) z i = go i (cheapest-least (cheaper x y) ys)
    where
      go : In z (x ∷ y ∷ ys) → ((w : ℕ) → In w (cheaper x y ∷ ys) → cost (fold cheaper (cheaper x y) ys) ≤ cost w) → cost (fold cheaper (cheaper x y) ys) ≤ cost z
      go (inl q) f = rw q (omega (arith, f (cheaper x y) (inl refl), (cheaper-under x y).0))
      go (inr (inl q)) f = rw q (omega (arith, f (cheaper x y) (inl refl), (cheaper-under x y).1))
      go (inr (inr k)) f = f z (inr k)

  rising-cheaper : (x y : ℕ) (ys : List ℕ) → IsRising (x ∷ y ∷ ys) → IsRising (cheaper x y ∷ ys)
  rising-cheaper x y ys r = (λ w k. ⊎_elim (λ c. omega (arith, c.0, r.1.0 w k)) (λ c. omega (arith, c.0, r.0 w (inr k))) (cheaper-cases x y), r.1.1)

  -- the first of equals
  pub cheapest-first : (x : ℕ) (ys : List ℕ) → IsRising (x ∷ ys) → (z : ℕ) → In z (x ∷ ys) → z < fold cheaper x ys → cost (fold cheaper x ys) < cost z
  cheapest-first x [] r z (inl e) h = absurd (omega arith)
  cheapest-first x [] r z (inr i) h = absurd i
  cheapest-first x (y ∷ ys) r z i h = go (cheaper-cases x y) i (cheapest-first (cheaper x y) ys (rising-cheaper x y ys r))
    where
      least : cost (fold cheaper (cheaper x y) ys) ≤ cost (cheaper x y)
      least = cheapest-least (cheaper x y) ys (cheaper x y) (inl refl)

      go : ((cheaper x y ≡ y) × (cost y < cost x)) ⊎ ((cheaper x y ≡ x) × (cost x ≤ cost y)) → In z (x ∷ y ∷ ys) →
          ((w : ℕ) → In w (cheaper x y ∷ ys) → w < fold cheaper (cheaper x y) ys → cost (fold cheaper (cheaper x y) ys) < cost w) → cost (fold cheaper (cheaper x y) ys) < cost z
      go c (inr (inr k)) f = f z (inr k) h
      go (inl c) (inl q) f = rw q (omega (arith, c.1, least, ap cost c.0))
      go (inl c) (inr (inl q)) f = f z (inl (omega (arith, q, c.0))) h
      go (inr c) (inl q) f = f z (inl (omega (arith, q, c.0))) h
      go (inr c) (inr (inl q)) f =
          rw q (omega (arith, c.1, ap cost c.0, f (cheaper x y) (inl refl) (omega (arith, c.0, q, h, r.0 y (inl refl)))))
