-- The members of a list, and lists of numbers that rise. Assumes nothing.
use Rattle.std.specs.Prelude.{ℕ, zero, suc, ◌+◌, ◌<◌, ◌≡◌, refl, ◌⊎◌, Bool, true, List, [], ◌∷◌, length, take, Contains, slice_index_or}
use Rattle.std.specs.List.{list_any}
use Rattle.std.specs.List.Sorted.{IsStrictlyIncreasing}
use Rattle.std.proofs.Common.{sym, inl, inr, ⊎_elim, arith}
use Rattle.std.proofs.lemmas.Bool.{false≢true}
use Rattle.refusal.specs.Laws.Tests.{or_cases, or_left, or_right}
use Rattle.space.specs.declared.region.DiscRegion.{DiscRegion}
use Rattle.space.specs.Inner.Sort.{is_among}
use Rattle.space.specs.Laws.HoldsLaws.{is_among-cases, is_among-first, holds_later, is_among-none}

module _ {A : Type 0} where
  -- one of them
  abbrev pub In : A → List A → Type 0
  In x [] = ⊥
  In x (y ∷ ys) = (x ≡ y) ⊎ In x ys

  -- ---- by places

  pub in-contains : (xs : List A) (x : A) → In x xs → Contains xs x
  in-contains [] x i = absurd i
  in-contains (y ∷ ys) x (inl e) = (0, omega arith, sym e)
  in-contains (y ∷ ys) x (inr i) = let w = in-contains ys x i in (suc w.0, omega (arith, w.1), w.2)

  pub contains-in : (xs : List A) (x : A) → Contains xs x → In x xs
  contains-in [] x c = absurd (omega (arith, c.1))
  contains-in (y ∷ ys) x c = go c.0 c.1 c.2 (contains-in ys x)
    where
      go : (k : ℕ) → k < length (y ∷ ys) → slice_index_or (y ∷ ys) k x ≡ x → (Contains ys x → In x ys) → In x (y ∷ ys)
      go zero h e f = inl (sym e)
      go (suc k) h e f = inr (f (k, omega arith, e))

  -- ---- by a test

  module _ (p : A → Bool) where
    pub any-in : (xs : List A) → list_any p xs ≡ true → (x : A) × In x xs × (p x ≡ true)
    any-in [] e = absurd (false≢true e)
    any-in (y ∷ ys) e =
        ⊎_elim (λ h. (y, inl refl, h)) (λ h. let w = any-in ys h in (w.0, inr w.1, w.2)) (or_cases (p y) (list_any p ys) e)

    pub in-any : (xs : List A) (x : A) → In x xs → p x ≡ true → list_any p xs ≡ true
    in-any [] x i e = absurd i
    in-any (y ∷ ys) x (inl q) e = or_left (p y) _ (rw q at e)
    in-any (y ∷ ys) x (inr i) e = or_right (p y) _ (in-any ys x i e)

-- ---- regions

pub among-in : (r : DiscRegion) (xs : List DiscRegion) → is_among r xs ≡ true → In r xs
among-in r [] h = absurd (is_among-none r h)
among-in r (x ∷ xs) h = ⊎_elim (λ e. inl (sym e)) (λ k. inr (among-in r xs k)) (is_among-cases r x xs h)

pub in-among : (r : DiscRegion) (xs : List DiscRegion) → In r xs → is_among r xs ≡ true
in-among r [] i = absurd i
in-among r (x ∷ xs) (inl e) = rw e (is_among-first x xs)
in-among r (x ∷ xs) (inr i) = holds_later r x xs (in-among r xs i)

-- ---- numbers that rise

-- each is below all behind it
abbrev pub IsRising : List ℕ → Type 0
IsRising [] = Unit {0}
IsRising (x ∷ xs) = ((y : ℕ) → In y xs → x < y) × IsRising xs

pub rising-increasing : (xs : List ℕ) → IsRising xs → IsStrictlyIncreasing xs
rising-increasing [] r k h = absurd (omega arith)
rising-increasing (x ∷ []) r k h = absurd (omega arith)
rising-increasing (x ∷ y ∷ xs) r zero h = r.0 y (inl refl)
rising-increasing (x ∷ y ∷ xs) r (suc k) h = let e : suc k + 1 ≡ suc (k + 1) = omega arith in rw e (rising-increasing (y ∷ xs) r.1 k (omega arith))

-- ---- the first of a list

pub in_take : (b : ℕ) (xs : List ℕ) (x : ℕ) → In x (take b xs) → In x xs
in_take zero xs x i = absurd i
in_take (suc b) [] x i = absurd i
in_take (suc b) (y ∷ xs) x (inl e) = inl e
in_take (suc b) (y ∷ xs) x (inr i) = inr (in_take b xs x i)

pub rising-take : (b : ℕ) (xs : List ℕ) → IsRising xs → IsRising (take b xs)
rising-take zero xs r = tt
rising-take (suc b) [] r = tt
rising-take (suc b) (x ∷ xs) r = (λ y i. r.0 y (in_take b xs y i), rising-take b xs r.1)

-- ---- two that rise and have the same members are one

pub same-rising : (a b : List ℕ) → IsRising a → IsRising b → ((s : ℕ) → In s a → In s b) → ((s : ℕ) → In s b → In s a) → a ≡ b
same-rising [] [] p q f g = refl
same-rising [] (y ∷ b) p q f g = absurd (g y (inl refl))
same-rising (x ∷ a) [] p q f g = absurd (f x (inl refl))
same-rising (x ∷ a) (y ∷ b) p q f g =
    let e : x ≡ y = head (f x (inl refl)) (g y (inl refl)) in
    rw (e, same-rising a b p.1 q.1 (λ s i. down s i (f s (inr i)) e) (λ s i. up s i (g s (inr i)) e))
  where
    head : In x (y ∷ b) → In y (x ∷ a) → x ≡ y
    head (inl e) j = e
    head (inr i) (inl e) = sym e
    head (inr i) (inr j) = absurd (omega (arith, p.0 y j, q.0 x i))

    down : (s : ℕ) → In s a → In s (y ∷ b) → x ≡ y → In s b
    down s i (inr j) e = j
    down s i (inl k) e = absurd (omega (arith, p.0 s i))

    up : (s : ℕ) → In s b → In s (x ∷ a) → x ≡ y → In s a
    up s i (inr j) e = j
    up s i (inl k) e = absurd (omega (arith, q.0 s i))
