-- Lists that are filtered, mapped and put together: what they contain, and their parts. Assumes nothing.
use Rattle.std.specs.Prelude.{ℕ, zero, suc, ◌+◌, ◌<◌, ◌≤◌, ◌≡◌, ◌⊎◌, refl, Bool, true, false, cond}
use Rattle.std.specs.Prelude.{List, [], ◌∷◌, ◌++◌, length, map, filter, slice_index_or, All, Contains}
use Rattle.std.specs.List.{flat_map, range_with_len, list_all}
use Rattle.std.proofs.Common.{sym, ap, ◌∙◌, inl, inr, ⊎_elim, arith}
use Rattle.std.proofs.lemmas.Bool.{false≢true}
use Rattle.std.proofs.lemmas.List.{map-append}
use Rattle.std.proofs.lemmas.List.Elements.{All-nil, All-append, filter-append, Contains-append_left, Contains-append_right}
use Rattle.refusal.specs.Laws.Tests.{lt-or-le, and_left, and_right, and_both}

-- ---- the numbers of a range

pub range-append : (a m n : ℕ) → range_with_len a (m + n) ≡ range_with_len a m ++ range_with_len (a + m) n
range-append a zero n = let e : a + 0 ≡ a = omega arith in let z : 0 + n ≡ n = omega arith in rw (e, z)
range-append a (suc m) n =
    let e : a + suc m ≡ a + 1 + m = omega arith in
    let z : suc m + n ≡ suc (m + n) = omega arith in
    rw (e, z) (ap (λ (l : List ℕ). a ∷ l) (range-append (a + 1) m n))

pub list_all-range : (p : ℕ → Bool) (a n : ℕ) → list_all p (range_with_len a n) ≡ true → (j : ℕ) → a ≤ j → j < a + n → p j ≡ true
list_all-range p a zero e j l h = absurd (omega arith)
list_all-range p a (suc n) e j l h =
    ⊎_elim (λ q. list_all-range p (a + 1) n (and_right (p a) _ e) j (omega arith) (omega arith))
    (λ q. let same : j ≡ a = omega arith in rw same (and_left (p a) _ e)) (lt-or-le a j)

pub range-list_all : (p : ℕ → Bool) (a n : ℕ) → ((j : ℕ) → a ≤ j → j < a + n → p j ≡ true) → list_all p (range_with_len a n) ≡ true
range-list_all p a zero f = refl
range-list_all p a (suc n) f =
    and_both (p a) _ (f a (omega arith) (omega arith)) (range-list_all p (a + 1) n (λ j l h. f j (omega arith) (omega arith)))

pub range-contains : (a n j : ℕ) → a ≤ j → j < a + n → Contains (range_with_len a n) j
range-contains a zero j l h = absurd (omega arith)
range-contains a (suc n) j l h =
    ⊎_elim (λ q. let w = range-contains (a + 1) n j (omega arith) (omega arith) in (suc w.0, omega (arith, w.1), w.2))
    (λ q. (0, omega arith, omega arith)) (lt-or-le a j)

-- ---- one element in front

module _ {A : Type 0} where
  pub contains-cons : (x y : A) (ys : List A) → Contains (y ∷ ys) x → (x ≡ y) ⊎ Contains ys x
  contains-cons x y ys c = go c.0 c.1 c.2
    where
      go : (k : ℕ) → k < length (y ∷ ys) → slice_index_or (y ∷ ys) k x ≡ x → (x ≡ y) ⊎ Contains ys x
      go zero h e = inl (sym e)
      go (suc k) h e = inr (k, omega arith, e)

  pub contains_later : (x y : A) (ys : List A) → Contains ys x → Contains (y ∷ ys) x
  contains_later x y ys c = (suc c.0, omega (arith, c.1), c.2)

  pub contains_first : (x y : A) (ys : List A) → x ≡ y → Contains (y ∷ ys) x
  contains_first x y ys e = (0, omega arith, sym e)

-- ---- filtered

module _ {A : Type 0} (p : A → Bool) where
  pub filter-contains : (xs : List A) (x : A) → p x ≡ true → Contains xs x → Contains (filter p xs) x
  filter-contains [] x e c = absurd (omega (arith, c.1))
  filter-contains (y ∷ ys) x e c = go (p y) refl (contains-cons x y ys c) (filter-contains ys x e)
    where
      go : (t : Bool) → p y ≡ t → (x ≡ y) ⊎ Contains ys x → (Contains ys x → Contains (filter p ys) x) → Contains (cond t (y ∷ filter p ys) (filter p ys)) x
      go true q (inl s) ih = contains_first x y (filter p ys) s
      go true q (inr i) ih = contains_later x y (filter p ys) (ih i)
      go false q (inl s) ih = absurd (false≢true (sym q ∙ ap p (sym s) ∙ e))
      go false q (inr i) ih = ih i

  -- where none passes, none is left
  pub filter-map-none : {B : Type 0} (f : B → A) → ((b : B) → p (f b) ≡ false) → (bs : List B) → filter p (map f bs) ≡ []
  filter-map-none f h [] = refl
  filter-map-none f h (b ∷ bs) = rw (h b) (filter-map-none f h bs)

  pub filter-flat_map : {B : Type 0} (f : B → List A) (bs : List B) → filter p (flat_map f bs) ≡ flat_map (λ b. filter p (f b)) bs
  filter-flat_map f [] = refl
  filter-flat_map f (b ∷ bs) = filter-append p (f b) (flat_map f bs) ∙ ap (λ (l : List A). filter p (f b) ++ l) (filter-flat_map f bs)

-- ---- mapped

module _ {A B : Type 0} (f : A → B) where
  pub map-contains : (xs : List A) (x : A) → Contains xs x → Contains (map f xs) (f x)
  map-contains [] x c = absurd (omega (arith, c.1))
  map-contains (y ∷ ys) x c =
      ⊎_elim (λ e. contains_first (f x) (f y) (map f ys) (ap f e)) (λ i. contains_later (f x) (f y) (map f ys) (map-contains ys x i)) (contains-cons x y ys c)

  pub map-flat_map : {C : Type 0} (g : C → List A) (cs : List C) → map f (flat_map g cs) ≡ flat_map (λ c. map f (g c)) cs
  map-flat_map g [] = refl
  map-flat_map g (c ∷ cs) = map-append f (g c) (flat_map g cs) ∙ ap (λ (l : List B). map f (g c) ++ l) (map-flat_map g cs)

-- ---- put together

module _ {A B : Type 0} (f : A → List B) where
  pub flat_map-contains : (xs : List A) (x : A) (y : B) → Contains xs x → Contains (f x) y → Contains (flat_map f xs) y
  flat_map-contains [] x y c d = absurd (omega (arith, c.1))
  flat_map-contains (z ∷ zs) x y c d =
      ⊎_elim (λ e. Contains-append_left (f z) (flat_map f zs) y (rw e at d))
      (λ i. Contains-append_right (f z) (flat_map f zs) y (flat_map-contains zs x y i d)) (contains-cons x z zs c)

  pub flat_map_all : (P : B → Type 0) → ((x : A) → All P (f x)) → (xs : List A) → All P (flat_map f xs)
  flat_map_all P h [] = All-nil P
  flat_map_all P h (x ∷ xs) = All-append P (f x) (flat_map f xs) (h x) (flat_map_all P h xs)

  pub flat_map_same : (g : A → List B) → ((x : A) → f x ≡ g x) → (xs : List A) → flat_map f xs ≡ flat_map g xs
  flat_map_same g h [] = refl
  flat_map_same g h (x ∷ xs) = rw (h x, flat_map_same g h xs)

-- where each number of the range gives nothing
pub flat_map-range-none : {B : Type 0} (f : ℕ → List B) (a n : ℕ) → ((j : ℕ) → a ≤ j → j < a + n → f j ≡ []) → flat_map f (range_with_len a n) ≡ []
flat_map-range-none f a zero h = refl
flat_map-range-none f a (suc n) h = rw (h a (omega arith) (omega arith)) (flat_map-range-none f (a + 1) n (λ j l k. h j (omega arith) (omega arith)))
