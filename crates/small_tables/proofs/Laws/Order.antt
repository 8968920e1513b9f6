-- The list of the shapes rises, and no other list of exactly these does.
use Rattle.std.specs.Prelude.{ℕ, zero, suc, ◌-◌, ◌<◌, ◌≡◌, refl}
use Rattle.std.specs.Prelude.{List, [], ◌∷◌, ◌++◌, map, slice_index_or, All, Contains}
use Rattle.std.specs.List.{AllPairs, flat_map, range_with_len}
use Rattle.std.proofs.Common.{sym, ◌∙◌, subst, inl, inr, ⊎_elim, arith}
use Rattle.std.proofs.lemmas.List.Elements.{All-nil, All-head, All-tail, All-append, All-map, All-weaker, All-contains}
use Rattle.std.proofs.lemmas.List.FromFn.{length-range_with_len, get_or-range_with_len}
use Rattle.std.proofs.lemmas.List.Kept.{AllPairs-cons, AllPairs-filter}
use Rattle.small_tables.specs.declared.shape.Entry.{Entry}
use Rattle.small_tables.specs.declared.shape.Entry.TheVariants.{File, Directory}
use Rattle.small_tables.specs.Shapes.{each_entry, each_list, shapes}
use Rattle.small_tables.specs.Theorem.{IsBefore, IsEarlier, EachOnce}
use Rattle.small_tables.proofs.Laws.Lists.{contains-cons, contains_later, contains_first}
use Rattle.small_tables.proofs.Laws.Shapes.{each-shape}

-- ---- lists in order

module _ {A : Type 0} (R : A → A → Type 0) where
  pairs-nil : AllPairs R []
  pairs-nil i j d l h = absurd (omega arith)

  pairs-head : (x : A) (xs : List A) → AllPairs R (x ∷ xs) → All (R x) xs
  pairs-head x xs p k d h = p 0 (suc k) d (omega arith) (omega arith)

  pairs-tail : (x : A) (xs : List A) → AllPairs R (x ∷ xs) → AllPairs R xs
  pairs-tail x xs p i j d l h = p (suc i) (suc j) d (omega arith) (omega arith)

  pairs-append : (xs ys : List A) → AllPairs R xs → AllPairs R ys → All (λ x. All (R x) ys) xs → AllPairs R (xs ++ ys)
  pairs-append [] ys p q h = q
  pairs-append (x ∷ xs) ys p q h =
      AllPairs-cons R x (xs ++ ys) (All-append (R x) xs ys (pairs-head x xs p) (All-head (λ a. All (R a) ys) x xs h))
      (pairs-append xs ys (pairs-tail x xs p) q (All-tail (λ a. All (R a) ys) x xs h))

module _ {A B : Type 0} (R : A → A → Type 0) (S : B → B → Type 0) where
  pairs-map : (f : B → A) → ((x y : B) → S x y → R (f x) (f y)) → (xs : List B) → AllPairs S xs → AllPairs R (map f xs)
  pairs-map f h [] p = pairs-nil R
  pairs-map f h (x ∷ xs) p =
      AllPairs-cons R (f x) (map f xs) (All-map (R (f x)) f xs (All-weaker (S x) (λ y. R (f x) (f y)) (h x) xs (pairs-head S x xs p)))
      (pairs-map f h xs (pairs-tail S x xs p))

  module _ (f : B → List A) (across : (x y : B) → S x y → All (λ a. All (R a) (f y)) (f x)) where
    before-all : (a : A) (P : B → Type 0) → ((y : B) → P y → All (R a) (f y)) → (ys : List B) → All P ys → All (R a) (flat_map f ys)
    before-all a P h [] q = All-nil (R a)
    before-all a P h (y ∷ ys) q =
        All-append (R a) (f y) (flat_map f ys) (h y (All-head P y ys q)) (before-all a P h ys (All-tail P y ys q))

    pairs-flat_map : ((x : B) → AllPairs R (f x)) → (xs : List B) → AllPairs S xs → AllPairs R (flat_map f xs)
    pairs-flat_map h [] p = pairs-nil R
    pairs-flat_map h (x ∷ xs) p =
        pairs-append R (f x) (flat_map f xs) (h x) (pairs-flat_map h xs (pairs-tail S x xs p))
        (λ k d l. before-all (slice_index_or (f x) k d) (S x) (λ y s. across x y s k d l) xs (pairs-head S x xs p))

-- ---- two lists in order with the same elements

module _ {A : Type 0} (R : A → A → Type 0) (never : (x y : A) → R x y → R y x → ⊥) where
  -- but for the first, which is the same
  behind-first : (x y : A) (xs ys : List A) → x ≡ y → All (R x) xs → ((z : A) → Contains (x ∷ xs) z → Contains (y ∷ ys) z) →
      (z : A) → Contains xs z → Contains ys z
  behind-first x y xs ys e h f z c =
      ⊎_elim (λ first. let r = subst (R x) (first ∙ sym e) (All-contains (R x) xs z h c) in absurd (never x x r r)) (λ later. later)
      (contains-cons z y ys (f z (contains_later z x xs c)))

  same-elements : (xs ys : List A) → AllPairs R xs → AllPairs R ys → ((z : A) → Contains xs z → Contains ys z) →
      ((z : A) → Contains ys z → Contains xs z) → xs ≡ ys
  same-elements [] [] p q f g = refl
  same-elements [] (y ∷ ys) p q f g = absurd (omega (arith, (g y (contains_first y y ys refl)).1))
  same-elements (x ∷ xs) [] p q f g = absurd (omega (arith, (f x (contains_first x x xs refl)).1))
  same-elements (x ∷ xs) (y ∷ ys) p q f g =
      let a = pairs-head R x xs p in
      let b = pairs-head R y ys q in
      let e : x ≡ y = ⊎_elim (λ same. same)
      (λ i. ⊎_elim (λ same. sym same) (λ j. absurd (never x y (All-contains (R x) xs y a j) (All-contains (R y) ys x b i)))
      (contains-cons y x xs (g y (contains_first y y ys refl))))
      (contains-cons x y ys (f x (contains_first x x xs refl))) in
      rw (e, same-elements xs ys (pairs-tail R x xs p) (pairs-tail R y ys q) (behind-first x y xs ys e a f) (behind-first y x ys xs (sym e) b g))

-- ---- shapes in order

entries-rise : (n : ℕ) → AllPairs IsBefore (each_entry n)
entries-rise n =
    AllPairs-cons IsBefore File (map (λ next. Directory next) (range_with_len 0 (suc n))) (All-map (IsBefore File) (λ next. Directory next) (range_with_len 0 (suc n)) (λ k d h. tt))
    (pairs-map IsBefore (λ a b. a < b) (λ next. Directory next) (λ a b l. l) (range_with_len 0 (suc n)) numbers-rise)
  where
    numbers-rise : AllPairs (λ a b. a < b) (range_with_len 0 (suc n))
    numbers-rise i j d l h =
        let s : j < suc n = omega (arith, length-range_with_len 0 (suc n)) in
        omega (arith, get_or-range_with_len 0 (suc n) i d (omega arith), get_or-range_with_len 0 (suc n) j d s)

lists-rise : (n m : ℕ) → AllPairs IsEarlier (each_list n m)
unfolding each_list
lists-rise n zero = AllPairs-cons IsEarlier [] [] (All-nil (IsEarlier [])) (pairs-nil IsEarlier)
lists-rise n (suc m) =
    pairs-flat_map IsEarlier IsBefore (λ x. map (λ xs. x ∷ xs) (each_list n m))
    (λ x y b. All-map (λ a. All (IsEarlier a) (map (λ ys. y ∷ ys) (each_list n m))) (λ xs. x ∷ xs) (each_list n m)
    (λ k d h. All-map (IsEarlier (x ∷ slice_index_or (each_list n m) k d)) (λ ys. y ∷ ys) (each_list n m) (λ i e l. inl b)))
    (λ x. pairs-map IsEarlier IsEarlier (λ xs. x ∷ xs) (λ xs ys e. inr (refl, e)) (each_list n m) (lists-rise n m))
    (each_entry n) (entries-rise n)

shapes-rise : (n : ℕ) → AllPairs IsEarlier (shapes n)
unfolding shapes
shapes-rise n =
    AllPairs-filter IsEarlier _ _
    (pairs-map IsEarlier IsEarlier (λ xs. Directory n ∷ xs) (λ xs ys e. inr (refl, e)) (each_list n (n - 1)) (lists-rise n (n - 1)))

never-before : (x y : Entry) → IsBefore x y → IsBefore y x → ⊥
never-before x File a b = a
never-before File (Directory n) a b = b
never-before (Directory m) (Directory n) a b = omega arith

never-earlier : (xs ys : List Entry) → IsEarlier xs ys → IsEarlier ys xs → ⊥
never-earlier [] ys e f = e
never-earlier (x ∷ xs) [] e f = e
never-earlier (x ∷ xs) (y ∷ ys) (inl a) (inl b) = never-before x y a b
never-earlier (x ∷ xs) (y ∷ ys) (inl a) (inr f) = let b = rw f.0 at a in never-before x x b b
never-earlier (x ∷ xs) (y ∷ ys) (inr e) (inl b) = let a = rw e.0 at b in never-before y y a a
never-earlier (x ∷ xs) (y ∷ ys) (inr e) (inr f) = never-earlier xs ys e.1 f.1

pub each-once : EachOnce
each-once n h = (
  shapes-rise n,
  λ others rise same. same-elements IsEarlier never-earlier others (shapes n) rise (shapes-rise n)
      (λ shape c. (each-shape n shape h).1 ((same shape).0 c)) (λ shape c. (same shape).1 ((each-shape n shape h).0 c)),
)
