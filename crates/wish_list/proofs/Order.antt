-- The order of paths, and the paths that another begins with. Assumes nothing.
use Rattle.std.specs.Prelude.{ℕ, zero, suc, ◌<◌, ◌≤◌, ◌≡◌, refl, Bool, true, false, not, ◌&&◌, List, [], ◌∷◌, length, take, ◌==◌, slice_index}
use Rattle.std.proofs.Math.Bool.{and-true}
use Rattle.std.proofs.Common.{ap, sym, ◌∙◌, ⊎_elim, arith}
use Rattle.std.proofs.lemmas.Bool.{false≢true, eq-eqb, eqb-true, ne_eqb, not-false, not-true}
use Rattle.std.proofs.lemmas.Bool.Decides.{nat_tests}
use Rattle.std.specs.Cmp.Lexicographic.{slice_partial_cmp}
use Rattle.std.specs.Ordering.{MatchOrdering, nat_cmp, is_le, is_some_and}
use Rattle.std.proofs.Common.{Ordering, Less, Equal, Greater, Some}
use Rattle.std.proofs.lemmas.Cmp.{same_from_slice_cmp_tested, ranked}
use Rattle.endian.specs.Bytes.{are_same_bytes}
use Rattle.refusal.specs.Laws.Tests.{lt-or-eq-or-gt, same_test}
use Rattle.wish_list.specs.Paths.{is_below, is_used_by}
use Rattle.wish_list.specs.Inner.Earlier.{common_length}

eqb-turned : (x y : ℕ) → (x == y) ≡ (y == x)
eqb-turned x y = same_test (x == y) (y == x) (λ e. eq-eqb y x (sym (eqb-true x y e))) (λ e. eq-eqb x y (sym (eqb-true y x e)))

-- ---- two paths with a first byte each

module _ (x y : ℕ) (xs ys : List ℕ) where
  below-less : x < y → is_below (x ∷ xs) (y ∷ ys) ≡ true
  below-less h = grind (arith, nat_tests)

  below-same : x ≡ y → is_below (x ∷ xs) (y ∷ ys) ≡ is_below xs ys
  below-same h = grind (arith, nat_tests)

  below-more : y < x → is_below (x ∷ xs) (y ∷ ys) ≡ false
  below-more h = grind (arith, nat_tests)

  common-same : x ≡ y → common_length (x ∷ xs) (y ∷ ys) ≡ suc (common_length xs ys)
  common-same h = grind (arith, nat_tests)

  common-less : x < y → common_length (x ∷ xs) (y ∷ ys) ≡ 0
  common-less h = grind (arith, nat_tests)

  used-same : x ≡ y → is_used_by (x ∷ xs) (y ∷ ys) ≡ is_used_by xs ys
  used-same h = rw (eq-eqb x y h)

  used-other : (x ≡ y → ⊥) → is_used_by (x ∷ xs) (y ∷ ys) ≡ false
  used-other h = rw (ne_eqb x y h)

  bytes-same : x ≡ y → are_same_bytes (x ∷ xs) (y ∷ ys) ≡ are_same_bytes xs ys
  unfolding are_same_bytes
  bytes-same h = grind (arith, nat_tests)

  bytes-other : (x ≡ y → ⊥) → are_same_bytes (x ∷ xs) (y ∷ ys) ≡ false
  unfolding are_same_bytes
  bytes-other h = rw (ne_eqb x y h)

used-none : (y : ℕ) (ys : List ℕ) → is_used_by [] (y ∷ ys) ≡ (y == 0x2F)
used-none y ys = and-true (0x2F == y) ∙ eqb-turned 0x2F y

module _ {G : Type 0} (x y : ℕ) (xs ys : List ℕ) where
  -- a path before another: its first byte is below the other's, or the same
  if_below : is_below (x ∷ xs) (y ∷ ys) ≡ true → (x < y → G) → (x ≡ y → is_below xs ys ≡ true → G) → G
  if_below h less same =
      ⊎_elim less
      (⊎_elim (λ (e : x ≡ y). same e (sym (below-same x y xs ys e) ∙ h))
      (λ (g : y < x). absurd (false≢true (sym (below-more x y xs ys g) ∙ h))))
      (lt-or-eq-or-gt x y)

  if_not_below : is_below (x ∷ xs) (y ∷ ys) ≡ false → (y < x → G) → (x ≡ y → is_below xs ys ≡ false → G) → G
  if_not_below h more same =
      ⊎_elim (λ (l : x < y). absurd (false≢true (sym h ∙ below-less x y xs ys l)))
      (⊎_elim (λ (e : x ≡ y). same e (sym (below-same x y xs ys e) ∙ h)) more)
      (lt-or-eq-or-gt x y)

-- ---- the order

-- what is not behind a path is not behind one that comes later
pub below-later : (last path file : List ℕ) → is_below last path ≡ true → is_below last file ≡ false → is_below path file ≡ false
below-later [] [] file h g = absurd (false≢true h)
below-later [] (y ∷ path) [] h g = refl
below-later [] (y ∷ path) (z ∷ file) h g = absurd (false≢true (sym g))
below-later (x ∷ last) [] file h g = absurd (false≢true h)
below-later (x ∷ last) (y ∷ path) [] h g = refl
below-later (x ∷ last) (y ∷ path) (z ∷ file) h g =
    if_below x y last path h
    (λ (l : x < y). if_not_below x z last file g (λ (m : z < x). below-more y z path file (omega arith)) (λ (e : x ≡ z) q. below-more y z path file (omega arith)))
    (λ (d : x ≡ y) p. if_not_below x z last file g (λ (m : z < x). below-more y z path file (omega arith)) (λ (e : x ≡ z) q. below-same y z path file (sym d ∙ e) ∙ below-later last path file p q))

pub below-itself : (path : List ℕ) → is_below path path ≡ false
below-itself [] = refl
below-itself (x ∷ path) = below-same x x path path refl ∙ below-itself path

pub used-itself : (path : List ℕ) → is_used_by path path ≡ false
used-itself [] = refl
used-itself (x ∷ path) = used-same x x path path refl ∙ used-itself path

pub bytes-front : (path : List ℕ) (n : ℕ) → n < length path → are_same_bytes path (take n path) ≡ false
unfolding are_same_bytes
bytes-front [] n h = absurd (omega arith)
bytes-front (x ∷ path) zero h = refl
bytes-front (x ∷ path) (suc n) h = bytes-same x x path (take n path) refl ∙ bytes-front path n (omega arith)

-- `<=` tests it the other way round
le-below : (path last : List ℕ) (r : Bool) → r ≡ is_some_and is_le (slice_partial_cmp (λ x y. Some (nat_cmp x y)) path last) → r ≡ not (is_below last path)
le-below = same_from_slice_cmp_tested nat_cmp is_le (λ xs ys. not (is_below ys xs)) refl (λ _ _. refl) (λ _ _. refl) step
  where
    step : (x y : ℕ) (xs ys : List ℕ) (o : Ordering) → o ≡ nat_cmp x y → MatchOrdering o (not (is_below (y ∷ ys) (x ∷ xs)) ≡ true) (not (is_below (y ∷ ys) (x ∷ xs)) ≡ not (is_below ys xs)) (not (is_below (y ∷ ys) (x ∷ xs)) ≡ false)
    step x y xs ys Less e = ap not (below-more y x ys xs (ranked x y Less e))
    step x y xs ys Equal e = ap not (below-same y x ys xs (sym (ranked x y Equal e)))
    step x y xs ys Greater e = ap not (below-less y x ys xs (ranked x y Greater e))

module _ (path last : List ℕ) (r : Bool) (e : r ≡ is_some_and is_le (slice_partial_cmp (λ x y. Some (nat_cmp x y)) path last)) where
  pub below-if_not_le : r ≡ false → is_below last path ≡ true
  below-if_not_le h = not-false (is_below last path) (sym (le-below path last r e) ∙ h)

  pub not_below-if_le : r ≡ true → is_below last path ≡ false
  not_below-if_le h = not-true (is_below last path) (sym (le-below path last r e) ∙ h)

-- ---- what a path has in common with one before it

pub common-within_last : (last path : List ℕ) → common_length last path ≤ length last
common-within_last [] path = omega arith
common-within_last (x ∷ last) [] = omega arith
common-within_last (x ∷ last) (y ∷ path) = let r = common-within_last last path in grind (arith, nat_tests)

-- there is a byte behind it
common-within : (last path : List ℕ) → is_below last path ≡ true → common_length last path < length path
common-within [] [] h = absurd (false≢true h)
common-within [] (y ∷ path) h = omega arith
common-within (x ∷ last) [] h = absurd (false≢true h)
common-within (x ∷ last) (y ∷ path) h =
    if_below x y last path h
    (λ (l : x < y). rw (common-less x y last path l) (omega arith))
    (λ (e : x ≡ y) p. let r = common-within last path p in rw (common-same x y last path e) (omega arith))

pub within-if_not_le : (path last : List ℕ) (r : Bool) → r ≡ is_some_and is_le (slice_partial_cmp (λ x y. Some (nat_cmp x y)) path last) → r ≡ false →
    (n : ℕ) → n ≡ common_length last path → n < length path
within-if_not_le path last r e h n m = rw m (common-within last path (below-if_not_le path last r e h))

pub take-common : (last path : List ℕ) (n : ℕ) → is_below last path ≡ true → n ≤ common_length last path → take n last ≡ take n path
take-common last path zero h m = refl
take-common [] path (suc n) h m = absurd (omega arith)
take-common (x ∷ last) [] (suc n) h m = absurd (omega arith)
take-common (x ∷ last) (y ∷ path) (suc n) h m =
    if_below x y last path h
    (λ (l : x < y). let z = rw (common-less x y last path l) at m in absurd (omega arith))
    (λ (e : x ≡ y) p. let z = rw (common-same x y last path e) at m in let r = take-common last path n p (omega arith) in rw (e, r))

-- LAW: a file that is not behind the last path, and no directory around that one, is a directory around the next path if it is what the two
-- have in common, and the next byte is `/`
pub used-common : (last path file : List ℕ) → is_below last path ≡ true → is_below last file ≡ false → is_used_by file last ≡ false →
    is_used_by file path ≡ (are_same_bytes file (take (common_length last path) last) && (slice_index path (common_length last path) == 0x2F))
unfolding are_same_bytes
used-common [] [] file h g u = absurd (false≢true h)
used-common [] (y ∷ path) [] h g u = used-none y path
used-common [] (y ∷ path) (z ∷ file) h g u = absurd (false≢true (sym g))
used-common (x ∷ last) [] file h g u = absurd (false≢true h)
used-common (x ∷ last) (y ∷ path) [] h g u =
    if_below x y last path h
    (λ (l : x < y). rw (common-less x y last path l) (used-none y path))
    (λ (e : x ≡ y) p. rw (common-same x y last path e) (used-none y path ∙ (rw e at (sym (used-none x last) ∙ u))))
used-common (x ∷ last) (y ∷ path) (z ∷ file) h g u =
    if_below x y last path h
    (λ (l : x < y). rw (common-less x y last path l) (used-other z y file path (if_not_below x z last file g (λ (m : z < x) e. omega arith) (λ (d : x ≡ z) q e. omega arith))))
    (λ (e : x ≡ y) p. if_not_below x z last file g
    (λ (m : z < x). rw (common-same x y last path e, used-other z y file path (λ d. omega arith)) (rw (bytes-other z x file (take (common_length last path) last) (λ d. omega arith))))
    (λ (d : x ≡ z) q. rw (common-same x y last path e, used-same z y file path (sym d ∙ e)) (rw (bytes-same z x file (take (common_length last path) last) (sym d)) (used-common last path file p q (sym (used-same z x file last (sym d)) ∙ u)))))

-- LAW: a file that is not behind the last path is no longer front of the next path
pub bytes-common : (last path file : List ℕ) (n : ℕ) → is_below last path ≡ true → is_below last file ≡ false → common_length last path < n → n ≤ length path →
    are_same_bytes file (take n path) ≡ false
unfolding are_same_bytes
bytes-common last path file zero h g m w = absurd (omega arith)
bytes-common [] [] file (suc n) h g m w = absurd (omega arith)
bytes-common [] (y ∷ path) [] (suc n) h g m w = refl
bytes-common [] (y ∷ path) (z ∷ file) (suc n) h g m w = absurd (false≢true (sym g))
bytes-common (x ∷ last) [] file (suc n) h g m w = absurd (omega arith)
bytes-common (x ∷ last) (y ∷ path) [] (suc n) h g m w = refl
bytes-common (x ∷ last) (y ∷ path) (z ∷ file) (suc n) h g m w =
    if_below x y last path h
    (λ (l : x < y). bytes-other z y file (take n path) (if_not_below x z last file g (λ (k : z < x) e. omega arith) (λ (d : x ≡ z) q e. omega arith)))
    (λ (e : x ≡ y) p. if_not_below x z last file g
    (λ (k : z < x). bytes-other z y file (take n path) (λ d. omega arith))
    (λ (d : x ≡ z) q. let r = rw (common-same x y last path e) at m in bytes-same z y file (take n path) (sym d ∙ e) ∙ bytes-common last path file n p q (omega arith) (omega arith)))
