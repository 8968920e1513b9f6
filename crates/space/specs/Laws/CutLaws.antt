-- Runs cut in two: the largest run of a gap, of the bytes that are not a given region's.
-- Assumes nothing.
use Rattle.std.specs.Prelude.{ℕ, zero, suc, ◌+◌, ◌-◌, ◌<◌, ◌≤◌, max, min, ◌≡◌, ◌⊎◌, Bool, not, ◌||◌, List, [], ◌∷◌, ◌++◌}
use Rattle.std.proofs.Math.Path.{refl}
use Rattle.std.proofs.Common.{ap, ◌∙◌, inl, inr, arith, add-zero}
use Rattle.std.proofs.Math.Logic.{⊎_elim}
use Rattle.std.proofs.Math.Bool.{true, false, cond}
use borrow.Author.Tests.{leb-true, leb-false, eqb-true, eqb-false, eq-eqb, ne_eqb}
use Rattle.std.proofs.Math.Dec.{leb, eqb}
use Rattle.space.specs.declared.region.DiscRegion.{DiscRegion}
use Rattle.space.specs.Used.{end_of, is_inside}
use Rattle.space.specs.Free.{join, runs, largest_size}
use Rattle.space.specs.Laws.RunLaws.{FirstFrom, runs-from, from_le}
use Rattle.space.specs.Laws.UsedLaws.{is_inside-low, is_inside-in, is_inside-high}
use Rattle.refusal.specs.Laws.Tests.{lt-or-le}
use Rattle.space.specs.Inner.Scan.{longest_beside}

-- ---- runs, cut at a byte that does not pass

largest-append : (xs ys : List DiscRegion) → largest_size (xs ++ ys) ≡ max (largest_size xs) (largest_size ys)
unfolding largest_size
largest-append [] ys = omega arith
largest-append (x ∷ xs) ys = omega (arith, largest-append xs ys)

join-append : (i : ℕ) (xs ys : List DiscRegion) → FirstFrom (suc (suc i)) ys → join i (xs ++ ys) ≡ join i xs ++ ys
join-append i [] [] f = refl
join-append i [] (y ∷ ys) f = rw (ne_eqb y.offset (suc i) (λ q. omega arith))
join-append i (x ∷ xs) ys f = go (eqb x.offset (suc i))
  where
    go : (t : Bool) → cond t (record { offset = i; size = suc x.size } ∷ (xs ++ ys)) (record { offset = i; size = 1 } ∷ x ∷ (xs ++ ys)) ≡
        cond t (record { offset = i; size = suc x.size } ∷ xs) (record { offset = i; size = 1 } ∷ x ∷ xs) ++ ys
    go true = refl
    go false = refl

runs_append : (p : ℕ → Bool) (i a b : ℕ) → FirstFrom (suc (i + a)) (runs p (i + a) b) → runs p i (a + b) ≡ runs p i a ++ runs p (i + a) b
unfolding runs
runs_append p i zero b f = let z : 0 + b ≡ b = omega arith in rw (z, add-zero)
runs_append p i (suc a) b f =
    let z : suc a + b ≡ suc (a + b) = omega arith in
    let s : i + suc a ≡ suc i + a = omega arith in
    let g : FirstFrom (suc (suc i + a)) (runs p (suc i + a) b) = rw s at f in
    rw (z, s, runs_append p (suc i) a b g) (go g (p i))
  where
    go : FirstFrom (suc (suc i + a)) (runs p (suc i + a) b) → (t : Bool) →
        cond t (join i (runs p (suc i) a ++ runs p (suc i + a) b)) (runs p (suc i) a ++ runs p (suc i + a) b) ≡ cond t (join i (runs p (suc i) a)) (runs p (suc i) a) ++ runs p (suc i + a) b
    go g true = join-append i (runs p (suc i) a) (runs p (suc i + a) b) (from_le (suc (suc i)) _ (runs p (suc i + a) b) (omega arith) g)
    go g false = refl

runs-false-first : (p : ℕ → Bool) (i n : ℕ) → p i ≡ false → FirstFrom (suc i) (runs p i n)
unfolding runs
runs-false-first p i zero e = tt
runs-false-first p i (suc n) e = rw e (runs-from p (suc i) n)

-- the largest of two stretches, where a byte that does not pass starts the second
pub largest-split : (p : ℕ → Bool) (i a b : ℕ) → p (i + a) ≡ false → largest_size (runs p i (a + b)) ≡ max (largest_size (runs p i a)) (largest_size (runs p (i + a) b))
largest-split p i a b e = rw (runs_append p i a b (runs-false-first p (i + a) b e)) (largest-append (runs p i a) (runs p (i + a) b))

-- a stretch that does not pass adds nothing
pub runs_past : (p : ℕ → Bool) (i a b : ℕ) → ((j : ℕ) → i ≤ j → j < i + a → p j ≡ false) → runs p i (a + b) ≡ runs p (i + a) b
unfolding runs
runs_past p i zero b h = let z : 0 + b ≡ b = omega arith in rw (z, add-zero)
runs_past p i (suc a) b h =
    let z : suc a + b ≡ suc (a + b) = omega arith in
    let s : i + suc a ≡ suc i + a = omega arith in
    rw (z, s, h i (omega arith) (omega arith)) (runs_past p (suc i) a b (λ j u v. h j (omega arith) (omega arith)))

-- a stretch that passes is one run
runs-whole : (p : ℕ → Bool) (i n : ℕ) → ((j : ℕ) → i ≤ j → j < i + suc n → p j ≡ true) → runs p i (suc n) ≡ record { offset = i; size = suc n } ∷ []
unfolding runs
runs-whole p i zero h = rw (h i (omega arith) (omega arith))
runs-whole p i (suc n) h =
    rw (h i (omega arith) (omega arith), runs-whole p (suc i) n (λ j u v. h j (omega arith) (omega arith)), eq-eqb (suc i) (suc i) refl)

largest-whole : (p : ℕ → Bool) (i n : ℕ) → ((j : ℕ) → i ≤ j → j < i + n → p j ≡ true) → largest_size (runs p i n) ≡ n
unfolding largest_size
largest-whole p i zero h = unfold runs in refl
largest-whole p i (suc n) h = rw (runs-whole p i n h) (omega arith)

-- ---- one gap

module _ (p : ℕ → Bool) (a b : ℕ) (r : DiscRegion) (h : (j : ℕ) → a ≤ j → j < b → p j ≡ not (is_inside r j)) where
  apart : (r.size ≡ 0) ⊎ ((end_of r ≤ a) ⊎ (b ≤ r.offset)) → (j : ℕ) → a ≤ j → j < b → p j ≡ true
  apart c j u v =
      h j u v ∙ ap not (⊎_elim (λ z. ⊎_elim (λ k. is_inside-low r j k) (λ k. is_inside-high r j (omega arith)) (lt-or-le j r.offset))
      (λ d. ⊎_elim (λ z. is_inside-high r j (omega arith)) (λ z. is_inside-low r j (omega arith)) d) c)

  whole-gap : (r.size ≡ 0) ⊎ ((end_of r ≤ a) ⊎ (b ≤ r.offset)) → largest_size (runs p a (b - a)) ≡ b - a
  whole-gap c = largest-whole p a (b - a) (λ j u v. apart c j u (omega arith))

  cut-gap : 0 < r.size → a < end_of r → r.offset < b → a < b → largest_size (runs p a (b - a)) ≡ max (r.offset - a) (b - end_of r)
  cut-gap s u v w =
      let n : b - a ≡ (r.offset - a) + ((min (end_of r) b - max a r.offset) + (b - end_of r)) = omega arith in
      let m : a + (r.offset - a) ≡ max a r.offset = omega arith in
      let o : max a r.offset + (min (end_of r) b - max a r.offset) ≡ min (end_of r) b = omega arith in
      rw (
        n,
        largest-split p a (r.offset - a) _ (rw m (h (max a r.offset) (omega arith) (omega arith) ∙ rw (is_inside-in r (max a r.offset) (omega arith) (omega arith)))),
        m,
        runs_past p (max a r.offset) (min (end_of r) b - max a r.offset) (b - end_of r) (λ j x y. h j (omega arith) (omega arith) ∙ rw (is_inside-in r j (omega arith) (omega arith))),
        o,
        largest-whole p a (r.offset - a) (λ j x y. h j x (omega arith) ∙ rw (is_inside-low r j (omega arith))),
        largest-whole p (min (end_of r) b) (b - end_of r) (λ j x y. h j (omega arith) (omega arith) ∙ rw (is_inside-high r j (omega arith))),
      )

  no_gap : a ≡ b → r.offset < b → a < end_of r → largest_size (runs p a (b - a)) ≡ max (r.offset - a) (b - end_of r)
  no_gap q u v = let z : b - a ≡ 0 = omega arith in rw z (unfold runs largest_size in omega arith)

  -- the longest run of a gap, of the bytes that are not the region's
  pub longest-gap : a ≤ b → largest_size (runs p a (b - a)) ≡ longest_beside a b r
  unfolding longest_beside
  longest-gap w = go (eqb r.size 0) refl (leb (end_of r) a) refl (leb b r.offset) refl
    where
      go : (x : Bool) → eqb r.size 0 ≡ x → (y : Bool) → leb (end_of r) a ≡ y → (z : Bool) → leb b r.offset ≡ z →
          largest_size (runs p a (b - a)) ≡ cond (x || (y || z)) (b - a) (max (r.offset - a) (b - end_of r))
      go true q y _ z _ = whole-gap (inl (eqb-true r.size 0 q))
      go false q true k z _ = whole-gap (inr (inl (leb-true (end_of r) a k)))
      go false q false k true l = whole-gap (inr (inr (leb-true b r.offset l)))
      go false q false k false l =
          ⊎_elim (cut-gap (omega (arith, eqb-false r.size 0 q)) (leb-false (end_of r) a k) (leb-false b r.offset l))
          (λ g. no_gap (omega arith) (leb-false b r.offset l) (leb-false (end_of r) a k)) (lt-or-le a b)
