-- Where files fit, the placement is one: aligned, behind the table, by the disc end, no byte in two files; and an empty file has offset 0.
-- Assumes nothing.
use Rattle.std.specs.Prelude.{ℕ, zero, suc, ◌+◌, ◌-◌, ◌%◌, ◌<◌, ◌≤◌, max, ◌≡◌, ◌⊎◌, Bool, if◌then◌else◌, List, [], ◌∷◌, leb, eqb, length, get_or}
use Rattle.std.proofs.Math.Path.{refl}
use Rattle.std.proofs.Common.{inl, inr, ⊎_elim}
use Rattle.std.proofs.Math.Bool.{true, false}
use native.Mathlib.Omega.{arith}
use borrow.Author.Tests.{leb-true, leb-false, eqb-true, eqb-false, eq-eqb, ne_eqb}
use Rattle.refusal.specs.Laws.Tests.{and_left, and_right}
use Rattle.space.specs.Align.{align_up}
use Rattle.placement.specs.Places.{IsInFile, IsPlaced}
use Rattle.placement.specs.Placement.{whole_size, unused_rest, whole_total, largest_rest, are_all_empty, least_end, is_placeable, offset_at, offsets_in_order, offsets_with_last, last_file, offsets_of}
use Rattle.placement.proofs.Laws.Complete.{whole-unused}

-- ---- clusters

whole_multiple : (s : ℕ) → whole_size s % 0x8000 ≡ 0
unfolding align_up
whole_multiple s = omega arith

next_multiple : (p s : ℕ) → p % 0x8000 ≡ 0 → (p + whole_size s) % 0x8000 ≡ 0
next_multiple p s h = omega (arith, whole_multiple s)

sum-multiple : (ss : List ℕ) → whole_total ss % 0x8000 ≡ 0
unfolding whole_total
sum-multiple [] = refl
sum-multiple (s ∷ ss) = omega (arith, whole_multiple s, sum-multiple ss)

pub sum-holds : (ss : List ℕ) (k : ℕ) → whole_size (get_or ss k 0) ≤ whole_total ss
unfolding whole_total
sum-holds [] k = unfold align_up in omega arith
sum-holds (s ∷ ss) zero = omega arith
sum-holds (s ∷ ss) (suc k) = omega (arith, sum-holds ss k)

-- ---- where a file begins

pub start-some : (p s : ℕ) → 0 < s → offset_at p s ≡ p
start-some p s h = rw (ne_eqb s 0 (λ e. omega arith))

start_none : (p s : ℕ) → s ≡ 0 → offset_at p s ≡ 0
start_none p s h = rw (eq-eqb s 0 h)

-- a file at o lies between a and e, in whole clusters
record Lies (a e o s : ℕ) : Type 0 where
  from : a ≤ o
  to : o + whole_size s ≤ e
  multiple : o % 0x8000 ≡ 0

lies-in-order : (p : ℕ) (ss : List ℕ) (i : ℕ) → p % 0x8000 ≡ 0 → 0 < get_or ss i 0 → Lies p (p + whole_total ss) (get_or (offsets_in_order p ss) i 0) (get_or ss i 0)
unfolding offsets_in_order whole_total
lies-in-order p [] i m z = absurd (omega arith)
lies-in-order p (s ∷ ss) zero m z = rw (start-some p s z) (record { from = omega arith; to = omega arith; multiple = m })
lies-in-order p (s ∷ ss) (suc i) m z =
    let f = lies-in-order (p + whole_size s) ss i (next_multiple p s m) z in
    record { from = omega (arith, f.from); to = omega (arith, f.to); multiple = f.multiple }

rising-in-order : (p : ℕ) (ss : List ℕ) (i j : ℕ) → p % 0x8000 ≡ 0 → i < j → 0 < get_or ss i 0 → 0 < get_or ss j 0 → get_or (offsets_in_order p ss) i 0 + whole_size (get_or ss i 0) ≤ get_or (offsets_in_order p ss) j 0
unfolding offsets_in_order
rising-in-order p [] i j m l y z = absurd (omega arith)
rising-in-order p (s ∷ ss) i zero m l y z = absurd (omega arith)
rising-in-order p (s ∷ ss) zero (suc j) m l y z = rw (start-some p s y) (lies-in-order (p + whole_size s) ss j (next_multiple p s m) z).from
rising-in-order p (s ∷ ss) (suc i) (suc j) m l y z = rising-in-order (p + whole_size s) ss i j (next_multiple p s m) (omega arith) y z

-- with file k last, the others lie before it
lies-before : (k p : ℕ) (ss : List ℕ) (i : ℕ) → p % 0x8000 ≡ 0 → (i ≡ k → ⊥) → 0 < get_or ss i 0 → Lies p (p + whole_total ss - whole_size (get_or ss k 0)) (get_or (offsets_with_last k p ss) i 0) (get_or ss i 0)
unfolding offsets_with_last whole_total
lies-before k p [] i m n z = absurd (omega arith)
lies-before zero p (s ∷ ss) zero m n z = absurd (n refl)
lies-before zero p (s ∷ ss) (suc i) m n z =
    let f = lies-in-order p ss i m z in
    record { from = f.from; to = omega (arith, f.to); multiple = f.multiple }
lies-before (suc k) p (s ∷ ss) zero m n z = rw (start-some p s z) (record { from = omega arith; to = omega (arith, sum-holds ss k); multiple = m })
lies-before (suc k) p (s ∷ ss) (suc i) m n z =
    let f = lies-before k (p + whole_size s) ss i (next_multiple p s m) (λ e. n (omega arith)) z in
    record { from = omega (arith, f.from); to = omega (arith, f.to, sum-holds ss k); multiple = f.multiple }

rising-before : (k p : ℕ) (ss : List ℕ) (i j : ℕ) → p % 0x8000 ≡ 0 → (i ≡ k → ⊥) → (j ≡ k → ⊥) → i < j → 0 < get_or ss i 0 → 0 < get_or ss j 0 →
    get_or (offsets_with_last k p ss) i 0 + whole_size (get_or ss i 0) ≤ get_or (offsets_with_last k p ss) j 0
unfolding offsets_with_last
rising-before k p [] i j m u v l y z = absurd (omega arith)
rising-before k p (s ∷ ss) i zero m u v l y z = absurd (omega arith)
rising-before zero p (s ∷ ss) zero (suc j) m u v l y z = absurd (u refl)
rising-before zero p (s ∷ ss) (suc i) (suc j) m u v l y z = rising-in-order p ss i j m (omega arith) y z
rising-before (suc k) p (s ∷ ss) zero (suc j) m u v l y z = rw (start-some p s y) (lies-before k (p + whole_size s) ss j (next_multiple p s m) (λ e. v (omega arith)) z).from
rising-before (suc k) p (s ∷ ss) (suc i) (suc j) m u v l y z = rising-before k (p + whole_size s) ss i j (next_multiple p s m) (λ e. u (omega arith)) (λ e. v (omega arith)) (omega arith) y z

-- LAW: the last file ends, in whole clusters, where all files together end
last-ends : (k p : ℕ) (ss : List ℕ) → 0 < get_or ss k 0 → get_or (offsets_with_last k p ss) k 0 + whole_size (get_or ss k 0) ≡ p + whole_total ss
unfolding offsets_with_last whole_total
last-ends k p [] z = absurd (omega arith)
last-ends zero p (s ∷ ss) z = rw (start-some (p + whole_total ss) s z) (omega arith)
last-ends (suc k) p (s ∷ ss) z = omega (arith, last-ends k (p + whole_size s) ss z)

-- LAW: an offset for each file, and an empty one has 0
length-in-order : (p : ℕ) (ss : List ℕ) → length (offsets_in_order p ss) ≡ length ss
unfolding offsets_in_order
length-in-order p [] = refl
length-in-order p (s ∷ ss) = omega (arith, length-in-order (p + whole_size s) ss)

pub length-with-last : (k p : ℕ) (ss : List ℕ) → length (offsets_with_last k p ss) ≡ length ss
unfolding offsets_with_last
length-with-last k p [] = refl
length-with-last zero p (s ∷ ss) = omega (arith, length-in-order p ss)
length-with-last (suc k) p (s ∷ ss) = omega (arith, length-with-last k (p + whole_size s) ss)

empty-in-order : (p : ℕ) (ss : List ℕ) (i : ℕ) → get_or ss i 0 ≡ 0 → get_or (offsets_in_order p ss) i 0 ≡ 0
unfolding offsets_in_order
empty-in-order p [] i z = refl
empty-in-order p (s ∷ ss) zero z = start_none p s z
empty-in-order p (s ∷ ss) (suc i) z = empty-in-order (p + whole_size s) ss i z

empty-with-last : (k p : ℕ) (ss : List ℕ) (i : ℕ) → get_or ss i 0 ≡ 0 → get_or (offsets_with_last k p ss) i 0 ≡ 0
unfolding offsets_with_last
empty-with-last k p [] i z = refl
empty-with-last zero p (s ∷ ss) zero z = start_none (p + whole_total ss) s z
empty-with-last zero p (s ∷ ss) (suc i) z = empty-in-order p ss i z
empty-with-last (suc k) p (s ∷ ss) zero z = start_none p s z
empty-with-last (suc k) p (s ∷ ss) (suc i) z = empty-with-last k (p + whole_size s) ss i z

pub empty-at-0 : (t : ℕ) (ss : List ℕ) (i : ℕ) → get_or ss i 0 ≡ 0 → get_or (offsets_of t ss) i 0 ≡ 0
unfolding offsets_of
empty-at-0 t ss i z = empty-with-last (last_file ss) (whole_size t) ss i z

-- LAW: the last file is the one with the largest unused rest
pub last-largest : (ss : List ℕ) → unused_rest (get_or ss (last_file ss) 0) ≡ largest_rest ss
unfolding last_file largest_rest
last-largest [] = unfold align_up in refl
last-largest (s ∷ ss) = go (leb (largest_rest ss) (unused_rest s)) refl (last-largest ss)
  where
    go : (b : Bool) → leb (largest_rest ss) (unused_rest s) ≡ b → unused_rest (get_or ss (last_file ss) 0) ≡ largest_rest ss → unused_rest (get_or (s ∷ ss) (if b then 0 else suc (last_file ss)) 0) ≡ max (unused_rest s) (largest_rest ss)
    go true e h = omega (arith, leb-true (largest_rest ss) (unused_rest s) e)
    go false e h = omega (arith, leb-false (largest_rest ss) (unused_rest s) e)

-- ---- LAW

same-or-other : (i k : ℕ) → (i ≡ k) ⊎ (i ≡ k → ⊥)
same-or-other i k = go (eqb i k) refl
  where
    go : (b : Bool) → eqb i k ≡ b → (i ≡ k) ⊎ (i ≡ k → ⊥)
    go true e = inl (eqb-true i k e)
    go false e = inr (eqb-false i k e)

not-all-empty : (ss : List ℕ) (i : ℕ) → 0 < get_or ss i 0 → are_all_empty ss ≡ true → ⊥
unfolding are_all_empty
not-all-empty [] i z e = absurd (omega arith)
not-all-empty (s ∷ ss) zero z e = omega (arith, eqb-true s 0 (and_left (eqb s 0) (are_all_empty ss) e))
not-all-empty (s ∷ ss) (suc i) z e = not-all-empty ss i z (and_right (eqb s 0) (are_all_empty ss) e)

module _ (t d : ℕ) (sizes : List ℕ) (h : is_placeable t d sizes ≡ true) where
  abbrev k : ℕ
  k = last_file sizes

  abbrev at : ℕ → ℕ
  at i = get_or (offsets_with_last k (whole_size t) sizes) i 0

  abbrev size : ℕ → ℕ
  size i = get_or sizes i 0

  needs : least_end t sizes ≤ d
  unfolding is_placeable
  needs = leb-true (least_end t sizes) d h

  -- what all files together need, where there is one
  room : (i : ℕ) → 0 < size i → whole_size t + whole_total sizes ≤ d + unused_rest (size k)
  unfolding least_end
  room i z = go (are_all_empty sizes) refl
    where
      go : (b : Bool) → are_all_empty sizes ≡ b → whole_size t + whole_total sizes ≤ d + unused_rest (size k)
      go true e = absurd (not-all-empty sizes i z e)
      go false e = omega (arith, rw e at needs, last-largest sizes)

  table : t ≤ d
  unfolding least_end
  table = go (are_all_empty sizes) refl
    where
      go : (b : Bool) → are_all_empty sizes ≡ b → t ≤ d
      go true e = rw e at needs
      go false e = omega (arith, rw e at needs, last-largest sizes, sum-holds sizes k, whole-unused (size k), whole-unused t)

  other : (i : ℕ) → (i ≡ k → ⊥) → 0 < size i → Lies (whole_size t) (whole_size t + whole_total sizes - whole_size (size k)) (at i) (size i)
  other i n z = lies-before k (whole_size t) sizes i (whole_multiple t) n z

  last : 0 < size k → Lies (whole_size t) (whole_size t + whole_total sizes) (at k) (size k)
  last z =
      let e = last-ends k (whole_size t) sizes z in
      record { from = omega (arith, sum-holds sizes k); to = omega arith; multiple = omega (arith, whole_multiple t, whole_multiple (size k), sum-multiple sizes) }

  lies : (i : ℕ) → 0 < size i → Lies (whole_size t) (whole_size t + whole_total sizes) (at i) (size i)
  lies i z = ⊎_elim (λ e. rw e (last (rw e at z))) (λ n. let f = other i n z in record { from = f.from; to = omega (arith, f.to); multiple = f.multiple }) (same-or-other i k)

  within : (i : ℕ) → 0 < size i → at i + size i ≤ d
  within i z =
      ⊎_elim (λ e. rw e (omega (arith, room i z, last-ends k (whole_size t) sizes (rw e at z), whole-unused (size k))))
      (λ n. omega (arith, room i z, (other i n z).to, whole-unused (size i), whole-unused (size k), sum-holds sizes k)) (same-or-other i k)

  -- of two files one ends before the other begins
  one-first : (i j : ℕ) → i < j → 0 < size i → 0 < size j → (at i + size i ≤ at j) ⊎ (at j + size j ≤ at i)
  one-first i j l y z =
      ⊎_elim (λ e. inr (rw e (omega (arith, (other j (λ q. omega arith) z).to, last-ends k (whole_size t) sizes (rw e at y), whole-unused (size j)))))
      (λ (n : i ≡ k → ⊥). ⊎_elim (λ e. inl (rw e (omega (arith, (other i n y).to, last-ends k (whole_size t) sizes (rw e at z), whole-unused (size i)))))
      (λ q. inl (omega (arith, rising-before k (whole_size t) sizes i j (whole_multiple t) n q l y z, whole-unused (size i)))) (same-or-other j k)) (same-or-other i k)

  apart : (i j : ℕ) → i < j → (b : ℕ) → IsInFile sizes (offsets_with_last k (whole_size t) sizes) i b → IsInFile sizes (offsets_with_last k (whole_size t) sizes) j b → ⊥
  apart i j l b u v = ⊎_elim (λ f. omega (arith, u.0, u.1, v.0, v.1)) (λ f. omega (arith, u.0, u.1, v.0, v.1)) (one-first i j l (omega (arith, u.0, u.1)) (omega (arith, v.0, v.1)))

  -- LAW: where the files fit, they are placed
  pub sound : IsPlaced t d sizes (offsets_of t sizes)
  unfolding offsets_of
  sound = record {
    each = length-with-last k (whole_size t) sizes;
    table = table;
    multiple = λ i z. (lies i z).multiple;
    behind = λ i z. omega (arith, (lies i z).from, whole-unused t);
    within = within;
    apart = apart;
  }
