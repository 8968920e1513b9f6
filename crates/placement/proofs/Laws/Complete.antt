-- Where files can be placed at all, whatever the offsets and the order on disc, they fit. Each file is rounded up to whole clusters: since it begins on
-- a multiple of 0x8000 the rounded files stay apart and behind the table rounded up, and they end at most the largest unused rest past the disc end. Used
-- bytes and free bytes together make up a disc (`total-free` of space), so apart regions in an interval are together at most as long as it.
-- Assumes nothing.
use Rattle.std.specs.Prelude.{ℕ, zero, suc, ◌+◌, ◌%◌, ◌<◌, ◌≤◌, max, ◌≡◌, refl, ◌⊎◌, Bool, ◌&&◌, List, [], ◌∷◌, leb, length, get_or}
use Rattle.std.proofs.Common.{sym, inl, inr, ⊎_elim}
use Rattle.std.proofs.Math.Bool.{true, false}
use Rattle.std.proofs.lemmas.Bool.{false≢true}
use native.Mathlib.Omega.{arith}
use borrow.Author.Tests.{le-leb}
use Rattle.refusal.specs.Laws.Tests.{lt-or-le, and_both}
use Rattle.space.specs.declared.region.DiscRegion.{DiscRegion}
use Rattle.space.specs.Used.{end_of, total_size}
use Rattle.space.specs.Layout.{are_disjoint, is_disjoint_from_all, are_pairwise_disjoint, are_below, are_disjoint_below}
use Rattle.space.specs.Align.{align_up}
use Rattle.space.specs.Laws.LayoutLaws.{is_inside-from, is_inside-to, is_inside-are_disjoint}
use Rattle.space.specs.Laws.SizeLaws.{total_size-cons}
use Rattle.space.specs.Laws.TotalLaws.{total-free}
use Rattle.placement.specs.Places.{IsPlaced}
use Rattle.placement.specs.Placement.{whole_size, unused_rest, whole_total, largest_rest, are_all_empty, least_end, is_placeable}

-- ---- rounding up

-- what begins on a multiple of 0x8000 and ends by another, ends by it in whole clusters too
whole_by : (o s n : ℕ) → o % 0x8000 ≡ 0 → n % 0x8000 ≡ 0 → o + s ≤ n → o + whole_size s ≤ n
unfolding align_up
whole_by o s n a b h = omega arith

table-by : (t n : ℕ) → n % 0x8000 ≡ 0 → t ≤ n → whole_size t ≤ n
unfolding align_up
table-by t n b h = omega arith

pub whole-none : whole_size 0 ≡ 0
unfolding align_up
whole-none = refl

pub whole-unused : (s : ℕ) → s + unused_rest s ≡ whole_size s
unfolding align_up
whole-unused s = omega arith

unused-most : (ss : List ℕ) (i : ℕ) → unused_rest (get_or ss i 0) ≤ largest_rest ss
unfolding largest_rest
unused-most [] i = unfold align_up in omega arith
unused-most (s ∷ ss) zero = omega arith
unused-most (s ∷ ss) (suc i) = omega (arith, unused-most ss i)

-- ---- two files

-- no byte in both: one ends before the other begins
two-apart : (o s p r : ℕ) → 0 < s → 0 < r → ((b : ℕ) → (o ≤ b) × (b < o + s) → (p ≤ b) × (b < p + r) → ⊥) → (o + s ≤ p) ⊎ (p + r ≤ o)
two-apart o s p r z y h =
    ⊎_elim (λ u. ⊎_elim (λ v. absurd (h (max o p) (omega arith, omega arith) (omega arith, omega arith))) (λ v. inr v) (lt-or-le o (p + r))) (λ u. inl u) (lt-or-le p (o + s))

apart-disjoint : (a b : DiscRegion) → (end_of a ≤ b.offset) ⊎ (end_of b ≤ a.offset) → are_disjoint a b ≡ true
apart-disjoint a b h =
    is_inside-are_disjoint a b (λ i u v. ⊎_elim (λ l. omega (arith, is_inside-to a i u, is_inside-from b i v)) (λ l. omega (arith, is_inside-to b i v, is_inside-from a i u)) h)

-- ---- the files in whole clusters, as a list of regions

abbrev whole_at : List ℕ → List ℕ → ℕ → DiscRegion
whole_at ss os i = record { offset = get_or os i 0; size = whole_size (get_or ss i 0) }

whole_regions : List ℕ → List ℕ → List DiscRegion
whole_regions [] os = []
whole_regions (s ∷ ss) [] = []
whole_regions (zero ∷ ss) (o ∷ os) = whole_regions ss os
whole_regions (suc n ∷ ss) (o ∷ os) = record { offset = o; size = whole_size (suc n) } ∷ whole_regions ss os

whole-total : (ss os : List ℕ) → length os ≡ length ss → total_size (whole_regions ss os) ≡ whole_total ss
unfolding whole_regions total_size whole_total
whole-total [] os h = refl
whole-total (s ∷ ss) [] h = absurd (omega arith)
whole-total (zero ∷ ss) (o ∷ os) h = omega (arith, whole-none, whole-total ss os (omega arith))
whole-total (suc n ∷ ss) (o ∷ os) h = omega (arith, total_size-cons (record { offset = o; size = whole_size (suc n) }) (whole_regions ss os), whole-total ss os (omega arith))

whole-end : (e : ℕ) (ss os : List ℕ) → ((i : ℕ) → 0 < get_or ss i 0 → get_or os i 0 + whole_size (get_or ss i 0) ≤ e) → are_below e (whole_regions ss os) ≡ true
unfolding whole_regions are_below
whole-end e [] os h = refl
whole-end e (s ∷ ss) [] h = refl
whole-end e (zero ∷ ss) (o ∷ os) h = whole-end e ss os (λ i. h (suc i))
whole-end e (suc n ∷ ss) (o ∷ os) h = and_both (leb (o + whole_size (suc n)) e) (are_below e (whole_regions ss os)) (le-leb (o + whole_size (suc n)) e (h 0 (omega arith))) (whole-end e ss os (λ i. h (suc i)))

whole_from : (a : DiscRegion) (ss os : List ℕ) → ((i : ℕ) → 0 < get_or ss i 0 → are_disjoint a (whole_at ss os i) ≡ true) → is_disjoint_from_all a (whole_regions ss os) ≡ true
unfolding whole_regions is_disjoint_from_all
whole_from a [] os h = refl
whole_from a (s ∷ ss) [] h = refl
whole_from a (zero ∷ ss) (o ∷ os) h = whole_from a ss os (λ i. h (suc i))
whole_from a (suc n ∷ ss) (o ∷ os) h = and_both (are_disjoint a (whole_at (suc n ∷ ss) (o ∷ os) 0)) (is_disjoint_from_all a (whole_regions ss os)) (h 0 (omega arith)) (whole_from a ss os (λ i. h (suc i)))

whole-pairwise : (ss os : List ℕ) → ((i j : ℕ) → i < j → 0 < get_or ss i 0 → 0 < get_or ss j 0 → are_disjoint (whole_at ss os i) (whole_at ss os j) ≡ true) → are_pairwise_disjoint (whole_regions ss os) ≡ true
unfolding whole_regions are_pairwise_disjoint
whole-pairwise [] os h = refl
whole-pairwise (s ∷ ss) [] h = refl
whole-pairwise (zero ∷ ss) (o ∷ os) h = whole-pairwise ss os (λ i j l. h (suc i) (suc j) (omega arith))
whole-pairwise (suc n ∷ ss) (o ∷ os) h =
    and_both (is_disjoint_from_all (whole_at (suc n ∷ ss) (o ∷ os) 0) (whole_regions ss os)) (are_pairwise_disjoint (whole_regions ss os))
    (whole_from (whole_at (suc n ∷ ss) (o ∷ os) 0) ss os (λ j. h 0 (suc j) (omega arith) (omega arith)))
    (whole-pairwise ss os (λ i j l. h (suc i) (suc j) (omega arith)))

-- ---- apart regions from a to e are together at most as long as that

abbrev below : ℕ → DiscRegion
below a = record { offset = 0; size = a }

apart-sum : (a e : ℕ) (xs : List DiscRegion) → a ≤ e → is_disjoint_from_all (below a) xs ≡ true → are_pairwise_disjoint xs ≡ true → are_below e xs ≡ true → a + total_size xs ≤ e
unfolding are_disjoint_below are_pairwise_disjoint are_below total_size
apart-sum a e xs l f p n =
    let clear = and_both (is_disjoint_from_all (below a) xs) (are_pairwise_disjoint xs) f p in
    let short = and_both (leb (0 + a) e) (are_below e xs) (le-leb (0 + a) e (omega arith)) n in
    omega (arith, total_size-cons (below a) xs, total-free e (below a ∷ xs) (and_both (is_disjoint_from_all (below a) xs && are_pairwise_disjoint xs) (leb (0 + a) e && are_below e xs) clear short))

-- ---- LAW

some-file : (ss : List ℕ) → are_all_empty ss ≡ false → (i : ℕ) × (0 < get_or ss i 0)
unfolding are_all_empty
some-file [] e = absurd (false≢true (sym e))
some-file (zero ∷ ss) e = let f = some-file ss e in (suc f.0, f.1)
some-file (suc n ∷ ss) e = (0, omega arith)

module _ (t d : ℕ) (sizes offsets : List ℕ) (p : IsPlaced t d sizes offsets) where
  ends : (i : ℕ) → 0 < get_or sizes i 0 → get_or offsets i 0 + whole_size (get_or sizes i 0) ≤ d + largest_rest sizes
  ends i z = omega (arith, p.within i z, whole-unused (get_or sizes i 0), unused-most sizes i)

  from-table : (i : ℕ) → 0 < get_or sizes i 0 → whole_size t ≤ get_or offsets i 0
  from-table i z = table-by t (get_or offsets i 0) (p.multiple i z) (p.behind i z)

  pairs : (i j : ℕ) → i < j → 0 < get_or sizes i 0 → 0 < get_or sizes j 0 → are_disjoint (whole_at sizes offsets i) (whole_at sizes offsets j) ≡ true
  pairs i j l y z =
      apart-disjoint (whole_at sizes offsets i) (whole_at sizes offsets j)
      (⊎_elim (λ u. inl (whole_by (get_or offsets i 0) (get_or sizes i 0) (get_or offsets j 0) (p.multiple i y) (p.multiple j z) u))
      (λ u. inr (whole_by (get_or offsets j 0) (get_or sizes j 0) (get_or offsets i 0) (p.multiple j z) (p.multiple i y) u))
      (two-apart (get_or offsets i 0) (get_or sizes i 0) (get_or offsets j 0) (get_or sizes j 0) y z (p.apart i j l)))

  whole-fits : (i : ℕ) → 0 < get_or sizes i 0 → whole_size t + whole_total sizes ≤ d + largest_rest sizes
  whole-fits i z =
      rw (whole-total sizes offsets p.each) at
      (apart-sum (whole_size t) (d + largest_rest sizes) (whole_regions sizes offsets) (omega (arith, from-table i z, p.within i z))
      (whole_from (below (whole_size t)) sizes offsets (λ j y. apart-disjoint (below (whole_size t)) (whole_at sizes offsets j) (inl (omega (arith, from-table j y)))))
      (whole-pairwise sizes offsets pairs) (whole-end (d + largest_rest sizes) sizes offsets ends))

  -- LAW: files that are placed, however they are placed, fit
  pub complete : is_placeable t d sizes ≡ true
  unfolding is_placeable least_end
  complete = le-leb (least_end t sizes) d (go (are_all_empty sizes) refl)
    where
      go : (b : Bool) → are_all_empty sizes ≡ b → least_end t sizes ≤ d
      go true e = rw e p.table
      go false e = let f = some-file sizes e in rw e (omega (arith, whole-fits f.0 f.1))
