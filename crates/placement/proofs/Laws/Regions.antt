-- A placement against the layout test of opening: header, table and files as used regions neither overlap nor pass the disc end, exactly if the files
-- are placed, but for the multiples of 0x8000, which the test does not ask for. Assumes nothing.
use Rattle.std.specs.Prelude.{ℕ, zero, suc, ◌+◌, ◌%◌, ◌<◌, ◌≤◌, ◌≡◌, refl, Bool, true, ◌&&◌, ◌||◌, List, [], ◌∷◌, leb, eqb, length, get_or}
use Rattle.std.proofs.Common.{⊎_elim, arith, le-leb, leb-true, eqb-true, eq-eqb}
use Rattle.refusal.specs.Laws.Tests.{lt-or-le, and_left, and_right, and_both, or_cases, or_left, or_right}
use Rattle.space.specs.declared.region.DiscRegion.{DiscRegion}
use Rattle.space.specs.Used.{used_regions}
use Rattle.space.specs.Layout.{are_disjoint, is_disjoint_from_all, are_pairwise_disjoint, are_disjoint_below}
use Rattle.space.specs.Laws.UsedLaws.{is_inside-in, lies_within, files_within, are_disjoint-below-used}
use Rattle.space.specs.Laws.LayoutLaws.{is_inside-from, is_inside-to, is_inside-are_disjoint, are_disjoint-is_inside}
use Rattle.placement.specs.Places.{IsPlaced}
use Rattle.placement.specs.Theorem.{regions_of}

abbrev file_at : List ℕ → List ℕ → ℕ → DiscRegion
file_at ss os i = record { offset = get_or os i 0; size = get_or ss i 0 }

-- ---- from a placement

within_all : (t d : ℕ) (ss os : List ℕ) → ((i : ℕ) → 0 < get_or ss i 0 → (t ≤ get_or os i 0) × (get_or os i 0 + get_or ss i 0 ≤ d)) → files_within t d (regions_of ss os) ≡ true
unfolding regions_of files_within lies_within
within_all t d [] os h = refl
within_all t d (s ∷ ss) [] h = refl
within_all t d (s ∷ ss) (o ∷ os) h = and_both (eqb s 0 || (leb t o && leb (o + s) d)) (files_within t d (regions_of ss os)) here (within_all t d ss os (λ i. h (suc i)))
  where
    here : (eqb s 0 || (leb t o && leb (o + s) d)) ≡ true
    here =
        ⊎_elim (λ z. or_right (eqb s 0) (leb t o && leb (o + s) d) (and_both (leb t o) (leb (o + s) d) (le-leb t o (h 0 z).0) (le-leb (o + s) d (h 0 z).1)))
        (λ z. or_left (eqb s 0) (leb t o && leb (o + s) d) (eq-eqb s 0 (omega arith))) (lt-or-le 0 s)

from_all : (a : DiscRegion) (ss os : List ℕ) → ((j : ℕ) → are_disjoint a (file_at ss os j) ≡ true) → is_disjoint_from_all a (regions_of ss os) ≡ true
unfolding regions_of is_disjoint_from_all
from_all a [] os h = refl
from_all a (s ∷ ss) [] h = refl
from_all a (s ∷ ss) (o ∷ os) h = and_both (are_disjoint a (file_at (s ∷ ss) (o ∷ os) 0)) (is_disjoint_from_all a (regions_of ss os)) (h 0) (from_all a ss os (λ j. h (suc j)))

pairwise-all : (ss os : List ℕ) → ((i j : ℕ) → i < j → are_disjoint (file_at ss os i) (file_at ss os j) ≡ true) → are_pairwise_disjoint (regions_of ss os) ≡ true
unfolding regions_of are_pairwise_disjoint
pairwise-all [] os h = refl
pairwise-all (s ∷ ss) [] h = refl
pairwise-all (s ∷ ss) (o ∷ os) h =
    and_both (is_disjoint_from_all (file_at (s ∷ ss) (o ∷ os) 0) (regions_of ss os)) (are_pairwise_disjoint (regions_of ss os))
    (from_all (file_at (s ∷ ss) (o ∷ os) 0) ss os (λ j. h 0 (suc j) (omega arith))) (pairwise-all ss os (λ i j l. h (suc i) (suc j) (omega arith)))

-- LAW: what is placed passes 14
pub placed-passes : (t d : ℕ) (sizes offsets : List ℕ) → 0 < t → IsPlaced t d sizes offsets → are_disjoint_below d (used_regions t (regions_of sizes offsets)) ≡ true
placed-passes t d ss os z p =
    rw (are_disjoint-below-used t d (regions_of ss os) z)
    (and_both (leb t d) (files_within t d (regions_of ss os) && are_pairwise_disjoint (regions_of ss os)) (le-leb t d p.table)
    (and_both (files_within t d (regions_of ss os)) (are_pairwise_disjoint (regions_of ss os)) (within_all t d ss os (λ i y. (p.behind i y, p.within i y)))
    (pairwise-all ss os (λ i j l. is_inside-are_disjoint (file_at ss os i) (file_at ss os j)
    (λ b u v. p.apart i j l b (is_inside-from (file_at ss os i) b u, is_inside-to (file_at ss os i) b u) (is_inside-from (file_at ss os j) b v, is_inside-to (file_at ss os j) b v))))))

-- ---- and back

all-within : (t d : ℕ) (ss os : List ℕ) → length os ≡ length ss → files_within t d (regions_of ss os) ≡ true → (i : ℕ) → 0 < get_or ss i 0 → (t ≤ get_or os i 0) × (get_or os i 0 + get_or ss i 0 ≤ d)
unfolding regions_of files_within lies_within
all-within t d [] os n h i z = absurd (omega arith)
all-within t d (s ∷ ss) [] n h i z = absurd (omega arith)
all-within t d (s ∷ ss) (o ∷ os) n h zero z =
    ⊎_elim (λ e. absurd (omega (arith, eqb-true s 0 e))) (λ e. (leb-true t o (and_left (leb t o) (leb (o + s) d) e), leb-true (o + s) d (and_right (leb t o) (leb (o + s) d) e)))
    (or_cases (eqb s 0) (leb t o && leb (o + s) d) (and_left (eqb s 0 || (leb t o && leb (o + s) d)) (files_within t d (regions_of ss os)) h))
all-within t d (s ∷ ss) (o ∷ os) n h (suc i) z = all-within t d ss os (omega arith) (and_right (eqb s 0 || (leb t o && leb (o + s) d)) (files_within t d (regions_of ss os)) h) i z

all_from : (a : DiscRegion) (ss os : List ℕ) → length os ≡ length ss → is_disjoint_from_all a (regions_of ss os) ≡ true → (j : ℕ) → 0 < get_or ss j 0 → are_disjoint a (file_at ss os j) ≡ true
unfolding regions_of is_disjoint_from_all
all_from a [] os n h j z = absurd (omega arith)
all_from a (s ∷ ss) [] n h j z = absurd (omega arith)
all_from a (s ∷ ss) (o ∷ os) n h zero z = and_left (are_disjoint a (file_at (s ∷ ss) (o ∷ os) 0)) (is_disjoint_from_all a (regions_of ss os)) h
all_from a (s ∷ ss) (o ∷ os) n h (suc j) z = all_from a ss os (omega arith) (and_right (are_disjoint a (file_at (s ∷ ss) (o ∷ os) 0)) (is_disjoint_from_all a (regions_of ss os)) h) j z

all-pairwise : (ss os : List ℕ) → length os ≡ length ss → are_pairwise_disjoint (regions_of ss os) ≡ true → (i j : ℕ) → i < j → 0 < get_or ss j 0 → are_disjoint (file_at ss os i) (file_at ss os j) ≡ true
unfolding regions_of are_pairwise_disjoint
all-pairwise [] os n h i j l z = absurd (omega arith)
all-pairwise (s ∷ ss) [] n h i j l z = absurd (omega arith)
all-pairwise (s ∷ ss) (o ∷ os) n h i zero l z = absurd (omega arith)
all-pairwise (s ∷ ss) (o ∷ os) n h zero (suc j) l z =
    all_from (file_at (s ∷ ss) (o ∷ os) 0) ss os (omega arith) (and_left (is_disjoint_from_all (file_at (s ∷ ss) (o ∷ os) 0) (regions_of ss os)) (are_pairwise_disjoint (regions_of ss os)) h) j z
all-pairwise (s ∷ ss) (o ∷ os) n h (suc i) (suc j) l z =
    all-pairwise ss os (omega arith) (and_right (is_disjoint_from_all (file_at (s ∷ ss) (o ∷ os) 0) (regions_of ss os)) (are_pairwise_disjoint (regions_of ss os)) h) i j (omega arith) z

-- LAW: files on multiples of 0x8000 that pass 14 are placed
pub passes-placed : (t d : ℕ) (sizes offsets : List ℕ) → 0 < t → length offsets ≡ length sizes → ((i : ℕ) → 0 < get_or sizes i 0 → get_or offsets i 0 % 0x8000 ≡ 0) →
    are_disjoint_below d (used_regions t (regions_of sizes offsets)) ≡ true → IsPlaced t d sizes offsets
passes-placed t d ss os z n m h = record {
  each = n;
  table = leb-true t d (and_left (leb t d) rest parts);
  multiple = m;
  behind = λ i y. (all-within t d ss os n (and_left files pairs (and_right (leb t d) rest parts)) i y).0;
  within = λ i y. (all-within t d ss os n (and_left files pairs (and_right (leb t d) rest parts)) i y).1;
  apart = λ i j l b u v. are_disjoint-is_inside (file_at ss os i) (file_at ss os j) b (all-pairwise ss os n (and_right files pairs (and_right (leb t d) rest parts)) i j l (omega (arith, v.0, v.1)))
      (is_inside-in (file_at ss os i) b u.0 u.1) (is_inside-in (file_at ss os j) b v.0 v.1);
}
  where
    files : Bool
    files = files_within t d (regions_of ss os)

    pairs : Bool
    pairs = are_pairwise_disjoint (regions_of ss os)

    rest : Bool
    rest = files && pairs

    parts : (leb t d && rest) ≡ true
    parts = rw (are_disjoint-below-used t d (regions_of ss os) z) at h
