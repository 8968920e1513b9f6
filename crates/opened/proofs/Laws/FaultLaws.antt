-- Where no used region is named, no two overlap and none passes the disc end: so 14 always names one. Assumes nothing.
use Prim.Native.Nat.{ℕ, ◌+◌, ◌<◌, ◌≤◌}
use Rattle.std.specs.Prelude.{◌≡◌, refl, Bool, true, false, not, ◌&&◌, List, [], ◌∷◌, ◌++◌, length, Option, None, Some, if◌then◌else◌, nat_lt, nat_le}
use Rattle.std.proofs.Common.{sym, ◌∙◌, ⊎_elim, arith, lt-ltb, le-leb, ltb-false}
use Rattle.std.specs.List.{list_all, position_from}
use Rattle.std.specs.Option.{option_map, option_or}
use Rattle.refusal.specs.Laws.Tests.{and_left, and_right, and_both, lt-or-le}
use Rattle.header.specs.Verdicts.{disc_end}
use Rattle.space.specs.declared.region.DiscRegion.{DiscRegion}
use Rattle.space.specs.Used.{end_of, nonempty_regions}
use Rattle.space.specs.Layout.{are_disjoint, is_disjoint_from_all, are_pairwise_disjoint, are_below, are_disjoint_below}
use Rattle.space.specs.Laws.UsedLaws.{nonempty_regions-cons, nonempty_regions-empty}
use Rattle.opened.specs.Opening.{used_in}
use Rattle.opened.specs.Faults.{owner_at, owned_regions, conflict_with, first_conflict}
use Rattle.opened.specs.declared.faults.About.{About}
use Rattle.opened.specs.declared.faults.About.TheVariants as about

-- ---- lists

all-last : (p : DiscRegion → Bool) (xs : List DiscRegion) (r : DiscRegion) → list_all p (xs ++ (r ∷ [])) ≡ true → (list_all p xs ≡ true) × (p r ≡ true)
all-last p [] r h = (refl, and_left (p r) true h)
all-last p (x ∷ xs) r h =
    let i = all-last p xs r (and_right (p x) (list_all p (xs ++ (r ∷ []))) h) in
    (and_both (p x) (list_all p xs) (and_left (p x) (list_all p (xs ++ (r ∷ []))) h) i.0, i.1)

all-both : (p q : DiscRegion → Bool) (xs : List DiscRegion) → list_all p xs ≡ true → list_all q xs ≡ true → list_all (λ x. p x && q x) xs ≡ true
all-both p q [] f g = refl
all-both p q (x ∷ xs) f g =
    and_both (p x && q x) (list_all (λ y. p y && q y) xs) (and_both (p x) (q x) (and_left (p x) (list_all p xs) f) (and_left (q x) (list_all q xs) g))
    (all-both p q xs (and_right (p x) (list_all p xs) f) (and_right (q x) (list_all q xs) g))

none-apart : (p : DiscRegion → Bool) (i : ℕ) (xs : List DiscRegion) → position_from (λ x. not (p x)) i xs ≡ None → list_all p xs ≡ true
none-apart p i [] h = refl
none-apart p i (x ∷ xs) h = go (none-apart p (i + 1) xs) (p x) refl h
  where
    go : (position_from (λ y. not (p y)) (i + 1) xs ≡ None → list_all p xs ≡ true) → (t : Bool) → p x ≡ t → (if not t then Some i else position_from (λ y. not (p y)) (i + 1) xs) ≡ None → (p x && list_all p xs) ≡ true
    go later true e q = rw e (later q)
    go later false e q = cc

both_none : (a b : Option About) → option_or a b ≡ None → (a ≡ None) × (b ≡ None)
both_none None b h = (refl, h)
both_none (Some x) b h = cc

-- ---- one region

clear : (e : ℕ) (before : List DiscRegion) (r : DiscRegion) → conflict_with e before r ≡ None → ((nat_lt 0 r.size && nat_lt e (end_of r)) ≡ false) × (list_all (λ x. are_disjoint x r) before ≡ true)
unfolding conflict_with
clear e before r h = go (nat_lt 0 r.size && nat_lt e (end_of r)) refl (position_from (λ x. not (are_disjoint x r)) 0 before) refl h
  where
    go : (t : Bool) → (nat_lt 0 r.size && nat_lt e (end_of r)) ≡ t → (o : Option ℕ) → position_from (λ x. not (are_disjoint x r)) 0 before ≡ o →
        (if t then Some (about.PastEnd (owner_at (length before))) else option_map (λ j. about.Shared (owner_at j) (owner_at (length before))) o) ≡ None →
        ((nat_lt 0 r.size && nat_lt e (end_of r)) ≡ false) × (list_all (λ x. are_disjoint x r) before ≡ true)
    go true t≡ o o≡ q = cc
    go false t≡ (Some j) o≡ q = cc
    go false t≡ None o≡ q = (t≡, none-apart (λ x. are_disjoint x r) 0 before o≡)

-- ---- all of them: those before are apart from the rest, the rest from each other, and none passes the end

record Clear (e : ℕ) (before rs : List DiscRegion) : Type 0 where
  apart : list_all (λ x. is_disjoint_from_all x (nonempty_regions rs)) before ≡ true
  pairs : are_pairwise_disjoint (nonempty_regions rs) ≡ true
  ends : are_below e (nonempty_regions rs) ≡ true

all_apart : (xs : List DiscRegion) → list_all (λ x. is_disjoint_from_all x (nonempty_regions [])) xs ≡ true
unfolding is_disjoint_from_all nonempty_regions
all_apart [] = refl
all_apart (x ∷ xs) = all_apart xs

all-clear : (e : ℕ) (before rs : List DiscRegion) → first_conflict e before rs ≡ None → Clear e before rs
unfolding first_conflict are_pairwise_disjoint are_below is_disjoint_from_all
all-clear e before [] h = record { apart = all_apart before; pairs = unfold nonempty_regions in refl; ends = unfold nonempty_regions in refl }
all-clear e before (r ∷ rs) h =
    let n = both_none (conflict_with e before r) (first_conflict e (before ++ (r ∷ [])) rs) h in
    let here = clear e before r n.0 in
    let later : Clear e (before ++ (r ∷ [])) rs = all-clear e (before ++ (r ∷ [])) rs n.1 in
    let split = all-last (λ x. is_disjoint_from_all x (nonempty_regions rs)) before r later.apart in
    ⊎_elim
    (λ (s : 0 < r.size). let past : nat_lt e (end_of r) ≡ false = rw (lt-ltb 0 r.size s) at here.0 in
    record {
      apart = rw (nonempty_regions-cons r rs s) (all-both (λ x. are_disjoint x r) (λ x. is_disjoint_from_all x (nonempty_regions rs)) before here.1 split.0);
      pairs = rw (nonempty_regions-cons r rs s) (and_both _ _ split.1 later.pairs);
      ends = rw (nonempty_regions-cons r rs s) (and_both (nat_le (end_of r) e) _ (le-leb (end_of r) e (ltb-false e (end_of r) past)) later.ends);
    })
    (λ (s : r.size ≤ 0). let z : r.size ≡ 0 = omega arith in
    record {
      apart = rw (nonempty_regions-empty r rs z) split.0;
      pairs = rw (nonempty_regions-empty r rs z) later.pairs;
      ends = rw (nonempty_regions-empty r rs z) later.ends;
    })
    (lt-or-le 0 r.size)

-- LAW: where the used regions of an image are refused, one is named
pub conflict-named : (image : List ℕ) → are_disjoint_below (disc_end image) (used_in image) ≡ false → first_conflict (disc_end image) [] (owned_regions image) ≡ None → ⊥
unfolding are_disjoint_below used_in
conflict-named image f h =
    let c : Clear (disc_end image) [] (owned_regions image) = all-clear (disc_end image) [] (owned_regions image) h in
    let q : false ≡ true = sym f ∙ and_both (are_pairwise_disjoint (nonempty_regions (owned_regions image))) (are_below (disc_end image) (nonempty_regions (owned_regions image))) c.pairs c.ends in
    cc
