-- Where the files lie, byte by byte: each behind the table and on the disc, no byte in two of them. This is what opening's test 14 says, and
-- a place that is free for a file keeps it. Assumes nothing.
use Rattle.std.specs.Prelude.{ℕ, zero, suc, ◌+◌, ◌-◌, ◌<◌, ◌≤◌, ◌≡◌, refl, ◌⊎◌, Bool, true, false, ◌&&◌, ◌||◌, List, [], ◌∷◌, length, get_or, set, leb, eqb}
use Rattle.std.proofs.Common.{sym, ap, ◌∙◌, inl, inr, ⊎_elim, arith, leb-true, eqb-true, le-leb, get_or-set_same, get_or-set_other}
use Rattle.std.proofs.lemmas.Bool.{false≢true, eqb-false}
use Rattle.space.specs.declared.region.DiscRegion.{DiscRegion}
use Rattle.space.specs.Used.{end_of, is_inside, is_used, used_regions, no_region}
use Rattle.space.specs.Layout.{is_disjoint_from_all, are_pairwise_disjoint, are_disjoint_below}
use Rattle.space.specs.Free.{is_free_in}
use Rattle.refusal.specs.Laws.Tests.{lt-or-le, and_left, and_right, and_both, or_cases, or_left, or_right, is_false, never_both}
use Rattle.space.specs.Laws.UsedLaws.{is_inside-in, lies_within, files_within, are_disjoint-below-used}
use Rattle.space.specs.Laws.LayoutLaws.{is_inside-from, is_inside-to, from-all-free, free-from-all}
use Rattle.edit_rules.proofs.Laws.PlaceTests.{free-byte}

-- byte i is one of the region's
abbrev pub Has : DiscRegion → ℕ → Type 0
Has r i = (r.offset ≤ i) × (i < r.offset + r.size)

-- region k of a list; past its end an empty one
abbrev pub region : List DiscRegion → ℕ → DiscRegion
region fs k = get_or fs k no_region

-- the table ends at t, the disc at e
pub record Apart (t e : ℕ) (fs : List DiscRegion) : Type 0 where
  pub table : t ≤ e
  pub lie : (k i : ℕ) → Has (region fs k) i → (t ≤ i) × (i < e)
  pub apart : (j k i : ℕ) → Has (region fs j) i → Has (region fs k) i → j ≡ k

-- ---- a byte of some region

pub some-used : (fs : List DiscRegion) (k i : ℕ) → Has (region fs k) i → is_used fs i ≡ true
unfolding is_used
some-used [] k i h = absurd (omega arith)
some-used (x ∷ fs) zero i h = or_left (is_inside x i) (is_used fs i) (is_inside-in x i h.0 h.1)
some-used (x ∷ fs) (suc k) i h = or_right (is_inside x i) (is_used fs i) (some-used fs k i h)

pub used-some : (fs : List DiscRegion) (i : ℕ) → is_used fs i ≡ true → (k : ℕ) × Has (region fs k) i
unfolding is_used
used-some [] i u = absurd (false≢true u)
used-some (x ∷ fs) i u =
    ⊎_elim (λ h. (0, (is_inside-from x i h, is_inside-to x i h))) (λ h. let s = used-some fs i h in (suc s.0, s.1)) (or_cases (is_inside x i) (is_used fs i) u)

-- a free byte is behind the table and in no file
pub free-clear : (t : ℕ) (fs : List DiscRegion) (i : ℕ) → is_free_in (used_regions t fs) i ≡ true → (t ≤ i) × ((k : ℕ) → Has (region fs k) i → ⊥)
free-clear t fs i f = let o = free-byte t fs i f in (o.0, λ k h. never_both (is_used fs i) (some-used fs k i h) o.1)

-- ---- the test of opening

lie-of : (t e : ℕ) (fs : List DiscRegion) → files_within t e fs ≡ true → (k i : ℕ) → Has (region fs k) i → (t ≤ i) × (i < e)
unfolding files_within lies_within
lie-of t e [] w k i h = absurd (omega arith)
lie-of t e (x ∷ fs) w zero i h =
    ⊎_elim (λ z. absurd (omega (arith, eqb-true x.size 0 z)))
    (λ z. (omega (arith, leb-true t x.offset (and_left (leb t x.offset) (leb (end_of x) e) z)), omega (arith, leb-true (end_of x) e (and_right (leb t x.offset) (leb (end_of x) e) z))))
    (or_cases (eqb x.size 0) (leb t x.offset && leb (end_of x) e) (and_left (lies_within t e x) (files_within t e fs) w))
lie-of t e (x ∷ fs) w (suc k) i h = lie-of t e fs (and_right (lies_within t e x) (files_within t e fs) w) k i h

pub apart_of : (fs : List DiscRegion) → are_pairwise_disjoint fs ≡ true → (j k i : ℕ) → Has (region fs j) i → Has (region fs k) i → j ≡ k
unfolding are_pairwise_disjoint
apart_of [] p j k i g h = absurd (omega arith)
apart_of (x ∷ fs) p zero zero i g h = refl
apart_of (x ∷ fs) p zero (suc k) i g h =
    absurd (never_both (is_used fs i) (some-used fs k i h) (from-all-free x fs i (and_left (is_disjoint_from_all x fs) (are_pairwise_disjoint fs) p) (is_inside-in x i g.0 g.1)))
apart_of (x ∷ fs) p (suc j) zero i g h =
    absurd (never_both (is_used fs i) (some-used fs j i g) (from-all-free x fs i (and_left (is_disjoint_from_all x fs) (are_pairwise_disjoint fs) p) (is_inside-in x i h.0 h.1)))
apart_of (x ∷ fs) p (suc j) (suc k) i g h = ap suc (apart_of fs (and_right (is_disjoint_from_all x fs) (are_pairwise_disjoint fs) p) j k i g h)

pub apart_from : (t e : ℕ) (fs : List DiscRegion) → 0 < t → are_disjoint_below e (used_regions t fs) ≡ true → Apart t e fs
apart_from t e fs z d =
    let d' : (leb t e && (files_within t e fs && are_pairwise_disjoint fs)) ≡ true = rw (are_disjoint-below-used t e fs z) at d in
    let r = and_right (leb t e) (files_within t e fs && are_pairwise_disjoint fs) d' in
    record {
      table = leb-true t e (and_left (leb t e) (files_within t e fs && are_pairwise_disjoint fs) d');
      lie = lie-of t e fs (and_left (files_within t e fs) (are_pairwise_disjoint fs) r);
      apart = apart_of fs (and_right (files_within t e fs) (are_pairwise_disjoint fs) r);
    }

of-lie : (t e : ℕ) (fs : List DiscRegion) → ((k i : ℕ) → Has (region fs k) i → (t ≤ i) × (i < e)) → files_within t e fs ≡ true
unfolding files_within lies_within
of-lie t e [] l = refl
of-lie t e (x ∷ fs) l = and_both (lies_within t e x) (files_within t e fs) (go (eqb x.size 0) refl) (of-lie t e fs (λ k. l (suc k)))
  where
    go : (a : Bool) → eqb x.size 0 ≡ a → (a || (leb t x.offset && leb (end_of x) e)) ≡ true
    go true q = refl
    go false q =
        let z : x.size ≡ 0 → ⊥ = eqb-false x.size 0 q in
        let p : 0 < x.size = ⊎_elim (λ h. h) (λ h. absurd (z (omega arith))) (lt-or-le 0 x.size) in
        and_both (leb t x.offset) (leb (end_of x) e) (le-leb t x.offset (l 0 x.offset (omega arith, omega arith)).0)
        (le-leb (end_of x) e (omega (arith, (l 0 (x.offset + x.size - 1) (omega arith, omega arith)).1)))

of-apart : (fs : List DiscRegion) → ((j k i : ℕ) → Has (region fs j) i → Has (region fs k) i → j ≡ k) → are_pairwise_disjoint fs ≡ true
unfolding are_pairwise_disjoint
of-apart [] a = refl
of-apart (x ∷ fs) a =
    and_both (is_disjoint_from_all x fs) (are_pairwise_disjoint fs) (free-from-all x fs (λ i u. is_false (is_used fs i) (clash i u)))
    (of-apart fs (λ j k i g h. let e : suc j ≡ suc k = a (suc j) (suc k) i g h in omega arith))
  where
    clash : (i : ℕ) → is_inside x i ≡ true → is_used fs i ≡ true → ⊥
    clash i u v = let s = used-some fs i v in omega (arith, a 0 (suc s.0) i (is_inside-from x i u, is_inside-to x i u) s.1)

pub apart-test : (t e : ℕ) (fs : List DiscRegion) → 0 < t → Apart t e fs → are_disjoint_below e (used_regions t fs) ≡ true
apart-test t e fs z a = rw (are_disjoint-below-used t e fs z, le-leb t e a.table, of-lie t e fs a.lie, of-apart fs a.apart)

-- ---- another table's end, and another place for one file

pub apart-table : (t t' e : ℕ) (fs : List DiscRegion) → Apart t e fs → t' ≤ e → ((k i : ℕ) → Has (region fs k) i → t' ≤ i) → Apart t' e fs
apart-table t t' e fs a h l = record { table = h; lie = λ k i g. (l k i g, (a.lie k i g).1); apart = a.apart }

module _ (t e : ℕ) (fs : List DiscRegion) (a : Apart t e fs) (r : ℕ) (y : DiscRegion) (inb : r < length fs) (lies : (i : ℕ) → Has y i → (t ≤ i) × (i < e))
    (clear : (k i : ℕ) → (k ≡ r → ⊥) → Has (region fs k) i → Has y i → ⊥) where
  here : (k : ℕ) → ((k ≡ r) × (region (set fs r y) k ≡ y)) ⊎ ((k ≡ r → ⊥) × (region (set fs r y) k ≡ region fs k))
  here k = go (eqb k r) refl
    where
      go : (b : Bool) → eqb k r ≡ b → ((k ≡ r) × (region (set fs r y) k ≡ y)) ⊎ ((k ≡ r → ⊥) × (region (set fs r y) k ≡ region fs k))
      go true q = let e' : k ≡ r = eqb-true k r q in inl (e', rw e' (get_or-set_same fs r y no_region inb))
      go false q = inr (eqb-false k r q, get_or-set_other fs r k y no_region (eqb-false k r q))

  pub apart-set : Apart t e (set fs r y)
  apart-set = record {
    table = a.table;
    lie = λ k i h. ⊎_elim (λ u. lies i (rw u.1 at h)) (λ u. a.lie k i (rw u.1 at h)) (here k);
    apart = λ j k i g h.
        ⊎_elim (λ u. ⊎_elim (λ v. u.0 ∙ sym v.0) (λ v. absurd (clear k i v.0 (rw v.1 at h) (rw u.1 at g))) (here k))
        (λ u. ⊎_elim (λ v. absurd (clear j i u.0 (rw u.1 at g) (rw v.1 at h))) (λ v. a.apart j k i (rw u.1 at g) (rw v.1 at h)) (here k)) (here j);
  }
