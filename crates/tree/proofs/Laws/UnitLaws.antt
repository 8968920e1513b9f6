-- A text unit by unit: what stands at a place of it, and an induction over its units. Assumes nothing.
use Prim.Native.Nat.{ℕ, zero, suc, ◌+◌, ◌<◌, ◌≤◌}
use Rattle.std.specs.Prelude.{◌≡◌, ◌⊎◌, Bool, cond, ◌&&◌, ◌||◌, get_or, drop, leb}
use Rattle.std.proofs.Math.Path.{refl}
use Rattle.std.proofs.Common.{sym, ap, ◌∙◌, inl, inr, ⊎_elim, true≢false, add-one, leb-true, le-leb, drop_of_length-le}
use Rattle.std.proofs.Math.Bool.{true, false}
use mathlib.Core.List.{List, [], ◌∷◌, ◌++◌}
use native.Mathlib.Omega.{arith}
use Rattle.std.proofs.Math.ListN.{length}
use Rattle.refusal.specs.Laws.Tests.{and_left, and_right, and_both, and-false, or_cases}
use Rattle.tree.specs.Units.{is_within, is_lead_byte, is_trail_byte, TextUnit, single, pair, units}
use Rattle.tree.specs.Table.{is_plain_byte, is_plain_unit, is_plain}
use Rattle.tree.specs.Inner.Pairs.{is_pair_at}
use Rattle.std.specs.List.{list_all}

-- ---- ranges of bytes

pub is_within-is : (low high b : ℕ) → is_within low high b ≡ true → (low ≤ b) × (b ≤ high)
is_within-is low high b e = (leb-true low b (and_left (leb low b) _ e), leb-true b high (and_right (leb low b) _ e))

pub within_both : (low high b : ℕ) → low ≤ b → b ≤ high → is_within low high b ≡ true
within_both low high b p q = and_both (leb low b) (leb b high) (le-leb low b p) (le-leb b high q)

-- one range or the other
pub in_either : (low high from to b : ℕ) → (is_within low high b || is_within from to b) ≡ true → ((low ≤ b) × (b ≤ high)) ⊎ ((from ≤ b) × (b ≤ to))
in_either low high from to b e =
    ⊎_elim (λ (t : is_within low high b ≡ true). inl (is_within-is low high b t)) (λ (t : is_within from to b ≡ true). inr (is_within-is from to b t)) (or_cases (is_within low high b) (is_within from to b) e)

pub lead_is : (b : ℕ) → is_lead_byte b ≡ true → (0x81 ≤ b) × (b ≤ 0xFC)
lead_is b e = ⊎_elim (λ (r : (0x81 ≤ b) × (b ≤ 0x9F)). (omega arith, omega arith)) (λ (r : (0xE0 ≤ b) × (b ≤ 0xFC)). (omega arith, omega arith)) (in_either 0x81 0x9F 0xE0 0xFC b e)

pub trail_is : (b : ℕ) → is_trail_byte b ≡ true → (0x40 ≤ b) × (b ≤ 0xFC)
trail_is b e = ⊎_elim (λ (r : (0x40 ≤ b) × (b ≤ 0x7E)). (omega arith, omega arith)) (λ (r : (0x80 ≤ b) × (b ≤ 0xFC)). (omega arith, omega arith)) (in_either 0x40 0x7E 0x80 0xFC b e)

-- ---- an induction over the units of a text

-- a text of one unit more, at its start
module _ (P : List ℕ → Type 0) (none_left : P []) (of_pair : (a b : ℕ) (s : List ℕ) → is_lead_byte a ≡ true → is_trail_byte b ≡ true → units (a ∷ b ∷ s) ≡ pair a b ∷ units s → P s → P (a ∷ b ∷ s))
    (of-single : (a : ℕ) (s : List ℕ) → units (a ∷ s) ≡ single a ∷ units s → P s → P (a ∷ s)) where
  -- LAW: what holds of the empty text, and of a text with one unit more wherever it holds of the rest, holds of all texts
  pub by_units : (s : List ℕ) → P s
  unfolding units
  by_units [] = none_left
  by_units (a ∷ []) = of-single a [] refl none_left
  by_units (a ∷ b ∷ s) = go (is_lead_byte a && is_trail_byte b) refl (by_units s) (by_units (b ∷ s))
    where
      go : (t : Bool) → (is_lead_byte a && is_trail_byte b) ≡ t → P s → P (b ∷ s) → P (a ∷ b ∷ s)
      go true e p q = of_pair a b s (and_left (is_lead_byte a) _ e) (and_right (is_lead_byte a) _ e) (rw e refl) p
      go false e p q = of-single a (b ∷ s) (rw e refl) q

-- ---- the unit at a place

module _ (s : List ℕ) (i : ℕ) where
  pub units-pair : is_pair_at s i ≡ true → units (drop i s) ≡ pair (get_or s i 0) (get_or s (i + 1) 0) ∷ units (drop (i + 2) s)
  unfolding units
  units-pair e = let n : i + 2 ≡ suc (suc i) = omega arith in rw (add-one i, n) (go s i e)
    where
      go : (s : List ℕ) (i : ℕ) → is_pair_at s i ≡ true → units (drop i s) ≡ pair (get_or s i 0) (get_or s (suc i) 0) ∷ units (drop (suc (suc i)) s)
      go [] i e = absurd (true≢false (sym e))
      go (a ∷ []) zero e = absurd (true≢false (sym e ∙ and-false (is_lead_byte a)))
      go (a ∷ b ∷ s) zero e = rw e
      go (a ∷ s) (suc i) e = go s i e

  pub units-single : i < length s → is_pair_at s i ≡ false → units (drop i s) ≡ single (get_or s i 0) ∷ units (drop (i + 1) s)
  unfolding units
  units-single h e = rw (add-one i) (go s i h e)
    where
      go : (s : List ℕ) (i : ℕ) → i < length s → is_pair_at s i ≡ false → units (drop i s) ≡ single (get_or s i 0) ∷ units (drop (suc i) s)
      go [] i h e = absurd (omega arith)
      go (a ∷ []) zero h e = refl
      go (a ∷ b ∷ s) zero h e = rw e
      go (a ∷ s) (suc i) h e = go s i (omega arith) e

  pub units-none : length s ≤ i → units (drop i s) ≡ []
  unfolding units
  units-none h = rw (drop_of_length-le s {i = i} h)

-- both bytes of a pair are in the text
pub pair_inside : (s : List ℕ) (i : ℕ) → is_pair_at s i ≡ true → suc i < length s
pair_inside [] i e = absurd (true≢false (sym e))
pair_inside (a ∷ []) zero e = absurd (true≢false (sym e ∙ and-false (is_lead_byte a)))
pair_inside (a ∷ b ∷ s) zero e = omega arith
pair_inside (a ∷ s) (suc i) e = let r : suc i < length s = pair_inside s i e in omega arith

-- ---- a text behind another

-- `/` is no trail byte, so no unit reaches over it
pub units-then : (s t : List ℕ) → units (s ++ (0x2F ∷ t)) ≡ units s ++ (single 0x2F ∷ units t)
unfolding units
units-then [] [] = refl
units-then [] (b ∷ t) = refl
units-then (a ∷ []) t = rw (and-false (is_lead_byte a), ← units-then [] t)
units-then (a ∷ b ∷ s) t = go (is_lead_byte a && is_trail_byte b) (units-then s t) (units-then (b ∷ s) t)
  where
    go : (c : Bool) → units (s ++ (0x2F ∷ t)) ≡ units s ++ (single 0x2F ∷ units t) → units (b ∷ s ++ (0x2F ∷ t)) ≡ units (b ∷ s) ++ (single 0x2F ∷ units t) →
        cond c (pair a b ∷ units (s ++ (0x2F ∷ t))) (single a ∷ units (b ∷ s ++ (0x2F ∷ t))) ≡
        cond c (pair a b ∷ units s) (single a ∷ units (b ∷ s)) ++ (single 0x2F ∷ units t)
    go true p q = ap (λ (l : List TextUnit). pair a b ∷ l) p
    go false p q = ap (λ (l : List TextUnit). single a ∷ l) q

-- ---- the bytes of a name

is_plain-byte : (b : ℕ) → is_plain_byte b ≡ true → is_within 0x20 0xFC b ≡ true
is_plain-byte b e = ⊎_elim (λ (r : (0x20 ≤ b) × (b ≤ 0x7E)). within_both 0x20 0xFC b (omega (arith, r.0)) (omega (arith, r.1))) (λ (r : (0xA1 ≤ b) × (b ≤ 0xDF)). within_both 0x20 0xFC b (omega (arith, r.0)) (omega (arith, r.1))) (in_either 0x20 0x7E 0xA1 0xDF b e)

-- LAW: all lie between 0x20 and 0xFC, so that none is 0
pub is_plain-bytes : (nm : List ℕ) → is_plain nm ≡ true → list_all (is_within 0x20 0xFC) nm ≡ true
unfolding is_plain
is_plain-bytes nm e = by_units Held (λ q. refl) of_pair of-single nm e
  where
    Held : List ℕ → Type 0
    Held s = list_all is_plain_unit (units s) ≡ true → list_all (is_within 0x20 0xFC) s ≡ true

    of_pair : (a b : ℕ) (s : List ℕ) → is_lead_byte a ≡ true → is_trail_byte b ≡ true → units (a ∷ b ∷ s) ≡ pair a b ∷ units s → Held s → Held (a ∷ b ∷ s)
    of_pair a b s l t u ih q =
        let x : list_all is_plain_unit (units s) ≡ true = rw u at q in
        let la = lead_is a l in
        let tb = trail_is b t in
        rw (within_both 0x20 0xFC a (omega (arith, la.0)) (omega (arith, la.1)), within_both 0x20 0xFC b (omega (arith, tb.0)) (omega (arith, tb.1))) (ih x)

    of-single : (a : ℕ) (s : List ℕ) → units (a ∷ s) ≡ single a ∷ units s → Held s → Held (a ∷ s)
    of-single a s u ih q =
        let x : (is_plain_byte a && list_all is_plain_unit (units s)) ≡ true = rw u at q in
        rw (is_plain-byte a (and_left (is_plain_byte a) _ x)) (ih (and_right (is_plain_byte a) _ x))
