-- A text read byte by byte and unit by unit: it ends at a zero byte or at the table's end. Assumes nothing.
use Prim.Native.Nat.{ℕ, zero, suc, ◌+◌, ◌<◌, ◌≤◌, min}
use mathlib.Core.Path.{◌≡◌, refl, sym, ap, ◌∙◌}
use mathlib.Core.Logic.{⊎_elim}
use mathlib.Core.Bool.{Bool, true, false, true≢false, ◌&&◌}
use mathlib.Core.List.{List, [], ◌∷◌}
use native.Mathlib.Omega.{arith}
use native.Mathlib.Numerals.{add-one}
use borrow.Author.Tests.{eqb-true, eqb-false}
use lib.ListN.{length, get_or, drop, take}
use lib.Seq.{drop-drop, get_or-drop}
use Rattle.std.proofs.lemmas.List.{drop-take}
use lib.Dec.{eqb}
use Rattle.tree.specs.Units.{is_lead_byte, is_trail_byte, TextUnit, single, pair, units}
use Rattle.tree.specs.Table.{is_dots, is_plain_byte, is_safe_byte, first_text}
use Rattle.tree.specs.Inner.Pairs.{is_pair_at}
use Rattle.tree.proofs.Laws.UnitLaws.{in_either, lead_is, trail_is, by_units, units-pair, units-single}
use Rattle.refusal.specs.Laws.Tests.{lt-or-le, and_left, and_right, or_cases, is_false}
use Rattle.table.specs.Inner.Texts.{text_at, is_clean_byte, is_clean_unit, is_clean_from, HasNoLead}
use Rattle.std.specs.List.{list_all}

pub text-end : (tab : List ℕ) (i : ℕ) → get_or tab i 0 ≡ 0 → text_at tab i ≡ []
text-end [] zero h = refl
text-end [] (suc i) h = refl
text-end (zero ∷ s) zero h = refl
text-end (suc b ∷ s) zero h = absurd (omega arith)
text-end (b ∷ s) (suc i) h = text-end s i h

pub text-more : (tab : List ℕ) (i : ℕ) → (get_or tab i 0 ≡ 0 → ⊥) → text_at tab i ≡ get_or tab i 0 ∷ text_at tab (i + 1)
text-more tab i h = rw (add-one i) (go tab i h)
  where
    go : (tab : List ℕ) (i : ℕ) → (get_or tab i 0 ≡ 0 → ⊥) → text_at tab i ≡ get_or tab i 0 ∷ text_at tab (suc i)
    go [] i h = absurd (h refl)
    go (zero ∷ s) zero h = absurd (h refl)
    go (suc b ∷ s) zero h = refl
    go (b ∷ s) (suc i) h = go s i h

-- a byte that is not 0 is in the table
pub inside : (tab : List ℕ) (i : ℕ) → (get_or tab i 0 ≡ 0 → ⊥) → i < length tab
inside [] i h = absurd (h refl)
inside (b ∷ s) zero h = omega arith
inside (b ∷ s) (suc i) h = let r : i < length s = inside s i h in omega arith

-- ---- the units of a text

nonzero : (low b : ℕ) → low ≤ b → 0 < low → b ≡ 0 → ⊥
nonzero low b h l e = omega arith

module _ (tab : List ℕ) (i : ℕ) where
  pub units-end : get_or tab i 0 ≡ 0 → units (text_at tab i) ≡ []
  unfolding units
  units-end h = rw (text-end tab i h)

  pub text-pair : is_pair_at tab i ≡ true → units (text_at tab i) ≡ pair (get_or tab i 0) (get_or tab (i + 1) 0) ∷ units (text_at tab (i + 2))
  unfolding units
  text-pair e =
      let l = lead_is (get_or tab i 0) (and_left (is_lead_byte (get_or tab i 0)) _ e) in
      let t = trail_is (get_or tab (suc i) 0) (and_right (is_lead_byte (get_or tab i 0)) _ e) in
      let n : i + 1 + 1 ≡ i + 2 = omega arith in
      let second = rw (n) at (text-more tab (i + 1) (rw (add-one i) (nonzero 0x40 (get_or tab (suc i) 0) t.0 (omega arith)))) in
      rw (text-more tab i (nonzero 0x81 (get_or tab i 0) l.0 (omega arith)), second, add-one i, e)

  pub text-single : (get_or tab i 0 ≡ 0 → ⊥) → is_pair_at tab i ≡ false → units (text_at tab i) ≡ single (get_or tab i 0) ∷ units (text_at tab (i + 1))
  unfolding units
  text-single h e = go (eqb (get_or tab (i + 1) 0) 0) refl
    where
      go : (t : Bool) → eqb (get_or tab (i + 1) 0) 0 ≡ t → units (text_at tab i) ≡ single (get_or tab i 0) ∷ units (text_at tab (i + 1))
      go true z = rw (text-more tab i h, text-end tab (i + 1) (eqb-true _ _ z))
      go false z = rw (text-more tab i h, text-more tab (i + 1) (eqb-false _ _ z), add-one i, e)

-- ---- a test of each unit of a text

pub list_all-end : (p : TextUnit → Bool) (tab : List ℕ) (i : ℕ) → get_or tab i 0 ≡ 0 → list_all p (units (text_at tab i)) ≡ true
list_all-end p tab i h = rw (units-end tab i h)

pub list_all-pair : (p : TextUnit → Bool) (tab : List ℕ) (i : ℕ) → is_pair_at tab i ≡ true → p (pair (get_or tab i 0) (get_or tab (i + 1) 0)) ≡ true → list_all p (units (text_at tab i)) ≡ list_all p (units (text_at tab (i + 2)))
list_all-pair p tab i h e = rw (text-pair tab i h, e)

pub list_all-single : (p : TextUnit → Bool) (tab : List ℕ) (i : ℕ) (t : Bool) → (get_or tab i 0 ≡ 0 → ⊥) → is_pair_at tab i ≡ false → p (single (get_or tab i 0)) ≡ t →
    list_all p (units (text_at tab i)) ≡ (t && list_all p (units (text_at tab (i + 1))))
list_all-single p tab i t h n e = rw (text-single tab i h n, e)

-- `.` or `..`: a text's first three bytes tell
is_dots-head : (s : List ℕ) → is_dots (first_text (take 3 s)) ≡ is_dots (first_text s)
is_dots-head [] = refl
is_dots-head (zero ∷ s) = refl
is_dots-head (suc a ∷ []) = refl
is_dots-head (suc a ∷ zero ∷ s) = refl
is_dots-head (suc a ∷ suc b ∷ []) = refl
is_dots-head (suc a ∷ suc b ∷ zero ∷ s) = refl
is_dots-head (suc a ∷ suc b ∷ suc c ∷ s) = refl

take-min : (n : ℕ) (tab : List ℕ) → take (min (length tab) n) tab ≡ take n tab
take-min zero tab = let e : min (length tab) 0 ≡ 0 = omega arith in rw e
take-min (suc n) [] = let e : min 0 (suc n) ≡ 0 = omega arith in rw e
take-min (suc n) (b ∷ tab) =
    let e : min (suc (length tab)) (suc n) ≡ suc (min (length tab) n) = omega arith in
    rw e (ap (λ (s : List ℕ). b ∷ s) (take-min n tab))

pub is_dots-three : (tab : List ℕ) (at m : ℕ) → m ≡ min (length tab) (at + 3) → is_dots (text_at (take m tab) at) ≡ is_dots (text_at tab at)
is_dots-three tab at m e = rw (e, take-min (at + 3) tab, drop-take at 3 tab) (is_dots-head (drop at tab))

-- ---- the length of a text

pub length-end : (tab : List ℕ) (i : ℕ) → get_or tab i 0 ≡ 0 → length (text_at tab i) ≡ 0
length-end tab i h = rw (text-end tab i h)

pub length-turn : (tab : List ℕ) (i : ℕ) → (get_or tab i 0 ≡ 0 → ⊥) → length (text_at tab i) ≡ suc (length (text_at tab (i + 1)))
length-turn tab i h = ap length (text-more tab i h)

-- ---- clean texts

pub clean-no-lead : (b : ℕ) → is_clean_byte b ≡ true → is_lead_byte b ≡ false
clean-no-lead b e = is_false (is_lead_byte b) (λ l. ⊎_elim (λ (z : eqb b 0 ≡ true). omega (arith, (lead_is b l).0, eqb-true b 0 z)) (λ (p : (is_plain_byte b && is_safe_byte b) ≡ true). apart l (and_left (is_plain_byte b) _ p)) (or_cases (eqb b 0) _ e))
  where
    apart : is_lead_byte b ≡ true → is_plain_byte b ≡ true → ⊥
    apart l p =
        ⊎_elim (λ (x : (0x81 ≤ b) × (b ≤ 0x9F)). ⊎_elim (λ (y : (0x20 ≤ b) × (b ≤ 0x7E)). omega (arith, x.0, y.1)) (λ (y : (0xA1 ≤ b) × (b ≤ 0xDF)). omega (arith, x.1, y.0)) (in_either 0x20 0x7E 0xA1 0xDF b p))
        (λ (x : (0xE0 ≤ b) × (b ≤ 0xFC)). ⊎_elim (λ (y : (0x20 ≤ b) × (b ≤ 0x7E)). omega (arith, x.0, y.1)) (λ (y : (0xA1 ≤ b) × (b ≤ 0xDF)). omega (arith, x.0, y.1)) (in_either 0x20 0x7E 0xA1 0xDF b p))
        (in_either 0x81 0x9F 0xE0 0xFC b l)

pub clean-no-pair : (tab : List ℕ) (i : ℕ) → is_clean_byte (get_or tab i 0) ≡ true → is_pair_at tab i ≡ false
clean-no-pair tab i e = rw (clean-no-lead (get_or tab i 0) e)

module _ (tab : List ℕ) (i : ℕ) where
  pub clean-pair : is_pair_at tab i ≡ true → is_clean_from tab i ≡ is_clean_from tab (i + 2)
  unfolding is_clean_from
  clean-pair e = rw (units-pair tab i e)

  pub clean-single : (t : Bool) → i < length tab → is_pair_at tab i ≡ false → is_clean_byte (get_or tab i 0) ≡ t → is_clean_from tab i ≡ (t && is_clean_from tab (i + 1))
  unfolding is_clean_from
  clean-single t h n e = rw (units-single tab i h n, e)

-- ---- bytes that are clean by themselves

pub no-lead-yet : (tab : List ℕ) (from : ℕ) → HasNoLead tab from from
no-lead-yet tab from = record { before = omega arith; none = λ i h l. absurd (omega arith) }

no-lead-next : (tab : List ℕ) (from end : ℕ) → HasNoLead tab from end → is_lead_byte (get_or tab end 0) ≡ false → HasNoLead tab from (end + 1)
no-lead-next tab from end g e = record { before = omega (arith, g.before); none = λ i h l. ⊎_elim (λ (k : i < end). g.none i h k) (λ (k : end ≤ i). let q : i ≡ end = omega arith in rw q e) (lt-or-le i end) }

-- LAW: a clean byte is passed
pub clean-next : (tab : List ℕ) (from end next : ℕ) → end < length tab → is_clean_byte (get_or tab end 0) ≡ true → next ≡ end + 1 →
    HasNoLead tab from end × (is_clean_from tab from ≡ is_clean_from tab end) → HasNoLead tab from next × (is_clean_from tab from ≡ is_clean_from tab next)
clean-next tab from end next h e n g =
    rw n (no-lead-next tab from end g.0 (clean-no-lead (get_or tab end 0) e), g.1 ∙ clean-single tab end true h (clean-no-pair tab end e) e)

-- what follows a byte that is no lead byte does not start in the middle of a unit
clean_drop : (l : List ℕ) (n : ℕ) → list_all is_clean_unit (units l) ≡ true → is_lead_byte (get_or l n 0) ≡ false → list_all is_clean_unit (units (drop (suc n) l)) ≡ true
unfolding units
clean_drop l n e = by_units Clean none_left pair_left single-left l n e
  where
    Clean : List ℕ → Type 0
    Clean s = (n : ℕ) → list_all is_clean_unit (units s) ≡ true → is_lead_byte (get_or s n 0) ≡ false → list_all is_clean_unit (units (drop (suc n) s)) ≡ true

    none_left : Clean []
    none_left n q h = refl

    pair_left : (a b : ℕ) (s : List ℕ) → is_lead_byte a ≡ true → is_trail_byte b ≡ true → units (a ∷ b ∷ s) ≡ pair a b ∷ units s → Clean s → Clean (a ∷ b ∷ s)
    pair_left a b s l t u ih zero q h = absurd (true≢false (sym l ∙ h))
    pair_left a b s l t u ih (suc zero) q h = rw u at q
    pair_left a b s l t u ih (suc (suc n)) q h = ih n (rw u at q) h

    single-left : (a : ℕ) (s : List ℕ) → units (a ∷ s) ≡ single a ∷ units s → Clean s → Clean (a ∷ s)
    single-left a s u ih zero q h = and_right (is_clean_byte a) _ (rw u at q)
    single-left a s u ih (suc n) q h = ih n (and_right (is_clean_byte a) _ (rw u at q)) h

-- LAW: clean texts are clean from each place on that follows no lead byte
pub clean-behind : (tab : List ℕ) (from n : ℕ) → is_clean_from tab from ≡ true → is_lead_byte (get_or tab (from + n) 0) ≡ false → is_clean_from tab (from + suc n) ≡ true
unfolding is_clean_from
clean-behind tab from n e h = rw (← drop-drop (suc n) from tab) (clean_drop (drop from tab) n e (rw (get_or-drop from tab n 0) h))
