-- Fit texts unit by unit, and the marks that say where one starts. Assumes nothing.
use Prim.Native.Nat.{ℕ, zero, suc, ◌+◌, ◌-◌, ◌<◌, ◌≤◌}
use mathlib.Core.Path.{◌≡◌, refl, sym, ◌∙◌}
use mathlib.Core.Logic.{⊎_elim}
use mathlib.Core.Bool.{Bool, true, false, true≢false, not, ◌&&◌}
use mathlib.Core.List.{List}
use native.Mathlib.Omega.{arith}
use native.Mathlib.Numerals.{add-one}
use borrow.Author.Tests.{ne_eqb, eqb-true, eqb-false}
use lib.ListN.{get_or, replicate, length, length-replicate, get_or-eq_default}
use lib.Dec.{eqb}
use Rattle.tree.specs.Units.{is_lead_byte, is_trail_byte}
use Rattle.tree.specs.Table.{is_plain_byte, is_safe_byte, is_plain_unit, is_safe_unit}
use Rattle.tree.specs.Inner.Pairs.{is_pair_at}
use Rattle.refusal.specs.Laws.Tests.{lt-or-le, and_left, and_right}
use Rattle.table.specs.Inner.Texts.{is_clean_byte, is_clean_from, HasNoLead}
use Rattle.table.specs.Inner.Blocks.{IsFit, IsMarked}
use Rattle.table.proofs.Chart.{Kinds}
use Rattle.table.proofs.Texts.{inside, clean-no-pair, clean-pair, clean-single, clean-behind, list_all-end, list_all-pair, list_all-single}

-- ---- fit texts

pub fit-end : (tab : List ℕ) (i : ℕ) → get_or tab i 0 ≡ 0 → IsFit tab i
fit-end tab i z = record { plain = list_all-end is_plain_unit tab i z; safe = list_all-end is_safe_unit tab i z }

pub fit-pair : (tab : List ℕ) (i : ℕ) → is_pair_at tab i ≡ true → IsFit tab (i + 2) → IsFit tab i
fit-pair tab i h f = record { plain = list_all-pair is_plain_unit tab i h refl ∙ f.plain; safe = list_all-pair is_safe_unit tab i h refl ∙ f.safe }

pub fit-single : (tab : List ℕ) (i : ℕ) → (get_or tab i 0 ≡ 0 → ⊥) → is_clean_byte (get_or tab i 0) ≡ true → IsFit tab (i + 1) → IsFit tab i
fit-single tab i n e f =
    let b = get_or tab i 0 in
    let q : (is_plain_byte b && is_safe_byte b) ≡ true = rw (ne_eqb b 0 n) at e in
    let p = list_all-single is_plain_unit tab i true n (clean-no-pair tab i e) (and_left (is_plain_byte b) (is_safe_byte b) q) in
    let s = list_all-single is_safe_unit tab i true n (clean-no-pair tab i e) (and_right (is_plain_byte b) (is_safe_byte b) q) in
    record { plain = p ∙ f.plain; safe = s ∙ f.safe }

-- LAW: where the bytes are clean from a place on, the text there is fit; n is enough for the bytes that are left
fit-clean : (n : ℕ) (tab : List ℕ) (i : ℕ) → length tab ≤ i + n → is_clean_from tab i ≡ true → IsFit tab i
fit-clean zero tab i h e = fit-end tab i (get_or-eq_default tab 0 (omega arith))
fit-clean (suc n) tab i h e = go (eqb (get_or tab i 0) 0) (is_pair_at tab i) refl refl (fit-clean n tab (i + 2) (omega arith)) (fit-clean n tab (i + 1) (omega arith))
  where
    go : (z p : Bool) → eqb (get_or tab i 0) 0 ≡ z → is_pair_at tab i ≡ p → (is_clean_from tab (i + 2) ≡ true → IsFit tab (i + 2)) → (is_clean_from tab (i + 1) ≡ true → IsFit tab (i + 1)) → IsFit tab i
    go true p q r f g = fit-end tab i (eqb-true _ _ q)
    go false true q r f g = fit-pair tab i r (f (sym (clean-pair tab i r) ∙ e))
    go false false q r f g =
        let m = eqb-false (get_or tab i 0) 0 q in
        let s : (is_clean_byte (get_or tab i 0) && is_clean_from tab (i + 1)) ≡ true = sym (clean-single tab i (is_clean_byte (get_or tab i 0)) (inside tab i m) r refl) ∙ e in
        fit-single tab i m (and_left (is_clean_byte (get_or tab i 0)) _ s) (g (and_right (is_clean_byte (get_or tab i 0)) _ s))

fit-first : (tab : List ℕ) (from : ℕ) → is_clean_from tab from ≡ true → IsFit tab from
fit-first tab from e = fit-clean (length tab) tab from (omega arith) e

-- LAW: of clean texts, one that follows no lead byte starts with a unit, and so is fit
pub fit-after : (tab : List ℕ) (from at before b : ℕ) (t : Bool) → is_clean_from tab from ≡ true → b ≡ get_or tab before 0 → from ≤ before → before + 1 ≡ at → t ≡ is_lead_byte b → t ≡ false → IsFit tab at
fit-after tab from at before b t e r h k l f =
    let n : ℕ = before - from in
    let p : before ≡ from + n = omega arith in
    let q : from + suc n ≡ at = omega arith in
    let z : is_lead_byte (get_or tab (from + n) 0) ≡ false = rw (← p, ← r) (sym l ∙ f) in
    fit-first tab at (rw q at (clean-behind tab from n e z))

-- LAW: so does one before which there is no lead byte at all
pub fit-early : (tab : List ℕ) (from first at : ℕ) → is_clean_from tab from ≡ true → HasNoLead tab from first → from ≤ at → at ≤ first → IsFit tab at
fit-early tab from first at e g h l = ⊎_elim later (λ (k : at ≤ from). let q : at ≡ from = omega arith in rw q (fit-first tab from e)) (lt-or-le from at)
  where
    later : from < at → IsFit tab at
    later k = fit-after tab from at (at - 1) (get_or tab (at - 1) 0) (is_lead_byte (get_or tab (at - 1) 0)) e refl (omega arith) (omega arith) refl (g.none (at - 1) (omega arith) (omega arith))

-- ---- the units of a text in a block

module _ (tab : List ℕ) (at : ℕ) (kinds trails : List ℕ) (k : Kinds kinds trails) (below : get_or tab at 0 < 256) where
  pub fit-clean-byte : get_or kinds (get_or tab at 0) 0 ≡ 99 → IsFit tab (at + 1) → IsFit tab at
  fit-clean-byte e f =
      let g = k.clean (get_or tab at 0) below e in
      fit-single tab at (λ z. absurd (true≢false (sym (and_left (not (eqb (get_or tab at 0) 0)) _ g) ∙ rw (z)))) (and_right (not (eqb (get_or tab at 0) 0)) _ g) f

  pub clean-byte : get_or kinds (get_or tab at 0) 0 ≡ 99 → is_clean_byte (get_or tab at 0) ≡ true
  clean-byte e = and_right (not (eqb (get_or tab at 0) 0)) _ (k.clean (get_or tab at 0) below e)

  pub clean-goes-on : at < length tab → is_clean_byte (get_or tab at 0) ≡ true → is_clean_from tab at ≡ is_clean_from tab (at + 1)
  clean-goes-on h e = clean-single tab at true h (clean-no-pair tab at e) e

  is-pair : get_or kinds (get_or tab at 0) 0 ≡ 108 → get_or tab (at + 1) 0 < 256 → get_or trails (get_or tab (at + 1) 0) 0 ≡ 116 → is_pair_at tab at ≡ true
  is-pair e l t =
      let a : is_lead_byte (get_or tab at 0) ≡ true = k.lead (get_or tab at 0) below e in
      let b : is_trail_byte (get_or tab (suc at) 0) ≡ true = rw (add-one at) at (k.trail (get_or tab (at + 1) 0) l t) in
      rw (a, b)

  pub clean-lead-byte : get_or kinds (get_or tab at 0) 0 ≡ 108 → get_or tab (at + 1) 0 < 256 → get_or trails (get_or tab (at + 1) 0) 0 ≡ 116 → is_clean_from tab at ≡ is_clean_from tab (at + 2)
  clean-lead-byte e l t = clean-pair tab at (is-pair e l t)

  pub fit-lead-byte : get_or kinds (get_or tab at 0) 0 ≡ 108 → get_or tab (at + 1) 0 < 256 → get_or trails (get_or tab (at + 1) 0) 0 ≡ 116 → IsFit tab (at + 2) → IsFit tab at
  fit-lead-byte e l t f = fit-pair tab at (is-pair e l t) f

-- ---- marks

unmarked : (n b : ℕ) → get_or (replicate n false) b false ≡ false
unmarked zero b = refl
unmarked (suc n) zero = refl
unmarked (suc n) (suc b) = unmarked n b

pub marked-none : (tab : List ℕ) (base : ℕ) → IsMarked tab base (replicate 2048 false)
marked-none tab base = record { long = length-replicate 2048 false; fit = λ b e. absurd (true≢false (sym e ∙ unmarked 2048 b)) }
