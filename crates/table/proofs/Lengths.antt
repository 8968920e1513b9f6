-- The lengths of texts that share their ends.
-- Assumes nothing.
use Prim.Native.Nat.{ℕ, zero, suc, ◌+◌, ◌-◌, ◌*◌, ◌<◌, ◌≤◌}
use mathlib.Core.Path.{◌≡◌, refl, sym, ap, ◌∙◌}
use mathlib.Core.Logic.{⊎_elim}
use mathlib.Core.Bool.{Bool, true, false, cond}
use mathlib.Core.List.{List, [], ◌∷◌}
use native.Mathlib.Omega.{arith}
use borrow.Author.Tests.{ltb-true, ltb-false, ne_eqb}
use lib.ListN.{length, get_or, set, replicate, take, drop, length-set, length-replicate, get_or-replicate, length-drop}
use lib.Seq.{get_or-set_same, get_or-set_other, drop-drop}
use lib.Dec.{ltb, eqb}
use Rattle.std.specs.Prelude.{Option, Some, None, unwrap_or}
use Rattle.std.specs.List.{position, position_or_len}
use Rattle.tree.specs.Table.{first_text}
use Rattle.refusal.specs.Laws.Tests.{lt-or-le}
use Rattle.table.specs.Inner.Texts.{text_at}
use Rattle.table.proofs.Texts.{length-end, length-turn}
use Rattle.table.specs.Inner.Ends.{EndsIn}

-- a text from its byte d on
pub length-inside : (tab : List ℕ) (at d : ℕ) → d ≤ length (text_at tab at) → length (text_at tab at) ≡ d + length (text_at tab (at + d))
length-inside tab at zero h = let e : at + 0 ≡ at = omega arith in rw e (omega arith)
length-inside tab at (suc d) h =
    let i = length-inside tab at d (omega arith) in
    let e : at + suc d ≡ at + d + 1 = omega arith in
    rw e (⊎_elim (λ (l : 0 < get_or tab (at + d) 0). omega (arith, i, length-turn tab (at + d) (λ z. omega arith)))
    (λ (l : get_or tab (at + d) 0 ≤ 0). absurd (omega (arith, i, length-end tab (at + d) (omega arith)))) (lt-or-le 0 (get_or tab (at + d) 0)))

pub ends-start : (tab : List ℕ) → EndsIn tab (replicate 320 None)
ends-start tab = record { blocks = length-replicate {A = Option ℕ} 320 None; each = λ b end l h. let e = sym (get_or-replicate {A = Option ℕ} 320 b None None l) ∙ h in cc }

-- the end of a long text is told to the next block
pub ends-turn : (tab : List ℕ) (ends : List (Option ℕ)) (at b v : ℕ) → EndsIn tab ends → b < 320 → at ≤ 4096 * b → 4096 * b ≤ at + length (text_at tab at) → v ≡ at + length (text_at tab at) → EndsIn tab (set ends b (Some v))
ends-turn tab ends at b v e l p q is = record {
  blocks = length-set ends b (Some v) ∙ e.blocks;
  each = λ j end m. ⊎_elim (λ jb. other j end m (λ r. omega arith)) (λ bj. ⊎_elim (λ r. other j end m (λ s. omega arith)) (λ r. let f : j ≡ b = omega arith in rw f (here end)) (lt-or-le b j)) (lt-or-le j b);
}
  where
    whole : v ≡ 4096 * b + length (text_at tab (4096 * b))
    whole =
        let f : at + (4096 * b - at) ≡ 4096 * b = omega arith in
        let i = length-inside tab at (4096 * b - at) (omega arith) in omega (arith, is, rw f at i)

    here : (end : ℕ) → get_or (set ends b (Some v)) b None ≡ Some end → end ≡ 4096 * b + length (text_at tab (4096 * b))
    here end h =
        let e : Some v ≡ Some end = sym (get_or-set_same ends b (Some v) None (omega (arith, e.blocks))) ∙ h in
        let f : end ≡ v = cc in
        f ∙ whole

    other : (j end : ℕ) → j < 320 → (j ≡ b → ⊥) → get_or (set ends b (Some v)) j None ≡ Some end → end ≡ 4096 * j + length (text_at tab (4096 * j))
    other j end m n = rw (get_or-set_other ends b j (Some v) None n) (e.each j end m)

-- ---- a text that another stands behind: it ends before that one, or with it

found-before : (s : List ℕ) (n : ℕ) → position_or_len (λ b. eqb b 0) (take n s) < length (take n s) → length (first_text s) ≡ position_or_len (λ b. eqb b 0) (take n s)
found-before [] zero h = absurd (omega arith)
found-before [] (suc n) h = absurd (omega arith)
found-before (b ∷ s) zero h = absurd (omega arith)
found-before (zero ∷ s) (suc n) h = refl
found-before (suc b ∷ s) (suc n) h =
    let z : eqb (suc b) 0 ≡ false = ne_eqb (suc b) 0 (λ e. omega arith) in
    let q : position_or_len (λ b. eqb b 0) (take (suc n) (suc b ∷ s)) ≡ 1 + position_or_len (λ b. eqb b 0) (take n s) = rw z in omega (arith, q, found-before s n (omega (arith, q)))

none-before : (s : List ℕ) (n : ℕ) → length (first_text s) < length s → length (take n s) ≤ position_or_len (λ b. eqb b 0) (take n s) → length (first_text s) ≡ n + length (first_text (drop n s))
none-before [] n h l = absurd (omega arith)
none-before (b ∷ s) zero h l = omega arith
none-before (zero ∷ s) (suc n) h l = absurd (omega arith)
none-before (suc b ∷ s) (suc n) h l =
    let z : eqb (suc b) 0 ≡ false = ne_eqb (suc b) 0 (λ e. omega arith) in
    let q : position_or_len (λ b. eqb b 0) (take (suc n) (suc b ∷ s)) ≡ 1 + position_or_len (λ b. eqb b 0) (take n s) = rw z in omega (arith, none-before s n (omega arith) (omega (arith, q)))

module _ (tab : List ℕ) (at stop end : ℕ) (inside : at + length (text_at tab at) < length tab) (before : at ≤ stop) (ends : end ≡ stop + length (text_at tab stop)) where
  pub before-or-with : unwrap_or (position (λ b. eqb b 0) (take (stop - at) (drop at tab))) (end - at) ≡ length (text_at tab at)
  before-or-with = go (ltb (position_or_len (λ b. eqb b 0) (take (stop - at) (drop at tab))) (length (take (stop - at) (drop at tab)))) refl
    where
      go : (t : Bool) → ltb (position_or_len (λ b. eqb b 0) (take (stop - at) (drop at tab))) (length (take (stop - at) (drop at tab))) ≡ t
          → unwrap_or (cond t (Some (position_or_len (λ b. eqb b 0) (take (stop - at) (drop at tab)))) None) (end - at) ≡ length (text_at tab at)
      go true e = sym (found-before (drop at tab) (stop - at) (ltb-true _ _ e))
      go false e =
          let n : at + (stop - at) ≡ stop = omega arith in
          let d : drop (stop - at) (drop at tab) ≡ drop stop tab = drop-drop (stop - at) at tab ∙ ap (λ (i : ℕ). drop i tab) n in
          omega (arith, none-before (drop at tab) (stop - at) (omega (arith, length-drop at tab)) (ltb-false _ _ e), ap (λ (s : List ℕ). length (first_text s)) d)
