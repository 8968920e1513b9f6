-- The name at a place of the texts: the bytes up to the first zero byte, one by one. Assumes nothing.
use Prim.Native.Nat.{ℕ, zero, suc, ◌+◌, ◌-◌, ◌*◌, ◌<◌}
use Rattle.std.specs.Prelude.{◌≡◌, refl, true, take}
use Rattle.std.proofs.Math.Path.{sym, ap}
use Rattle.std.proofs.Common.{◌∙◌, get_or-drop}
use mathlib.Core.List.{List, [], ◌∷◌, ◌++◌}
use native.Mathlib.Omega.{arith}
use Rattle.std.proofs.Math.ListN.{length, get_or, drop, length-drop}
use Rattle.endian.specs.Bytes.{span}
use Rattle.refusal.specs.Laws.Tests.{and_right}
use Rattle.tree.specs.Units.{is_within}
use Rattle.tree.specs.Table.{first_text, name_at}
use Rattle.std.specs.List.{list_all}

-- a name of bytes that are not zero, and its zero byte
pub first_text-name : (nm r : List ℕ) → list_all (is_within 0x20 0xFC) nm ≡ true → first_text (nm ++ (0 ∷ r)) ≡ nm
first_text-name [] r e = refl
first_text-name (zero ∷ nm) r e = cc
first_text-name (suc b ∷ nm) r e = ap (λ (l : List ℕ). suc b ∷ l) (first_text-name nm r (and_right (is_within 0x20 0xFC (suc b)) _ e))

-- what a loop that looks for the zero byte has found
pub first_text-found : (s : List ℕ) (n : ℕ) → n < length s → ((i : ℕ) → i < n → 0 < get_or s i 0) → get_or s n 0 ≡ 0 → first_text s ≡ take n s
first_text-found [] n h f z = absurd (omega arith)
first_text-found (zero ∷ s) zero h f z = refl
first_text-found (zero ∷ s) (suc n) h f z = absurd (omega (arith, f 0 (omega arith)))
first_text-found (suc b ∷ s) zero h f z = absurd (omega arith)
first_text-found (suc b ∷ s) (suc n) h f z = ap (λ (l : List ℕ). suc b ∷ l) (first_text-found s n (omega arith) (λ i j. f (suc i) (omega arith)) z)

first_text-at : (s : List ℕ) (i : ℕ) → i < length (first_text s) → (get_or (first_text s) i 0 ≡ get_or s i 0) × (0 < get_or s i 0)
first_text-at [] i h = absurd (omega arith)
first_text-at (zero ∷ s) i h = absurd (omega arith)
first_text-at (suc b ∷ s) zero h = (refl, omega arith)
first_text-at (suc b ∷ s) (suc i) h = first_text-at s i (omega arith)

first_text-ends : (s : List ℕ) → 0 < length s → get_or s (length s - 1) 0 ≡ 0 → (length (first_text s) < length s) × (get_or s (length (first_text s)) 0 ≡ 0)
first_text-ends [] h z = absurd (omega arith)
first_text-ends (zero ∷ s) h z = (omega arith, refl)
first_text-ends (suc b ∷ []) h z = absurd (omega arith)
first_text-ends (suc b ∷ x ∷ s) h z =
    let e : suc (suc (length s)) - 1 ≡ suc (suc (length s) - 1) = omega arith in
    let ih = first_text-ends (x ∷ s) (omega arith) (rw e at z) in
    (omega arith, ih.1)

-- the same, in the table
module _ (tab : List ℕ) (c o : ℕ) where
  pub name-found : (n : ℕ) → 12 * c + o + n < length tab → ((i : ℕ) → i < n → 0 < get_or tab (12 * c + o + i) 0) → get_or tab (12 * c + o + n) 0 ≡ 0 →
      name_at tab c o ≡ span tab (12 * c + o) n
  unfolding name_at
  name-found n h f z =
      first_text-found (drop (12 * c + o) tab) n (rw length-drop (omega arith)) (λ i j. rw (get_or-drop (12 * c + o) tab i 0) (f i j)) (get_or-drop (12 * c + o) tab n 0 ∙ z)

  -- byte i of the name, which is not zero
  pub name-byte : (i : ℕ) → i < length (name_at tab c o) → (get_or (name_at tab c o) i 0 ≡ get_or tab (12 * c + o + i) 0) × (0 < get_or tab (12 * c + o + i) 0)
  unfolding name_at
  name-byte i h = rw (get_or-drop (12 * c + o) tab i 0) at (first_text-at (drop (12 * c + o) tab) i h)

  -- texts that end in a zero byte end each name that starts in them
  pub name-ends : 12 * c + o < length tab → get_or tab (length tab - 1) 0 ≡ 0 →
      (12 * c + o + length (name_at tab c o) < length tab) × (get_or tab (12 * c + o + length (name_at tab c o)) 0 ≡ 0)
  unfolding name_at
  name-ends h z =
      let s : List ℕ = drop (12 * c + o) tab in
      let l : length s ≡ length tab - (12 * c + o) = length-drop (12 * c + o) tab in
      let a : 12 * c + o + (length s - 1) ≡ length tab - 1 = omega arith in
      let e = first_text-ends s (omega arith) (get_or-drop (12 * c + o) tab (length s - 1) 0 ∙ ap (λ (n : ℕ). get_or tab n 0) a ∙ z) in
      (omega arith, sym (get_or-drop (12 * c + o) tab (length (first_text s)) 0) ∙ e.1)

-- as many bytes as it has are the text
pub take-first_text : (s : List ℕ) → take (length (first_text s)) s ≡ first_text s
take-first_text [] = refl
take-first_text (zero ∷ s) = refl
take-first_text (suc b ∷ s) = ap (λ (t : List ℕ). suc b ∷ t) (take-first_text s)
