-- What `all` of the units says: the test of each. Assumes nothing.
use Prim.Native.Nat.{ℕ, zero, suc, ◌+◌, ◌-◌, ◌≤◌, min}
use native.Mathlib.Omega.{arith}
use lib.ListN.{length, drop, take, length-drop}
use lib.Seq.{take-length}
use mathlib.Core.Path.{◌≡◌, refl, sym, ap, ◌∙◌}
use mathlib.Core.Bool.{Bool, true, false, true≢false, cond}
use mathlib.Core.List.{List, [], ◌∷◌}
use borrow.Author.Tests.{ne_eqb}
use lib.Dec.{ltb}
use Rattle.std.proofs.lemmas.Bool.{ltb-false}
use Rattle.std.specs.Prelude.{◌==◌, Option, Some, None, unwrap_or}
use Rattle.std.specs.Option.{option_map_or}
use Rattle.std.specs.List.{list_all, position_or_len}
use Rattle.tree.specs.Units.{units}
use Rattle.tree.specs.Table.{first_text, is_safe, is_plain, is_plain_unit, is_safe_unit}
use Rattle.table.specs.Inner.Texts.{is_nameless, is_clean_unit, is_clean_from}

pub is_plain-is : (nm : List ℕ) → list_all is_plain_unit (units nm) ≡ is_plain nm
unfolding is_plain
is_plain-is nm = refl

pub is_safe-none : (nm : List ℕ) → is_nameless nm ≡ true → is_safe nm ≡ false
unfolding is_safe
is_safe-none [] h = refl
is_safe-none (x ∷ s) h = rw h

pub is_safe-is : (nm : List ℕ) → is_nameless nm ≡ false → is_safe nm ≡ list_all is_safe_unit (units nm)
unfolding is_safe
is_safe-is [] h = absurd (true≢false h)
is_safe-is (x ∷ s) h = rw h

pub is_safe-fit : (nm : List ℕ) → is_nameless nm ≡ false → list_all is_safe_unit (units nm) ≡ true → is_safe nm ≡ true
is_safe-fit nm h e = rw (is_safe-is nm h) e

pub drop-min : (n : ℕ) (s : List ℕ) → drop (min n (length s)) s ≡ drop n s
drop-min zero s = let e : min 0 (length s) ≡ 0 = omega arith in rw e
drop-min (suc n) [] = let e : min (suc n) 0 ≡ 0 = omega arith in rw e
drop-min (suc n) (b ∷ s) =
    let e : min (suc n) (suc (length s)) ≡ suc (min n (length s)) = omega arith in
    rw e (drop-min n s)

pub clean-is : (tab : List ℕ) (from at : ℕ) → at ≡ min from (length tab) → list_all is_clean_unit (units (drop at tab)) ≡ is_clean_from tab from
unfolding is_clean_from
clean-is tab from at e = rw (e, drop-min from tab)

pub whole-rest : (s : List ℕ) (n : ℕ) → take (length s - n) (drop n s) ≡ drop n s
whole-rest s n = rw (← length-drop n s, take-length (drop n s))

-- ---- a text up to its zero byte

abbrev pub is_zero : ℕ → Bool
is_zero b = b == 0

text-cut : (s : List ℕ) → take (position_or_len is_zero s) s ≡ first_text s
text-cut [] = refl
text-cut (zero ∷ s) = refl
text-cut (suc b ∷ s) =
    let e : is_zero (suc b) ≡ false = ne_eqb (suc b) 0 (λ z. omega (arith, z)) in
    let k : 1 + position_or_len is_zero s ≡ suc (position_or_len is_zero s) = omega arith in
    rw (e, k) (ap (λ (t : List ℕ). suc b ∷ t) (text-cut s))

pub cut-some : (s : List ℕ) (n : ℕ) → Some n ≡ cond (ltb (position_or_len is_zero s) (length s)) (Some (position_or_len is_zero s)) None → take n s ≡ first_text s
cut-some s n e = go (ltb (position_or_len is_zero s) (length s)) e
  where
    go : (t : Bool) → Some n ≡ cond t (Some (position_or_len is_zero s)) None → take n s ≡ first_text s
    go true e = let q : n ≡ position_or_len is_zero s = ap (λ (o : Option ℕ). unwrap_or o 0) e in rw q (text-cut s)
    go false e = let q : n + 1 ≡ 0 = ap (λ (o : Option ℕ). option_map_or (λ k. k + 1) o 0) e in absurd (omega (arith, q))

take-past : (n : ℕ) (s : List ℕ) → length s ≤ n → take n s ≡ s
take-past zero [] h = refl
take-past (suc n) [] h = refl
take-past zero (b ∷ s) h = absurd (omega arith)
take-past (suc n) (b ∷ s) h = ap (λ (t : List ℕ). b ∷ t) (take-past n s (omega arith))

pub cut-none : (s : List ℕ) → None ≡ cond (ltb (position_or_len is_zero s) (length s)) (Some (position_or_len is_zero s)) None → s ≡ first_text s
cut-none s e = go (ltb (position_or_len is_zero s) (length s)) refl e
  where
    go : (t : Bool) → ltb (position_or_len is_zero s) (length s) ≡ t → None ≡ cond t (Some (position_or_len is_zero s)) None → s ≡ first_text s
    go true f e = let q : 0 ≡ position_or_len is_zero s + 1 = ap (λ (o : Option ℕ). option_map_or (λ k. k + 1) o 0) e in absurd (omega (arith, q))
    go false f e = sym (take-past (position_or_len is_zero s) s (ltb-false _ _ f)) ∙ text-cut s
