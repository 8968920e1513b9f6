-- One turn of each loop: one word more, and one sum more. Assumes nothing.
use Prim.Native.Nat.{ℕ, zero, suc, ◌+◌, ◌-◌, ◌*◌, ◌^◌, ◌<◌, ◌≤◌, max}
use mathlib.Core.Logic.{◌⊎◌, inl, inr}
use mathlib.Core.Path.{◌≡◌, refl, sym, ap, ◌∙◌}
use mathlib.Core.List.{List, [], ◌∷◌, ◌++◌}
use native.Mathlib.Omega.{arith}
use native.Mathlib.Numerals.{add-one}
use lib.ListN.{length, drop, set}
use lib.Seq.{drop-cons, append_snoc, set_at}
use borrow.Author.Tests.{lt-ltb, le-ltb}
use Rattle.std.specs.Prelude.{Some, None}
use Rattle.std.specs.List.{position_from, zip}
use Rattle.endian.specs.Bytes.{be32}
use Rattle.executable.specs.Sections.{sections_of, is_above, refused_section}
use Rattle.executable.specs.Dol.{words_at, largest_of, dol_header_of}
use Rattle.executable.specs.Laws.DolFacts.{length-words}

pub words_snoc : (s : List ℕ) (at n : ℕ) → words_at s at (suc n) ≡ words_at s at n ++ (be32 s (at + 4 * n) ∷ [])
unfolding words_at
words_snoc s at zero = let e : at + 4 * zero ≡ at = omega arith in rw e
words_snoc s at (suc n) = let e : at + 4 + 4 * n ≡ at + 4 * suc n = omega arith in ap (λ (l : List ℕ). be32 s at ∷ l) (rw e at (words_snoc s (at + 4) n))

-- one turn of a loop that fills a list with words
pub words-turn : (s out₀ out : List ℕ) (at i : ℕ) → out ≡ words_at s at i ++ drop i out₀ → i < length out₀ → set out i (be32 s (at + 4 * i)) ≡ words_at s at (i + 1) ++ drop (i + 1) out₀
words-turn s out₀ out at i e h =
    rw (e, add-one i, drop-cons out₀ i 0, words_snoc) (set_at (words_at s at i) _ _ _ i (length-words s at i) ∙ sym (append_snoc (words_at s at i) _ _))

-- one turn of a loop that looks for the largest sum, and the loop's end
pub largest-turn : (os ss os' ss' : List ℕ) (x y all top next : ℕ) → os ≡ x ∷ os' → ss ≡ y ∷ ss' → all ≡ max top (largest_of os ss) → next ≡ max (x + y) top
    → all ≡ max next (largest_of os' ss')
unfolding largest_of
largest-turn os ss os' ss' x y all top next e f h n = let k : all ≡ max top (max (x + y) (largest_of os' ss')) = rw (e, f) at h in omega arith

largest-none : (os ss : List ℕ) → (os ≡ []) ⊎ (ss ≡ []) → largest_of os ss ≡ 0
unfolding largest_of
largest-none [] ss e = refl
largest-none (o ∷ os) [] e = refl
largest-none (o ∷ os) (s ∷ ss) (inl e) = cc
largest-none (o ∷ os) (s ∷ ss) (inr e) = cc

pub largest-end : (os ss : List ℕ) (all top : ℕ) → (os ≡ []) ⊎ (ss ≡ []) → all ≡ max top (largest_of os ss) → top ≡ all
largest-end os ss all top e h = omega (arith, largest-none os ss e)

-- ---- a loop over the 18 sections that looks for the first that ends above 2^32 - 1

-- the sections from i on
abbrev pub sections_from : List ℕ → ℕ → ℕ → List (ℕ × ℕ)
sections_from s at i = zip (words_at s (at + 4 * i) (18 - i)) (words_at s (at + 0x90 + 4 * i) (18 - i))

words_append : (s : List ℕ) (at n m : ℕ) → words_at s at n ++ words_at s (at + 4 * n) m ≡ words_at s at (n + m)
unfolding words_at
words_append s at zero m = let e : at + 4 * zero ≡ at = omega arith in let f : 0 + m ≡ m = omega arith in rw (e, f)
words_append s at (suc n) m =
    let e : at + 4 * suc n ≡ at + 4 + 4 * n = omega arith in
    let f : suc n + m ≡ suc (n + m) = omega arith in
    rw (e, f, ← words_append s (at + 4) n m)

all-sections : (s : List ℕ) (at : ℕ) → sections_of (dol_header_of s at) ≡ sections_from s at 0
all-sections s at =
    let d : at + 4 * 7 ≡ at + 0x1C = omega arith in
    let e : at + 0x90 + 4 * 7 ≡ at + 0xAC = omega arith in
    let t : at + 4 * 0 ≡ at = omega arith in
    let u : at + 0x90 + 4 * 0 ≡ at + 0x90 = omega arith in
    let os : words_at s at 7 ++ words_at s (at + 0x1C) 11 ≡ words_at s at 18 = rw d at (words_append s at 7 11) in
    let ss : words_at s (at + 0x90) 7 ++ words_at s (at + 0xAC) 11 ≡ words_at s (at + 0x90) 18 = rw e at (words_append s (at + 0x90) 7 11) in
    rw (os, ss, t, u)

section-step : (s : List ℕ) (at i : ℕ) → i < 18 → sections_from s at i ≡ (be32 s (at + 4 * i), be32 s (at + 0x90 + 4 * i)) ∷ sections_from s at (i + 1)
unfolding words_at
section-step s at i h =
    let e : 18 - i ≡ suc (18 - (i + 1)) = omega arith in
    let p : at + 4 * i + 4 ≡ at + 4 * (i + 1) = omega arith in
    let q : at + 0x90 + 4 * i + 4 ≡ at + 0x90 + 4 * (i + 1) = omega arith in
    rw (e, p, q)

section-end : (s : List ℕ) (at i : ℕ) → 18 ≤ i → sections_from s at i ≡ []
unfolding words_at
section-end s at i h = let e : 18 - i ≡ 0 = omega arith in rw e

module _ (s : List ℕ) (at : ℕ) (inside : at + 0xE4 ≤ length s) (i : ℕ) (left : position_from is_above 0 (sections_from s at 0) ≡ position_from is_above i (sections_from s at i)) where
  abbrev sum : ℕ
  sum = be32 s (at + 4 * i) + be32 s (at + 0x90 + 4 * i)

  pub section-here : i < 18 → 2 ^ 32 - 1 < sum → Some i ≡ refused_section s at
  unfolding refused_section
  section-here h p = rw (le-ltb (length s) (at + 0xE4) inside, all-sections s at, left, section-step s at i h, lt-ltb (2 ^ 32 - 1) sum p)

  pub section-later : i < 18 → sum ≤ 2 ^ 32 - 1 → position_from is_above 0 (sections_from s at 0) ≡ position_from is_above (i + 1) (sections_from s at (i + 1))
  section-later h p = left ∙ rw (section-step s at i h, le-ltb (2 ^ 32 - 1) sum p)

  pub section_none : 18 ≤ i → None ≡ refused_section s at
  unfolding refused_section
  section_none h = rw (le-ltb (length s) (at + 0xE4) inside, all-sections s at, left, section-end s at i h)

pub header-past : (s : List ℕ) (at : ℕ) → length s < at + 0xE4 → None ≡ refused_section s at
unfolding refused_section
header-past s at h = rw (lt-ltb (length s) (at + 0xE4) h)
