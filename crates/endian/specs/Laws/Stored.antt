-- What was written is read back; every other place is as it was; lengths stay. Then the turns of the loops that copy, fill and compare.
-- Assumes nothing.
use Prim.Native.Nat.{ℕ, suc, ◌+◌, ◌-◌, ◌*◌, ◌/◌, ◌%◌, ◌^◌, ◌<◌, ◌≤◌}
use Rattle.std.specs.Prelude.{◌≡◌, refl, ◌⊎◌, Bool, true, false, ◌&&◌, get_or, take, set, eqb}
use Rattle.std.proofs.Common.{sym, ◌∙◌, ⊎_elim, add_assoc, add-zero, take-append-drop, get_or-drop, get_or-append-add, length-take-le, drop_at, take-suc, drop-cons, ext_get_or, eqb-true, eq-eqb}
use Rattle.std.proofs.Math.Path.{ap}
use mathlib.Core.List.{List, [], ◌∷◌, ◌++◌, append_assoc}
use native.Mathlib.Omega.{arith}
use Rattle.std.proofs.Math.Nat.{div-div-eq-div-mul}
use Rattle.std.proofs.Math.ListN.{length, drop, length-append, length-drop, get_or-append}
use Rattle.std.proofs.lemmas.List.Edits.{sets, sets-eq}
use Rattle.std.proofs.Math.Seq.{get_or-take, take-append_seam, drop-drop, append_snoc}
use Rattle.std.proofs.lemmas.List.{set_at}
use Rattle.endian.specs.Bytes.{be24, be32, be24_bytes, be32_bytes, put, span, are_same_bytes, AllBytes}
use Rattle.refusal.specs.Laws.Tests.{lt-or-le}

-- ---- numbers: their bytes give the number back

pub be24-value : (n : ℕ) → n < 2 ^ 24 → n / 65536 % 256 * 65536 + n / 256 % 256 * 256 + n % 256 ≡ n
be24-value n h = omega arith

-- the highest three bytes of a number, and its lowest
be32-join : (n a b c : ℕ) → a * 65536 + b * 256 + c ≡ n / 256 → a * 16777216 + b * 65536 + c * 256 + n % 256 ≡ n
be32-join n a b c h = omega arith

pub be32-value : (n : ℕ) → n < 2 ^ 32 → n / 16777216 % 256 * 16777216 + n / 65536 % 256 * 65536 + n / 256 % 256 * 256 + n % 256 ≡ n
be32-value n h = be32-join n _ _ _ (simp div-div-eq-div-mul at (be24-value (n / 256) (omega arith)))

-- reading in a part that starts at n is reading at n + i
pub be32-drop : (n : ℕ) (s : List ℕ) (i : ℕ) → be32 (drop n s) i ≡ be32 s (n + i)
unfolding be32
be32-drop n s i = simp (get_or-drop, add_assoc)

pub be24-drop : (n : ℕ) (s : List ℕ) (i : ℕ) → be24 (drop n s) i ≡ be24 s (n + i)
unfolding be24
be24-drop n s i = simp (get_or-drop, add_assoc)

-- bytes spell a number of 32 bits
pub be32-small : (s : List ℕ) (at : ℕ) → AllBytes s → be32 s at < 2 ^ 32
unfolding be32
be32-small s at b = omega (arith, b at, b (at + 1), b (at + 2), b (at + 3))

-- two lists that agree on the n places from `at` on
abbrev pub Same : List ℕ → List ℕ → ℕ → ℕ → Type 0
Same l m at n = (i : ℕ) → i < n → get_or l (at + i) 0 ≡ get_or m (at + i) 0

-- ---- bytes put over a part of a list

module _ (s : List ℕ) (at : ℕ) (bs : List ℕ) (fits : at + length bs ≤ length s) where
  front : length (take at s) ≡ at
  front = length-take-le at s (omega arith)

  pub length-put : length (put s at bs) ≡ length s
  unfolding put
  length-put = simp (length-append, length-drop, front) (omega arith)

  pub put-before : (i : ℕ) → i < at → get_or (put s at bs) i 0 ≡ get_or s i 0
  unfolding put
  put-before i h = get_or-append (take at s) _ 0 i (rw front h) ∙ get_or-take at s i 0 h

  -- index at + i, past the front
  past : (i : ℕ) → get_or (put s at bs) (at + i) 0 ≡ get_or (bs ++ drop (at + length bs) s) i 0
  unfolding put
  past i = rw front at (get_or-append-add (take at s) (bs ++ drop (at + length bs) s) i 0)

  pub put_in : (i : ℕ) → i < length bs → get_or (put s at bs) (at + i) 0 ≡ get_or bs i 0
  put_in i h = past i ∙ get_or-append bs _ 0 i h

  pub put-after : (i : ℕ) → at + length bs ≤ i → get_or (put s at bs) i 0 ≡ get_or s i 0
  put-after i h =
      let e : at + (length bs + (i - (at + length bs))) ≡ i = omega arith in
      let e' : at + length bs + (i - (at + length bs)) ≡ i = omega arith in
      ap (λ (n : ℕ). get_or (put s at bs) n 0) (sym e) ∙ past (length bs + (i - (at + length bs))) ∙ get_or-append-add bs _ _ 0
      ∙ get_or-drop (at + length bs) s _ 0 ∙ ap (λ (n : ℕ). get_or s n 0) e'

  -- what was put is there
  pub span-put : span (put s at bs) at (length bs) ≡ bs
  unfolding put
  span-put = rw (drop_at (take at s) (bs ++ drop (at + length bs) s) at front) (take-append_seam bs _)

  pub drop-put : (n : ℕ) → at + length bs ≤ n → drop n (put s at bs) ≡ drop n s
  unfolding put
  drop-put n h =
      let m : ℕ = at + length bs in
      let e : m + (n - m) ≡ n = omega arith in
      let l : length (take at s ++ bs) ≡ m = length-append (take at s) bs ∙ ap (λ (k : ℕ). k + length bs) front in
      let d : drop m (take at s ++ (bs ++ drop m s)) ≡ drop m s = rw (← append_assoc (take at s) bs (drop m s)) (drop_at (take at s ++ bs) (drop m s) m l) in
      rw (← e, ← drop-drop (n - m) m (take at s ++ (bs ++ drop m s)), d, drop-drop (n - m) m s)

-- nothing put changes nothing
pub put-none : (s : List ℕ) (at : ℕ) → put s at [] ≡ s
unfolding put
put-none s at = rw (add-zero at) (take-append-drop at s)

-- a number put is read
pub be24-put : (s : List ℕ) (at v : ℕ) → at + 3 ≤ length s → v < 2 ^ 24 → be24 (put s at (be24_bytes v)) at ≡ v
unfolding be24
be24-put s at v h small =
    rw (rw (add-zero at) at (put_in s at (be24_bytes v) h 0 (omega arith)), put_in s at (be24_bytes v) h 1 (omega arith), put_in s at (be24_bytes v) h 2 (omega arith)) (be24-value v small)

pub be32-put : (s : List ℕ) (at v : ℕ) → at + 4 ≤ length s → v < 2 ^ 32 → be32 (put s at (be32_bytes v)) at ≡ v
unfolding be32
be32-put s at v h small =
    rw (rw (add-zero at) at (put_in s at (be32_bytes v) h 0 (omega arith)), put_in s at (be32_bytes v) h 1 (omega arith), put_in s at (be32_bytes v) h 2 (omega arith), put_in s at (be32_bytes v) h 3 (omega arith)) (be32-value v small)

-- two lists that agree on the bytes of a field have the same number there
pub be24-same : (l m : List ℕ) (at : ℕ) → Same l m at 3 → be24 l at ≡ be24 m at
unfolding be24
be24-same l m at f = rw (rw (add-zero at) at (f 0 (omega arith)), f 1 (omega arith), f 2 (omega arith))

pub be32-same : (l m : List ℕ) (at : ℕ) → Same l m at 4 → be32 l at ≡ be32 m at
unfolding be32
be32-same l m at f = rw (rw (add-zero at) at (f 0 (omega arith)), f 1 (omega arith), f 2 (omega arith), f 3 (omega arith))

-- a place outside the n bytes at `at`
abbrev pub Outside : ℕ → ℕ → ℕ → Type 0
Outside at n i = (i < at) ⊎ (at + n ≤ i)

pub put-outside : (s : List ℕ) (at : ℕ) (bs : List ℕ) → at + length bs ≤ length s → (i : ℕ) → Outside at (length bs) i → get_or (put s at bs) i 0 ≡ get_or s i 0
put-outside s at bs fits i = ⊎_elim (λ h. put-before s at bs fits i h) (λ h. put-after s at bs fits i h)

pub put-bytes : (s : List ℕ) (at : ℕ) (bs : List ℕ) → at + length bs ≤ length s → AllBytes s → AllBytes bs → AllBytes (put s at bs)
put-bytes s at bs fits hi hb i =
    ⊎_elim (λ h. rw (put-before s at bs fits i h) (hi i))
    (λ h. ⊎_elim (λ h'. inner h h') (λ h'. rw (put-after s at bs fits i h') (hi i)) (lt-or-le i (at + length bs))) (lt-or-le i at)
  where
    inner : at ≤ i → i < at + length bs → get_or (put s at bs) i 0 < 256
    inner h h' =
        let e : at + (i - at) ≡ i = omega arith in
        rw e at (rw (← put_in s at bs fits (i - at) (omega arith)) at (hb (i - at)))

-- a run of single stores
pub put-sets : (s : List ℕ) (at : ℕ) (bs : List ℕ) → at + length bs ≤ length s → sets s at bs ≡ put s at bs
unfolding put
put-sets s at bs h = sets-eq bs s at h ∙ append_assoc (take at s) bs (drop (at + length bs) s)

-- one more byte behind what was put, and one before it
pub put-snoc : (s : List ℕ) (at : ℕ) (bs : List ℕ) (b : ℕ) → at + length bs < length s → set (put s at bs) (at + length bs) b ≡ put s at (bs ++ (b ∷ []))
unfolding put
put-snoc s at bs b h =
    let n : ℕ = at + length bs in
    let l : length (take at s ++ bs) ≡ n = length-append (take at s) bs ∙ ap (λ (k : ℕ). k + length bs) (length-take-le at s (omega arith)) in
    let m : at + length (bs ++ (b ∷ [])) ≡ suc n = omega (arith, length-append bs (b ∷ [])) in
    rw (m, drop-cons s n 0 h, ← append_assoc (take at s) bs (get_or s n 0 ∷ drop (suc n) s), append_snoc bs b (drop (suc n) s))
    (set_at (take at s ++ bs) _ _ b n l ∙ append_assoc (take at s) bs (b ∷ drop (suc n) s))

pub put-cons : (s : List ℕ) (at : ℕ) (bs : List ℕ) (b : ℕ) → suc at + length bs ≤ length s → set (put s (suc at) bs) at b ≡ put s at (b ∷ bs)
unfolding put
put-cons s at bs b h =
    let k : at < length s = omega arith in
    let e : at + suc (length bs) ≡ suc at + length bs = omega arith in
    rw (e, take-suc s at 0 k, append_assoc (take at s) (get_or s at 0 ∷ []) (bs ++ drop (suc at + length bs) s)) (set_at (take at s) _ _ b at (length-take-le at s (omega arith)))

-- ---- spans

pub length-span : (s : List ℕ) (at n : ℕ) → at + n ≤ length s → length (span s at n) ≡ n
length-span s at n h = length-take-le n (drop at s) (rw length-drop (omega arith))

pub get_d-span : (s : List ℕ) (at n i : ℕ) → i < n → get_or (span s at n) i 0 ≡ get_or s (at + i) 0
get_d-span s at n i h = get_or-take n (drop at s) i 0 h ∙ get_or-drop at s i 0

pub span-snoc : (s : List ℕ) (at n : ℕ) → at + n < length s → span s at (suc n) ≡ span s at n ++ (get_or s (at + n) 0 ∷ [])
span-snoc s at n h = rw (← get_or-drop at s n 0) (take-suc (drop at s) n 0 (rw length-drop (omega arith)))

pub span-cons : (s : List ℕ) (at n : ℕ) → at < length s → span s at (suc n) ≡ get_or s at 0 ∷ span s (suc at) n
span-cons s at n h = rw (drop-cons s at 0 h)

-- two lists that agree on a span have the same span
pub span_ext : (l m : List ℕ) (at n : ℕ) → at + n ≤ length l → at + n ≤ length m → Same l m at n → span l at n ≡ span m at n
span_ext l m at n h k f =
    ext_get_or 0 (span l at n) (span m at n) (length-span l at n h ∙ sym (length-span m at n k))
    (λ i j. let i' : i < n = rw (length-span l at n h) at j in get_d-span l at n i i' ∙ f i i' ∙ sym (get_d-span m at n i i'))

-- ---- bytes compared

pub same_refl : (s : List ℕ) → are_same_bytes s s ≡ true
unfolding are_same_bytes
same_refl [] = refl
same_refl (x ∷ xs) = rw (eq-eqb x x refl) (same_refl xs)

pub same-eq : (s t : List ℕ) → are_same_bytes s t ≡ true → s ≡ t
unfolding are_same_bytes
same-eq [] [] h = refl
same-eq [] (y ∷ ys) h = let z : ◌≡◌ {A = ℕ} 0 1 = cc in absurd (omega arith)
same-eq (x ∷ xs) [] h = let z : ◌≡◌ {A = ℕ} 0 1 = cc in absurd (omega arith)
same-eq (x ∷ xs) (y ∷ ys) h = go (eqb x y) refl h (same-eq xs ys)
  where
    go : (t : Bool) → eqb x y ≡ t → (t && are_same_bytes xs ys) ≡ true → (are_same_bytes xs ys ≡ true → xs ≡ ys) → x ∷ xs ≡ y ∷ ys
    go true e q f = rw (eqb-true x y e, f q)
    go false e q f = let z : ◌≡◌ {A = ℕ} 0 1 = cc in absurd (omega arith)
