-- What the definitions of `Dol` say: the words by index, and the largest sum as the least number that no sum passes.
-- Assumes nothing.
use Rattle.refusal.specs.Refusal.{Verdict}
use Rattle.std.specs.Prelude.{ℕ, zero, suc, ◌+◌, ◌-◌, ◌*◌, ◌≤◌, ◌<◌, ◌^◌, min, ◌≡◌, refl, List, [], ◌∷◌, length, get_or, Ok, Err}
use Rattle.std.proofs.Common.{ap, ◌∙◌, arith, add-zero}
use Rattle.executable.specs.declared.dol.DolHeader.{DolHeader}
use Rattle.endian.specs.Bytes.{be32}
use Rattle.endian.specs.Laws.Stored.{Same, be32-same}
use Rattle.refusal.specs.declared.Refusal.{Refusal}
use Rattle.window.specs.Window.{new_window, count_of}
use Rattle.executable.specs.Dol.{words_at, dol_header_of, largest_of, file_size_of, dol_verdict_of, dol_size_of}
use Rattle.std.specs.Result.{result_and}

-- the same bytes, from a later place on
same-later : (s s' : List ℕ) (at k n : ℕ) → Same s s' at n → (i : ℕ) → k + i < n → get_or s (at + k + i) 0 ≡ get_or s' (at + k + i) 0
same-later s s' at k n h i l = let e : at + k + i ≡ at + (k + i) = omega arith in rw e (h (k + i) l)

pub length-words : (s : List ℕ) (at n : ℕ) → length (words_at s at n) ≡ n
unfolding words_at
length-words s at zero = refl
length-words s at (suc n) = ap suc (length-words s (at + 4) n)

-- word i stands at at + 4 * i
pub get_d_words : (s : List ℕ) (at n i : ℕ) → i < n → get_or (words_at s at n) i 0 ≡ be32 s (at + 4 * i)
unfolding words_at
get_d_words s at zero i h = absurd (omega arith)
get_d_words s at (suc n) zero h = let e : at + 4 * zero ≡ at = omega arith in rw e
get_d_words s at (suc n) (suc i) h = let e : at + 4 + 4 * i ≡ at + 4 * suc i = omega arith in rw e at (get_d_words s (at + 4) n i (omega arith))

-- a header is its 0xE4 bytes
words_same : (s s' : List ℕ) (at n : ℕ) → Same s s' at (4 * n) → words_at s at n ≡ words_at s' at n
unfolding words_at
words_same s s' at zero h = refl
words_same s s' at (suc n) h =
    rw (be32-same s s' at (λ i l. h i (omega arith)), words_same s s' (at + 4) n (λ i l. same-later s s' at 4 (4 * suc n) h i (omega arith)))

pub header-same : (s s' : List ℕ) (at : ℕ) → Same s s' at 0xE4 → dol_header_of s at ≡ dol_header_of s' at
header-same s s' at h =
    rw (
      words_same s s' at 7 (λ i l. h i (omega arith)),
      words_same s s' (at + 0x1C) 11 (λ i l. same-later s s' at 0x1C 0xE4 h i (omega arith)),
      words_same s s' (at + 0x48) 7 (λ i l. same-later s s' at 0x48 0xE4 h i (omega arith)),
      words_same s s' (at + 0x64) 11 (λ i l. same-later s s' at 0x64 0xE4 h i (omega arith)),
      words_same s s' (at + 0x90) 7 (λ i l. same-later s s' at 0x90 0xE4 h i (omega arith)),
      words_same s s' (at + 0xAC) 11 (λ i l. same-later s s' at 0xAC 0xE4 h i (omega arith)),
      be32-same s s' (at + 0xD8) (λ i l. same-later s s' at 0xD8 0xE4 h i (omega arith)),
      be32-same s s' (at + 0xDC) (λ i l. same-later s s' at 0xDC 0xE4 h i (omega arith)),
      be32-same s s' (at + 0xE0) (λ i l. same-later s s' at 0xE0 0xE4 h i (omega arith)),
    )

-- the file size alone tells the verdict
module _ (s : List ℕ) (at n : ℕ) where
  by-verdict : (v : Verdict) → dol_verdict_of s at ≡ v → dol_size_of s at ≡ result_and v (Ok (file_size_of (dol_header_of s at)))
  by-verdict v e = ap (λ (u : Verdict). result_and {T = Unit {0}} {U = ℕ} u (Ok (file_size_of (dol_header_of s at)))) e

  pub size-passed : dol_size_of s at ≡ Ok n → (dol_verdict_of s at ≡ Ok tt) × (n ≡ file_size_of (dol_header_of s at))
  size-passed e = go (dol_verdict_of s at) refl
    where
      go : (v : Verdict) → dol_verdict_of s at ≡ v → (dol_verdict_of s at ≡ Ok tt) × (n ≡ file_size_of (dol_header_of s at))
      go (Ok _) q = let t = by-verdict (Ok tt) q in let k : n ≡ file_size_of (dol_header_of s at) = cc in (q, k)
      go (Err c) q = let t = by-verdict (Err c) q in let z : ◌≡◌ {A = ℕ} 0 1 = cc in absurd (omega arith)

pub size-refused : (s : List ℕ) (at : ℕ) (c : Refusal) → dol_size_of s at ≡ Err c → dol_verdict_of s at ≡ Err c
size-refused s at c e = go (dol_verdict_of s at) refl
  where
    go : (v : Verdict) → dol_verdict_of s at ≡ v → dol_verdict_of s at ≡ Err c
    go (Ok _) q = let t = by-verdict s at 0 (Ok tt) q in let z : ◌≡◌ {A = ℕ} 0 1 = cc in absurd (omega arith)
    go (Err d) q = let t = by-verdict s at 0 (Err d) q in let k : d ≡ c = cc in q ∙ ap Err k

-- no sum passes the largest, and it passes no number that every sum keeps to
pub sum-le-largest : (os ss : List ℕ) (i : ℕ) → i < length os → i < length ss → get_or os i 0 + get_or ss i 0 ≤ largest_of os ss
unfolding largest_of
sum-le-largest [] ss i h k = absurd (omega arith)
sum-le-largest (o ∷ os) [] i h k = absurd (omega arith)
sum-le-largest (o ∷ os) (s ∷ ss) zero h k = omega arith
sum-le-largest (o ∷ os) (s ∷ ss) (suc i) h k = omega (arith, sum-le-largest os ss i (omega arith) (omega arith))

pub largest-le : (os ss : List ℕ) (n : ℕ) → ((i : ℕ) → i < length os → i < length ss → get_or os i 0 + get_or ss i 0 ≤ n) → largest_of os ss ≤ n
unfolding largest_of
largest-le [] ss n f = omega arith
largest-le (o ∷ os) [] n f = omega arith
largest-le (o ∷ os) (s ∷ ss) n f = omega (arith, f zero (omega arith) (omega arith), largest-le os ss n (λ i h k. f (suc i) (omega arith) (omega arith)))

-- so the file size is below 2^32 exactly if each of the 18 sums is
module _ (s : List ℕ) (at : ℕ) where
  abbrev h : DolHeader
  h = dol_header_of s at

  pub size_fits : ((i : ℕ) → i < 7 → get_or h.text_offsets i 0 + get_or h.text_sizes i 0 < 2 ^ 32) → ((i : ℕ) → i < 11 → get_or h.data_offsets i 0 + get_or h.data_sizes i 0 < 2 ^ 32) → file_size_of h < 2 ^ 32
  size_fits f g =
      let a : largest_of h.text_offsets h.text_sizes ≤ 2 ^ 32 - 1 = largest-le _ _ _ (λ i k _. omega (arith, f i (omega (arith, length-words s at 7)))) in
      let b : largest_of h.data_offsets h.data_sizes ≤ 2 ^ 32 - 1 = largest-le _ _ _ (λ i k _. omega (arith, g i (omega (arith, length-words s (at + 0x1C) 11)))) in
      omega arith

  pub text-sum-fits : file_size_of h < 2 ^ 32 → (i : ℕ) → i < 7 → get_or h.text_offsets i 0 + get_or h.text_sizes i 0 < 2 ^ 32
  text-sum-fits f i k = omega (arith, sum-le-largest h.text_offsets h.text_sizes i (omega (arith, length-words s at 7)) (omega (arith, length-words s (at + 0x90) 7)))

  pub data-sum-fits : file_size_of h < 2 ^ 32 → (i : ℕ) → i < 11 → get_or h.data_offsets i 0 + get_or h.data_sizes i 0 < 2 ^ 32
  data-sum-fits f i k = omega (arith, sum-le-largest h.data_offsets h.data_sizes i (omega (arith, length-words s (at + 0x1C) 11)) (omega (arith, length-words s (at + 0xAC) 11)))

-- a read at the front of a DOL window gives no more than the file has, and stops at the image's end
pub window-reads : (at size there asked : ℕ) → count_of (new_window at size) there asked ≡ min asked (min size (there - at))
window-reads at size there asked = let z : size - 0 ≡ size = omega arith in rw (add-zero at, z)
