-- A span put in parts, the lowest first or the highest first, is put whole: a part is read before it is written over. Assumes nothing.
use Prim.Native.Nat.{ℕ, ◌+◌, ◌-◌, ◌*◌, ◌<◌, ◌≤◌, min}
use mathlib.Core.Path.{◌≡◌, refl, sym, ap, ◌∙◌}
use mathlib.Core.Logic.{◌⊎◌, ⊎_elim}
use mathlib.Core.List.{List, ◌++◌, append_assoc}
use native.Mathlib.Omega.{arith}
use lib.ListN.{length, take, drop, length-append}
use borrow.Rule.Slice.PartMut.{put_mid}
use lib.Seq.{length-take-le, take_at, drop_at, take-append-le, take-take, take-add, drop-drop}
use Rattle.endian.specs.Bytes.{put, span}
use Rattle.endian.specs.Laws.Stored.{length-put, put-before, put-after, put-none, drop-put, span-put, length-span, span_ext}

pub put-open : (s : List ℕ) (at : ℕ) (bs : List ℕ) → put s at bs ≡ take at s ++ (bs ++ drop (at + length bs) s)
unfolding put
put-open s at bs = refl

-- up to the end of what was put
pub take_put : (s : List ℕ) (at : ℕ) (a : List ℕ) → at + length a ≤ length s → take (at + length a) (put s at a) ≡ take at s ++ a
unfolding put
take_put s at a h =
    let l : length (take at s ++ a) ≡ at + length a = length-append (take at s) a ∙ ap (λ (k : ℕ). k + length a) (length-take-le at s (omega arith)) in
    rw (← append_assoc (take at s) a (drop (at + length a) s)) (take_at (take at s ++ a) _ (at + length a) l)

-- one part right behind another
pub put-append : (s : List ℕ) (at : ℕ) (a : List ℕ) (m : ℕ) (b : List ℕ) → m ≡ at + length a → m + length b ≤ length s → put (put s at a) m b ≡ put s at (a ++ b)
put-append s at a m b e h =
    let f : at + length a ≤ length s = omega arith in
    let d : drop (at + length a + length b) (put s at a) ≡ drop (at + length a + length b) s = drop-put s at a f (at + length a + length b) (omega arith) in
    let n : at + length (a ++ b) ≡ at + length a + length b = omega (arith, length-append a b) in
    rw e
    (put-open (put s at a) (at + length a) b
    ∙ rw (take_put s at a f, d, append_assoc (take at s) a (b ++ drop (at + length a + length b) s), ← append_assoc a b (drop (at + length a + length b) s))
    (sym (rw n at (put-open s at (a ++ b)))))

-- before what was put, and from there on
take-before : (s : List ℕ) (at m : ℕ) (b : List ℕ) → at ≤ m → m ≤ length s → take at (put s m b) ≡ take at s
unfolding put
take-before s at m b h f = let l : length (take m s) ≡ m = length-take-le m s f in
    take-append-le at (take m s) _ (omega arith) ∙ take-take at m s h

drop-from : (s : List ℕ) (m : ℕ) (b : List ℕ) → m ≤ length s → drop m (put s m b) ≡ b ++ drop (m + length b) s
unfolding put
drop-from s m b f = drop_at (take m s) _ m (length-take-le m s f)

-- one part right before another
pub put-prepend : (s : List ℕ) (at : ℕ) (a : List ℕ) (m : ℕ) (b : List ℕ) → m ≡ at + length a → m + length b ≤ length s → put (put s m b) at a ≡ put s at (a ++ b)
put-prepend s at a m b e h =
    let n : at + length (a ++ b) ≡ m + length b = omega (arith, length-append a b) in
    let t : take at (put s m b) ≡ take at s = take-before s at m b (omega arith) (omega arith) in
    let d : drop (at + length a) (put s m b) ≡ b ++ drop (m + length b) s = rw (← e) (drop-from s m b (omega arith)) in
    put-open (put s m b) at a ∙ rw (t, d, ← append_assoc a b (drop (m + length b) s)) (sym (rw n at (put-open s at (a ++ b))))

pub span-add : (s : List ℕ) (at n m : ℕ) → span s at (n + m) ≡ span s at n ++ span s (at + n) m
span-add s at n m = rw (← drop-drop n at s) (take-add n m (drop at s))

-- a span put leaves the length
pub put-length : (s₀ s : List ℕ) (from to n : ℕ) → s ≡ put s₀ to (span s₀ from n) → from + n ≤ length s₀ → to + n ≤ length s₀ → length s ≡ length s₀
put-length s₀ s from to n e h k =
    rw e (length-put s₀ to (span s₀ from n) (rw (length-span s₀ from n h) k))

-- by way of an array that has room for n bytes
pub by_way : (s c c' t : List ℕ) (from to n : ℕ) → c' ≡ put c 0 (span s from n) → t ≡ put s to (span c' 0 n) → n ≤ length c → from + n ≤ length s
    → t ≡ put s to (span s from n)
by_way s c c' t from to n e f l h =
    let k : length (span s from n) ≡ n = length-span s from n h in
    let a : span (put c 0 (span s from n)) 0 n ≡ span s from n = rw k at (span-put c 0 (span s from n) (omega (arith, k))) in
    f ∙ ap (λ (x : List ℕ). put s to x) (rw e a)

-- the next k bytes, the lowest first: what is read lies behind what is written, or all of it before
pub down-part : (s₀ s t : List ℕ) (from to n i k : ℕ) → s ≡ put s₀ to (span s₀ from i) → t ≡ put s (to + i) (span s (from + i) k) → i + k ≤ n → from + n ≤ length s₀ → to + n ≤ length s₀
    → (to ≤ from) ⊎ (from + n ≤ to) → t ≡ put s₀ to (span s₀ from (i + k))
down-part s₀ s t from to n i k e f m h g way =
    let a : List ℕ = span s₀ from i in
    let l : length a ≡ i = length-span s₀ from i (omega arith) in
    let b : length (span s₀ (from + i) k) ≡ k = length-span s₀ (from + i) k (omega arith) in
    let len : length s ≡ length s₀ = put-length s₀ s from to i e (omega arith) (omega arith) in
    let r : span s (from + i) k ≡ span s₀ (from + i) k =
    span_ext s s₀ (from + i) k (omega arith) (omega arith)
    (λ j p. rw e
    (⊎_elim
    (λ (down : to ≤ from). put-after s₀ to a (omega arith) (from + i + j) (omega arith))
    (λ (apart : from + n ≤ to). put-before s₀ to a (omega arith) (from + i + j) (omega arith))
    way)) in
    f ∙ rw (r, e) (put-append s₀ to a (to + i) (span s₀ (from + i) k) (omega arith) (omega arith)) ∙ ap (λ (x : List ℕ). put s₀ to x) (sym (span-add s₀ from i k))

-- the k bytes before, up: what is read lies before what is written
pub up-part : (s₀ s t : List ℕ) (from to n left j k : ℕ) → left ≡ j + k → s ≡ put s₀ (to + left) (span s₀ (from + left) (n - left)) → t ≡ put s (to + j) (span s (from + j) k)
    → left ≤ n → to + n ≤ length s₀ → from ≤ to → t ≡ put s₀ (to + j) (span s₀ (from + j) (n - j))
up-part s₀ s t from to n left j k is e f h fits up =
    let b : List ℕ = span s₀ (from + left) (n - left) in
    let lb : length b ≡ n - left = length-span s₀ (from + left) (n - left) (omega arith) in
    let a : List ℕ = span s₀ (from + j) k in
    let la : length a ≡ k = length-span s₀ (from + j) k (omega arith) in
    let len : length s ≡ length s₀ = rw e (length-put s₀ (to + left) b (omega arith)) in
    let r : span s (from + j) k ≡ a =
    span_ext s s₀ (from + j) k (omega arith) (omega arith) (λ x p. rw e (put-before s₀ (to + left) b (omega arith) (from + j + x) (omega arith))) in
    let q : n - j ≡ k + (n - left) = omega arith in
    let v : from + left ≡ from + j + k = omega arith in
    let w : span s₀ (from + j) (n - j) ≡ a ++ b = rw (q, v) (span-add s₀ (from + j) k (n - left)) in
    f ∙ rw (r, e) (put-prepend s₀ (to + j) a (to + left) b (omega arith) (omega arith)) ∙ ap (λ (x : List ℕ). put s₀ (to + j) x) (sym w)

-- ---- parts of 65,536 bytes

-- the first k parts are put, and one more
abbrev pub Down : List ℕ → List ℕ → ℕ → ℕ → ℕ → ℕ → Type 0
Down s₀ s from to n k = s ≡ put s₀ to (span s₀ from (min (65536 * k) n))

-- the parts from part k on are put
abbrev pub Up : List ℕ → List ℕ → ℕ → ℕ → ℕ → ℕ → Type 0
Up s₀ s from to n k = s ≡ put s₀ (to + min (65536 * k) n) (span s₀ (from + min (65536 * k) n) (n - min (65536 * k) n))

module _ (s₀ : List ℕ) (from to n : ℕ) (fits : to + n ≤ length s₀) where
  module _ (s t : List ℕ) (k : ℕ) (f : t ≡ put s (to + 65536 * k) (span s (from + 65536 * k) (min (n - 65536 * k) 65536))) (some : 65536 * k < n) where
    here : min (65536 * k) n ≡ 65536 * k
    here = omega arith

    there : min (65536 * (k + 1)) n ≡ 65536 * k + min (n - 65536 * k) 65536
    there = omega arith

    pub down-turn : Down s₀ s from to n k → from + n ≤ length s₀ → (to ≤ from) ⊎ (from + n ≤ to) → Down s₀ t from to n (k + 1)
    down-turn e h way = rw there (down-part s₀ s t from to n (65536 * k) (min (n - 65536 * k) 65536) (rw here at e) f (omega arith) h fits way)

    pub up-turn : (j : ℕ) → j ≡ k + 1 → Up s₀ s from to n j → from ≤ to → Up s₀ t from to n k
    up-turn j next e up = rw here (up-part s₀ s t from to n (min (65536 * (k + 1)) n) (65536 * k) (min (n - 65536 * k) 65536) there (rw next at e) f (omega arith) fits up)

  pub down-start : Down s₀ s₀ from to n 0
  down-start = let z : min (65536 * 0) n ≡ 0 = omega arith in rw z (sym (put-none s₀ to))

  pub up-start : (k : ℕ) → n ≤ 65536 * k → Up s₀ s₀ from to n k
  up-start k h =
      let m : min (65536 * k) n ≡ n = omega arith in
      let z : n - n ≡ 0 = omega arith in
      rw (m, z) (sym (put-none s₀ (to + n)))

-- ---- a part that a slice's own methods wrote

-- what the part from `at` to `at + n` holds afterwards has been put there
pub part-put : (s ys bs : List ℕ) (at n : ℕ) → ys ≡ bs → length bs ≡ n → put_mid at (at + n - at) s ys ≡ put s at bs
unfolding put
part-put s ys bs at n e l =
    let k : at + n - at ≡ length bs = omega (arith, l) in
    rw (e, k, drop-drop (length bs) at s) refl

-- the part from `at` to `at + n` is the span
pub part-span : (s : List ℕ) (at n : ℕ) → take (at + n - at) (drop at s) ≡ span s at n
part-span s at n = let k : at + n - at ≡ n = omega arith in rw k refl

-- from the start
pub put-start : (s t : List ℕ) → put s 0 t ≡ t ++ drop (length t) s
unfolding put
put-start s t = let z : 0 + length t ≡ length t = omega arith in ap (λ (n : ℕ). t ++ drop n s) z
