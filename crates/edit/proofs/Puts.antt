-- Bytes put over a list from its start. Assumes nothing.
use Prim.Native.Nat.{ℕ, ◌+◌, ◌-◌, ◌≤◌}
use mathlib.Core.Path.{◌≡◌, sym, ap, ◌∙◌}
use mathlib.Core.List.{List, [], ◌++◌}
use native.Mathlib.Omega.{arith}
use lib.ListN.{length, drop, replicate, length-replicate}
use Rattle.endian.specs.Bytes.{put, span, be32_bytes}
use Rattle.endian.specs.Laws.Stored.{length-put, length-span, span-put, put-none}
use Rattle.header.specs.Fields.{fst_size_field}
use Rattle.tree.proofs.Laws.Records.{put-middle}
use Rattle.edit_rules.specs.Change.{image_with_table}
use Rattle.endian.proofs.Parts.{put-append, put-start}

-- bytes put into what stands at the start
pub put-inside : (s t : List ℕ) (at : ℕ) (bs : List ℕ) → at + length bs ≤ length t → length t ≤ length s → put (put s 0 t) at bs ≡ put s 0 (put t at bs)
put-inside s t at bs h l =
    let z : 0 + at ≡ at = omega arith in
    let n : length (put t at bs) ≡ length t = length-put t at bs h in
    ap (λ (x : List ℕ). put x at bs) (put-start s t) ∙ put-middle [] t (drop (length t) s) at at bs z h
    ∙ sym (put-start s (put t at bs) ∙ ap (λ (k : ℕ). put t at bs ++ drop k s) n)

-- what was put at the start, read again
pub span-start : (s t l : List ℕ) (n : ℕ) → l ≡ put s 0 t → length t ≤ length s → n ≡ length t → span l 0 n ≡ t
span-start s t l n e h q = rw (e, q) (span-put s 0 t (omega arith))

-- the table, its lost tail and its size, put one after the other
pub committed : (image bytes a b d : List ℕ) (f size n tail : ℕ) → n ≤ length bytes → f + n ≤ length image → f + size ≤ length image
    → tail ≡ size - n → a ≡ put image f (span bytes 0 n) → b ≡ put a (f + n) (replicate tail 0) → d ≡ put b fst_size_field.at (be32_bytes n) →
    d ≡ image_with_table f size (span bytes 0 n) image
unfolding image_with_table
committed image bytes a b d f size n tail h i j e p q r =
    let l : length (span bytes 0 n) ≡ n = length-span bytes 0 n (omega arith) in
    let m : f + n ≡ f + length (span bytes 0 n) = omega arith in
    let x : put (put image f (span bytes 0 n)) (f + n) (replicate tail 0) ≡ put image f (span bytes 0 n ++ replicate tail 0) =
    put-append image f (span bytes 0 n) (f + n) (replicate tail 0) m (omega (arith, length-replicate {A = ℕ} tail 0)) in
    let y : b ≡ put image f (span bytes 0 n ++ replicate tail 0) = q ∙ ap (λ (s : List ℕ). put s (f + n) (replicate tail 0)) p ∙ x in
    let t : tail ≡ size - length (span bytes 0 n) = omega arith in
    let w : b ≡ put image f (span bytes 0 n ++ replicate (size - length (span bytes 0 n)) 0) = y ∙ ap (λ (k : ℕ). put image f (span bytes 0 n ++ replicate k 0)) t in
    r ∙ ap (λ (s : List ℕ). put s fst_size_field.at (be32_bytes n)) w
    ∙ ap (λ (k : ℕ). put (put image f (span bytes 0 n ++ replicate (size - length (span bytes 0 n)) 0)) fst_size_field.at (be32_bytes k)) (sym l)

-- ---- by what the code did

-- nothing to put
pub copied_none : (s : List ℕ) (from to n : ℕ) → n ≡ 0 → s ≡ put s to (span s from n)
copied_none s from to n e = rw e (sym (put-none s to))

pub filled_none : (s : List ℕ) (at n b : ℕ) → n ≡ 0 → s ≡ put s at (replicate n b)
filled_none s at n b e = rw e (sym (put-none s at))
