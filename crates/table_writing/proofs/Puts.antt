-- Bytes put one part after another are put at once, and two parts that are apart are put in either order.
-- Assumes nothing.
use Prim.Native.Nat.{ℕ, ◌+◌, ◌-◌, ◌≤◌, ◌<◌}
use mathlib.Core.Path.{◌≡◌, refl, sym, ◌∙◌}
use mathlib.Core.Logic.{inl, inr, ⊎_elim}
use mathlib.Core.List.{List, [], ◌∷◌, ◌++◌}
use native.Mathlib.Omega.{arith}
use lib.ListN.{length, get_or}
use lib.Seq.{ext_get_or}
use Rattle.endian.specs.Bytes.{put, be24_bytes, be32_bytes}
use Rattle.table_writing.specs.Inner.Flat.{record_bytes}
use Rattle.endian.specs.Laws.Stored.{length-put, put-before, put_in, put-after, put-outside, Outside}
use Rattle.refusal.specs.Laws.Tests.{lt-or-le}
use Rattle.endian.proofs.Parts.{put-append}

-- two parts that are apart
module _ (s : List ℕ) (at : ℕ) (a : List ℕ) (m : ℕ) (b : List ℕ) (apart : at + length a ≤ m) (fits : m + length b ≤ length s) where
  first : at + length a ≤ length s
  first = omega arith

  len : length (put s at a) ≡ length s
  len = length-put s at a first

  len' : length (put s m b) ≡ length s
  len' = length-put s m b fits

  second : m + length b ≤ length (put s at a)
  second = omega (arith, len)

  first' : at + length a ≤ length (put s m b)
  first' = omega (arith, len')

  in-first : (i : ℕ) → i < length a → get_or (put (put s at a) m b) (at + i) 0 ≡ get_or (put (put s m b) at a) (at + i) 0
  in-first i h = put-before (put s at a) m b second (at + i) (omega arith) ∙ put_in s at a first i h ∙ sym (put_in (put s m b) at a first' i h)

  in-second : (i : ℕ) → i < length b → get_or (put (put s at a) m b) (m + i) 0 ≡ get_or (put (put s m b) at a) (m + i) 0
  in-second i h = put_in (put s at a) m b second i h ∙ sym (put-after (put s m b) at a first' (m + i) (omega arith) ∙ put_in s m b fits i h)

  outside : (i : ℕ) → Outside at (length a) i → Outside m (length b) i → get_or (put (put s at a) m b) i 0 ≡ get_or (put (put s m b) at a) i 0
  outside i p q =
      put-outside (put s at a) m b second i q ∙ put-outside s at a first i p
      ∙ sym (put-outside (put s m b) at a first' i p ∙ put-outside s m b fits i q)

  at-index : (x i : ℕ) (l r : List ℕ) → x ≡ i → get_or l x 0 ≡ get_or r x 0 → get_or l i 0 ≡ get_or r i 0
  at-index x i l r e h = rw e at h

  each : (i : ℕ) → get_or (put (put s at a) m b) i 0 ≡ get_or (put (put s m b) at a) i 0
  each i =
      ⊎_elim (λ (p : i < at). outside i (inl p) (inl (omega arith)))
      (λ (p : at ≤ i).
      ⊎_elim (λ (q : i < at + length a). at-index (at + (i - at)) i (put (put s at a) m b) (put (put s m b) at a) (omega arith) (in-first (i - at) (omega arith)))
      (λ (q : at + length a ≤ i).
      ⊎_elim (λ (r : i < m). outside i (inr q) (inl r))
      (λ (r : m ≤ i).
      ⊎_elim (λ (t : i < m + length b). at-index (m + (i - m)) i (put (put s at a) m b) (put (put s m b) at a) (omega arith) (in-second (i - m) (omega arith)))
      (λ (t : m + length b ≤ i). outside i (inr q) (inr t))
      (lt-or-le i (m + length b)))
      (lt-or-le i m))
      (lt-or-le i (at + length a)))
      (lt-or-le i at)

  pub put-swap : put (put s at a) m b ≡ put (put s m b) at a
  put-swap =
      let l : length (put (put s at a) m b) ≡ length (put (put s m b) at a) =
      length-put (put s at a) m b second ∙ len ∙ sym (length-put (put s m b) at a first' ∙ len') in
      ext_get_or 0 (put (put s at a) m b) (put (put s m b) at a) l (λ i h. each i)

-- an entry's four fields
pub put-fields : (s : List ℕ) (at kind o a b : ℕ) → at + 12 ≤ length s →
    put (put (put (put s at (kind ∷ [])) (at + 1) (be24_bytes o)) (at + 4) (be32_bytes a)) (at + 8) (be32_bytes b) ≡ put s at (record_bytes kind o a b)
put-fields s at kind o a b h =
    rw (
      put-append s at (kind ∷ []) (at + 1) (be24_bytes o) refl (omega arith),
      put-append s at (kind ∷ be24_bytes o) (at + 4) (be32_bytes a) refl (omega arith),
      put-append s at (kind ∷ (be24_bytes o ++ be32_bytes a)) (at + 8) (be32_bytes b) refl (omega arith),
    )
