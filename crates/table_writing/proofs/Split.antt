-- Entries written in two goes are those entries written in one.
-- Assumes nothing.
use mathlib.Core.Path.{◌≡◌}
use mathlib.Core.List.{List}
use Prim.Native.Nat.{ℕ, zero, suc, ◌+◌, ◌-◌, ◌≤◌}
use native.Mathlib.Nat.{zero-add, add-zero, suc-add}
use native.Mathlib.Omega.{arith}
use Rattle.tree.specs.Table.{nodes_of, parent_of}
use Rattle.table_writing.specs.Inner.Valid.{name_size}
use Rattle.table_writing.specs.Inner.Flat.{record_at, put_text, text_flat, write_flat, text_to, write_to}

module _ (tab : List ℕ) (n : ℕ) where
  text-flat : (m r k t : ℕ) → text_flat tab n (m + r) k t ≡ text_flat tab n r (k + m) (text_flat tab n m k t)
  unfolding text_flat
  text-flat zero r k t = rw (zero-add, add-zero)
  text-flat (suc m) r k t =
      let e : k + 1 + m ≡ k + suc m = omega arith in
      rw (suc-add, text-flat m r (k + 1), e)

  write-flat : (m r k t : ℕ) (out : List ℕ) → write_flat tab n (m + r) k t out ≡ write_flat tab n r (k + m) (text_flat tab n m k t) (write_flat tab n m k t out)
  unfolding text_flat write_flat
  write-flat zero r k t out = rw (zero-add, add-zero)
  write-flat (suc m) r k t out =
      let e : k + 1 + m ≡ k + suc m = omega arith in
      rw (suc-add, write-flat m r (k + 1), e)

  module _ (a b c t : ℕ) (p : a ≤ b) (q : b ≤ c) where
    pub text-split : text_to tab n a c t ≡ text_to tab n b c (text_to tab n a b t)
    text-split =
        let e : c - a ≡ (b - a) + (c - b) = omega arith in
        let s : a + (b - a) ≡ b = omega arith in
        rw (e, text-flat (b - a) (c - b) a t, s)

    pub write-split : (out : List ℕ) → write_to tab n a c t out ≡ write_to tab n b c (text_to tab n a b t) (write_to tab n a b t out)
    write-split out =
        let e : c - a ≡ (b - a) + (c - b) = omega arith in
        let s : a + (b - a) ≡ b = omega arith in
        rw (e, write-flat (b - a) (c - b) a t out, s)

  -- one entry, and none
  pub text-one : (k t : ℕ) → text_to tab n k (k + 1) t ≡ t + name_size tab n k + 1
  unfolding text_flat
  text-one k t = let e : k + 1 - k ≡ suc zero = omega arith in rw e

  pub write-one : (k t : ℕ) (out : List ℕ) → write_to tab n k (k + 1) t out ≡ put_text tab n k t (record_at tab n (parent_of (nodes_of tab) k) k t out)
  unfolding write_flat
  write-one k t out = let e : k + 1 - k ≡ suc zero = omega arith in rw e

  pub text-none : (k t : ℕ) → text_to tab n k k t ≡ t
  unfolding text_flat
  text-none k t = let e : k - k ≡ zero = omega arith in rw e

  pub write-none : (k t : ℕ) (out : List ℕ) → write_to tab n k k t out ≡ out
  unfolding write_flat
  write-none k t out = let e : k - k ≡ zero = omega arith in rw e

  -- names take room
  text-grows : (m k t : ℕ) → t ≤ text_flat tab n m k t
  unfolding text_flat
  text-grows zero k t = omega arith
  text-grows (suc m) k t = omega (arith, text-grows m (k + 1) (t + name_size tab n k + 1))

  pub text-mono : (a b c t : ℕ) → a ≤ b → b ≤ c → text_to tab n a b t ≤ text_to tab n a c t
  text-mono a b c t p q = rw (text-split a b c t p q) (text-grows (c - b) b (text_to tab n a b t))

  pub text-up : (a b t : ℕ) → t ≤ text_to tab n a b t
  text-up a b t = text-grows (b - a) a t
