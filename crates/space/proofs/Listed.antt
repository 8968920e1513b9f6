-- The free regions counted, listed and summed, one gap at a time.
-- Assumes nothing.
use Rattle.std.specs.Prelude.{Ok, Err}
use Prim.Native.Nat.{ℕ, ◌+◌, ◌-◌, ◌*◌, ◌/◌, ◌<◌, ◌≤◌}
use mathlib.Core.Path.{◌≡◌, refl, sym}
use mathlib.Core.Bool.{true}
use mathlib.Core.List.{List, [], ◌∷◌, ◌++◌, append_assoc}
use native.Mathlib.Omega.{arith}
use native.Mathlib.Nat.{zero-mul, suc-mul, le_trans, mul-le-mul_right, div-lt_iff_lt-mul, div-mul-le_self}
use borrow.Author.Tests.{leb-true, lt-ltb, le-ltb}
use lib.ListN.{length, length-append}
use lib.Dec.{leb}
use Rattle.refusal.specs.declared.Refusal.TheVariants.{LimitOrMemory}
use Rattle.space.specs.declared.region.DiscRegion.{DiscRegion}
use Rattle.endian.specs.Bytes.{put}
use Rattle.space.specs.Used.{end_of, total_size}
use Rattle.space.specs.Listing.{rows_of, listing_of, list_after}
use Rattle.space.specs.Inner.Words.{is_in_sequence, gaps}
use Rattle.refusal.specs.Laws.Tests.{and_left, and_right}
use Rattle.space.specs.Laws.LongestLaws.{sequence-le}
use Rattle.space.specs.Laws.SizeLaws.{total_size-cons}

-- ---- the words of regions

module _ (row : DiscRegion → List ℕ) where
  pub rows_append : (xs ys : List DiscRegion) → rows_of row (xs ++ ys) ≡ rows_of row xs ++ rows_of row ys
  unfolding rows_of
  rows_append [] ys = refl
  rows_append (x ∷ xs) ys = rw (rows_append xs ys) (sym (append_assoc (row x) (rows_of row xs) (rows_of row ys)))

  -- k words each
  pub length-rows : (k : ℕ) → ((r : DiscRegion) → length (row r) ≡ k) → (rs : List DiscRegion) → length (rows_of row rs) ≡ length rs * k
  unfolding rows_of
  length-rows k h [] = sym (zero-mul k)
  length-rows k h (r ∷ rs) = omega (arith, length-append (row r) (rows_of row rs), h r, length-rows k h rs, suc-mul (length rs) k)

  -- a list of n words has room for n / k rows
  module _ (k : ℕ) (some : 0 < k) (width : (r : DiscRegion) → length (row r) ≡ k) (rs : List DiscRegion) (n found : ℕ) (is : found ≡ length rs) where
    pub short-by-rows : n / k < found → n < length (rows_of row rs)
    short-by-rows h = let m = (div-lt_iff_lt-mul {k = k} {x = n} {y = found} some).0 h in rw (length-rows k width rs, ← is) m

    pub fits-by-rows : found ≤ n / k → length (rows_of row rs) ≤ n
    fits-by-rows h = rw (length-rows k width rs, ← is) (le_trans (mul-le-mul_right k h) (div-mul-le_self n k))

-- ---- the answer

module _ (row : DiscRegion → List ℕ) (rs : List DiscRegion) (l : List ℕ) where
  pub list-short : length l < length (rows_of row rs) → (Err LimitOrMemory ≡ listing_of row rs (length l)) × (l ≡ list_after row rs l)
  list-short a = (rw (lt-ltb (length l) (length (rows_of row rs)) a), rw (lt-ltb (length l) (length (rows_of row rs)) a))

  pub list-fits : (l' : List ℕ) (n : ℕ) → n ≡ length rs → length (rows_of row rs) ≤ length l → l' ≡ put l 0 (rows_of row rs) →
      (Ok n ≡ listing_of row rs (length l)) × (l' ≡ list_after row rs l)
  list-fits l' n q a e = (rw (le-ltb (length l) (length (rows_of row rs)) a, q), rw (le-ltb (length l) (length (rows_of row rs)) a) e)

-- ---- summed

pub total-gaps : (at e : ℕ) (xs : List DiscRegion) → is_in_sequence at e xs ≡ true → total_size xs + total_size (gaps at e xs) ≡ e - at
unfolding gaps is_in_sequence
total-gaps at e [] c = unfold total_size in omega arith
total-gaps at e (x ∷ xs) c =
    omega (
      arith,
      leb-true at x.offset (and_left (leb at x.offset) (is_in_sequence (end_of x) e xs) c),
      sequence-le (end_of x) e xs (and_right (leb at x.offset) (is_in_sequence (end_of x) e xs) c),
      total-gaps (end_of x) e xs (and_right (leb at x.offset) (is_in_sequence (end_of x) e xs) c),
      total_size-cons x xs,
      total_size-cons (record { offset = at; size = x.offset - at }) (gaps (end_of x) e xs),
    )
