-- LAW: tables of the same size stand behind each other at multiples of it. Assumes nothing.
use Rattle.std.specs.Prelude.{ℕ, zero, suc, ◌+◌, ◌-◌, ◌*◌, ◌<◌, ◌≡◌, List, [], ◌∷◌, ◌++◌, length, take, drop, slice_index_or}
use Rattle.std.specs.List.{flat_map}
use Rattle.std.proofs.Common.{sym, ap, ◌∙◌, arith, zero-mul, suc-mul, length-append, drop-drop, drop_at, take_at}
use Rattle.std.proofs.lemmas.List.Elements.{Contains-get_or}
use Rattle.small_tables.specs.declared.shape.Entry.{Entry}
use Rattle.small_tables.specs.Shapes.{shapes}
use Rattle.small_tables.specs.Tables.{table_of, tables_of}
use Rattle.small_tables.specs.Theorem.{EachInItsPlace}
use Rattle.small_tables.proofs.Laws.Begun.{shape-length}
use Rattle.small_tables.proofs.Laws.Trees.{table-size}

-- ---- lists of the same length, put together

module _ {A : Type 0} {B : Type 0} (f : A → List B) (size : ℕ) where
  abbrev EachSize : List A → Type 0
  EachSize xs = (i : ℕ) (d : A) → i < length xs → length (f (slice_index_or xs i d)) ≡ size

  length-pieces : (xs : List A) → EachSize xs → length (flat_map f xs) ≡ length xs * size
  length-pieces [] g = sym (zero-mul size)
  length-pieces (x ∷ xs) g =
      rw (suc-mul (length xs) size, length-append (f x) (flat_map f xs), g 0 x (omega arith), length-pieces xs (λ i d h. g (suc i) d (omega arith)))
      (omega arith)

  piece-at : (xs : List A) → EachSize xs → (i : ℕ) (d : A) → i < length xs → take size (drop (i * size) (flat_map f xs)) ≡ f (slice_index_or xs i d)
  piece-at [] g i d h = absurd (omega arith)
  piece-at (x ∷ xs) g zero d h = rw zero-mul (take_at (f x) (flat_map f xs) size (g 0 x (omega arith)))
  piece-at (x ∷ xs) g (suc i) d h =
      let e : suc i * size ≡ size + i * size = omega (arith, suc-mul i size) in
      rw (e, ← drop-drop (i * size) size (f x ++ flat_map f xs), drop_at (f x) (flat_map f xs) size (g 0 x (omega arith)))
      (piece-at xs (λ j d h. g (suc j) d (omega arith)) i d (omega arith))

-- ---- the tables

each-table-size : (n : ℕ) → 0 < n → (i : ℕ) (d : List Entry) → i < length (shapes n) → length (table_of (slice_index_or (shapes n) i d)) ≡ 14 * n - 2
each-table-size n some i d h =
    let s : List Entry = slice_index_or (shapes n) i d in
    let l : length s ≡ n = shape-length n s some (Contains-get_or (shapes n) i d h) in
    table-size s (omega arith) ∙ ap (λ (m : ℕ). 14 * m - 2) l

-- LAW: the i-th starts behind i times as many bytes
pub each-in-its-place : EachInItsPlace
unfolding tables_of
each-in-its-place n some = (
  length-pieces table_of (14 * n - 2) (shapes n) (each-table-size n some),
  λ i h. piece-at table_of (14 * n - 2) (shapes n) (each-table-size n some) i [] h,
)
