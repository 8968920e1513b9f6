-- The answer of `small_tables` and the list that it leaves, by its tests; and what it starts with. Assumes nothing.
use Rattle.std.specs.Prelude.{ℕ, suc, ◌-◌, ◌*◌, ◌<◌, ◌≤◌, ◌≡◌, true, false, Ok, Err, List, [], ◌∷◌, length, take, nat_le}
use Rattle.std.proofs.Common.{arith, leb-true, lt-ltb, le-ltb}
use Rattle.std.proofs.lemmas.Bool.{and_parts}
use Rattle.std.proofs.lemmas.List.{take-take, length-take-le}
use Rattle.endian.specs.Bytes.{put}
use Rattle.refusal.specs.declared.Refusal.TheVariants.{LimitOrMemory}
use Rattle.small_tables.specs.declared.shape.Entry.{Entry}
use Rattle.small_tables.specs.declared.shape.Entry.TheVariants.{Directory}
use Rattle.small_tables.specs.Shapes.{shapes}
use Rattle.small_tables.specs.Tables.{tables_of, is_small, small_tables_answer, small_tables_list}
use Rattle.small_tables.specs.Inner.Begun.{IsBegun, tables_with}
use Rattle.small_tables.proofs.Laws.Begun.{begun-root, root-begun}
use Rattle.small_tables.proofs.Laws.Places.{each-in-its-place}

pub small-bounds : (n : ℕ) → is_small n ≡ true → (0 < n) × (n ≤ 8)
small-bounds n e =
    let b = and_parts (nat_le 1 n) (nat_le n 8) e in
    (leb-true 1 n b.0, leb-true n 8 b.1)

module _ (n : ℕ) (list : List ℕ) where
  pub answer-not_small : is_small n ≡ false → small_tables_answer n (length list) ≡ Err LimitOrMemory
  unfolding small_tables_answer
  answer-not_small e = rw e

  pub list-refused : small_tables_answer n (length list) ≡ Err LimitOrMemory → small_tables_list n list ≡ list
  unfolding small_tables_list
  list-refused e = rw e

  module _ (small : is_small n ≡ true) (number size : ℕ) (count : number ≡ length (shapes n)) (sized : size ≡ 14 * n - 2) where
    pub tables-long : length (tables_of (shapes n)) ≡ number * size
    tables-long = rw (count, sized) (each-in-its-place n (small-bounds n small).0).0

    pub answer-short : length list < number * size → small_tables_answer n (length list) ≡ Err LimitOrMemory
    unfolding small_tables_answer
    answer-short h = rw (small, tables-long, lt-ltb (length list) (number * size) h)

    pub answer-accepted : number * size ≤ length list → small_tables_answer n (length list) ≡ Ok number
    unfolding small_tables_answer
    answer-accepted h = rw (small, tables-long, le-ltb (length list) (number * size) h, count)

    pub list-accepted : number * size ≤ length list → small_tables_list n list ≡ put list 0 (tables_of (shapes n))
    unfolding small_tables_list
    list-accepted h = rw (answer-accepted h)

-- the root alone, in front of entries that do not matter
module _ (n : ℕ) (rest : List Entry) (some : 0 < n) (within : n ≤ suc (length rest)) where
  abbrev start : List Entry
  start = take n (Directory n ∷ rest)

  start-long : length start ≡ n
  start-long = length-take-le n (Directory n ∷ rest) within

  start-root : take 1 start ≡ Directory n ∷ []
  start-root = take-take 1 n (Directory n ∷ rest) (omega arith)

  pub start-begun : IsBegun (length start) (take 1 start)
  start-begun = rw (start-long, start-root) (root-begun n some)

  pub start-tables : tables_with (length start) (take 1 start) ≡ tables_of (shapes n)
  unfolding tables_with
  start-tables = rw (start-long, start-root, begun-root n some)
