-- Worked small tables, by computing: the shapes of one, two and three entries in order, their tables'
-- bytes, and lists that are a byte short, just as long, or longer. Assumes nothing.
use Rattle.std.specs.Prelude.{Ok, Err, ℕ, ◌<◌, ◌≤◌, ◌≡◌, refl, List, [], ◌∷◌, ◌++◌, length, drop}
use Rattle.std.proofs.Common.{arith, length-append, le-leb, le-ltb}
use Rattle.std.proofs.lemmas.Bool.{lt-leb}
use Rattle.std.proofs.Math.Seq.{drop-append_seam}
use Rattle.endian.specs.Bytes.{put}
use Rattle.refusal.specs.declared.Refusal.TheVariants.{LimitOrMemory}
use Rattle.refusal.specs.Refusal.{number_of}
use Rattle.tree.specs.Table.{parent_below, parent_of, entries_bytes, texts_of, encode}
use Rattle.small_tables.specs.declared.shape.Entry.{Entry}
use Rattle.small_tables.specs.declared.shape.Entry.TheVariants.{File, Directory}
use Rattle.small_tables.specs.Shapes.{tree_of, tree_from, are_nexts_allowed, each_list, shapes}
use Rattle.small_tables.specs.Tables.{tables_of, small_tables_answer, small_tables_list}

-- ---- the shapes

abbrev pub shapes_of_3 : List (List Entry)
shapes_of_3 =
    (Directory 3 ∷ File ∷ File ∷ [])
    ∷ (Directory 3 ∷ File ∷ Directory 3 ∷ [])
    ∷ (Directory 3 ∷ Directory 2 ∷ File ∷ [])
    ∷ (Directory 3 ∷ Directory 2 ∷ Directory 3 ∷ [])
    ∷ (Directory 3 ∷ Directory 3 ∷ File ∷ [])
    ∷ (Directory 3 ∷ Directory 3 ∷ Directory 3 ∷ [])
    ∷ []

pub record Shapes : Type 0 where
  pub of-1 : shapes 1 ≡ (Directory 1 ∷ []) ∷ []
  pub of-2 : shapes 2 ≡ (Directory 2 ∷ File ∷ []) ∷ (Directory 2 ∷ Directory 2 ∷ []) ∷ []
  pub of-3 : shapes 3 ≡ shapes_of_3

pub shapes-worked : Shapes
unfolding shapes each_list are_nexts_allowed tree_of tree_from parent_of parent_below
shapes-worked = record { of-1 = refl; of-2 = refl; of-3 = refl }

-- ---- their tables, twelve bytes an entry and then the names

abbrev pub table_of_1 : List ℕ
table_of_1 = 1 ∷ 0 ∷ 0 ∷ 0 ∷ 0 ∷ 0 ∷ 0 ∷ 0 ∷ 0 ∷ 0 ∷ 0 ∷ 1 ∷ []

abbrev pub tables_of_2 : List ℕ
tables_of_2 =
    -- a file
    (1 ∷ 0 ∷ 0 ∷ 0 ∷ 0 ∷ 0 ∷ 0 ∷ 0 ∷ 0 ∷ 0 ∷ 0 ∷ 2 ∷ [])
    ++ (0 ∷ 0 ∷ 0 ∷ 0 ∷ 0 ∷ 0 ∷ 0 ∷ 0 ∷ 0 ∷ 0 ∷ 0 ∷ 0 ∷ [])
    ++ (0x61 ∷ 0 ∷ [])
    -- a directory
    ++ (1 ∷ 0 ∷ 0 ∷ 0 ∷ 0 ∷ 0 ∷ 0 ∷ 0 ∷ 0 ∷ 0 ∷ 0 ∷ 2 ∷ [])
    ++ (1 ∷ 0 ∷ 0 ∷ 0 ∷ 0 ∷ 0 ∷ 0 ∷ 0 ∷ 0 ∷ 0 ∷ 0 ∷ 2 ∷ [])
    ++ (0x61 ∷ 0 ∷ [])

abbrev pub tables_of_3 : List ℕ
tables_of_3 =
    -- two files
    (1 ∷ 0 ∷ 0 ∷ 0 ∷ 0 ∷ 0 ∷ 0 ∷ 0 ∷ 0 ∷ 0 ∷ 0 ∷ 3 ∷ [])
    ++ (0 ∷ 0 ∷ 0 ∷ 0 ∷ 0 ∷ 0 ∷ 0 ∷ 0 ∷ 0 ∷ 0 ∷ 0 ∷ 0 ∷ [])
    ++ (0 ∷ 0 ∷ 0 ∷ 2 ∷ 0 ∷ 0 ∷ 0 ∷ 0 ∷ 0 ∷ 0 ∷ 0 ∷ 0 ∷ [])
    ++ (0x61 ∷ 0 ∷ 0x62 ∷ 0 ∷ [])
    -- a file, and a directory to 3
    ++ (1 ∷ 0 ∷ 0 ∷ 0 ∷ 0 ∷ 0 ∷ 0 ∷ 0 ∷ 0 ∷ 0 ∷ 0 ∷ 3 ∷ [])
    ++ (0 ∷ 0 ∷ 0 ∷ 0 ∷ 0 ∷ 0 ∷ 0 ∷ 0 ∷ 0 ∷ 0 ∷ 0 ∷ 0 ∷ [])
    ++ (1 ∷ 0 ∷ 0 ∷ 2 ∷ 0 ∷ 0 ∷ 0 ∷ 0 ∷ 0 ∷ 0 ∷ 0 ∷ 3 ∷ [])
    ++ (0x61 ∷ 0 ∷ 0x62 ∷ 0 ∷ [])
    -- a directory to 2, and a file behind it
    ++ (1 ∷ 0 ∷ 0 ∷ 0 ∷ 0 ∷ 0 ∷ 0 ∷ 0 ∷ 0 ∷ 0 ∷ 0 ∷ 3 ∷ [])
    ++ (1 ∷ 0 ∷ 0 ∷ 0 ∷ 0 ∷ 0 ∷ 0 ∷ 0 ∷ 0 ∷ 0 ∷ 0 ∷ 2 ∷ [])
    ++ (0 ∷ 0 ∷ 0 ∷ 2 ∷ 0 ∷ 0 ∷ 0 ∷ 0 ∷ 0 ∷ 0 ∷ 0 ∷ 0 ∷ [])
    ++ (0x61 ∷ 0 ∷ 0x62 ∷ 0 ∷ [])
    -- a directory to 2, and a directory to 3 behind it
    ++ (1 ∷ 0 ∷ 0 ∷ 0 ∷ 0 ∷ 0 ∷ 0 ∷ 0 ∷ 0 ∷ 0 ∷ 0 ∷ 3 ∷ [])
    ++ (1 ∷ 0 ∷ 0 ∷ 0 ∷ 0 ∷ 0 ∷ 0 ∷ 0 ∷ 0 ∷ 0 ∷ 0 ∷ 2 ∷ [])
    ++ (1 ∷ 0 ∷ 0 ∷ 2 ∷ 0 ∷ 0 ∷ 0 ∷ 0 ∷ 0 ∷ 0 ∷ 0 ∷ 3 ∷ [])
    ++ (0x61 ∷ 0 ∷ 0x62 ∷ 0 ∷ [])
    -- a directory to 3 with a file in it
    ++ (1 ∷ 0 ∷ 0 ∷ 0 ∷ 0 ∷ 0 ∷ 0 ∷ 0 ∷ 0 ∷ 0 ∷ 0 ∷ 3 ∷ [])
    ++ (1 ∷ 0 ∷ 0 ∷ 0 ∷ 0 ∷ 0 ∷ 0 ∷ 0 ∷ 0 ∷ 0 ∷ 0 ∷ 3 ∷ [])
    ++ (0 ∷ 0 ∷ 0 ∷ 2 ∷ 0 ∷ 0 ∷ 0 ∷ 0 ∷ 0 ∷ 0 ∷ 0 ∷ 0 ∷ [])
    ++ (0x61 ∷ 0 ∷ 0x62 ∷ 0 ∷ [])
    -- a directory to 3 with a directory to 3 in it
    ++ (1 ∷ 0 ∷ 0 ∷ 0 ∷ 0 ∷ 0 ∷ 0 ∷ 0 ∷ 0 ∷ 0 ∷ 0 ∷ 3 ∷ [])
    ++ (1 ∷ 0 ∷ 0 ∷ 0 ∷ 0 ∷ 0 ∷ 0 ∷ 0 ∷ 0 ∷ 0 ∷ 0 ∷ 3 ∷ [])
    ++ (1 ∷ 0 ∷ 0 ∷ 2 ∷ 0 ∷ 0 ∷ 0 ∷ 1 ∷ 0 ∷ 0 ∷ 0 ∷ 3 ∷ [])
    ++ (0x61 ∷ 0 ∷ 0x62 ∷ 0 ∷ [])

pub record Tables : Type 0 where
  pub of-1 : tables_of (shapes 1) ≡ table_of_1
  pub of-2 : tables_of (shapes 2) ≡ tables_of_2
  pub of-3 : tables_of (shapes 3) ≡ tables_of_3
  pub sizes : (length table_of_1 ≡ 12) × (length tables_of_2 ≡ 52) × (length tables_of_3 ≡ 240)

pub tables-worked : Tables
unfolding tables_of tree_of tree_from encode entries_bytes texts_of parent_of parent_below
tables-worked =
    let s = shapes-worked in
    record {
      of-1 = rw s.of-1;
      of-2 = rw s.of-2;
      of-3 = rw s.of-3;
      sizes = (refl, refl, refl);
    }

-- ---- how many there are, where the result list has so many bytes

pub record Answers : Type 0 where
  pub fits :
      (small_tables_answer 1 12 ≡ Ok 1)
      × (small_tables_answer 2 52 ≡ Ok 2)
      × (small_tables_answer 3 240 ≡ Ok 6)
  pub longer : small_tables_answer 3 241 ≡ Ok 6
  -- a byte less
  pub short :
      (small_tables_answer 1 11 ≡ Err LimitOrMemory)
      × (small_tables_answer 2 51 ≡ Err LimitOrMemory)
      × (small_tables_answer 3 239 ≡ Err LimitOrMemory)
  -- no entry, and nine or more, however long the list is
  pub none : (room : ℕ) → small_tables_answer 0 room ≡ Err LimitOrMemory
  pub many : (n room : ℕ) → 8 < n → small_tables_answer n room ≡ Err LimitOrMemory
  pub number : number_of LimitOrMemory ≡ 9

pub answers-worked : Answers
unfolding small_tables_answer
answers-worked =
    let s = shapes-worked in
    let t = tables-worked in
    record {
      fits = (rw (t.of-1, s.of-1), rw (t.of-2, s.of-2), rw (t.of-3, s.of-3));
      longer = rw (t.of-3, s.of-3);
      short = (rw t.of-1, rw t.of-2, rw t.of-3);
      none = λ room. refl;
      many = λ n room h. rw (le-leb 1 n (omega arith), lt-leb n 8 h);
      number = refl;
    }

-- ---- the list afterwards

pub record Written : Type 0 where
  -- what is behind the tables stays
  pub longer : (list behind : List ℕ) → length list ≡ 240 →
      small_tables_list 3 (list ++ behind) ≡ tables_of_3 ++ behind
  -- nothing is written into one that is short, nor with nine entries or more
  pub short : (list : List ℕ) → length list ≡ 239 → small_tables_list 3 list ≡ list
  pub many : (n : ℕ) (list : List ℕ) → 8 < n → small_tables_list n list ≡ list

answer-longer : (room : ℕ) → 240 ≤ room → small_tables_answer 3 room ≡ Ok 6
unfolding small_tables_answer
answer-longer room h = rw (tables-worked.of-3, shapes-worked.of-3, le-ltb room 240 h)

pub written : Written
unfolding small_tables_list put
written = record {
  longer = λ list behind e.
      let long : 240 ≤ length (list ++ behind) = omega (arith, length-append list behind) in
      let rest : drop 240 (list ++ behind) ≡ behind = rw e at (drop-append_seam list behind) in
      rw (answer-longer (length (list ++ behind)) long, tables-worked.of-3, rest);
  short = λ list e. rw (e, answers-worked.short.2);
  many = λ n list h. rw (answers-worked.many n (length list) h);
}
