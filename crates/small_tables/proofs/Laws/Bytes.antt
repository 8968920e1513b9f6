-- The bytes of a shape's table: its records one after the other, and then its letters. Assumes nothing.
use Rattle.std.specs.Prelude.{ℕ, zero, suc, ◌+◌, ◌-◌, ◌*◌, ◌<◌, ◌≤◌, ◌≡◌, refl, List, [], ◌∷◌, ◌++◌, length, take, slice_index_or}
use Rattle.std.proofs.Common.{ap, ◌∙◌, arith, add-zero, zero-add, append_assoc, length-append}
use mathlib.Core.List.{tail}
use Rattle.endian.specs.Bytes.{put}
use Rattle.endian.proofs.Parts.{put-append}
use Rattle.tree.specs.Table.{texts_of, parent_of, node_bytes}
use Rattle.tree.specs.Inner.Patch.{records}
use Rattle.tree.proofs.Laws.Records.{Twelve, records-ext, records-next, length-records}
use Rattle.tree.proofs.Laws.WrittenEntries.{length-node_bytes}
use Rattle.tree.proofs.Laws.Writing.{text_start, entry_bytes, encode-records}
use Rattle.small_tables.specs.declared.shape.Entry.{Entry}
use Rattle.small_tables.specs.declared.shape.Entry.TheVariants.{File, Directory}
use Rattle.small_tables.specs.Shapes.{node_of, tree_from, tree_of}
use Rattle.small_tables.specs.Tables.{table_of}
use Rattle.small_tables.proofs.Laws.Entries.{length-tree_of, tree-at}

-- the record of entry k
abbrev pub shape_record : List Entry → ℕ → List ℕ
shape_record s k =
    node_bytes (parent_of (tree_of s) k) (2 * (k - 1)) (node_of k (slice_index_or s k File))

shape-twelve : (s : List Entry) → Twelve (shape_record s)
shape-twelve s k = length-node_bytes (parent_of (tree_of s) k) (2 * (k - 1)) (node_of k (slice_index_or s k File))

-- m letters from k on, which is 0 for the first, as names
unfoldable pub letters : ℕ → ℕ → List ℕ
letters k zero = []
letters k (suc m) = (0x61 + k) ∷ 0 ∷ letters (suc k) m

length-letters : (k m : ℕ) → length (letters k m) ≡ 2 * m
unfolding letters
length-letters k zero = refl
length-letters k (suc m) = omega (arith, length-letters (suc k) m)

-- one name more
letters-next : (k m : ℕ) → letters k (suc m) ≡ letters k m ++ ((0x61 + (k + m)) ∷ 0 ∷ [])
unfolding letters
letters-next k zero = rw add-zero
letters-next k (suc m) =
    let e : k + suc m ≡ suc k + m = omega arith in
    rw e (ap (λ (l : List ℕ). (0x61 + k) ∷ 0 ∷ l) (letters-next (suc k) m))

texts-letters : (k : ℕ) (s : List Entry) → texts_of (tree_from (suc k) s) ≡ letters k (length s)
unfolding texts_of tree_from letters
texts-letters k [] = refl
texts-letters k (File ∷ s) = ap (λ (l : List ℕ). (0x61 + k) ∷ 0 ∷ l) (texts-letters (suc k) s)
texts-letters k (Directory next ∷ s) = ap (λ (l : List ℕ). (0x61 + k) ∷ 0 ∷ l) (texts-letters (suc k) s)

start-from : (k : ℕ) (s : List Entry) (i : ℕ) → i ≤ length s → length (texts_of (take i (tree_from (suc k) s))) ≡ 2 * i
unfolding texts_of tree_from
start-from k s zero h = refl
start-from k [] (suc i) h = absurd (omega arith)
start-from k (File ∷ s) (suc i) h = omega (arith, start-from (suc k) s i (omega arith))
start-from k (Directory next ∷ s) (suc i) h = omega (arith, start-from (suc k) s i (omega arith))

start-at : (s : List Entry) (k : ℕ) → k < length s → text_start (tree_of s) k ≡ 2 * (k - 1)
unfolding text_start tree_of tree_from
start-at [] k h = absurd (omega arith)
start-at (x ∷ s) k h = start-from 0 s (k - 1) (omega arith)

record-at : (s : List Entry) (k : ℕ) → k < length s → entry_bytes (tree_of s) k ≡ shape_record s k
unfolding entry_bytes
record-at s k h = rw (start-at s k h, tree-at s k h)

tail-letters : (s : List Entry) → texts_of (tail (tree_of s)) ≡ letters 0 (length s - 1)
unfolding tree_of tree_from texts_of letters
tail-letters [] = refl
tail-letters (x ∷ s) =
    let e : suc (length s) - 1 ≡ length s = omega arith in
    rw e (texts-letters 0 s)

-- LAW: the table of a shape
pub table-bytes : (s : List Entry) → table_of s ≡ records (shape_record s) 0 (length s) ++ letters 0 (length s - 1)
table-bytes s =
    encode-records (tree_of s)
    ∙ rw (
      length-tree_of s,
      records-ext (entry_bytes (tree_of s)) (shape_record s) 0 (length s) (λ i h. rw zero-add (record-at s i h)),
      tail-letters s,
    )

-- ---- written one by one

module _ (t : List ℕ) (s : List Entry) where
  -- a record behind those before it
  pub record-put : (k : ℕ) → 12 * k + 12 ≤ length t →
      put (put t 0 (records (shape_record s) 0 k)) (12 * k) (shape_record s k) ≡ put t 0 (records (shape_record s) 0 (k + 1))
  record-put k h =
      put-append t 0 (records (shape_record s) 0 k) (12 * k) (shape_record s k)
      (omega (arith, length-records (shape_record s) (shape-twelve s) 0 k)) (omega (arith, shape-twelve s k))
      ∙ ap (put t 0) (rw (records-next (shape_record s) 0 k, zero-add k))

  -- a name behind the records and the names before it: its letter, and then a zero byte
  pub letter-put : (k : ℕ) → 12 * length s + 2 * k + 2 ≤ length t →
      put (put (put t 0 (records (shape_record s) 0 (length s) ++ letters 0 k)) (12 * length s + 2 * k) ((0x61 + k) ∷ []))
      (12 * length s + 2 * k + 1) (0 ∷ [])
      ≡ put t 0 (records (shape_record s) 0 (length s) ++ letters 0 (k + 1))
  letter-put k h =
      let r : List ℕ = records (shape_record s) 0 (length s) in
      let l : length (r ++ letters 0 k) ≡ 12 * length s + 2 * k =
      omega (arith, length-append r (letters 0 k), length-records (shape_record s) (shape-twelve s) 0 (length s), length-letters 0 k) in
      let e : k + 1 ≡ suc k = omega arith in
      rw (
        put-append t 0 (r ++ letters 0 k) (12 * length s + 2 * k) ((0x61 + k) ∷ []) (omega arith) (omega arith),
        put-append t 0 ((r ++ letters 0 k) ++ ((0x61 + k) ∷ [])) (12 * length s + 2 * k + 1) (0 ∷ [])
            (omega (arith, length-append (r ++ letters 0 k) ((0x61 + k) ∷ []))) (omega arith),
        e,
        letters-next 0 k,
        zero-add k,
        append_assoc (r ++ letters 0 k) ((0x61 + k) ∷ []) (0 ∷ []),
        append_assoc r (letters 0 k) ((0x61 + k) ∷ 0 ∷ []),
      )
