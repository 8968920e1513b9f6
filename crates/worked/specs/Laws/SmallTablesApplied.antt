-- Each theorem about small tables, applied: to shapes of up to 27 entries, to lists that are none, and
-- to the small master. Assumes nothing.
use Rattle.std.specs.Prelude.{Ok, Err, ℕ, zero, suc, ◌+◌, ◌-◌, ◌*◌, ◌<◌, ◌≤◌, ◌≡◌, refl, List, [], ◌∷◌, length, map, replicate, take, drop, Contains, slice_index_or, codes}
use Rattle.std.proofs.Common.{sym, ap, subst, ◌∙◌, arith, ⊎_elim}
use Rattle.std.proofs.lemmas.List.{length-replicate, get_or_default}
use Rattle.std.proofs.lemmas.List.Elements.{Contains-get_or}
use Rattle.endian.specs.Bytes.{AllBytes, be24, be32, put}
use Rattle.refusal.specs.declared.Refusal.TheVariants.{LimitOrMemory}
use Rattle.header.specs.Fields.{fields}
use Rattle.header.specs.Verdicts.{field_verdict, all_fields_verdict, header_verdict}
use Rattle.tree.specs.Units.{units}
use Rattle.tree.specs.Table.{file, directory, encode, is_plain, is_safe, count, name_at, node_at, nodes_from, nodes_of, entry_verdict, entries_verdict, is_unended, dirs_open_at, name_verdict, next_verdict, walk, check}
use Rattle.opened.specs.Opening.{nodes_in, opening}
use Rattle.small_tables.specs.declared.shape.Entry.{Entry}
use Rattle.small_tables.specs.declared.shape.Entry.TheVariants.{File, Directory}
use Rattle.small_tables.specs.Shapes.{tree_of, tree_from, shapes}
use Rattle.small_tables.specs.Tables.{table_of, tables_of, small_tables_answer}
use Rattle.small_tables.specs.Theorem.{IsShape, IsBefore, IsEarlier, entry_of, CanHold, with_table}
use Rattle.small_tables.proofs.Laws.Shapes.{each-shape}
use Rattle.small_tables.proofs.Laws.Order.{each-once}
use Rattle.small_tables.proofs.Laws.Numbers.{numbers}
use Rattle.small_tables.proofs.Laws.Accepted.{read-back, none-missing}
use Rattle.small_tables.proofs.Laws.Places.{each-in-its-place}
use Rattle.small_tables.proofs.Laws.Opens.{each-opens}
use Rattle.worked.specs.Image.{master, master_table}
use Rattle.worked.specs.Laws.Applied.{bytes_only, bytes-only}
use Rattle.worked.specs.Laws.SmallTables.{shapes-worked}

-- ---- which lists are shapes

says : (n : ℕ) (shape : List Entry) → 0 < n → Contains (shapes n) shape → IsShape n shape
says n shape some = (each-shape n shape some).0

is-there : (n : ℕ) (shape : List Entry) → 0 < n → IsShape n shape → Contains (shapes n) shape
is-there n shape some = (each-shape n shape some).1

next-is : (m n : ℕ) → ◌≡◌ {A = Entry} (Directory m) (Directory n) → m ≡ n
next-is m n e = cc

no-file : (n : ℕ) → ◌≡◌ {A = Entry} File (Directory n) → ⊥
no-file n e = cc

-- files alone, whatever their number
abbrev pub files : ℕ → List Entry
files m = Directory (suc m) ∷ replicate m File

-- directories alone that all end with the table
abbrev pub directories : ℕ → List Entry
directories m = replicate (suc m) (Directory (suc m))

file-at : (m k : ℕ) → slice_index_or (replicate m File) k File ≡ File
file-at zero k = refl
file-at (suc m) zero = refl
file-at (suc m) (suc k) = file-at m k

pub record Which : Type 0 where
  -- the first of RULES' order, and the last, of any number of entries
  pub files-alone : (m : ℕ) → Contains (shapes (suc m)) (files m)
  pub directories-alone : (m : ℕ) → Contains (shapes (suc m)) (directories m)
  -- an entry less, and another next in the root
  pub fewer : Contains (shapes 3) (Directory 3 ∷ File ∷ []) → ⊥
  pub root : Contains (shapes 3) (Directory 2 ∷ File ∷ File ∷ []) → ⊥
  -- a directory that ends at itself; past the table's end; past its parent's
  pub at-itself : Contains (shapes 3) (Directory 3 ∷ Directory 1 ∷ File ∷ []) → ⊥
  pub past-end : Contains (shapes 3) (Directory 3 ∷ File ∷ Directory 4 ∷ []) → ⊥
  pub past-parent : Contains (shapes 4) (Directory 4 ∷ Directory 3 ∷ Directory 4 ∷ File ∷ []) → ⊥

files-shape : (m : ℕ) → IsShape (suc m) (files m)
files-shape m = record {
  entries = ap suc (length-replicate m File);
  root = refl;
  behind = behind;
  nested = nested;
}
  where
    behind : (k next : ℕ) → slice_index_or (files m) k File ≡ Directory next → k < next
    behind zero next e = omega (arith, next-is (suc m) next e)
    behind (suc k) next e = absurd (no-file next (sym (file-at m k) ∙ e))

    nested : (d k outer inner : ℕ) → d < k → k < outer →
        slice_index_or (files m) d File ≡ Directory outer →
        slice_index_or (files m) k File ≡ Directory inner → inner ≤ outer
    nested d zero outer inner l h a b = absurd (omega arith)
    nested d (suc k) outer inner l h a b = absurd (no-file inner (sym (file-at m k) ∙ b))

directory-at : (m n k next : ℕ) →
    slice_index_or (replicate m (Directory n)) k File ≡ Directory next → (k < m) × (n ≡ next)
directory-at zero n k next e = absurd (no-file next e)
directory-at (suc m) n zero next e = (omega arith, next-is n next e)
directory-at (suc m) n (suc k) next e =
    let r = directory-at m n k next e in
    (omega (arith, r.0), r.1)

directories-shape : (m : ℕ) → IsShape (suc m) (directories m)
directories-shape m = record {
  entries = length-replicate (suc m) (Directory (suc m));
  root = refl;
  behind = λ k next e. let r = directory-at (suc m) (suc m) k next e in omega (arith, r.0, r.1);
  nested = λ d k outer inner l h a b.
      let o = directory-at (suc m) (suc m) d outer a in
      let i = directory-at (suc m) (suc m) k inner b in
      omega (arith, o.1, i.1);
}

pub which : Which
which = record {
  files-alone = λ m. is-there (suc m) (files m) (omega arith) (files-shape m);
  directories-alone = λ m. is-there (suc m) (directories m) (omega arith) (directories-shape m);
  fewer = λ c.
      let s = says 3 _ (omega arith) c in
      let n : ◌≡◌ {A = ℕ} 2 3 = s.entries in
      omega arith;
  root = λ c.
      let s = says 3 _ (omega arith) c in
      let n : ◌≡◌ {A = ℕ} 2 3 = next-is 2 3 s.root in
      omega arith;
  at-itself = λ c.
      let s = says 3 _ (omega arith) c in
      let h : ◌<◌ 1 1 = s.behind 1 1 refl in
      omega arith;
  past-end = λ c.
      let s = says 3 _ (omega arith) c in
      let h : ◌≤◌ 4 3 = s.nested 0 2 3 4 (omega arith) (omega arith) refl refl in
      omega arith;
  past-parent = λ c.
      let s = says 4 _ (omega arith) c in
      let h : ◌≤◌ 4 3 = s.nested 1 2 3 4 (omega arith) (omega arith) refl refl in
      omega arith;
}

-- ---- in order

earlier-itself : (shape : List Entry) → IsEarlier shape shape → ⊥
earlier-itself [] e = e
earlier-itself (File ∷ s) e = ⊎_elim (λ b. b) (λ r. earlier-itself s r.1) e
earlier-itself (Directory n ∷ s) e = ⊎_elim (λ b. omega arith) (λ r. earlier-itself s r.1) e

before-file : (x : Entry) → IsBefore x File → ⊥
before-file File b = b
before-file (Directory n) b = b

none-earlier : (m : ℕ) (shape : List Entry) → IsEarlier shape (replicate m File) → ⊥
none-earlier m [] e = e
none-earlier zero (x ∷ s) e = e
none-earlier (suc m) (x ∷ s) e = ⊎_elim (λ b. before-file x b) (λ r. none-earlier m s r.1) e

files-first : (m : ℕ) (shape : List Entry) → slice_index_or shape 0 File ≡ Directory (suc m) →
    IsEarlier shape (files m) → ⊥
files-first m [] r e = e
files-first m (x ∷ s) r e = ⊎_elim before (λ t. none-earlier m s t.1) e
  where
    before : IsBefore x (Directory (suc m)) → ⊥
    before b = let h : suc m < suc m = rw r at b in omega arith

pub record InOrder : Type 0 where
  pub first : (m : ℕ) → slice_index_or (shapes (suc m)) 0 [] ≡ files m
  -- no shape stands at two places
  pub once : (i j : ℕ) → i < j → j < length (shapes 8) →
      slice_index_or (shapes 8) i [] ≡ slice_index_or (shapes 8) j [] → ⊥
  -- a list that has just the shapes and is in order
  pub only : (Directory 1 ∷ []) ∷ [] ≡ shapes 1

module _ (m : ℕ) where
  abbrev all : List (List Entry)
  all = shapes (suc m)

  files-at-0 : (i : ℕ) → i < length all → slice_index_or all i (files m) ≡ files m →
      slice_index_or all 0 [] ≡ files m
  files-at-0 zero h e = get_or_default all 0 [] (files m) h ∙ e
  files-at-0 (suc i) h e =
      let s : List Entry = slice_index_or all 0 (files m) in
      let of-s = says (suc m) s (omega arith) (Contains-get_or all 0 (files m) (omega arith)) in
      let before = (each-once (suc m) (omega arith)).0 0 (suc i) (files m) (omega arith) h in
      absurd (files-first m s of-s.root (subst (IsEarlier s) e before))

root-alone : (shape : List Entry) → IsShape 1 shape → Contains ((Directory 1 ∷ []) ∷ []) shape
root-alone [] s = absurd (omega (arith, s.entries))
root-alone (x ∷ []) s = (0, omega arith, ap (λ (y : Entry). y ∷ []) (sym s.root))
root-alone (x ∷ y ∷ shape) s = absurd (omega (arith, s.entries))

alone-root : (shape : List Entry) → Contains ((Directory 1 ∷ []) ∷ []) shape → IsShape 1 shape
alone-root shape (zero, h, e) = subst (IsShape 1) e (files-shape 0)
alone-root shape (suc i, h, e) = absurd (omega arith)

pub in-order : InOrder
in-order = record {
  first = λ m. let w = which.files-alone m in files-at-0 m w.0 w.1 w.2;
  once = λ i j l h e.
      let earlier = (each-once 8 (omega arith)).0 i j [] l h in
      earlier-itself (slice_index_or (shapes 8) j []) (rw e at earlier);
  only = (each-once 1 (omega arith)).1 ((Directory 1 ∷ []) ∷ [])
      (λ i j d l h. absurd (omega arith)) (λ shape. (alone-root shape, root-alone shape));
}

-- ---- how many

pub record Counted : Type 0 where
  pub of-8 : length (shapes 8) ≡ 8558
  pub of-9 : length (shapes 9) ≡ 41586

pub counted : Counted
counted =
    let n = numbers in
    record {
      of-8 = n.8;
      of-9 = n.1 7 ∙ rw (n.0, n.2, n.3, n.4, n.5, n.6, n.7, n.8);
    }

-- ---- the tables read back, and a table's shape is in the list

abbrev pub nested : List Entry
nested = Directory 3 ∷ Directory 3 ∷ Directory 3 ∷ []

abbrev pub letters : List ℕ
letters = codes "abcdefghijklmnopqrstuvwxyz"

pub record Read : Type 0 where
  pub of-3 :
      (check (table_of nested) 20 ≡ Ok tt)
      × (nodes_of (table_of nested)
      ≡ directory [] 3 ∷ directory (0x61 ∷ []) 3 ∷ directory (0x62 ∷ []) 3 ∷ [])
      × (map entry_of (nodes_of (table_of nested)) ≡ nested)
      × (encode (nodes_of (table_of nested)) ≡ table_of nested)
  -- 26 files, and 26 directories
  pub of-27 :
      (check (table_of (files 26)) 116 ≡ Ok tt)
      × (nodes_of (table_of (files 26))
      ≡ directory [] 27 ∷ map (λ letter. file (letter ∷ []) 0 0) letters)
      × (nodes_of (table_of (directories 26))
      ≡ directory [] 27 ∷ map (λ letter. directory (letter ∷ []) 27) letters)
  pub of-master : Contains (shapes 2) (Directory 2 ∷ File ∷ [])

master-bytes : AllBytes master_table
unfolding bytes_only
master-bytes = bytes-only master_table refl

master-accepted : check master_table 16 ≡ Ok tt
unfolding check count entries_verdict entry_verdict is_unended walk name_verdict next_verdict dirs_open_at is_plain is_safe nodes_from node_at name_at be24 be32 units
master-accepted = refl

pub read : Read
unfolding tree_of tree_from count nodes_of nodes_from node_at name_at be24 be32
read =
    let in-3 = which.directories-alone 2 in
    let first = which.files-alone 26 in
    let last = which.directories-alone 26 in
    let three = read-back 3 20 nested (omega arith) (omega arith) in-3 (omega arith) in
    let most = read-back 27 116 (files 26) (omega arith) (omega arith) first (omega arith) in
    let deepest = read-back 27 116 (directories 26) (omega arith) (omega arith) last (omega arith) in
    record {
      of-3 = (three.accepted, three.tree, three.entries, three.anew);
      of-27 = (most.accepted, rw most.tree, rw deepest.tree);
      of-master = none-missing master_table 16 master-bytes master-accepted;
    }

-- ---- each in its place

pub record Placed : Type 0 where
  pub sizes :
      (length (tables_of (shapes 4)) ≡ 1188)
      × (length (tables_of (shapes 5)) ≡ 6120)
      × (length (tables_of (shapes 6)) ≡ 32308)
      × (length (tables_of (shapes 7)) ≡ 173376)
      × (length (tables_of (shapes 8)) ≡ 941380)
  pub answers :
      (small_tables_answer 4 1188 ≡ Ok 22)
      × (small_tables_answer 5 6120 ≡ Ok 90)
      × (small_tables_answer 6 32308 ≡ Ok 394)
      × (small_tables_answer 7 173376 ≡ Ok 1806)
      × (small_tables_answer 8 941380 ≡ Ok 8558)
  pub short : small_tables_answer 8 941379 ≡ Err LimitOrMemory
  -- behind five tables of three entries
  pub last : take 40 (drop 200 (tables_of (shapes 3))) ≡ table_of nested

pub placed : Placed
unfolding small_tables_answer
placed =
    let n = numbers in
    let size = λ (k : ℕ) (some : 0 < k). (each-in-its-place k some).0 in
    let of-4 : length (tables_of (shapes 4)) ≡ 1188 = size 4 (omega arith) ∙ rw n.4 in
    let of-5 : length (tables_of (shapes 5)) ≡ 6120 = size 5 (omega arith) ∙ rw n.5 in
    let of-6 : length (tables_of (shapes 6)) ≡ 32308 = size 6 (omega arith) ∙ rw n.6 in
    let of-7 : length (tables_of (shapes 7)) ≡ 173376 = size 7 (omega arith) ∙ rw n.7 in
    let of-8 : length (tables_of (shapes 8)) ≡ 941380 = size 8 (omega arith) ∙ rw n.8 in
    let last = (each-in-its-place 3 (omega arith)).1 5 (omega (arith, n.3)) in
    record {
      sizes = (of-4, of-5, of-6, of-7, of-8);
      answers = (rw (of-4, n.4), rw (of-5, n.5), rw (of-6, n.6), rw (of-7, n.7), rw (of-8, n.8));
      short = rw of-8;
      last = last ∙ rw shapes-worked.of-3;
    }

-- ---- in the small master, which ends at 8192 and whose table stands at 1088, over its own table

-- and over zeros
unfoldable pub zeroed : List ℕ
zeroed = put master 0x440 (replicate 0x1A 0)

most : CanHold master 110
unfolding master put header_verdict all_fields_verdict field_verdict fields be32
most = record {
  header = refl;
  behind_header = omega arith;
  no_program = refl;
  room = omega arith;
  small = omega arith;
  whole = omega arith;
}

most-zeroed : CanHold zeroed 110
unfolding zeroed master put header_verdict all_fields_verdict field_verdict fields be32
most-zeroed = record {
  header = refl;
  behind_header = omega arith;
  no_program = refl;
  room = omega arith;
  small = omega arith;
  whole = omega arith;
}

-- so it can hold fewer bytes
holds : (image : List ℕ) (size : ℕ) → size ≤ 110 → CanHold image 110 → CanHold image size
holds image size h c = record {
  header = c.header;
  behind_header = c.behind_header;
  no_program = c.no_program;
  room = omega (arith, c.room);
  small = c.small;
  whole = c.whole;
}

pub record Opens (image : List ℕ) : Type 0 where
  pub each : (n words : ℕ) (shape : List Entry) → 0 < n → n ≤ 8 → Contains (shapes n) shape →
      4 * (n + 2) ≤ words →
      (opening (with_table image (table_of shape)) words ≡ Ok tt)
      × (nodes_in (with_table image (table_of shape)) ≡ tree_of shape)

opens : (image : List ℕ) → CanHold image 110 → Opens image
opens image c = record {
  each = λ n words shape some few in-list lent.
      let h = holds image (14 * n - 2) (omega arith) c in
      each-opens image n words shape some (omega arith) in-list h lent;
}

pub opens-master : Opens master
opens-master = opens master most

pub opens-zeroed : Opens zeroed
opens-zeroed = opens zeroed most-zeroed
