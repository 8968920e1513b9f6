-- LAWS: the table of each shape is accepted, and reads as its tree; and each table that is accepted has a shape. Assumes nothing.
use Rattle.std.specs.Prelude.{ℕ, suc, ◌+◌, ◌*◌, ◌<◌, ◌≤◌, ◌≡◌, ◌⊎◌, refl, List, [], ◌∷◌, length, map}
use Rattle.std.specs.Prelude.{Bool, true, false, if◌then◌else◌, Ok, All, Contains, nat_le, slice_index_or}
use Rattle.std.proofs.Common.{ap, sym, ◌∙◌, inl, inr, ⊎_elim, arith, add-zero, le-leb, lt-ltb, leb-true, leb-false, ne_eqb}
use Rattle.std.proofs.lemmas.List.{length-map, get_or-map, get_or_past}
use Rattle.std.proofs.lemmas.List.Elements.{All-nil, All-cons, All-head, All-tail, All-weaker}
use mathlib.Core.List.{tail}
use Rattle.refusal.specs.Laws.Tests.{lt-or-le, and_both}
use Rattle.tree.specs.Units.{units}
use Rattle.tree.specs.Table.{Node, file, directory, empty_root, is_plain, is_safe, count, nodes_of, top, dirs_open_at, is_enclosing, is_shallow, is_shallow_from, limits}
use Rattle.tree.specs.Inner.WellFormed.{IsGoodName, IsSound, IsWellFormed}
use Rattle.tree.proofs.Laws.Accepted.{accepted, length-nodes_of}
use Rattle.tree.proofs.Laws.WellNested.{root_is, not-empty, next-bounds, nests}
use Rattle.tree.proofs.Laws.RoundTrip.{limits-within, written-accepted, written-reads}
use Rattle.small_tables.specs.declared.shape.Entry.{Entry}
use Rattle.small_tables.specs.declared.shape.Entry.TheVariants.{File, Directory}
use Rattle.small_tables.specs.Shapes.{entry_name, tree_from, tree_of}
use Rattle.small_tables.specs.Tables.{table_of}
use Rattle.small_tables.specs.Theorem.{IsShape, ReadBack, NoneMissing, entry_of}
use Rattle.small_tables.proofs.Laws.Lists.{contains-cons, contains_first, contains_later}
use Rattle.small_tables.proofs.Laws.Entries.{length-tree_of}
use Rattle.small_tables.proofs.Laws.Shapes.{each-shape}
use Rattle.small_tables.proofs.Laws.Trees.{texts-tree}

-- ---- a letter is a good name

letter-good : (k : ℕ) → k < 26 → IsGoodName (entry_name (suc k))
unfolding is_plain is_safe units
letter-good k h = (
  simp (le-leb 0x20 (0x61 + k) (omega arith), le-leb (0x61 + k) 0x7E (omega arith)),
  simp (ne_eqb (0x61 + k) 0x2E (omega arith), ne_eqb (0x61 + k) 0x2F (omega arith), ne_eqb (0x61 + k) 0x5C (omega arith), ne_eqb (0x61 + k) 0x3A (omega arith)),
)

-- ---- what opening's walk keeps open at entry k: nexts of directories before it, the root's among them

-- a directory before entry k has this next
abbrev IsNextBefore : List Entry → ℕ → ℕ → Type 0
IsNextBefore s k next = (d : ℕ) × (d < k) × (slice_index_or s d File ≡ Directory next)

abbrev AreOpen : List Entry → ℕ → ℕ → List ℕ → Type 0
AreOpen s n k dirs = All (IsNextBefore s k) dirs × Contains dirs n

open-more : (s : List Entry) (n k : ℕ) (dirs : List ℕ) → AreOpen s n k dirs → AreOpen s n (suc k) dirs
open-more s n k dirs o =
    (All-weaker (IsNextBefore s k) (IsNextBefore s (suc k)) (λ next b. (b.0, omega (arith, b.1), b.2)) dirs o.0, o.1)

open-directory : (s : List Entry) (n k : ℕ) (dirs : List ℕ) (next : ℕ) → slice_index_or s k File ≡ Directory next → AreOpen s n k dirs → AreOpen s n (suc k) (next ∷ dirs)
open-directory s n k dirs next e o =
    let r = open-more s n k dirs o in
    (All-cons (IsNextBefore s (suc k)) next dirs (k, omega arith, e) r.0, contains_later n next dirs r.1)

-- a directory before entry k that it is in has this next
abbrev IsNextAround : List Entry → ℕ → ℕ → Type 0
IsNextAround s k next = (d : ℕ) × (d < k) × (k < next) × (slice_index_or s d File ≡ Directory next)

-- so the innermost that is still open there is a directory's that the entry is in
still-open : (s : List Entry) (n k : ℕ) (dirs : List ℕ) → k < n → AreOpen s n k dirs →
    AreOpen s n k (dirs_open_at k dirs) × IsNextAround s k (top (dirs_open_at k dirs))
unfolding dirs_open_at
still-open s n k [] h o = absurd (omega (arith, o.1.1))
still-open s n k (m ∷ dirs) h o = go (nat_le m k) refl (λ r. still-open s n k dirs h (All-tail (IsNextBefore s k) m dirs o.0, r))
  where
    here : IsNextBefore s k m
    here = All-head (IsNextBefore s k) m dirs o.0

    go : (t : Bool) → nat_le m k ≡ t → (Contains dirs n → AreOpen s n k (dirs_open_at k dirs) × IsNextAround s k (top (dirs_open_at k dirs))) →
        AreOpen s n k (if t then dirs_open_at k dirs else m ∷ dirs) × IsNextAround s k (top (if t then dirs_open_at k dirs else m ∷ dirs))
    go true e ih = ih (⊎_elim (λ q. absurd (omega (arith, leb-true m k e))) (λ r. r) (contains-cons n m dirs o.1))
    go false e ih = (o, (here.0, here.1, leb-false m k e, here.2))

-- ---- the tree of a shape is well formed

no-directory : (next : ℕ) → File ≡ Directory next → ⊥
no-directory next e = cc

root-first : (n : ℕ) (s : List Entry) → slice_index_or s 0 File ≡ Directory n → tree_of s ≡ directory [] n ∷ tail (tree_of s)
unfolding tree_from tree_of
root-first n [] e = absurd (no-directory n e)
root-first n (x ∷ xs) e = rw e

module _ (n : ℕ) (s : List Entry) (w : IsShape n s) (few : n ≤ 27) where
  sound-from : (k : ℕ) (dirs : List ℕ) (xs : List Entry) → suc k + length xs ≡ n → AreOpen s n (suc k) dirs →
      ((i : ℕ) → i < length xs → slice_index_or s (suc k + i) File ≡ slice_index_or xs i File) → IsSound n dirs (suc k) (tree_from (suc k) xs)
  unfolding tree_from
  sound-from k dirs [] e o f = tt
  sound-from k dirs (File ∷ xs) e o f =
      let r = still-open s n (suc k) dirs (omega arith) o in (
        letter-good k (omega arith),
        (omega arith, omega arith),
        sound-from (suc k) (dirs_open_at (suc k) dirs) xs (omega arith) (open-more s n (suc k) (dirs_open_at (suc k) dirs) r.0)
            (λ i h. let m : suc (suc k) + i ≡ suc k + suc i = omega arith in rw m (f (suc i) (omega arith))),
      )
  sound-from k dirs (Directory next ∷ xs) e o f =
      let r = still-open s n (suc k) dirs (omega arith) o in
      let here : slice_index_or s (suc k) File ≡ Directory next = rw add-zero at (f 0 (omega arith)) in (
        letter-good k (omega arith),
        (
          w.behind (suc k) next here,
          w.nested 0 (suc k) n next (omega arith) (omega arith) w.root here,
          w.nested r.1.0 (suc k) (top (dirs_open_at (suc k) dirs)) next r.1.1 r.1.2 r.1.3 here,
        ),
        sound-from (suc k) (next ∷ dirs_open_at (suc k) dirs) xs (omega arith)
            (open-directory s n (suc k) (dirs_open_at (suc k) dirs) next here r.0)
            (λ i h. let m : suc (suc k) + i ≡ suc k + suc i = omega arith in rw m (f (suc i) (omega arith))),
      )

  whole-sound : (t : List Entry) → s ≡ t → IsSound n (n ∷ []) 1 (tail (tree_of t))
  unfolding tree_from tree_of
  whole-sound [] e = absurd (omega (arith, w.behind 0 n w.root, w.entries, ap length e))
  whole-sound (x ∷ xs) e =
      sound-from 0 (n ∷ []) xs (omega (arith, w.entries, ap length e)) (All-cons (IsNextBefore s 1) n [] (0, omega arith, w.root) (All-nil (IsNextBefore s 1)), contains_first n n [] refl)
      (λ i h. let m : 1 + i ≡ suc i = omega arith in rw (m, e))

  tree-well : IsWellFormed (tree_of s)
  tree-well =
      let e : length (tree_of s) ≡ n = length-tree_of s ∙ w.entries in
      record { root = rw e (root-first n s w.root); sound = rw e (whole-sound s refl) }

-- ---- nothing in it is deeper than it has entries

open-shorter : (k : ℕ) (dirs : List ℕ) → length (dirs_open_at k dirs) ≤ length dirs
unfolding dirs_open_at
open-shorter k [] = omega arith
open-shorter k (m ∷ dirs) = go (nat_le m k) (open-shorter k dirs)
  where
    go : (t : Bool) → length (dirs_open_at k dirs) ≤ length dirs → length (if t then dirs_open_at k dirs else m ∷ dirs) ≤ suc (length dirs)
    go true h = omega arith
    go false h = omega arith

shallow-from : (dirs : List ℕ) (k : ℕ) (xs : List Entry) → length dirs + length xs ≤ 65 → is_shallow_from dirs k (tree_from k xs) ≡ true
unfolding is_shallow_from tree_from
shallow-from dirs k [] h = refl
shallow-from dirs k (File ∷ xs) h = shallow-from (dirs_open_at k dirs) (suc k) xs (omega (arith, open-shorter k dirs))
shallow-from dirs k (Directory next ∷ xs) h =
    and_both (nat_le (length (dirs_open_at k dirs)) 64) _ (le-leb (length (dirs_open_at k dirs)) 64 (omega (arith, open-shorter k dirs)))
    (shallow-from (next ∷ dirs_open_at k dirs) (suc k) xs (omega (arith, open-shorter k dirs)))

tree-shallow : (s : List Entry) → length s ≤ 27 → is_shallow (tree_of s) ≡ true
unfolding is_shallow is_shallow_from tree_from tree_of
tree-shallow [] h = refl
tree-shallow (x ∷ xs) h = shallow-from (suc (length (tree_from 1 xs)) ∷ []) 1 xs (omega arith)

tree-limits : (n : ℕ) (s : List Entry) (words : ℕ) → length s ≡ n → n ≤ 27 → 4 * (n + 2) ≤ words → limits (tree_of s) words ≡ Ok tt
tree-limits n s words e few room =
    let l : length (tree_of s) ≡ n = length-tree_of s ∙ e in
    limits-within (tree_of s) words
    record { few = omega arith; texts = omega (arith, texts-tree s); room = rw l room; depth = tree-shallow s (omega arith) }

-- the tree says what the shape does
entries-from : (k : ℕ) (s : List Entry) → map entry_of (tree_from k s) ≡ s
unfolding tree_from
entries-from k [] = refl
entries-from k (File ∷ s) = ap (λ (l : List Entry). File ∷ l) (entries-from (suc k) s)
entries-from k (Directory next ∷ s) = ap (λ (l : List Entry). Directory next ∷ l) (entries-from (suc k) s)

entries-of : (s : List Entry) → map entry_of (tree_of s) ≡ s
unfolding tree_of
entries-of s = entries-from 0 s

-- LAW: the table of each shape is accepted, and reads as its tree
pub read-back : ReadBack
read-back n words s some few i room =
    let w : IsShape n s = (each-shape n s some).0 i in
    let l : limits (tree_of s) words ≡ Ok tt = tree-limits n s words w.entries few room in
    let tree : nodes_of (table_of s) ≡ tree_of s = written-reads (tree_of s) words (tree-well n s w few) l in record {
      accepted = written-accepted (tree_of s) words (tree-well n s w few) l;
      tree = tree;
      entries = rw tree (entries-of s);
      anew = rw tree;
    }

-- ---- the shape of a table that is accepted

shape-at : (nodes : List Node) (k : ℕ) → k < length nodes → slice_index_or (map entry_of nodes) k File ≡ entry_of (slice_index_or nodes k empty_root)
shape-at nodes k h = get_or-map entry_of nodes k empty_root File h

directory-at : (x : Node) (next : ℕ) → entry_of x ≡ Directory next → (nm : List ℕ) × (x ≡ directory nm next)
directory-at (file nm offset size) next e = absurd (no-directory next e)
directory-at (directory nm m) next e = (nm, cc)

module _ (nodes : List Node) (well : IsWellFormed nodes) where
  abbrev shape : List Entry
  shape = map entry_of nodes

  -- a directory of the shape is one of the tree
  directory-there : (k next : ℕ) → slice_index_or shape k File ≡ Directory next → (k < length nodes) × ((nm : List ℕ) × (slice_index_or nodes k empty_root ≡ directory nm next))
  directory-there k next e = go (lt-or-le k (length nodes))
    where
      go : (k < length nodes) ⊎ (length nodes ≤ k) → (k < length nodes) × ((nm : List ℕ) × (slice_index_or nodes k empty_root ≡ directory nm next))
      go (inl h) = (h, directory-at (slice_index_or nodes k empty_root) next (sym (shape-at nodes k h) ∙ e))
      go (inr h) = absurd (no-directory next (sym (get_or_past shape k File (omega (arith, length-map nodes entry_of))) ∙ e))

  well-shape : IsShape (length nodes) shape
  well-shape = record {
    entries = length-map nodes entry_of;
    root = shape-at nodes 0 (not-empty nodes well) ∙ ap entry_of (root_is nodes well);
    behind = λ k next e. let r = directory-there k next e in (next-bounds nodes k next r.1.0 well r.1.1 r.0).0;
    nested = λ d k outer inner d<k k<outer e f.
        let a = directory-there d outer e in
        let b = directory-there k inner f in
        let around : is_enclosing (slice_index_or nodes d empty_root) k ≡ true = rw a.1.1 (lt-ltb k outer k<outer) in
        rw a.1.1 at (nests nodes d k inner b.1.0 well (d<k, around) b.0 b.1.1);
  }

-- LAW: the shape of each table that opening accepts is in the list
pub none-missing : NoneMissing
none-missing tab words bytes e =
    let well : IsWellFormed (nodes_of tab) = (accepted tab words bytes e).well in
    let l : length (nodes_of tab) ≡ count tab = length-nodes_of tab in
    (each-shape (count tab) (map entry_of (nodes_of tab)) (omega (arith, not-empty (nodes_of tab) well))).1
    (rw l at (well-shape (nodes_of tab) well))
