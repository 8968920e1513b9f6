-- A shape's tree, entry by entry, and the search for an entry's parent in it. Assumes nothing.
use Rattle.std.specs.Prelude.{ℕ, zero, suc, ◌+◌, ◌<◌, ◌≤◌, ◌≡◌, refl, List, [], ◌∷◌, length, nat_lt, slice_index_or}
use Rattle.std.proofs.Common.{ap, sym, ◌∙◌, arith, add-zero, zero-add, lt-ltb, le-ltb}
use Rattle.tree.specs.Table.{empty_root, is_enclosing, parent_below, parent_of}
use Rattle.tree.specs.Lookup.{next_of}
use Rattle.tree.proofs.Laws.Nesting.{parent-root, parent-before, parent-here, parent-lower}
use Rattle.small_tables.specs.declared.shape.Entry.{Entry}
use Rattle.small_tables.specs.declared.shape.Entry.TheVariants.{File, Directory}
use Rattle.small_tables.specs.Shapes.{node_of, tree_from, tree_of}
use Rattle.small_tables.specs.Inner.Ends.{next_in}

length-tree_from : (k : ℕ) (s : List Entry) → length (tree_from k s) ≡ length s
unfolding tree_from
length-tree_from k [] = refl
length-tree_from k (x ∷ s) = ap suc (length-tree_from (suc k) s)

pub length-tree_of : (s : List Entry) → length (tree_of s) ≡ length s
unfolding tree_of
length-tree_of s = length-tree_from 0 s

from-at : (k : ℕ) (s : List Entry) (i : ℕ) → i < length s →
    slice_index_or (tree_from k s) i empty_root ≡ node_of (k + i) (slice_index_or s i File)
unfolding tree_from
from-at k [] i h = absurd (omega arith)
from-at k (x ∷ s) zero h = rw add-zero
from-at k (x ∷ s) (suc i) h =
    let e : k + suc i ≡ suc k + i = omega arith in
    rw e (from-at (suc k) s i (omega arith))

pub tree-at : (s : List Entry) (i : ℕ) → i < length s →
    slice_index_or (tree_of s) i empty_root ≡ node_of i (slice_index_or s i File)
unfolding tree_of
tree-at s i h = rw zero-add at (from-at 0 s i h)

encloses : (i : ℕ) (x : Entry) (k : ℕ) → is_enclosing (node_of i x) k ≡ nat_lt k (next_in x)
encloses i File k = sym (le-ltb k 0 (omega arith))
encloses i (Directory next) k = refl

-- whether entry k stands before an entry's next
pub encloses-at : (s : List Entry) (i k : ℕ) → i < length s →
    is_enclosing (slice_index_or (tree_of s) i empty_root) k ≡ nat_lt k (next_in (slice_index_or s i File))
encloses-at s i k h = rw (tree-at s i h) (encloses i (slice_index_or s i File) k)

-- so the search for its parent ends there, or goes on below
pub parent-there : (s : List Entry) (i k : ℕ) → i < length s → k < next_in (slice_index_or s i File) →
    parent_below (tree_of s) k (suc i) ≡ i
parent-there s i k h l =
    parent-here (tree_of s) k i (encloses-at s i k h ∙ lt-ltb k (next_in (slice_index_or s i File)) l)

pub parent-further : (s : List Entry) (i k : ℕ) → i < length s → next_in (slice_index_or s i File) ≤ k →
    parent_below (tree_of s) k (suc i) ≡ parent_below (tree_of s) k i
parent-further s i k h l =
    parent-lower (tree_of s) k i (encloses-at s i k h ∙ le-ltb k (next_in (slice_index_or s i File)) l)

-- a parent is an entry of the shape
pub parent-in : (s : List Entry) (k : ℕ) → 0 < length s → k ≤ length s → parent_of (tree_of s) k < length s
parent-in s zero some h = rw (parent-root (tree_of s)) some
parent-in s (suc k) some h = omega (arith, parent-before (tree_of s) (suc k) (omega arith))

next-is : (i : ℕ) (x : Entry) → next_of (node_of i x) ≡ next_in x
next-is i File = refl
next-is i (Directory next) = refl

pub next-at : (s : List Entry) (i : ℕ) → i < length s →
    next_of (slice_index_or (tree_of s) i empty_root) ≡ next_in (slice_index_or s i File)
next-at s i h = rw (tree-at s i h) (next-is i (slice_index_or s i File))
