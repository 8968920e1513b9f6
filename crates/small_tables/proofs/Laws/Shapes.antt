-- LAW: the list of the shapes has exactly those whose directories nest. Assumes nothing.
use Rattle.std.specs.Prelude.{ℕ, zero, suc, ◌-◌, ◌<◌, ◌≤◌, ◌≡◌, refl, true, slice_index_or}
use Rattle.std.specs.Prelude.{List, [], ◌∷◌, length, map, Contains}
use Rattle.std.specs.List.{range_with_len}
use Rattle.std.proofs.Common.{◌∙◌, ⊎_elim, arith, lt-ltb}
use Rattle.std.proofs.lemmas.List.{get_or_past}
use Rattle.refusal.specs.Laws.Tests.{lt-or-le}
use Rattle.tree.specs.Table.{empty_root, is_enclosing, parent_of}
use Rattle.tree.proofs.Laws.Nesting.{parent-before, parent-at-least}
use Rattle.small_tables.specs.declared.shape.Entry.{Entry}
use Rattle.small_tables.specs.declared.shape.Entry.TheVariants.{File, Directory}
use Rattle.small_tables.specs.Shapes.{tree_of, each_entry, each_list, shapes}
use Rattle.small_tables.specs.Inner.Ends.{next_in}
use Rattle.small_tables.specs.Inner.Begun.{largest_next, IsBegun}
use Rattle.small_tables.specs.Theorem.{IsShape, EachShape}
use Rattle.small_tables.proofs.Laws.Entries.{tree-at}
use Rattle.small_tables.proofs.Laws.Lists.{range-contains, filter-contains, map-contains, flat_map-contains, contains_first, contains_later}
use Rattle.small_tables.proofs.Laws.Begun.{largest-next-is, largest-next-behind, in-bounds, begun-allowed, is_shape, shape-length, shape-begun}

-- ---- a directory lies within each that it is in

module _ (n : ℕ) (s : List Entry) (b : IsBegun n s) where
  -- the parent lies at or behind each directory around
  inside : (j d k outer inner : ℕ) → k < j → d < k → k < outer → k < length s → slice_index_or s d File ≡ Directory outer →
      slice_index_or s k File ≡ Directory inner → inner ≤ outer
  inside zero d k outer inner m l h i p q = absurd (omega arith)
  inside (suc j) d k outer inner m l h i p q =
      let before = parent-before (tree_of s) k (omega arith) in
      let around : is_enclosing (slice_index_or (tree_of s) d empty_root) k ≡ true = rw (tree-at s d (omega arith), p) (lt-ltb k outer h) in
      let behind = parent-at-least (tree_of s) d k (l, around) in
      let a = b.allowed k inner (omega arith) i q in
      let e = largest-next-is s k (omega arith) (omega arith) in
      ⊎_elim (λ g. go (slice_index_or s (parent_of (tree_of s) k) File) refl (omega (arith, a.1))
      (λ next r. inside j d (parent_of (tree_of s) k) outer next (omega arith) g (omega arith) (omega arith) p r))
      (λ g. let same : parent_of (tree_of s) k ≡ d = omega arith in
      let f : largest_next s k ≡ outer = e ∙ rw (same, p) in
      omega (arith, a.1)) (lt-or-le d (parent_of (tree_of s) k))
    where
      go : (x : Entry) → slice_index_or s (parent_of (tree_of s) k) File ≡ x → inner ≤ next_in (slice_index_or s (parent_of (tree_of s) k) File) →
          ((next : ℕ) → slice_index_or s (parent_of (tree_of s) k) File ≡ Directory next → next ≤ outer) → inner ≤ outer
      go File r c f = let z : inner ≤ 0 = rw r at c in omega arith
      go (Directory next) r c f = let z : inner ≤ next = rw r at c in omega (arith, f next r)

  -- an entry past the last is no directory
  within : (k next : ℕ) → slice_index_or s k File ≡ Directory next → k < length s
  within k next e = ⊎_elim (λ h. h) (λ h. absurd (no (get_or_past s k File h))) (lt-or-le k (length s))
    where
      no : slice_index_or s k File ≡ File → ⊥
      no f = cc

  begun-shape : length s ≡ n → IsShape n s
  begun-shape e = record {
    entries = e;
    root = b.root;
    behind = behind;
    nested = λ d k outer inner l h p q. inside (suc k) d k outer inner (omega arith) l h (within k inner q) p q;
  }
    where
      behind : (k next : ℕ) → slice_index_or s k File ≡ Directory next → k < next
      behind zero next q = let r : next ≡ n = cc (b.root) in omega (arith, b.some)
      behind (suc k) next q = let a = b.allowed (suc k) next (omega arith) (within (suc k) next q) q in a.0

-- ---- what nests is begun and whole

module _ (n : ℕ) (s : List Entry) (some : 0 < n) (h : IsShape n s) where
  shape_is_begun : IsBegun n s
  shape_is_begun = record { root = h.root; some = omega (arith, h.entries); within = omega (arith, h.entries); allowed = allowed }
    where
      allowed : (k next : ℕ) → 0 < k → k < length s → slice_index_or s k File ≡ Directory next → (k < next) × (next ≤ largest_next s k)
      allowed k next l i e =
          let b = parent-before (tree_of s) k l in
          let m = largest-next-behind s k l (omega arith) n h.root (omega (arith, h.entries)) in
          (h.behind k next e, rw (largest-next-is s k l (omega arith)) (go (slice_index_or s (parent_of (tree_of s) k) File) refl (rw (largest-next-is s k l (omega arith)) at m)))
        where
          go : (x : Entry) → slice_index_or s (parent_of (tree_of s) k) File ≡ x → k < next_in (slice_index_or s (parent_of (tree_of s) k) File) →
              next ≤ next_in x
          go File r c = let z : k < 0 = rw r at c in absurd (omega arith)
          go (Directory outer) r c =
              let z : k < outer = rw r at c in
              h.nested (parent_of (tree_of s) k) k outer next (parent-before (tree_of s) k l) z r e

-- ---- each list of so many entries with no next past n

entry-contains : (n : ℕ) (x : Entry) → next_in x ≤ n → Contains (each_entry n) x
entry-contains n File h = contains_first File File (map (λ next. Directory next) (range_with_len 0 (suc n))) refl
entry-contains n (Directory next) h =
    contains_later (Directory next) File (map (λ next. Directory next) (range_with_len 0 (suc n)))
    (map-contains (λ next. Directory next) (range_with_len 0 (suc n)) next (range-contains 0 (suc n) next (omega arith) (omega arith)))

list-contains : (n m : ℕ) (xs : List Entry) → length xs ≡ m → ((k : ℕ) → k < length xs → next_in (slice_index_or xs k File) ≤ n) → Contains (each_list n m) xs
unfolding each_list
list-contains n zero [] e h = contains_first [] [] [] refl
list-contains n zero (x ∷ xs) e h = absurd (omega arith)
list-contains n (suc m) [] e h = absurd (omega arith)
list-contains n (suc m) (x ∷ xs) e h =
    flat_map-contains (λ (y : Entry). map (λ ys. y ∷ ys) (each_list n m)) (each_entry n) x (x ∷ xs) (entry-contains n x (h 0 (omega arith)))
    (map-contains (λ (ys : List Entry). x ∷ ys) (each_list n m) xs (list-contains n m xs (omega arith) (λ k l. h (suc k) (omega arith))))

begun-contains : (n : ℕ) (s : List Entry) → 0 < n → IsBegun n s → length s ≡ n → Contains (shapes n) s
unfolding shapes
begun-contains n [] h b e = absurd (omega arith)
begun-contains n (x ∷ xs) h b e =
    let root : x ≡ Directory n = b.root in
    filter-contains is_shape (map (λ xs. Directory n ∷ xs) (each_list n (n - 1))) (x ∷ xs) (begun-allowed (x ∷ xs) n b e)
    (rw root (map-contains (λ (ys : List Entry). Directory n ∷ ys) (each_list n (n - 1)) xs
    (list-contains n (n - 1) xs (omega arith) (λ k l. in-bounds n (x ∷ xs) b (suc (suc k)) (suc k) (omega arith) (omega arith)))))

pub each-shape : EachShape
each-shape n s h =
    (λ c. begun-shape n s (shape-begun n s h c) (shape-length n s h c), λ w. begun-contains n s h (shape_is_begun n s h w) w.entries)
