-- The shapes that begin with given entries: those that begin with one more, a file first, then each next that is allowed.
-- Assumes nothing.
use Rattle.std.specs.Prelude.{ℕ, zero, suc, ◌+◌, ◌-◌, ◌<◌, ◌≤◌, ◌≡◌, ◌⊎◌, refl, Bool, true, false, ◌&&◌, nat_lt, nat_le, slice_index_or}
use Rattle.std.specs.Prelude.{List, [], ◌∷◌, ◌++◌, length, map, filter, All, Contains}
use Rattle.std.specs.List.{flat_map, range_with_len}
use Rattle.std.proofs.Common.{sym, ap, ap₂, ◌∙◌, inl, inr, ⊎_elim, arith, append_assoc, append-nil, length-append, ltb-true, lt-ltb, leb-true, le-leb}
use Rattle.std.proofs.lemmas.List.{map-append, get_or_append_left, get_or_push}
use Rattle.std.proofs.lemmas.List.Elements.{All-nil, All-cons, All-map, All-weaker, All-filter, All-contains, filter-append, filter_passes}
use Rattle.std.proofs.lemmas.List.Concat.{flat_map-append}
use Rattle.std.proofs.lemmas.List.Folds.{flat_map-map}
use Rattle.std.proofs.Math.Seq.{get_or-append_seam}
use Rattle.refusal.specs.Laws.Tests.{lt-or-le, and_left, and_right, and_both, is_false}
use Rattle.tree.specs.Table.{Node, empty_root, is_enclosing, parent_below, parent_of}
use Rattle.tree.specs.Lookup.{next_of}
use Rattle.tree.proofs.Laws.Nesting.{parent-before, below-is_enclosing}
use Rattle.small_tables.specs.declared.shape.Entry.{Entry}
use Rattle.small_tables.specs.declared.shape.Entry.TheVariants.{File, Directory}
use Rattle.small_tables.specs.Shapes.{node_of, tree_of, parents_next, is_next_allowed, are_nexts_allowed, each_entry, each_list, shapes}
use Rattle.small_tables.specs.Inner.Ends.{next_in}
use Rattle.small_tables.specs.Inner.Begun.{shapes_with, largest_next, IsBegun}
use Rattle.small_tables.proofs.Laws.Entries.{length-tree_of, tree-at, encloses-at, next-at}
use Rattle.small_tables.proofs.Laws.Lists.{range-append, list_all-range, range-list_all, filter-map-none, filter-flat_map, map-flat_map, flat_map_all, flat_map_same, flat_map-range-none}

-- ---- the parent of an entry

pub below-same : (a b : List Node) (k i : ℕ) → ((j : ℕ) → j < i → slice_index_or a j empty_root ≡ slice_index_or b j empty_root) →
    parent_below a k i ≡ parent_below b k i
unfolding parent_below
below-same a b k zero h = refl
below-same a b k (suc i) h = rw (h i (omega arith), below-same a b k i (λ j l. h j (omega arith)))

module _ (s : List Entry) (k : ℕ) (some : 0 < k) (within : k ≤ length s) where
  abbrev parent : ℕ
  parent = parent_of (tree_of s) k

  pub largest-next-is : largest_next s k ≡ next_in (slice_index_or s parent File)
  largest-next-is =
      let l = parent-before (tree_of s) k some in
      next-at s parent (omega arith)

  -- what is behind an entry does not bear on its parent
  largest-next-first : (q : List Entry) → largest_next (s ++ q) k ≡ largest_next s k
  unfolding parent_of
  largest-next-first q =
      let l = parent-before (tree_of s) k some in
      let e : parent_of (tree_of (s ++ q)) k ≡ parent_of (tree_of s) k = below-same (tree_of (s ++ q)) (tree_of s) k k same in
      rw e (ap next_of (same (parent_of (tree_of s) k) l))
    where
      same : (j : ℕ) → j < k → slice_index_or (tree_of (s ++ q)) j empty_root ≡ slice_index_or (tree_of s) j empty_root
      same j h =
          tree-at (s ++ q) j (omega (arith, length-append s q))
          ∙ rw (get_or_append_left s q File j (omega arith)) (sym (tree-at s j (omega arith)))

  -- where the root goes on, the parent does
  pub largest-next-behind : (n : ℕ) → slice_index_or s 0 File ≡ Directory n → k < n → k < largest_next s k
  unfolding parent_of
  largest-next-behind n root h =
      let l = parent-before (tree_of s) k some in
      let r : is_enclosing (slice_index_or (tree_of s) 0 empty_root) k ≡ true = rw (tree-at s 0 (omega arith), root) (lt-ltb k n h) in
      let e = below-is_enclosing (tree_of s) k k some r in
      rw largest-next-is (ltb-true k _ (sym (encloses-at s parent k (omega arith)) ∙ e))

pub parents-next-first : (p q : List Entry) → 0 < length p → parents_next (tree_of (p ++ q)) (length p) ≡ largest_next p (length p)
parents-next-first p q h = largest-next-first p (length p) h (omega arith) q

module _ (n : ℕ) (p : List Entry) (begun : IsBegun n p) where
  -- no next is past the root's, so none is past the count
  pub in-bounds : (j k : ℕ) → k < j → k < length p → next_in (slice_index_or p k File) ≤ n
  in-bounds zero k l h = absurd (omega arith)
  in-bounds (suc j) zero l h = rw begun.root (omega arith)
  in-bounds (suc j) (suc k) l h =
      let b = parent-before (tree_of p) (suc k) (omega arith) in
      go (slice_index_or p (suc k) File) refl (in-bounds j (parent_of (tree_of p) (suc k)) (omega arith) (omega arith))
    where
      go : (x : Entry) → slice_index_or p (suc k) File ≡ x → next_in (slice_index_or p (parent_of (tree_of p) (suc k)) File) ≤ n → next_in x ≤ n
      go File e i = omega arith
      go (Directory next) e i =
          let a = begun.allowed (suc k) next (omega arith) h e in
          omega (arith, a.1, largest-next-is p (suc k) (omega arith) (omega arith))

  next-most : (k next : ℕ) → k < length p → slice_index_or p k File ≡ Directory next → next ≤ n
  next-most k next h e = let b = in-bounds (suc k) k (omega arith) h in rw e at b

  largest-next-most : (k : ℕ) → 0 < k → k ≤ length p → largest_next p k ≤ n
  largest-next-most k s h =
      let b = parent-before (tree_of p) k s in
      rw (largest-next-is p k s h) (in-bounds k (parent_of (tree_of p) k) b (omega arith))

pub largest-next-bounds : (n : ℕ) (p : List Entry) → IsBegun n p → length p < n →
    (length p < largest_next p (length p)) × (largest_next p (length p) ≤ n)
largest-next-bounds n p b h =
    (largest-next-behind p (length p) b.some (omega arith) n b.root h, largest-next-most n p b (length p) b.some (omega arith))

-- ---- one entry more

pub snoc-length : (p : List Entry) (x : Entry) → length (p ++ (x ∷ [])) ≡ suc (length p)
snoc-length p x = omega (arith, length-append p (x ∷ []))

pub root-begun : (n : ℕ) → 0 < n → IsBegun n (Directory n ∷ [])
root-begun n h = record { root = refl; some = omega arith; within = h; allowed = λ k next a b e. absurd (omega arith) }

entry-begun : (n : ℕ) (p : List Entry) (x : Entry) → IsBegun n p → length p < n →
    ((next : ℕ) → x ≡ Directory next → (length p < next) × (next ≤ largest_next p (length p))) → IsBegun n (p ++ (x ∷ []))
entry-begun n p x b h f = record {
  root = get_or_append_left p (x ∷ []) File 0 b.some ∙ b.root;
  some = omega (arith, snoc-length p x);
  within = omega (arith, snoc-length p x);
  allowed = allowed;
}
  where
    allowed : (k next : ℕ) → 0 < k → k < length (p ++ (x ∷ [])) → slice_index_or (p ++ (x ∷ [])) k File ≡ Directory next →
        (k < next) × (next ≤ largest_next (p ++ (x ∷ [])) k)
    allowed k next s l e =
        let m : k ≤ length p = omega (arith, snoc-length p x) in
        rw (largest-next-first p k s m (x ∷ []))
        (⊎_elim (λ i. b.allowed k next s i (sym (get_or_append_left p (x ∷ []) File k i) ∙ e))
        (λ i. let same : k ≡ length p = omega arith in rw same (f next (sym (get_or_push p x File k (sym same)) ∙ e))) (lt-or-le k (length p)))

pub file-begun : (n : ℕ) (p : List Entry) → IsBegun n p → length p < n → IsBegun n (p ++ (File ∷ []))
file-begun n p b h = entry-begun n p File b h (λ next e. cc)

pub directory-begun : (n : ℕ) (p : List Entry) (next : ℕ) → IsBegun n p → length p < n → length p < next →
    next ≤ largest_next p (length p) → IsBegun n (p ++ (Directory next ∷ []))
directory-begun n p next b h l m = entry-begun n p (Directory next) b h (λ other e. let same : other ≡ next = cc in rw same (l, m))

-- ---- all nexts of a shape are allowed

entry-told : (nodes : List Node) (k next : ℕ) → is_next_allowed nodes k (node_of k (Directory next)) ≡ true →
    (k < next) × (next ≤ length nodes) × (next ≤ parents_next nodes k)
entry-told nodes k next e =
    let l = and_left (nat_lt k next && nat_le next (length nodes)) _ e in (
      ltb-true k next (and_left (nat_lt k next) _ l),
      leb-true next (length nodes) (and_right (nat_lt k next) _ l),
      leb-true next (parents_next nodes k) (and_right (nat_lt k next && nat_le next (length nodes)) _ e),
    )

module _ (s : List Entry) where
  abbrev is_allowed : ℕ → Bool
  is_allowed k = is_next_allowed (tree_of s) k (slice_index_or (tree_of s) k empty_root)

  allowed-told : are_nexts_allowed (tree_of s) ≡ true → (k next : ℕ) → 0 < k → k < length s → slice_index_or s k File ≡ Directory next →
      (k < next) × (next ≤ largest_next s k)
  unfolding are_nexts_allowed
  allowed-told e k next l h d =
      let a : is_allowed k ≡ true = list_all-range is_allowed 1 (length (tree_of s) - 1) e k (omega arith) (omega (arith, length-tree_of s)) in
      let b : is_next_allowed (tree_of s) k (node_of k (Directory next)) ≡ true = rw (tree-at s k h, d) at a in
      let t = entry-told (tree_of s) k next b in
      (t.0, t.2)

  allowed-begun : (n : ℕ) → 0 < n → length s ≡ n → slice_index_or s 0 File ≡ Directory n → are_nexts_allowed (tree_of s) ≡ true → IsBegun n s
  allowed-begun n h e root a = record { root = root; some = omega arith; within = omega arith; allowed = allowed-told a }

  pub begun-allowed : (n : ℕ) → IsBegun n s → length s ≡ n → are_nexts_allowed (tree_of s) ≡ true
  unfolding are_nexts_allowed
  begun-allowed n b e = range-list_all is_allowed 1 (length (tree_of s) - 1) each
    where
      each : (k : ℕ) → 1 ≤ k → k < 1 + (length (tree_of s) - 1) → is_allowed k ≡ true
      each k l h =
          let i : k < length s = omega (arith, length-tree_of s) in
          rw (tree-at s k i) (go (slice_index_or s k File) refl i)
        where
          go : (x : Entry) → slice_index_or s k File ≡ x → k < length s → is_next_allowed (tree_of s) k (node_of k x) ≡ true
          go File d i = refl
          go (Directory next) d i =
              let a = b.allowed k next l i d in
              let m = next-most n s b k next i d in
              and_both (nat_lt k next && nat_le next (length (tree_of s))) _
              (and_both (nat_lt k next) _ (lt-ltb k next a.0) (le-leb next (length (tree_of s)) (omega (arith, length-tree_of s))))
              (le-leb next (parents_next (tree_of s) k) a.1)

-- ---- the shapes that begin with p

pub begun-root : (n : ℕ) → 0 < n → shapes_with n (Directory n ∷ []) ≡ shapes n
unfolding shapes_with shapes
begun-root n h = refl

pub begun-whole : (n : ℕ) (p : List Entry) → IsBegun n p → length p ≡ n → shapes_with n p ≡ p ∷ []
unfolding shapes_with each_list
begun-whole n p b e =
    let z : n - length p ≡ 0 = omega arith in
    rw (z, append-nil p, begun-allowed p n b e)

abbrev pub is_shape : List Entry → Bool
is_shape s = are_nexts_allowed (tree_of s)

front-one : (p : List Entry) (x : Entry) (ls : List (List Entry)) → map (λ xs. p ++ xs) (map (λ xs. x ∷ xs) ls) ≡ map (λ xs. (p ++ (x ∷ [])) ++ xs) ls
front-one p x [] = refl
front-one p x (l ∷ ls) = rw (append_assoc p (x ∷ []) l, front-one p x ls)

module _ (n : ℕ) (p : List Entry) (h : length p < n) where
  -- those of all lists that begin with p and x
  abbrev one_more : Entry → List (List Entry)
  one_more x = map (λ xs. x ∷ xs) (each_list n (n - suc (length p)))

  one-more : (x : Entry) → filter is_shape (map (λ xs. p ++ xs) (one_more x)) ≡ shapes_with n (p ++ (x ∷ []))
  unfolding shapes_with
  one-more x = rw (snoc-length p x, front-one p x (each_list n (n - suc (length p))))

  all-nexts : flat_map (λ next. filter is_shape (map (λ xs. p ++ xs) (one_more (Directory next)))) (range_with_len 0 (suc n))
      ≡ flat_map (λ next. shapes_with n (p ++ (Directory next ∷ []))) (range_with_len 0 (suc n))
  all-nexts = flat_map_same (λ next. filter is_shape (map (λ xs. p ++ xs) (one_more (Directory next))))
      (λ next. shapes_with n (p ++ (Directory next ∷ []))) (λ next. one-more (Directory next)) (range_with_len 0 (suc n))

  directories : filter is_shape (map (λ xs. p ++ xs) (flat_map one_more (map (λ next. Directory next) (range_with_len 0 (suc n)))))
      ≡ flat_map (λ next. shapes_with n (p ++ (Directory next ∷ []))) (range_with_len 0 (suc n))
  directories =
      ap (λ (l : List (List Entry)). filter is_shape (map (λ xs. p ++ xs) l)) (flat_map-map one_more (λ next. Directory next) (range_with_len 0 (suc n)))
      ∙ ap (filter is_shape) (map-flat_map (λ xs. p ++ xs) (λ next. one_more (Directory next)) (range_with_len 0 (suc n)))
      ∙ filter-flat_map is_shape (λ next. map (λ xs. p ++ xs) (one_more (Directory next))) (range_with_len 0 (suc n))
      ∙ all-nexts

  -- by the next entry, whatever it is
  by-entry : shapes_with n p ≡ shapes_with n (p ++ (File ∷ [])) ++ flat_map (λ next. shapes_with n (p ++ (Directory next ∷ []))) (range_with_len 0 (suc n))
  unfolding shapes_with each_list
  by-entry =
      let e : n - length p ≡ suc (n - suc (length p)) = omega arith in
      rw (e)
      (ap (filter is_shape) (map-append (λ xs. p ++ xs) (one_more File) (flat_map one_more (map (λ next. Directory next) (range_with_len 0 (suc n)))))
      ∙ filter-append is_shape (map (λ xs. p ++ xs) (one_more File)) (map (λ xs. p ++ xs) (flat_map one_more (map (λ next. Directory next) (range_with_len 0 (suc n)))))
      ∙ ap₂ (λ (a b : List (List Entry)). a ++ b) (one-more File) directories)

  -- a next that is not allowed begins none
  module _ (some : 0 < length p) where
    none : (next : ℕ) → (next ≤ length p) ⊎ (largest_next p (length p) < next) → shapes_with n (p ++ (Directory next ∷ [])) ≡ []
    unfolding shapes_with
    none next o = filter-map-none is_shape (λ xs. (p ++ (Directory next ∷ [])) ++ xs) never (each_list n (n - length (p ++ (Directory next ∷ []))))
      where
        never : (xs : List Entry) → is_shape ((p ++ (Directory next ∷ [])) ++ xs) ≡ false
        never xs = rw (append_assoc p (Directory next ∷ []) xs) (is_false _ not)
          where
            not : is_shape (p ++ (Directory next ∷ xs)) ≡ true → ⊥
            not e =
                let at : slice_index_or (p ++ (Directory next ∷ xs)) (length p) File ≡ Directory next = get_or-append_seam p (Directory next) xs File in
                let long = length-append p (Directory next ∷ xs) in
                let t = allowed-told (p ++ (Directory next ∷ xs)) e (length p) next some (omega arith) at in
                let same = largest-next-first p (length p) some (omega arith) (Directory next ∷ xs) in
                ⊎_elim (λ l. absurd (omega (arith, t.0))) (λ l. absurd (omega (arith, t.1))) o

module _ (n : ℕ) (p : List Entry) (b : IsBegun n p) (h : length p < n) where
  abbrev begun_by : ℕ → List (List Entry)
  begun_by next = shapes_with n (p ++ (Directory next ∷ []))

  abbrev most : ℕ
  most = largest_next p (length p)

  nexts-allowed : flat_map begun_by (range_with_len 0 (suc n)) ≡ flat_map begun_by (range_with_len (suc (length p)) (most - length p))
  nexts-allowed =
      let bounds = largest-next-bounds n p b h in
      let all : suc n ≡ suc (length p) + ((most - length p) + (n - most)) = omega (arith, bounds.0, bounds.1) in
      let low : flat_map begun_by (range_with_len 0 (suc (length p))) ≡ [] =
      flat_map-range-none begun_by 0 (suc (length p)) (λ next l m. none n p h b.some next (inl (omega arith))) in
      let high : flat_map begun_by (range_with_len (suc (length p) + (most - length p)) (n - most)) ≡ [] =
      flat_map-range-none begun_by (suc (length p) + (most - length p)) (n - most) (λ next l m. none n p h b.some next (inr (omega (arith, bounds.0)))) in
      let start : 0 + suc (length p) ≡ suc (length p) = omega arith in
      ap (λ (m : ℕ). flat_map begun_by (range_with_len 0 m)) all
      ∙ ap (flat_map begun_by) (range-append 0 (suc (length p)) ((most - length p) + (n - most)))
      ∙ flat_map-append begun_by (range_with_len 0 (suc (length p))) (range_with_len (0 + suc (length p)) ((most - length p) + (n - most)))
      ∙ rw (low, start)
      (ap (flat_map begun_by) (range-append (suc (length p)) (most - length p) (n - most))
      ∙ flat_map-append begun_by (range_with_len (suc (length p)) (most - length p)) (range_with_len (suc (length p) + (most - length p)) (n - most))
      ∙ rw high (append-nil (flat_map begun_by (range_with_len (suc (length p)) (most - length p)))))

pub begun-step : (n : ℕ) (p : List Entry) → IsBegun n p → length p < n →
    shapes_with n p
    ≡ shapes_with n (p ++ (File ∷ []))
    ++ flat_map (λ next. shapes_with n (p ++ (Directory next ∷ [])))
    (range_with_len (suc (length p)) (largest_next p (length p) - length p))
begun-step n p b h = by-entry n p h ∙ ap (λ (l : List (List Entry)). shapes_with n (p ++ (File ∷ [])) ++ l) (nexts-allowed n p b h)

-- ---- each of the shapes

-- of all lists
each-length : (n m : ℕ) → All (λ xs. length xs ≡ m) (each_list n m)
unfolding each_list
each-length n zero = All-cons (λ (xs : List Entry). length xs ≡ 0) [] [] refl (All-nil (λ (xs : List Entry). length xs ≡ 0))
each-length n (suc m) =
    flat_map_all (λ (x : Entry). map (λ xs. x ∷ xs) (each_list n m)) (λ (xs : List Entry). length xs ≡ suc m) (λ x. longer x (each-length n m)) (each_entry n)
  where
    longer : (x : Entry) → All (λ (xs : List Entry). length xs ≡ m) (each_list n m) → All (λ (xs : List Entry). length xs ≡ suc m) (map (λ xs. x ∷ xs) (each_list n m))
    longer x a = All-map (λ (xs : List Entry). length xs ≡ suc m) (λ (xs : List Entry). x ∷ xs) (each_list n m)
        (All-weaker (λ (xs : List Entry). length xs ≡ m) (λ (xs : List Entry). length (x ∷ xs) ≡ suc m) (λ xs e. ap suc e) (each_list n m) a)

-- so long, and with that root
abbrev IsRooted : ℕ → List Entry → Type 0
IsRooted n s = (length s ≡ n) × (slice_index_or s 0 File ≡ Directory n)

rooted : (n : ℕ) (s : List Entry) → 0 < n → Contains (shapes n) s → IsRooted n s
unfolding shapes
rooted n s h c =
    let e : suc (n - 1) ≡ n = omega arith in
    let a = All-map (IsRooted n) (λ (xs : List Entry). Directory n ∷ xs) (each_list n (n - 1))
    (All-weaker (λ (xs : List Entry). length xs ≡ n - 1) (λ (xs : List Entry). IsRooted n (Directory n ∷ xs)) (λ xs l. (ap suc l ∙ e, refl))
    (each_list n (n - 1)) (each-length n (n - 1))) in
    All-contains (IsRooted n) (shapes n) s (All-filter is_shape (IsRooted n) (map (λ xs. Directory n ∷ xs) (each_list n (n - 1))) a) c

pub shape-length : (n : ℕ) (s : List Entry) → 0 < n → Contains (shapes n) s → length s ≡ n
shape-length n s h c = let r = rooted n s h c in r.0

pub shape-begun : (n : ℕ) (s : List Entry) → 0 < n → Contains (shapes n) s → IsBegun n s
unfolding shapes
shape-begun n s h c =
    let r = rooted n s h c in
    let a = filter_passes is_shape (map (λ xs. Directory n ∷ xs) (each_list n (n - 1))) in
    allowed-begun s n h r.0 r.1 (All-contains (λ (u : List Entry). is_shape u ≡ true) (shapes n) s a c)
