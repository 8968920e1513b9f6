-- An entry put in as the last child of a directory: the tree stays well-formed, and only the new entry can be too deep. Assumes nothing.
use Rattle.std.specs.Prelude.{ℕ, zero, suc, ◌+◌, ◌-◌, ◌<◌, ◌≤◌, ◌≡◌, refl, ◌&&◌, length, get_or}
use Rattle.std.proofs.Common.{zero-le, sym, ap, ◌∙◌, arith, le-leb}
use mathlib.Core.List.{List, [], ◌∷◌, tail}
use Rattle.tree.specs.Table.{Node, directory, name_of, empty_root, parent_of, is_shallow_from, is_shallow}
use Rattle.tree.specs.Inner.WellFormed.{IsGoodName, IsGoodEntry, IsSound, IsWellFormed}
use Rattle.tree.specs.Lookup.{next_of}
use Rattle.tree.specs.Insert.{raised_next, node_before, node_after, splice, insert_at, number_after_insert}
pub use Rattle.tree.proofs.Laws.InsertedList.{Fresh, raised_next-min, number_after_insert-min, name_of-node_before, name_of-node_after}
use Rattle.tree.proofs.Laws.InsertedList.{well-nested, length-splice, length_inserted, inserted-before, inserted-at, inserted-after}
use Rattle.tree.proofs.Laws.InsertedParents.{parent-inserted-before, parent-inserted-at, parent-inserted-after}
use Rattle.tree.proofs.Laws.OpenDirectories.{open_at, sound-at, stack_is}
use Rattle.tree.specs.Inner.Depths.{open_dirs, depth_of}
use Rattle.tree.proofs.Laws.InsertWalk.{sound-between, sound-before, depth_ok}

-- ---- the tree stays well-formed, and only the new entry can be too deep

-- the depth of entry p by the walk's stack, where the entries past the root are xs
abbrev stack_depth : ℕ → List Node → ℕ → ℕ
stack_depth c xs zero = 0
stack_depth c xs (suc i) = length (open_at (c ∷ []) 1 xs i)

record Kept (c p q : ℕ) (new : Node) (xs : List Node) : Type 0 where
  j : ℕ
  next : q ≡ suc j
  inside : j ≤ length xs
  raised : raised_next p c ≡ suc c
  sound : IsSound (suc c) (suc c ∷ []) 1 (splice p new 1 j xs)
  depth : is_shallow_from (suc c ∷ []) 1 (splice p new 1 j xs) ≡ (depth_ok (suc (stack_depth c xs p)) new && is_shallow_from (c ∷ []) 1 xs)

kept : (c p q : ℕ) (nm : List ℕ) (new : Node) (xs : List Node) → c ≡ suc (length xs) →
    IsSound c (c ∷ []) 1 xs → get_or (directory [] c ∷ xs) p empty_root ≡ directory nm q → p < c → IsGoodName (name_of new) → Fresh q new → Kept c p q new xs
kept c zero q nm new xs l g e h named f =
    let q≡ : q ≡ c = sym (ap next_of e) in
    let f' : Fresh c new = rw q≡ at f in
    let s = sound-between zero c c new [] h (omega arith) named f' (length xs) 1 [] xs (omega arith) (omega arith) (omega arith) tt g in
    record { j = length xs; next = q≡ ∙ l; inside = omega arith; raised = omega (arith, raised_next-min zero c); sound = s.0; depth = s.1 }
kept c (suc i) q nm new xs l g e h named f =
    let at : IsGoodEntry c (open_at (c ∷ []) 1 xs i) (1 + i) (directory nm q) = rw e at (sound-at c 1 (c ∷ []) xs i g (omega arith)).1 in
    let b : raised_next (suc i) c ≡ suc c = omega (arith, raised_next-min (suc i) c) in
    let s = sound-before (suc i) c q nm new (omega arith) (omega arith) named f i (q - 1) 1 (c ∷ []) xs (omega arith) (omega arith) (omega arith) e (omega arith) g in
    record { j = q - 1; next = omega arith; inside = omega arith; raised = b; sound = rw b at s.0; depth = rw b at s.1 }

kept_whole : (c p q : ℕ) (nm : List ℕ) (new : Node) (xs : List Node) → c ≡ suc (length xs) → get_or (directory [] c ∷ xs) p empty_root ≡ directory nm q → Kept c p q new xs →
    IsWellFormed (insert_at p new (directory [] c ∷ xs)) × (is_shallow (insert_at p new (directory [] c ∷ xs)) ≡ (depth_ok (suc (stack_depth c xs p)) new && is_shallow (directory [] c ∷ xs)))
unfolding insert_at splice is_shallow
kept_whole c p q nm new xs l e s =
    let len : suc (length (splice p new 1 s.j xs)) ≡ suc c = rw (length-splice p new 1 s.j xs s.inside, ← l) in
    rw (e, s.next) (
      record { root = rw (le-leb 0 p zero-le, s.raised, len); sound = rw len s.sound },
      rw (len, ← l) s.depth,
    )

depth_is : (nodes : List Node) (p : ℕ) → IsWellFormed nodes → p < length nodes → depth_of nodes p ≡ stack_depth (length nodes) (tail nodes) p
unfolding open_dirs
depth_is nodes zero w h = refl
depth_is nodes (suc i) w h = ap length (stack_is nodes w i h)

insert-whole : (nodes : List Node) (p q : ℕ) (nm : List ℕ) (new : Node) → IsWellFormed nodes → get_or nodes p empty_root ≡ directory nm q → p < length nodes → IsGoodName (name_of new) → Fresh q new →
    IsWellFormed (insert_at p new nodes) × (is_shallow (insert_at p new nodes) ≡ (depth_ok (suc (depth_of nodes p)) new && is_shallow nodes))
insert-whole [] p q nm new w e h named f = absurd (omega arith)
insert-whole (r ∷ xs) p q nm new w e h named f =
    let c : ℕ = suc (length xs) in
    let r≡ : r ∷ xs ≡ directory [] c ∷ xs = w.root in
    let e' : get_or (directory [] c ∷ xs) p empty_root ≡ directory nm q = rw r≡ at e in
    rw (depth_is (r ∷ xs) p w h, r≡) (kept_whole c p q nm new xs refl e' (kept c p q nm new xs refl w.sound e' h named f))

pub insert-sound : (nodes : List Node) (p q : ℕ) (nm : List ℕ) (new : Node) → IsWellFormed nodes → get_or nodes p empty_root ≡ directory nm q → p < length nodes → IsGoodName (name_of new) → Fresh q new →
    IsWellFormed (insert_at p new nodes)
insert-sound nodes p q nm new w e h named f = (insert-whole nodes p q nm new w e h named f).0

pub insert-is_shallow : (nodes : List Node) (p q : ℕ) (nm : List ℕ) (new : Node) → IsWellFormed nodes → get_or nodes p empty_root ≡ directory nm q → p < length nodes → IsGoodName (name_of new) → Fresh q new →
    is_shallow (insert_at p new nodes) ≡ (depth_ok (suc (depth_of nodes p)) new && is_shallow nodes)
insert-is_shallow nodes p q nm new w e h named f = (insert-whole nodes p q nm new w e h named f).1

-- ---- the new list by numbers; p is a directory with next q

module _ (nodes : List Node) (p q : ℕ) (nm : List ℕ) (new : Node) (w : IsWellFormed nodes) (here : get_or nodes p empty_root ≡ directory nm q) (p<n : p < length nodes) where
  pub length-insert : length (insert_at p new nodes) ≡ suc (length nodes)
  length-insert = length_inserted nodes p q nm new (well-nested nodes w) here p<n

  -- entry k, before the new one; the new one; and entry k, which comes after it
  pub insert-before : (k : ℕ) → k < q → get_or (insert_at p new nodes) k empty_root ≡ node_before p k (get_or nodes k empty_root)
  insert-before = inserted-before nodes p q nm new (well-nested nodes w) here p<n

  pub insert-at : get_or (insert_at p new nodes) q empty_root ≡ new
  insert-at = inserted-at nodes p q nm new (well-nested nodes w) here p<n

  pub insert-after : (k : ℕ) → q ≤ k → k < length nodes → get_or (insert_at p new nodes) (suc k) empty_root ≡ node_after (get_or nodes k empty_root)
  insert-after = inserted-after nodes p q nm new (well-nested nodes w) here p<n

  -- their parents
  pub parent-insert-before : (k : ℕ) → k < q → parent_of (insert_at p new nodes) k ≡ parent_of nodes k
  parent-insert-before = parent-inserted-before nodes p q nm new (well-nested nodes w) here p<n

  pub parent-insert-at : parent_of (insert_at p new nodes) q ≡ p
  parent-insert-at = parent-inserted-at nodes p q nm new (well-nested nodes w) here p<n

  pub parent-insert-after : Fresh q new → (k : ℕ) → q ≤ k → k < length nodes → parent_of (insert_at p new nodes) (suc k) ≡ number_after_insert q (parent_of nodes k)
  parent-insert-after = parent-inserted-after nodes p q nm new (well-nested nodes w) here p<n
