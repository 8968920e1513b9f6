-- The depth of an entry, counted from parent to parent, and the limits of a tree with one entry more. Assumes nothing.
use Rattle.std.specs.Prelude.{Ok}
use Rattle.std.specs.Prelude.{ℕ, zero, suc, ◌+◌, ◌*◌, ◌<◌, ◌≤◌, ◌≡◌, refl, Bool, true, false, cond, not, ◌&&◌, length, get_or, ltb}
use Rattle.std.proofs.Common.{ap, ◌∙◌, arith, ltb-true, ltb-false, lt-ltb, le-ltb}
use mathlib.Core.List.{List, ◌∷◌, tail}
use Rattle.refusal.specs.declared.Refusal.TheVariants.{LimitOrMemory}
use Rattle.refusal.specs.Refusal.{refuse}
use Rattle.tree.specs.Table.{Node, file, directory, name_of, empty_root, is_enclosing, parent_below, parent_of, texts_of, is_shallow, limits}
use Rattle.tree.specs.Inner.WellFormed.{IsGoodName, IsWellFormed}
use Rattle.tree.specs.Lookup.{next_of}
use Rattle.tree.proofs.Laws.Nesting.{Inside}
use Rattle.tree.proofs.Laws.WellNested.{parent-inside, nests, root_is}
use Rattle.tree.specs.Inner.Depths.{open_dirs, depth_of}
use Rattle.tree.specs.Insert.{insert_at}
use Rattle.tree.proofs.Laws.InsertLaws.{Fresh, length-insert, insert-is_shallow}
use Rattle.tree.proofs.Laws.InsertWalk.{depth_ok}
use Rattle.tree.proofs.Laws.Size.{texts-grow}

pub depth-root : (nodes : List Node) → depth_of nodes 0 ≡ 0
unfolding open_dirs
depth-root nodes = refl

open-same : (nodes : List Node) (k d i : ℕ) → ((j : ℕ) → j < i → is_enclosing (get_or nodes j empty_root) k ≡ is_enclosing (get_or nodes j empty_root) d) → open_dirs nodes k i ≡ open_dirs nodes d i
unfolding open_dirs
open-same nodes k d zero f = refl
open-same nodes k d (suc i) f = rw (f i (omega arith), open-same nodes k d i (λ j h. f j (omega arith)))

-- the innermost directory around an entry is its parent
open-parent : (nodes : List Node) (k i : ℕ) → 0 < i → is_enclosing (get_or nodes 0 empty_root) k ≡ true →
    open_dirs nodes k i ≡ next_of (get_or nodes (parent_below nodes k i) empty_root) ∷ open_dirs nodes k (parent_below nodes k i)
unfolding open_dirs parent_below
open-parent nodes k zero h e = absurd (omega arith)
open-parent nodes k (suc zero) h e = rw e
open-parent nodes k (suc (suc i)) h e = go (is_enclosing (get_or nodes (suc i) empty_root) k) (open-parent nodes k (suc i) (omega arith) e)
  where
    go : (t : Bool) → open_dirs nodes k (suc i) ≡ next_of (get_or nodes (parent_below nodes k (suc i)) empty_root) ∷ open_dirs nodes k (parent_below nodes k (suc i)) →
        cond t (next_of (get_or nodes (suc i) empty_root) ∷ open_dirs nodes k (suc i)) (open_dirs nodes k (suc i)) ≡
        next_of (get_or nodes (cond t (suc i) (parent_below nodes k (suc i))) empty_root) ∷ open_dirs nodes k (cond t (suc i) (parent_below nodes k (suc i)))
    go true ih = refl
    go false ih = ih

-- a directory before d encloses an entry of d exactly if it encloses d
module _ (nodes : List Node) (d k n : ℕ) (nm : List ℕ) (w : IsWellFormed nodes) (here : get_or nodes d empty_root ≡ directory nm n) (d<k : d < k) (k<n : k < n) (k<l : k < length nodes) where
  around-both : (j : ℕ) → j < d → is_enclosing (get_or nodes j empty_root) k ≡ is_enclosing (get_or nodes j empty_root) d
  around-both j h = go (get_or nodes j empty_root) refl
    where
      go : (x : Node) → get_or nodes j empty_root ≡ x → is_enclosing (get_or nodes j empty_root) k ≡ is_enclosing (get_or nodes j empty_root) d
      go (file a b c) e = rw e
      go (directory a m) e = rw e (by (ltb d m) refl)
        where
          by : (t : Bool) → ltb d m ≡ t → ltb k m ≡ t
          by true q =
              let g : n ≤ next_of (get_or nodes j empty_root) = nests nodes j d n nm w (h, rw e q) (omega arith) here in
              let g' : n ≤ m = rw e at g in
              lt-ltb k m (omega arith)
          by false q = le-ltb k m (omega (arith, ltb-false d m q))

pub depth-parent : (nodes : List Node) (k : ℕ) → IsWellFormed nodes → 0 < k → k < length nodes → depth_of nodes k ≡ suc (depth_of nodes (parent_of nodes k))
unfolding parent_of
depth-parent nodes k w h l = go (get_or nodes (parent_of nodes k) empty_root) refl (parent-inside nodes k w h l)
  where
    root-around : is_enclosing (get_or nodes 0 empty_root) k ≡ true
    root-around = rw (root_is nodes w) (lt-ltb k (length nodes) l)

    go : (x : Node) → get_or nodes (parent_below nodes k k) empty_root ≡ x → Inside nodes (parent_below nodes k k) k → depth_of nodes k ≡ suc (depth_of nodes (parent_below nodes k k))
    go (file a b c) e i =
        let z : false ≡ true = rw e at i.1 in
        let n : ◌≡◌ {A = ℕ} 0 1 = cc in
        absurd (omega arith)
    go (directory nm n) e i =
        let d : ℕ = parent_below nodes k k in
        let b : k < n = ltb-true k n (rw e at i.1) in
        ap length (open-parent nodes k k h root-around ∙ ap (λ (s : List ℕ). next_of (get_or nodes d empty_root) ∷ s) (open-same nodes k d d (around-both nodes d k n nm w e i.0 b l)))

-- ---- the limits of a tree with one entry more

pub limits-insert : (nodes : List Node) (p q : ℕ) (nm : List ℕ) (new : Node) (words : ℕ) → IsWellFormed nodes → get_or nodes p empty_root ≡ directory nm q → p < length nodes → IsGoodName (name_of new) → Fresh q new →
    limits (insert_at p new nodes) words ≡
    refuse (ltb 16384 (suc (length nodes))) LimitOrMemory
    (refuse (ltb 1048576 (length (texts_of (tail nodes)) + suc (length (name_of new)))) LimitOrMemory
    (refuse (ltb words (4 * (suc (length nodes) + 2))) LimitOrMemory
    (refuse (not (depth_ok (suc (depth_of nodes p)) new && is_shallow nodes)) LimitOrMemory (Ok tt))))
unfolding limits
limits-insert nodes p q nm new words w here p<n named fresh =
    rw (length-insert nodes p q nm new w here p<n, texts-grow nodes p q nm new w here p<n, insert-is_shallow nodes p q nm new w here p<n named fresh)
