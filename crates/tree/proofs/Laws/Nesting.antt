-- The parent of an entry: the last directory before it that it is in. Assumes nothing.
use Rattle.std.specs.Prelude.{ℕ, zero, suc, ◌<◌, ◌≤◌, ◌≡◌, refl, Bool, true, false, cond, List, get_or, leb, ltb}
use Rattle.std.proofs.Common.{sym, ◌∙◌, arith, ltb-true, ltb-false, leb-true, leb-false, le-ltb}
use Rattle.tree.specs.Table.{Node, file, directory, empty_root, is_enclosing, parent_below, parent_of}
use Rattle.tree.specs.Lookup.{next_of}

-- ---- the parent

pub ended : (k : ℕ) (x : Node) → next_of x ≤ k → is_enclosing x k ≡ false
ended k (file nm offset size) h = refl
ended k (directory nm n) h = le-ltb k n h

-- entry k is among the entries of directory d
abbrev pub Inside : List Node → ℕ → ℕ → Type 0
Inside nodes d k = (d < k) × (is_enclosing (get_or nodes d empty_root) k ≡ true)

-- the root's own is 0
pub parent-root : (nodes : List Node) → parent_of nodes 0 ≡ 0
unfolding parent_of parent_below
parent-root nodes = refl

-- one step of a search downwards
pub parent-step : (nodes : List Node) (k i : ℕ) → parent_below nodes k (suc i) ≡ cond (is_enclosing (get_or nodes i empty_root) k) i (parent_below nodes k i)
unfolding parent_below
parent-step nodes k i = refl

pub parent-here : (nodes : List Node) (k i : ℕ) → is_enclosing (get_or nodes i empty_root) k ≡ true → parent_below nodes k (suc i) ≡ i
unfolding parent_below
parent-here nodes k i e = rw e

pub parent-lower : (nodes : List Node) (k i : ℕ) → is_enclosing (get_or nodes i empty_root) k ≡ false → parent_below nodes k (suc i) ≡ parent_below nodes k i
unfolding parent_below
parent-lower nodes k i e = rw e

pub below-lt : (nodes : List Node) (k i : ℕ) → 0 < i → parent_below nodes k i < i
unfolding parent_below
below-lt nodes k zero h = absurd (omega arith)
below-lt nodes k (suc zero) h = go (is_enclosing (get_or nodes 0 empty_root) k)
  where
    go : (t : Bool) → cond t 0 0 < 1
    go true = omega arith
    go false = omega arith
below-lt nodes k (suc (suc i)) h = go (is_enclosing (get_or nodes (suc i) empty_root) k) (below-lt nodes k (suc i) (omega arith))
  where
    go : (t : Bool) → parent_below nodes k (suc i) < suc i → cond t (suc i) (parent_below nodes k (suc i)) < suc (suc i)
    go true ih = omega arith
    go false ih = omega arith

pub parent-before : (nodes : List Node) (k : ℕ) → 0 < k → parent_of nodes k < k
unfolding parent_of
parent-before nodes k h = below-lt nodes k k h

pub parent-most : (nodes : List Node) (k : ℕ) → parent_of nodes k ≤ k
parent-most nodes zero = rw (parent-root nodes) (omega arith)
parent-most nodes (suc k) = omega (arith, parent-before nodes (suc k) (omega arith))

-- the last of those that enclose it: none between it and i does
below_last : (nodes : List Node) (k d i : ℕ) → d < i → is_enclosing (get_or nodes d empty_root) k ≡ true → ((j : ℕ) → d < j → j < i → is_enclosing (get_or nodes j empty_root) k ≡ false) → parent_below nodes k i ≡ d
below_last nodes k d zero h e f = absurd (omega arith)
below_last nodes k d (suc i) h e f = go (ltb d i) refl (λ q. below_last nodes k d i q e (λ j a b. f j a (omega arith)))
  where
    go : (t : Bool) → ltb d i ≡ t → (d < i → parent_below nodes k i ≡ d) → parent_below nodes k (suc i) ≡ d
    go true q ih = parent-lower nodes k i (f i (ltb-true d i q) (omega arith)) ∙ ih (ltb-true d i q)
    go false q ih =
        let i≡ : i ≡ d = omega (arith, ltb-false d i q) in
        rw i≡ (parent-here nodes k d e)

pub parent_is : (nodes : List Node) (k d : ℕ) → Inside nodes d k → ((j : ℕ) → d < j → j < k → is_enclosing (get_or nodes j empty_root) k ≡ false) → parent_of nodes k ≡ d
unfolding parent_of
parent_is nodes k d h f = below_last nodes k d k h.0 h.1 f

-- no directory between its parent and an entry encloses it
pub below-clear : (nodes : List Node) (k i j : ℕ) → parent_below nodes k i < j → j < i → is_enclosing (get_or nodes j empty_root) k ≡ false
below-clear nodes k zero j h l = absurd (omega arith)
below-clear nodes k (suc i) j h l = go (is_enclosing (get_or nodes i empty_root) k) refl (below-clear nodes k i j)
  where
    go : (t : Bool) → is_enclosing (get_or nodes i empty_root) k ≡ t → (parent_below nodes k i < j → j < i → is_enclosing (get_or nodes j empty_root) k ≡ false) → is_enclosing (get_or nodes j empty_root) k ≡ false
    go true e ih = absurd (omega (arith, parent-here nodes k i e))
    go false e ih = last (ltb j i) refl
      where
        last : (u : Bool) → ltb j i ≡ u → is_enclosing (get_or nodes j empty_root) k ≡ false
        last true q = ih (omega (arith, parent-lower nodes k i e)) (ltb-true j i q)
        last false q =
            let j≡ : j ≡ i = omega (arith, ltb-false j i q) in
            rw j≡ e

pub parent-clear : (nodes : List Node) (k j : ℕ) → parent_of nodes k < j → j < k → is_enclosing (get_or nodes j empty_root) k ≡ false
unfolding parent_of
parent-clear nodes k j h l = below-clear nodes k k j h l

-- so the parent is at or behind each directory around the entry
pub parent-at-least : (nodes : List Node) (d k : ℕ) → Inside nodes d k → d ≤ parent_of nodes k
parent-at-least nodes d k h = go (leb d (parent_of nodes k)) refl
  where
    go : (t : Bool) → leb d (parent_of nodes k) ≡ t → d ≤ parent_of nodes k
    go true e = leb-true d (parent_of nodes k) e
    go false e =
        let z : true ≡ false = sym h.1 ∙ parent-clear nodes k d (leb-false d (parent_of nodes k) e) h.0 in
        let n : ◌≡◌ {A = ℕ} 0 1 = cc in
        absurd (omega arith)

-- one that encloses the entry is found, if the root does
pub below-is_enclosing : (nodes : List Node) (k i : ℕ) → 0 < i → is_enclosing (get_or nodes 0 empty_root) k ≡ true → is_enclosing (get_or nodes (parent_below nodes k i) empty_root) k ≡ true
unfolding parent_below
below-is_enclosing nodes k zero h e = absurd (omega arith)
below-is_enclosing nodes k (suc zero) h e = go (is_enclosing (get_or nodes 0 empty_root) k)
  where
    go : (t : Bool) → is_enclosing (get_or nodes (cond t 0 0) empty_root) k ≡ true
    go true = e
    go false = e
below-is_enclosing nodes k (suc (suc i)) h e = go (is_enclosing (get_or nodes (suc i) empty_root) k) refl (below-is_enclosing nodes k (suc i) (omega arith) e)
  where
    go : (t : Bool) → is_enclosing (get_or nodes (suc i) empty_root) k ≡ t → is_enclosing (get_or nodes (parent_below nodes k (suc i)) empty_root) k ≡ true →
        is_enclosing (get_or nodes (cond t (suc i) (parent_below nodes k (suc i))) empty_root) k ≡ true
    go true q ih = q
    go false q ih = ih
