-- Every entry of a well-formed tree: its name, its next, its parent, and that directories nest. Assumes nothing.
use Rattle.std.specs.Prelude.{ℕ, zero, suc, ◌<◌, ◌≤◌, ◌≡◌, refl, Bool, true, false, cond, length, get_or, ltb}
use Rattle.std.proofs.Common.{sym, ap, ◌∙◌, arith, one-add, ltb-true, ltb-false, lt-ltb}
use mathlib.Core.List.{List, [], ◌∷◌, tail, head-eq_of_cons-eq, nil≢cons}
use Rattle.tree.specs.Table.{Node, directory, name_of, empty_root, top, is_enclosing, parent_of}
use Rattle.tree.specs.Inner.WellFormed.{IsGoodName, IsGoodEntry, IsWellFormed}
use Rattle.tree.specs.Lookup.{next_of}
use Rattle.tree.specs.Inner.Depths.{open_dirs}
use Rattle.tree.proofs.Laws.OpenDirectories.{open_at, sound-at, AllGe, Sorted, stack}
use Rattle.tree.proofs.Laws.Nesting.{Inside, below-lt, below-is_enclosing}

-- ---- every entry of a well-formed tree

pub root_is : (nodes : List Node) → IsWellFormed nodes → get_or nodes 0 empty_root ≡ directory [] (length nodes)
root_is [] w = absurd (nil≢cons w.root)
root_is (r ∷ xs) w = head-eq_of_cons-eq w.root

pub not-empty : (nodes : List Node) → IsWellFormed nodes → 0 < length nodes
not-empty [] w = absurd (nil≢cons w.root)
not-empty (r ∷ xs) w = omega arith

-- entry i + 1, with the directories open there
pub entry_at : (nodes : List Node) (i : ℕ) → IsWellFormed nodes → suc i < length nodes →
    IsGoodName (name_of (get_or nodes (suc i) empty_root)) × IsGoodEntry (length nodes) (open_at (length nodes ∷ []) 1 (tail nodes) i) (suc i) (get_or nodes (suc i) empty_root)
entry_at [] i w h = absurd (omega arith)
entry_at (r ∷ xs) i w h = rw one-add at (sound-at (suc (length xs)) 1 (suc (length xs) ∷ []) xs i w.sound (omega arith))

pub name-good : (nodes : List Node) (k : ℕ) → IsWellFormed nodes → 0 < k → k < length nodes → IsGoodName (name_of (get_or nodes k empty_root))
name-good nodes zero w h l = absurd (omega arith)
name-good nodes (suc i) w h l = (entry_at nodes i w l).0

-- a directory's next is past it, and at most the number of entries
pub next-bounds : (nodes : List Node) (k n : ℕ) (nm : List ℕ) → IsWellFormed nodes → get_or nodes k empty_root ≡ directory nm n → k < length nodes → (k < n) × (n ≤ length nodes)
next-bounds nodes zero n nm w e h =
    let n≡ : length nodes ≡ n = ap next_of (sym (root_is nodes w) ∙ e) in
    (omega arith, omega arith)
next-bounds nodes (suc i) n nm w e h =
    let g : IsGoodEntry (length nodes) (open_at (length nodes ∷ []) 1 (tail nodes) i) (suc i) (directory nm n) = rw e at (entry_at nodes i w h).1 in
    (g.0, g.1)

-- the parent is a directory around the entry
pub parent-inside : (nodes : List Node) (k : ℕ) → IsWellFormed nodes → 0 < k → k < length nodes → Inside nodes (parent_of nodes k) k
unfolding parent_of
parent-inside nodes k w h l =
    let e : is_enclosing (get_or nodes 0 empty_root) k ≡ true = rw (root_is nodes w) (lt-ltb k (length nodes) l) in
    (below-lt nodes k k h, below-is_enclosing nodes k k h e)

-- what is open at an entry has in it each directory around the entry
open-has : (nodes : List Node) (d k i m : ℕ) → d < i → is_enclosing (get_or nodes d empty_root) k ≡ true → AllGe m (open_dirs nodes k i) → m ≤ next_of (get_or nodes d empty_root)
unfolding open_dirs
open-has nodes d k zero m h e g = absurd (omega arith)
open-has nodes d k (suc i) m h e g = go (is_enclosing (get_or nodes i empty_root) k) refl (ltb d i) refl (λ q. open-has nodes d k i m q e) g
  where
    go : (t : Bool) → is_enclosing (get_or nodes i empty_root) k ≡ t → (u : Bool) → ltb d i ≡ u → (d < i → AllGe m (open_dirs nodes k i) → m ≤ next_of (get_or nodes d empty_root)) →
        AllGe m (cond t (next_of (get_or nodes i empty_root) ∷ open_dirs nodes k i) (open_dirs nodes k i)) → m ≤ next_of (get_or nodes d empty_root)
    go true p true q ih g = ih (ltb-true d i q) g.1
    go true p false q ih g =
        let i≡ : i ≡ d = omega (arith, ltb-false d i q) in
        rw i≡ at g.0
    go false p true q ih g = ih (ltb-true d i q) g
    go false p false q ih g =
        let i≡ : i ≡ d = omega (arith, ltb-false d i q) in
        let z : true ≡ false = sym e ∙ (rw i≡ at p) in
        let n : ◌≡◌ {A = ℕ} 0 1 = cc in
        absurd (omega arith)

top_least : (dirs : List ℕ) → Sorted dirs → AllGe (top dirs) dirs
top_least [] s = tt
top_least (n ∷ dirs) s = (omega arith, s.0)

-- directories nest: one that starts among another's entries ends among them
pub nests : (nodes : List Node) (d k n : ℕ) (nm : List ℕ) → IsWellFormed nodes → Inside nodes d k → k < length nodes → get_or nodes k empty_root ≡ directory nm n → n ≤ next_of (get_or nodes d empty_root)
nests nodes d zero n nm w h l e = absurd (omega (arith, h.0))
nests nodes d (suc i) n nm w h l e =
    let s = stack nodes w i l in
    let g : IsGoodEntry (length nodes) (open_at (length nodes ∷ []) 1 (tail nodes) i) (suc i) (directory nm n) = rw e at (entry_at nodes i w l).1 in
    let t : top (open_at (length nodes ∷ []) 1 (tail nodes) i) ≤ next_of (get_or nodes d empty_root) =
    open-has nodes d (suc i) (suc i) _ h.0 h.1 (rw s.0 (top_least (open_at (length nodes ∷ []) 1 (tail nodes) i) s.1)) in
    omega (arith, g.2)
