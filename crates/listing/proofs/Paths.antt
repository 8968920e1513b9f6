-- The path of an entry is that of the directory around it and its name, however deep it may be; an entry's line in its parts.
-- Assumes nothing.
use Prim.Native.Nat.{ℕ, zero, suc, ◌+◌, ◌<◌, ◌≤◌}
use mathlib.Core.Path.{◌≡◌, refl, sym, ap, ◌∙◌}
use mathlib.Core.List.{List, [], ◌∷◌, ◌++◌, append_assoc}
use native.Mathlib.Omega.{arith}
use native.Mathlib.Numerals.{add-one}
use borrow.Author.Tests.{ne_eqb}
use lib.ListN.{get_or}
use Rattle.tree.specs.Table.{Node, name_of, empty_root, parent_of}
use Rattle.tree.proofs.Laws.Nesting.{parent-before, parent-root}
use Rattle.listing.specs.Lines.{ending, entry_fields, line_feed, path_within, path_of, entry_line, lines_below}

pub path-root : (f : ℕ) (nodes : List Node) (k : ℕ) → k ≡ 0 → path_within f nodes k ≡ 0x2F ∷ []
unfolding path_within
path-root zero nodes k e = refl
path-root (suc f) nodes k e = rw e

-- behind the path of its parent
within_step : (f : ℕ) (nodes : List Node) (k : ℕ) → 0 < k →
    path_within (suc f) nodes k ≡ path_within f nodes (parent_of nodes k) ++ (name_of (get_or nodes k empty_root) ++ ending (get_or nodes k empty_root))
unfolding path_within
within_step f nodes k h = rw (ne_eqb k 0 (λ e. omega arith))

-- how much deeper it could be does not matter
path-enough : (f g : ℕ) (nodes : List Node) (k : ℕ) → k ≤ f → k ≤ g → path_within f nodes k ≡ path_within g nodes k
path-enough zero g nodes k h l = let e : k ≡ 0 = omega arith in path-root zero nodes k e ∙ sym (path-root g nodes k e)
path-enough (suc f) zero nodes k h l = let e : k ≡ 0 = omega arith in path-root (suc f) nodes k e ∙ sym (path-root zero nodes k e)
path-enough (suc f) (suc g) nodes k h l = go k refl (path-enough f g nodes (parent_of nodes k))
  where
    go : (j : ℕ) → k ≡ j → (parent_of nodes k ≤ f → parent_of nodes k ≤ g → path_within f nodes (parent_of nodes k) ≡ path_within g nodes (parent_of nodes k)) → path_within (suc f) nodes k ≡ path_within (suc g) nodes k
    go zero e ih = path-root (suc f) nodes k e ∙ sym (path-root (suc g) nodes k e)
    go (suc j) e ih =
        let b : parent_of nodes k < k = parent-before nodes k (omega arith) in
        within_step f nodes k (omega arith) ∙ ap (λ (p : List ℕ). p ++ (name_of (get_or nodes k empty_root) ++ ending (get_or nodes k empty_root))) (ih (omega arith) (omega arith))
        ∙ sym (within_step g nodes k (omega arith))

pub path-step : (nodes : List Node) (k : ℕ) → 0 < k → path_of nodes k ≡ path_of nodes (parent_of nodes k) ++ (name_of (get_or nodes k empty_root) ++ ending (get_or nodes k empty_root))
path-step nodes zero h = absurd (omega arith)
path-step nodes (suc k) h =
    let b : parent_of nodes (suc k) < suc k = parent-before nodes (suc k) h in
    within_step k nodes (suc k) h
    ∙ ap (λ (p : List ℕ). p ++ (name_of (get_or nodes (suc k) empty_root) ++ ending (get_or nodes (suc k) empty_root))) (path-enough k (parent_of nodes (suc k)) nodes (parent_of nodes (suc k)) (omega arith) (omega arith))

-- ---- a line in the parts that are written

pub line-parts : (nodes : List Node) (k : ℕ) → 0 < k →
    entry_fields k (parent_of nodes k) (get_or nodes k empty_root) ++ ((0x20 ∷ path_of nodes (parent_of nodes k)) ++ ((name_of (get_or nodes k empty_root) ++ ending (get_or nodes k empty_root)) ++ line_feed)) ≡ entry_line nodes k
unfolding entry_line
line-parts nodes k h = rw (path-step nodes k h, append_assoc (path_of nodes (parent_of nodes k)) (name_of (get_or nodes k empty_root) ++ ending (get_or nodes k empty_root)) line_feed)

pub root_line : (nodes : List Node) → entry_fields 0 0 (get_or nodes 0 empty_root) ++ (0x20 ∷ 0x2F ∷ 0x0A ∷ []) ≡ entry_line nodes 0
unfolding entry_line path_within
root_line nodes = rw (parent-root nodes)

pub first-line : (nodes : List Node) → lines_below nodes 1 ≡ entry_line nodes 0
unfolding lines_below
first-line nodes = refl

pub one-line-more : (nodes : List Node) (k : ℕ) → lines_below nodes k ++ entry_line nodes k ≡ lines_below nodes (k + 1)
unfolding lines_below
one-line-more nodes k = rw (add-one k)
