-- The children of a directory of a well-formed tree: the first stands right behind it, and each further one behind all that is in the
-- one before. Assumes nothing.
use Rattle.std.specs.Prelude.{Ok, Err}
use Prim.Native.Nat.{ℕ, zero, suc, ◌+◌, ◌-◌, ◌<◌, ◌≤◌}
use mathlib.Core.Path.{◌≡◌, refl, sym, ap, ◌∙◌}
use mathlib.Core.Logic.{⊎_elim}
use mathlib.Core.Bool.{Bool, true, false, cond}
use mathlib.Core.List.{List}
use native.Mathlib.Omega.{arith}
use native.Mathlib.Numerals.{add-one}
use borrow.Author.Tests.{ltb-false, lt-ltb, le-ltb, eqb-true, eq-eqb, ne_eqb}
use lib.ListN.{length, get_or}
use lib.Dec.{eqb}
use Rattle.endian.specs.Bytes.{are_same_bytes}
use Rattle.refusal.specs.Laws.Tests.{lt-or-le, and_left, and-false}
use Rattle.refusal.specs.declared.Refusal.TheVariants.{NotFound}
use Rattle.tree.specs.Table.{Node, file, directory, name_of, empty_root, is_enclosing, parent_of}
use Rattle.tree.specs.Inner.WellFormed.{IsWellFormed}
use Rattle.tree.specs.Lookup.{is_directory, next_of, is_child_named, first_child, child_of}
use Rattle.tree.proofs.Laws.Nesting.{parent_is, below-clear}
use Rattle.tree.proofs.Laws.WellNested.{next-bounds, nests}
use Rattle.table.specs.Inner.After.{after_of}
use Rattle.table.proofs.Nodes.{parent-whole}
use Rattle.tree.proofs.Laws.InsertedList.{is_enclosing-is}

-- ---- entries by their nexts, which are 0 for files

open-le : (x : Node) (k : ℕ) → is_enclosing x k ≡ false → next_of x ≤ k
open-le x k e = ltb-false k (next_of x) (sym (is_enclosing-is x k) ∙ e)

shut-le : (x : Node) (k : ℕ) → next_of x ≤ k → is_enclosing x k ≡ false
shut-le x k h = is_enclosing-is x k ∙ le-ltb k (next_of x) h

open-lt : (x : Node) (k : ℕ) → k < next_of x → is_enclosing x k ≡ true
open-lt x k h = is_enclosing-is x k ∙ lt-ltb k (next_of x) h

pub next_le : (nodes : List Node) (k : ℕ) → IsWellFormed nodes → k < length nodes → next_of (get_or nodes k empty_root) ≤ length nodes
next_le nodes k w h = go (get_or nodes k empty_root) refl
  where
    go : (x : Node) → get_or nodes k empty_root ≡ x → next_of x ≤ length nodes
    go (file nm offset size) e = omega arith
    go (directory nm next) e = (next-bounds nodes k next nm w e h).1

nests-le : (nodes : List Node) (d k : ℕ) → IsWellFormed nodes → d < k → k < next_of (get_or nodes d empty_root) → k < length nodes → next_of (get_or nodes k empty_root) ≤ next_of (get_or nodes d empty_root)
nests-le nodes d k w a b h = go (get_or nodes k empty_root) refl
  where
    go : (x : Node) → get_or nodes k empty_root ≡ x → next_of x ≤ next_of (get_or nodes d empty_root)
    go (file nm offset size) e = omega arith
    go (directory nm next) e = nests nodes d k next nm w (a, open-lt (get_or nodes d empty_root) k b) h e

-- what `after_of` is: past the entry, and not below its next
pub after-past : (nodes : List Node) (k : ℕ) → IsWellFormed nodes → k < length nodes → (k < after_of nodes k) × (next_of (get_or nodes k empty_root) ≤ after_of nodes k) × (after_of nodes k ≤ length nodes)
after-past nodes k w h = go (get_or nodes k empty_root) refl
  where
    go : (x : Node) → get_or nodes k empty_root ≡ x → (k < cond (is_directory x) (next_of x) (k + 1)) × (next_of x ≤ cond (is_directory x) (next_of x) (k + 1)) × (cond (is_directory x) (next_of x) (k + 1) ≤ length nodes)
    go (file nm offset size) e = (omega arith, omega arith, omega arith)
    go (directory nm next) e = let b = next-bounds nodes k next nm w e h in (b.0, omega arith, b.1)

-- it is the next, where something stands between
after_next : (x : Node) (k j : ℕ) → k < j → j < cond (is_directory x) (next_of x) (k + 1) → next_of x ≡ cond (is_directory x) (next_of x) (k + 1)
after_next (file nm offset size) k j a b = absurd (omega arith)
after_next (directory nm next) k j a b = refl

-- ---- the parent is the last directory around an entry

pub parent-last : (nodes : List Node) (k d j : ℕ) → parent_of nodes k ≡ d → d < j → j < k → next_of (get_or nodes j empty_root) ≤ k
parent-last nodes k d j e a b = open-le (get_or nodes j empty_root) k (below-clear nodes k k j (omega (arith, parent-whole nodes k)) b)

parent-from : (nodes : List Node) (j k : ℕ) → k < j → j < next_of (get_or nodes k empty_root) → k ≤ parent_of nodes j
parent-from nodes j k a b = ⊎_elim (λ l. absurd (omega (arith, parent-last nodes j (parent_of nodes j) k refl l a))) (λ l. l) (lt-or-le (parent_of nodes j) k)

-- ---- from child to child

module _ (nodes : List Node) (d : ℕ) (w : IsWellFormed nodes) where
  pub child-first : d + 1 < next_of (get_or nodes d empty_root) → parent_of nodes (d + 1) ≡ d
  child-first h = parent_is nodes (d + 1) d (omega arith, open-lt (get_or nodes d empty_root) (d + 1) h) (λ j a b. absurd (omega arith))

  pub child-next : (k : ℕ) → k < length nodes → d < k → parent_of nodes k ≡ d → after_of nodes k < next_of (get_or nodes d empty_root) → parent_of nodes (after_of nodes k) ≡ d
  child-next k h l e s =
      let p = after-past nodes k w h in
      parent_is nodes (after_of nodes k) d (omega arith, open-lt (get_or nodes d empty_root) (after_of nodes k) s)
      (λ j a b. shut-le (get_or nodes j empty_root) (after_of nodes k) (⊎_elim (λ q. omega (arith, parent-last nodes k d j e a q)) (λ q. within j q b) (lt-or-le j k)))
    where
      within : (j : ℕ) → k ≤ j → j < after_of nodes k → next_of (get_or nodes j empty_root) ≤ after_of nodes k
      within j a b =
          let p = after-past nodes k w h in
          ⊎_elim (λ q. let n = after_next (get_or nodes k empty_root) k j q b in omega (arith, nests-le nodes k j w q (omega arith) (omega arith))) (λ q. let r : j ≡ k = omega arith in rw r p.1) (lt-or-le k j)

  -- what stands inside a child is no child
  pub inner-parent : (k j : ℕ) → d < k → k < j → j < after_of nodes k → parent_of nodes j ≡ d → ⊥
  inner-parent k j l a b e = let n = after_next (get_or nodes k empty_root) k j a b in omega (arith, parent-from nodes j k a (omega arith))

-- ---- the search

skip : (nodes : List Node) (d : ℕ) (nm : List ℕ) (k m n : ℕ) → ((j : ℕ) → k ≤ j → j < k + m → is_child_named nodes d nm j ≡ false) → first_child nodes d nm k (m + n) ≡ first_child nodes d nm (k + m) n
unfolding first_child
skip nodes d nm k zero n f =
    let e : k + 0 ≡ k = omega arith in
    let z : 0 + n ≡ n = omega arith in
    rw (z, e)
skip nodes d nm k (suc m) n f =
    let e : k + suc m ≡ suc k + m = omega arith in
    let z : suc m + n ≡ suc (m + n) = omega arith in
    rw (z, f k (omega arith) (omega arith), e) (skip nodes d nm (suc k) m n (λ j a b. f j (omega arith) (omega arith)))

pub record Searching (nodes : List Node) (d : ℕ) (nm : List ℕ) (stop k : ℕ) : Type 0 where
  pub later : d < k
  pub child : k < stop → parent_of nodes k ≡ d
  pub left : child_of nodes d nm ≡ first_child nodes d nm k (stop - k)

module _ (nodes : List Node) (d : ℕ) (nm : List ℕ) (stop : ℕ) (w : IsWellFormed nodes) (in-d : d < length nodes) (is : stop ≡ next_of (get_or nodes d empty_root)) where
  pub search-start : Searching nodes d nm stop (d + 1)
  unfolding child_of
  search-start = record { later = omega arith; child = λ h. child-first nodes d w (omega arith); left = rw (add-one d, is) }

  pub search-found : (k : ℕ) → Searching nodes d nm stop k → k < stop → are_same_bytes (name_of (get_or nodes k empty_root)) nm ≡ true → child_of nodes d nm ≡ Ok k
  unfolding first_child
  search-found k s h t =
      let e : stop - k ≡ suc (stop - (k + 1)) = omega arith in
      s.left ∙ rw (e, eq-eqb (parent_of nodes k) d (s.child h), t)

  pub search-turn : (k : ℕ) → Searching nodes d nm stop k → k < stop → are_same_bytes (name_of (get_or nodes k empty_root)) nm ≡ false → Searching nodes d nm stop (after_of nodes k)
  search-turn k s h t =
      let l : stop ≤ length nodes = omega (arith, next_le nodes d w in-d) in
      let p = after-past nodes k w (omega arith) in
      let a : after_of nodes k ≤ stop = bound in
      let m : stop - k ≡ (after_of nodes k - k) + (stop - after_of nodes k) = omega arith in
      let n : k + (after_of nodes k - k) ≡ after_of nodes k = omega arith in
      record {
        later = omega (arith, s.later);
        child = λ q. child-next nodes d w k (omega arith) s.later (s.child h) (omega arith);
        left =
            s.left ∙ ap (first_child nodes d nm k) m ∙ skip nodes d nm k (after_of nodes k - k) (stop - after_of nodes k) passed ∙ ap (λ (i : ℕ). first_child nodes d nm i (stop - after_of nodes k)) n;
      }
    where
      bound : after_of nodes k ≤ stop
      bound = go (get_or nodes k empty_root) refl
        where
          go : (x : Node) → get_or nodes k empty_root ≡ x → cond (is_directory x) (next_of x) (k + 1) ≤ stop
          go (file nm' offset size) e = omega arith
          go (directory nm' next) e = omega (arith, nests nodes d k next nm' w (s.later, open-lt (get_or nodes d empty_root) k (omega arith)) (omega (arith, next_le nodes d w in-d)) e)

      passed : (j : ℕ) → k ≤ j → j < k + (after_of nodes k - k) → is_child_named nodes d nm j ≡ false
      passed j a b =
          ⊎_elim (λ q. rw (ne_eqb (parent_of nodes j) d (inner-parent nodes d w k j s.later q (omega arith)))) (λ q. let r : j ≡ k = omega arith in rw (r, t) (and-false (eqb (parent_of nodes k) d))) (lt-or-le k j)

  pub search-end : (k : ℕ) → Searching nodes d nm stop k → stop ≤ k → child_of nodes d nm ≡ Err NotFound
  unfolding first_child
  search-end k s h =
      let e : stop - k ≡ 0 = omega arith in
      s.left ∙ rw e

-- ---- what was found is a child

first_found : (nodes : List Node) (d : ℕ) (nm : List ℕ) (k n j : ℕ) → first_child nodes d nm k n ≡ Ok j → (parent_of nodes j ≡ d) × (k ≤ j) × (j < k + n)
unfolding first_child
first_found nodes d nm k zero j e = let z : ◌≡◌ {A = ℕ} 0 1 = cc in absurd (omega arith)
first_found nodes d nm k (suc n) j e = go (is_child_named nodes d nm k) refl (first_found nodes d nm (suc k) n j) e
  where
    go : (t : Bool) → is_child_named nodes d nm k ≡ t → (first_child nodes d nm (suc k) n ≡ Ok j → (parent_of nodes j ≡ d) × (suc k ≤ j) × (j < suc k + n)) →
        cond t (Ok k) (first_child nodes d nm (suc k) n) ≡ Ok j → (parent_of nodes j ≡ d) × (k ≤ j) × (j < k + suc n)
    go true c ih q =
        let r : k ≡ j = cc in
        (rw (← r) (eqb-true (parent_of nodes k) d (and_left (eqb (parent_of nodes k) d) _ c)), omega arith, omega arith)
    go false c ih q = let i = ih q in (i.0, omega arith, omega arith)

pub child-found : (nodes : List Node) (d : ℕ) (nm : List ℕ) (j : ℕ) → IsWellFormed nodes → d < length nodes → child_of nodes d nm ≡ Ok j → (parent_of nodes j ≡ d) × (j < length nodes)
unfolding child_of
child-found nodes d nm j w h e =
    let f = first_found nodes d nm (suc d) (next_of (get_or nodes d empty_root) - suc d) j e in
    (f.0, omega (arith, next_le nodes d w h))
