-- A directory's children one after the other: the first with a name, and a loop over them, from a child to the next past all that is in it.
-- Assumes nothing.
use Rattle.std.specs.Prelude.{Ok, Err}
use Rattle.std.specs.Prelude.{ℕ, zero, suc, ◌+◌, ◌-◌, ◌<◌, ◌≤◌, ◌≡◌, refl, Bool, true, false, cond, List, length, get_or, eqb}
use Rattle.std.proofs.Common.{◌∙◌, ⊎_elim, arith, add-zero, ltb-false, eqb-true, lt-ltb, le-ltb, eq-eqb, ne_eqb}
use Rattle.endian.specs.Bytes.{are_same_bytes}
use Rattle.endian.specs.Laws.Stored.{same-eq, same_refl}
use Rattle.refusal.specs.Laws.Tests.{lt-or-le, and_left, and_right, and-false}
use Rattle.refusal.specs.declared.Refusal.{Refusal}
use Rattle.refusal.specs.declared.Refusal.TheVariants.{NotFound}
use Rattle.tree.specs.Table.{Node, file, directory, name_of, empty_root, is_enclosing, parent_of}
use Rattle.tree.specs.Inner.WellFormed.{IsWellFormed}
use Rattle.tree.specs.Lookup.{next_of, is_child_named, first_child, child_of}
use Rattle.tree.proofs.Laws.Nesting.{Inside, parent_is, parent-clear, parent-at-least, ended}
use Rattle.tree.proofs.Laws.WellNested.{next-bounds, nests}

-- what does not reach past k reaches past nothing later
still-ended : (x : Node) (k n : ℕ) → is_enclosing x k ≡ false → k ≤ n → is_enclosing x n ≡ false
still-ended (file nm offset size) k n e h = refl
still-ended (directory nm next) k n e h = le-ltb n next (omega (arith, ltb-false k next e))

-- ---- the first child with a name

-- entry k is the first child of d with that name
pub record Child (nodes : List Node) (d : ℕ) (nm : List ℕ) (k : ℕ) : Type 0 where
  pub after : d < k
  pub before : k < next_of (get_or nodes d empty_root)
  pub parent : parent_of nodes k ≡ d
  pub name : name_of (get_or nodes k empty_root) ≡ nm
  pub first : (j : ℕ) → d < j → j < k → is_child_named nodes d nm j ≡ false

pub named : (nodes : List Node) (d : ℕ) (nm : List ℕ) (k : ℕ) → is_child_named nodes d nm k ≡ true → (parent_of nodes k ≡ d) × (name_of (get_or nodes k empty_root) ≡ nm)
named nodes d nm k e = (eqb-true _ _ (and_left (eqb (parent_of nodes k) d) _ e), same-eq _ _ (and_right (eqb (parent_of nodes k) d) _ e))

found_at : (nodes : List Node) (d : ℕ) (nm : List ℕ) (k n j : ℕ) → first_child nodes d nm k n ≡ Ok j →
    (k ≤ j) × (j < k + n) × (is_child_named nodes d nm j ≡ true) × ((i : ℕ) → k ≤ i → i < j → is_child_named nodes d nm i ≡ false)
unfolding first_child
found_at nodes d nm k zero j e = let z : ◌≡◌ {A = ℕ} 0 1 = cc in absurd (omega arith)
found_at nodes d nm k (suc n) j e = go (is_child_named nodes d nm k) refl e (found_at nodes d nm (suc k) n j)
  where
    go : (t : Bool) → is_child_named nodes d nm k ≡ t → cond t (Ok k) (first_child nodes d nm (suc k) n) ≡ Ok j →
        (first_child nodes d nm (suc k) n ≡ Ok j → (suc k ≤ j) × (j < suc k + n) × (is_child_named nodes d nm j ≡ true) × ((i : ℕ) → suc k ≤ i → i < j → is_child_named nodes d nm i ≡ false)) →
        (k ≤ j) × (j < k + suc n) × (is_child_named nodes d nm j ≡ true) × ((i : ℕ) → k ≤ i → i < j → is_child_named nodes d nm i ≡ false)
    go true t≡ q ih =
        let j≡ : k ≡ j = cc in
        (omega arith, omega arith, rw j≡ at t≡, λ i a b. absurd (omega arith))
    go false t≡ q ih =
        let f = ih q in
        (omega arith, omega arith, f.2, λ i a b. ⊎_elim (λ (h : k < i). f.3 i (omega arith) b) (λ (h : i ≤ k). let i≡ : i ≡ k = omega arith in rw i≡ t≡) (lt-or-le k i))

pub child-is : (nodes : List Node) (d : ℕ) (nm : List ℕ) (k : ℕ) → child_of nodes d nm ≡ Ok k → Child nodes d nm k
unfolding child_of
child-is nodes d nm k e =
    let f = found_at nodes d nm (suc d) (next_of (get_or nodes d empty_root) - suc d) k e in
    let n = named nodes d nm k f.2 in
    record { after = omega (arith, f.0); before = omega (arith, f.0, f.1); parent = n.0; name = n.1; first = λ j a b. f.3 j (omega arith) b }

-- where there is none, the cause is NotFound, and no entry is one
missing : (nodes : List Node) (d : ℕ) (nm : List ℕ) (k n : ℕ) (c : Refusal) → first_child nodes d nm k n ≡ Err c →
    (c ≡ NotFound) × ((j : ℕ) → k ≤ j → j < k + n → is_child_named nodes d nm j ≡ false)
unfolding first_child
missing nodes d nm k zero c e = (cc, λ j a b. absurd (omega arith))
missing nodes d nm k (suc n) c e = go (is_child_named nodes d nm k) refl e (missing nodes d nm (suc k) n c)
  where
    go : (t : Bool) → is_child_named nodes d nm k ≡ t → cond t (Ok k) (first_child nodes d nm (suc k) n) ≡ Err c →
        (first_child nodes d nm (suc k) n ≡ Err c → (c ≡ NotFound) × ((j : ℕ) → suc k ≤ j → j < suc k + n → is_child_named nodes d nm j ≡ false)) →
        (c ≡ NotFound) × ((j : ℕ) → k ≤ j → j < k + suc n → is_child_named nodes d nm j ≡ false)
    go true t≡ q ih = let z : ◌≡◌ {A = ℕ} 0 1 = cc in absurd (omega arith)
    go false t≡ q ih =
        let f = ih q in
        (f.0, λ j a b. ⊎_elim (λ (h : k < j). f.1 j (omega arith) (omega arith)) (λ (h : j ≤ k). let j≡ : j ≡ k = omega arith in rw j≡ t≡) (lt-or-le k j))

pub child-missing : (nodes : List Node) (d : ℕ) (nm : List ℕ) (c : Refusal) → child_of nodes d nm ≡ Err c →
    (c ≡ NotFound) × ((j : ℕ) → d < j → j < next_of (get_or nodes d empty_root) → is_child_named nodes d nm j ≡ false)
unfolding child_of
child-missing nodes d nm c e =
    let f = missing nodes d nm (suc d) (next_of (get_or nodes d empty_root) - suc d) c e in
    (f.0, λ j a b. f.1 j (omega arith) (omega arith))

pub child-named : (nodes : List Node) (d : ℕ) (nm : List ℕ) (k : ℕ) → Child nodes d nm k → is_child_named nodes d nm k ≡ true
child-named nodes d nm k c = rw (eq-eqb (parent_of nodes k) d c.parent, c.name) (same_refl nm)

-- ---- a loop over the children: from a child to the next, past all that is in it

-- the entry after entry k and all that is in it
abbrev pub after_node : Node → ℕ → ℕ
after_node (file nm offset size) k = k + 1
after_node (directory nm next) k = next

-- where the search is at k, which is at or before the directory's end m
pub search-end : (nodes : List Node) (d : ℕ) (nm : List ℕ) (k m : ℕ) → m ≤ k → first_child nodes d nm k (m - k) ≡ Err NotFound
unfolding first_child
search-end nodes d nm k m h =
    let e : m - k ≡ 0 = omega arith in
    rw e

search-step : (nodes : List Node) (d : ℕ) (nm : List ℕ) (k m : ℕ) → k < m → first_child nodes d nm k (m - k) ≡ cond (is_child_named nodes d nm k) (Ok k) (first_child nodes d nm (suc k) (m - suc k))
unfolding first_child
search-step nodes d nm k m h =
    let e : m - k ≡ suc (m - suc k) = omega arith in
    rw e

pub search-found : (nodes : List Node) (d : ℕ) (nm : List ℕ) (k m : ℕ) → k < m → parent_of nodes k ≡ d → are_same_bytes (name_of (get_or nodes k empty_root)) nm ≡ true →
    first_child nodes d nm k (m - k) ≡ Ok k
search-found nodes d nm k m h e s = rw (search-step nodes d nm k m h, eq-eqb (parent_of nodes k) d e, s)

-- entries that are no child with that name are passed over
search-skip : (nodes : List Node) (d : ℕ) (nm : List ℕ) (m k i : ℕ) → k + i ≤ m → ((j : ℕ) → k ≤ j → j < k + i → is_child_named nodes d nm j ≡ false) →
    first_child nodes d nm k (m - k) ≡ first_child nodes d nm (k + i) (m - (k + i))
search-skip nodes d nm m k zero h f = rw (add-zero k)
search-skip nodes d nm m k (suc i) h f =
    let e : k + suc i ≡ suc k + i = omega arith in
    rw (search-step nodes d nm k m (omega arith), f k (omega arith) (omega arith), e) (search-skip nodes d nm m (suc k) i (omega arith) (λ j a b. f j (omega arith) (omega arith)))

-- the converse of `child-is` and `child-missing`
pub child-at : (nodes : List Node) (d : ℕ) (nm : List ℕ) (k : ℕ) → d < k → k < next_of (get_or nodes d empty_root) → is_child_named nodes d nm k ≡ true →
    ((j : ℕ) → d < j → j < k → is_child_named nodes d nm j ≡ false) → child_of nodes d nm ≡ Ok k
unfolding child_of
child-at nodes d nm k a b e f =
    let m : ℕ = next_of (get_or nodes d empty_root) in
    let n : suc d + (k - suc d) ≡ k = omega arith in
    let s : first_child nodes d nm (suc d) (m - suc d) ≡ first_child nodes d nm k (m - k) = rw n at (search-skip nodes d nm m (suc d) (k - suc d) (omega arith) (λ j x y. f j (omega arith) (omega arith))) in
    s ∙ search-step nodes d nm k m b ∙ rw e

pub child-none : (nodes : List Node) (d : ℕ) (nm : List ℕ) → ((j : ℕ) → d < j → j < next_of (get_or nodes d empty_root) → is_child_named nodes d nm j ≡ false) → child_of nodes d nm ≡ Err NotFound
unfolding child_of
child-none nodes d nm f = ⊎_elim (λ (h : d < m). passed h) (λ (h : m ≤ d). search-end nodes d nm (suc d) m (omega arith)) (lt-or-le d m)
  where
    m : ℕ
    m = next_of (get_or nodes d empty_root)

    passed : d < m → first_child nodes d nm (suc d) (m - suc d) ≡ Err NotFound
    passed h =
        let n : suc d + (m - suc d) ≡ m = omega arith in
        let s : first_child nodes d nm (suc d) (m - suc d) ≡ first_child nodes d nm m (m - m) = rw n at (search-skip nodes d nm m (suc d) (m - suc d) (omega arith) (λ j x y. f j (omega arith) (omega arith))) in
        s ∙ search-end nodes d nm m m (omega arith)

-- the first entry of a directory is its child
pub first-child : (nodes : List Node) (d m : ℕ) (nm : List ℕ) → get_or nodes d empty_root ≡ directory nm m → d + 1 < m → parent_of nodes (d + 1) ≡ d
first-child nodes d m nm e h = parent_is nodes (d + 1) d (omega arith, rw e (lt-ltb (d + 1) m h)) (λ j a b. absurd (omega arith))

module _ (nodes : List Node) (d m : ℕ) (dnm : List ℕ) (w : IsWellFormed nodes) (dir : get_or nodes d empty_root ≡ directory dnm m) (d<n : d < length nodes)
    (k : ℕ) (d<k : d < k) (k<m : k < m) (child : parent_of nodes k ≡ d) where
  m≤n : m ≤ length nodes
  m≤n = (next-bounds nodes d m dnm w dir d<n).1

  -- what comes after a child lies behind it, and not past the directory's end
  pub after-bounds : (k < after_node (get_or nodes k empty_root) k) × (after_node (get_or nodes k empty_root) k ≤ m)
  after-bounds = go (get_or nodes k empty_root) refl
    where
      go : (x : Node) → get_or nodes k empty_root ≡ x → (k < after_node x k) × (after_node x k ≤ m)
      go (file nm a b) e = (omega arith, omega arith)
      go (directory nm n) e =
          let g : n ≤ next_of (get_or nodes d empty_root) = nests nodes d k n nm w (d<k, rw dir (lt-ltb k m k<m)) (omega (arith, m≤n)) e in
          ((next-bounds nodes k n nm w e (omega (arith, m≤n))).0, rw dir at g)

  -- an entry between the child and what comes after it is inside the child, and ends there
  inner : (x : Node) → get_or nodes k empty_root ≡ x → (j : ℕ) → k < j → j < after_node x k → Inside nodes k j × (next_of (get_or nodes j empty_root) ≤ after_node x k)
  inner (file nm a b) e j l h = absurd (omega arith)
  inner (directory nm n) e j l h =
      let i : Inside nodes k j = (l, rw e (lt-ltb j n h)) in
      let b : n ≤ m = rw e at after-bounds.1 in
      (i, le (get_or nodes j empty_root) refl i (omega (arith, m≤n)))
    where
      le : (y : Node) → get_or nodes j empty_root ≡ y → Inside nodes k j → j < length nodes → next_of (get_or nodes j empty_root) ≤ n
      le (file a b c) q i f = rw q (omega arith)
      le (directory a b) q i f = rw q (rw e at (nests nodes k j b a w i f q))

  next-most : (x : Node) → next_of x ≤ after_node x k
  next-most (file nm a b) = omega arith
  next-most (directory nm n) = omega arith

  pub next-child : after_node (get_or nodes k empty_root) k < m → parent_of nodes (after_node (get_or nodes k empty_root) k) ≡ d
  next-child h =
      let x : Node = get_or nodes k empty_root in
      let a : ℕ = after_node x k in
      parent_is nodes a d (omega (arith, after-bounds.0), rw dir (lt-ltb a m h))
      (λ j p q. ⊎_elim (λ (l : j < k). still-ended (get_or nodes j empty_root) k a (parent-clear nodes k j (rw child p) l) (omega (arith, after-bounds.0)))
      (λ (l : k ≤ j). ⊎_elim (λ (l' : k < j). ended a (get_or nodes j empty_root) (inner x refl j l' q).1) (λ (l' : j ≤ k). let j≡ : j ≡ k = omega arith in rw j≡ (ended a x (next-most x))) (lt-or-le k j)) (lt-or-le j k))

  pub search-next : (nm : List ℕ) → are_same_bytes (name_of (get_or nodes k empty_root)) nm ≡ false →
      first_child nodes d nm k (m - k) ≡ first_child nodes d nm (after_node (get_or nodes k empty_root) k) (m - after_node (get_or nodes k empty_root) k)
  search-next nm s =
      let x : Node = get_or nodes k empty_root in
      let a : ℕ = after_node x k in
      let e : k + (a - k) ≡ a = omega (arith, after-bounds.0) in
      rw e at (search-skip nodes d nm m k (a - k) (omega (arith, after-bounds.1)) (λ j p q. ⊎_elim
      (λ (l : k < j). let i = (inner x refl j l (omega arith)).0 in let f : k ≤ parent_of nodes j = parent-at-least nodes k j i in rw (ne_eqb (parent_of nodes j) d (λ z. omega arith)))
      (λ (l : j ≤ k). let j≡ : j ≡ k = omega arith in rw (j≡, s) (and-false (eqb (parent_of nodes k) d))) (lt-or-le k j)))
