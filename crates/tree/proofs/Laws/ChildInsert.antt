-- An insert and lookup: each child is found under its name as before, and the new entry under its own. Assumes nothing.
use Rattle.std.specs.Prelude.{Result, Ok, Err}
use Rattle.std.specs.Prelude.{ℕ, suc, ◌+◌, ◌-◌, ◌<◌, ◌≤◌, min, ◌≡◌, refl, Bool, true, false, List, length, get_or, eqb}
use Rattle.std.proofs.Common.{sym, ap, ◌∙◌, ⊎_elim, arith, eqb-true, eq-eqb, ne_eqb}
use Rattle.std.proofs.lemmas.Bool.{eqb-false}
use Rattle.endian.specs.Bytes.{are_same_bytes}
use Rattle.endian.specs.Laws.Stored.{same_refl}
use Rattle.refusal.specs.Laws.Tests.{lt-or-le, and-false}
use Rattle.refusal.specs.declared.Refusal.{Refusal}
use Rattle.refusal.specs.declared.Refusal.TheVariants.{NotFound}
use Rattle.tree.specs.Table.{Node, file, directory, name_of, empty_root, parent_of}
use Rattle.tree.specs.Lookup.{is_directory, next_of, is_child_named, child_of}
use Rattle.tree.specs.Insert.{node_before, node_after, insert_at, number_after_insert}
use Rattle.tree.proofs.Laws.Nesting.{parent-most}
use Rattle.tree.proofs.Laws.NestedInsert
use Rattle.tree.proofs.Laws.InsertedList.{IsNested, Fresh, name_of-node_before, name_of-node_after, number_after_insert-min, q≤n, p<q, inserted-before, inserted-at, inserted-after}
use Rattle.tree.proofs.Laws.NestedInsert.{place, Place, before, after, next_of-node_before, next_of-node_before-same, is_directory-node_before, is_later, new-most}
use Rattle.tree.proofs.Laws.InsertedParents.{around, between, parent-inserted-before, parent-inserted-at, parent-inserted-after}
use Rattle.tree.proofs.Laws.Children.{Child, child-is, child-at, child-none, child-missing, child-named}

-- an answer with the new numbers
abbrev pub moved : ℕ → Result ℕ Refusal → Result ℕ Refusal
moved q (Ok k) = Ok (number_after_insert q k)
moved q (Err c) = Err c

pub number_after_insert-low : (q k : ℕ) → k < q → number_after_insert q k ≡ k
number_after_insert-low q k h = omega (arith, number_after_insert-min q k)

pub number_after_insert-high : (q k : ℕ) → q ≤ k → number_after_insert q k ≡ suc k
number_after_insert-high q k h = omega (arith, number_after_insert-min q k)

number_after_insert-same : (q a b : ℕ) → eqb (number_after_insert q a) (number_after_insert q b) ≡ eqb a b
number_after_insert-same q a b = go (eqb a b) refl
  where
    back : number_after_insert q a ≡ number_after_insert q b → a ≡ b
    back e = omega (arith, number_after_insert-min q a, number_after_insert-min q b)

    go : (t : Bool) → eqb a b ≡ t → eqb (number_after_insert q a) (number_after_insert q b) ≡ t
    go true e = eq-eqb _ _ (ap (number_after_insert q) (eqb-true a b e))
    go false e = ne_eqb _ _ (λ f. eqb-false a b e (back f))

reaching : (x : Node) → 0 < next_of x → is_directory x ≡ true
reaching (file nm offset size) h = absurd (omega arith)
reaching (directory nm next) h = refl

module _ (nodes : List Node) (p q : ℕ) (nm : List ℕ) (new : Node) (w : IsNested nodes) (dir : get_or nodes p empty_root ≡ directory nm q) (p<n : p < length nodes) (fresh : Fresh q new) where
  abbrev N : List Node
  N = insert_at p new nodes

  q≤ : q ≤ length nodes
  q≤ = q≤n nodes p q nm new w dir p<n

  p< : p < q
  p< = p<q nodes p q nm new w dir p<n

  -- ---- entry k under its new number

  parent-number_after_insert : (k : ℕ) → k < length nodes → parent_of N (number_after_insert q k) ≡ number_after_insert q (parent_of nodes k)
  parent-number_after_insert k h =
      ⊎_elim (λ (l : k < q). rw (number_after_insert-low q k l, parent-inserted-before nodes p q nm new w dir p<n k l) (sym (number_after_insert-low q (parent_of nodes k) (omega (arith, parent-most nodes k)))))
      (λ (l : q ≤ k). rw (number_after_insert-high q k l) (parent-inserted-after nodes p q nm new w dir p<n fresh k l h)) (lt-or-le k q)

  pub kept-name : (k : ℕ) → k < length nodes → name_of (get_or N (number_after_insert q k) empty_root) ≡ name_of (get_or nodes k empty_root)
  kept-name k h =
      ⊎_elim (λ (l : k < q). rw (number_after_insert-low q k l, inserted-before nodes p q nm new w dir p<n k l) (name_of-node_before p k (get_or nodes k empty_root)))
      (λ (l : q ≤ k). rw (number_after_insert-high q k l, inserted-after nodes p q nm new w dir p<n k l h) (name_of-node_after (get_or nodes k empty_root))) (lt-or-le k q)

  pub kept-kind : (k : ℕ) → k < length nodes → is_directory (get_or N (number_after_insert q k) empty_root) ≡ is_directory (get_or nodes k empty_root)
  kept-kind k h =
      ⊎_elim (λ (l : k < q). rw (number_after_insert-low q k l, inserted-before nodes p q nm new w dir p<n k l) (is_directory-node_before p k (get_or nodes k empty_root)))
      (λ (l : q ≤ k). rw (number_after_insert-high q k l, inserted-after nodes p q nm new w dir p<n k l h) (is_later (get_or nodes k empty_root))) (lt-or-le k q)

  named-number_after_insert : (d : ℕ) (name : List ℕ) (k : ℕ) → k < length nodes → is_child_named N (number_after_insert q d) name (number_after_insert q k) ≡ is_child_named nodes d name k
  named-number_after_insert d name k h = rw (parent-number_after_insert k h, number_after_insert-same q (parent_of nodes k) d, kept-name k h)

  -- the new entry is no child of another directory
  new_apart : (d : ℕ) (name : List ℕ) → (d ≡ p → ⊥) → is_child_named N (number_after_insert q d) name q ≡ false
  new_apart d name f = rw (parent-inserted-at nodes p q nm new w dir p<n, ne_eqb p (number_after_insert q d) (λ e. f (back e)))
    where
      back : p ≡ number_after_insert q d → d ≡ p
      back e = omega (arith, number_after_insert-min q d, p<)

  -- an entry behind directory d is before d's end in the new tree exactly if it was
  range : (d j : ℕ) → d < length nodes → d < j → (j < next_of (get_or nodes d empty_root) → number_after_insert q j < next_of (get_or N (number_after_insert q d) empty_root)) × (number_after_insert q j < next_of (get_or N (number_after_insert q d) empty_root) → j < next_of (get_or nodes d empty_root))
  range d j h l =
      ⊎_elim (λ (a : d < q). rw (number_after_insert-low q d a, inserted-before nodes p q nm new w dir p<n d a)
      (⊎_elim (λ (b : p < d). low b a (get_or nodes d empty_root) (between nodes p q nm new w dir p<n d b a)) (λ (b : d ≤ p). up b (get_or nodes d empty_root) (around nodes p q nm new w dir p<n d b)) (lt-or-le p d)))
      (λ (a : q ≤ d). rw (number_after_insert-high q d a, inserted-after nodes p q nm new w dir p<n d a h) (behind a (get_or nodes d empty_root))) (lt-or-le d q)
    where
      low : p < d → d < q → (y : Node) → next_of y ≤ q → (j < next_of y → number_after_insert q j < next_of (node_before p d y)) × (number_after_insert q j < next_of (node_before p d y) → j < next_of y)
      low b a y m = (λ i. omega (arith, number_after_insert-min q j, next_of-node_before-same p d y b), λ i. omega (arith, number_after_insert-min q j, next_of-node_before-same p d y b))

      up : d ≤ p → (y : Node) → (p < next_of y → q ≤ next_of y) → (j < next_of y → number_after_insert q j < next_of (node_before p d y)) × (number_after_insert q j < next_of (node_before p d y) → j < next_of y)
      up b y f =
          ⊎_elim (λ (c : p < next_of y). let g : q ≤ next_of y = f c in (λ i. omega (arith, number_after_insert-min q j, next_of-node_before p d y b), λ i. omega (arith, number_after_insert-min q j, next_of-node_before p d y b)))
          (λ (c : next_of y ≤ p). (λ i. omega (arith, number_after_insert-min q j, next_of-node_before p d y b, p<), λ i. omega (arith, number_after_insert-min q j, next_of-node_before p d y b, p<))) (lt-or-le p (next_of y))

      behind : q ≤ d → (y : Node) → (j < next_of y → number_after_insert q j < next_of (node_after y)) × (number_after_insert q j < next_of (node_after y) → j < next_of y)
      behind a (file x b c) = (λ i. absurd (omega arith), λ i. absurd (omega arith))
      behind a (directory x n) = (λ i. omega (arith, number_after_insert-min q j), λ i. omega (arith, number_after_insert-min q j))

  -- ---- a child's number moves with it

  module _ (d : ℕ) (d<n : d < length nodes) (name : List ℕ) where
    shifted_up : (j : ℕ) → d < j → number_after_insert q d < number_after_insert q j
    shifted_up j h = omega (arith, number_after_insert-min q d, number_after_insert-min q j)

    shifted_down : (j : ℕ) → number_after_insert q d < number_after_insert q j → d < j
    shifted_down j h = omega (arith, number_after_insert-min q d, number_after_insert-min q j)

    inside-all : (k : ℕ) → k < next_of (get_or nodes d empty_root) → k < length nodes
    inside-all k h = omega (arith, (w.bounds d d<n (reaching (get_or nodes d empty_root) (omega arith))).1)

    -- no child with that name at j in the new tree, where there is none in the old one up to m
    none-new : (m : ℕ) → m ≤ next_of (get_or nodes d empty_root) → ((j : ℕ) → d < j → j < m → is_child_named nodes d name j ≡ false) → (d ≡ p → ⊥) →
        (j : ℕ) → Place q j → number_after_insert q d < j → ((i : ℕ) → d < i → number_after_insert q i ≡ j → i < m) → is_child_named N (number_after_insert q d) name j ≡ false
    none-new m h f apart j (before l) a b =
        let e : number_after_insert q j ≡ j = number_after_insert-low q j l in
        let d<j : d < j = shifted_down j (rw e a) in
        let j<m : j < m = b j d<j e in
        rw e at (named-number_after_insert d name j (inside-all j (omega arith)) ∙ f j d<j j<m)
    none-new m h f apart j (NestedInsert.here j≡) a b = rw j≡ (new_apart d name apart)
    none-new m h f apart j (after i j≡ l) a b =
        let e : number_after_insert q i ≡ j = number_after_insert-high q i l ∙ sym j≡ in
        let d<i : d < i = shifted_down i (rw e a) in
        let i<m : i < m = b i d<i e in
        rw e at (named-number_after_insert d name i (inside-all i (omega arith)) ∙ f i d<i i<m)

    -- a directory other than p has the same children
    pub child-moved : (d ≡ p → ⊥) → child_of N (number_after_insert q d) name ≡ moved q (child_of nodes d name)
    child-moved apart = go (child_of nodes d name) refl
      where
        go : (a : Result ℕ Refusal) → child_of nodes d name ≡ a → child_of N (number_after_insert q d) name ≡ moved q a
        go (Ok k) e =
            let x : Child nodes d name k = child-is nodes d name k e in
            let k< : k < next_of (get_or nodes d empty_root) = x.before in
            child-at N (number_after_insert q d) name (number_after_insert q k) (shifted_up k x.after) ((range d k d<n x.after).0 k<) (named-number_after_insert d name k (inside-all k k<) ∙ child-named nodes d name k x)
            (λ j a b. none-new k (omega arith) x.first apart j (place q j) a (λ i c s. omega (arith, number_after_insert-min q i, number_after_insert-min q k)))
        go (Err c) e =
            let m = child-missing nodes d name c e in
            rw m.0 (child-none N (number_after_insert q d) name (λ j a b. none-new (next_of (get_or nodes d empty_root)) (omega arith) m.1 apart j (place q j) a (λ i c s. (range d i d<n c).1 (rw s b))))

  -- ---- directory p itself

  next_here : next_of (get_or N p empty_root) ≡ suc q
  next_here = rw (inserted-before nodes p q nm new w dir p<n p p<, dir) (next_of-node_before p p (directory nm q) (omega arith) ∙ one)
    where
      one : q + min 1 (q - p) ≡ suc q
      one = omega (arith, p<)

  named_here : (name : List ℕ) (k : ℕ) → k < q → is_child_named N p name k ≡ is_child_named nodes p name k
  named_here name k h =
      let e : number_after_insert q p ≡ p = number_after_insert-low q p p< in
      let f : number_after_insert q k ≡ k = number_after_insert-low q k h in
      rw (e, f) at (named-number_after_insert p name k (omega (arith, q≤)))

  old-end : next_of (get_or nodes p empty_root) ≡ q
  old-end = rw dir

  pub child-kept : (name : List ℕ) (k : ℕ) → child_of nodes p name ≡ Ok k → child_of N p name ≡ Ok k
  child-kept name k e =
      let x : Child nodes p name k = child-is nodes p name k e in
      let l : k < q = omega (arith, x.before, old-end) in
      child-at N p name k x.after (omega (arith, next_here)) (named_here name k l ∙ child-named nodes p name k x) (λ j a b. named_here name j (omega arith) ∙ x.first j a b)

  none_before : (name : List ℕ) (c : Refusal) → child_of nodes p name ≡ Err c → (j : ℕ) → p < j → j < q → is_child_named N p name j ≡ false
  none_before name c e j a b = named_here name j b ∙ (child-missing nodes p name c e).1 j a (omega (arith, old-end))

  -- the new entry is found under its name, if no child had it
  pub child-new : (c : Refusal) → child_of nodes p (name_of new) ≡ Err c → child_of N p (name_of new) ≡ Ok q
  child-new c e =
      child-at N p (name_of new) q p< (omega (arith, next_here))
      (rw (parent-inserted-at nodes p q nm new w dir p<n, inserted-at nodes p q nm new w dir p<n, eq-eqb p p refl) (same_refl (name_of new)))
      (none_before (name_of new) c e)

  pub child-other : (name : List ℕ) (c : Refusal) → child_of nodes p name ≡ Err c → are_same_bytes (name_of new) name ≡ false → child_of N p name ≡ Err NotFound
  child-other name c e s =
      child-none N p name (λ j a b. ⊎_elim (λ (l : j < q). none_before name c e j a l)
      (λ (l : q ≤ j). let j≡ : j ≡ q = omega (arith, next_here) in rw (j≡, inserted-at nodes p q nm new w dir p<n, s) (and-false (eqb (parent_of N q) p))) (lt-or-le j q))

  -- and has no children
  pub child-empty : (name : List ℕ) → child_of N q name ≡ Err NotFound
  child-empty name = child-none N q name (λ j a b. absurd (omega (arith, new-most q new fresh, rw (inserted-at nodes p q nm new w dir p<n) at b)))
