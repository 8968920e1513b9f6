-- An entry put in as the last child of a directory: every other entry keeps its parent. Assumes nothing.
use Rattle.std.specs.Prelude.{ℕ, zero, suc, ◌<◌, ◌≤◌, ◌≡◌, refl, Bool, true, false, cond, List, length, get_or, leb, ltb}
use Rattle.std.proofs.Common.{sym, ap, ◌∙◌, arith, ltb-true, leb-true, leb-false, ltb-false, le-leb, lt-ltb, le-ltb}
use Rattle.std.proofs.lemmas.Bool.{lt-leb}
use Rattle.tree.specs.Table.{Node, file, directory, empty_root, is_enclosing, parent_below, parent_of}
use Rattle.tree.specs.Lookup.{next_of}
use Rattle.tree.specs.Insert.{raised_next, node_before, node_after, insert_at, number_after_insert}
use Rattle.tree.proofs.Laws.Nesting.{parent-step, parent-lower, below-lt, parent_is, ended}
use Rattle.tree.proofs.Laws.InsertedList.{IsNested, is_enclosing-is, Fresh, raised_next-min, number_after_insert-min, ltb-suc, q≤n, p<q, inserted-before, inserted-at, inserted-after}

-- ---- every other entry keeps its parent

below-same : (a b : List Node) (k m i : ℕ) → ((j : ℕ) → j < i → is_enclosing (get_or a j empty_root) k ≡ is_enclosing (get_or b j empty_root) m) → parent_below a k i ≡ parent_below b m i
unfolding parent_below
below-same a b k m zero f = refl
below-same a b k m (suc i) f = rw (f i (omega arith), below-same a b k m i (λ j h. f j (omega arith)))

-- an entry j up to p, seen from entry k before the new one: a directory that ends past p ends at q or later
up-before : (p q j k : ℕ) (x : Node) → j ≤ p → k < q → (p < next_of x → q ≤ next_of x) → is_enclosing (node_before p j x) k ≡ is_enclosing x k
unfolding raised_next
up-before p q j k (file nm offset size) h l f = refl
up-before p q j k (directory nm n) h l f = rw (le-leb j p h) (go (ltb p n) refl)
  where
    go : (t : Bool) → ltb p n ≡ t → ltb k (cond t (suc n) n) ≡ ltb k n
    go true e =
        let g : q ≤ n = f (ltb-true p n e) in
        lt-ltb k (suc n) (omega arith) ∙ sym (lt-ltb k n (omega arith))
    go false e = refl

-- seen from entry k, which comes after the new one
up-after : (p j k : ℕ) (x : Node) → j ≤ p → p < k → is_enclosing (node_before p j x) (suc k) ≡ is_enclosing x k
unfolding raised_next
up-after p j k (file nm offset size) h l = refl
up-after p j k (directory nm n) h l = rw (le-leb j p h) (go (ltb p n) refl)
  where
    go : (t : Bool) → ltb p n ≡ t → ltb (suc k) (cond t (suc n) n) ≡ ltb k n
    go true e = ltb-suc k n
    go false e =
        let g : n ≤ p = ltb-false p n e in
        le-ltb (suc k) n (omega arith) ∙ sym (le-ltb k n (omega arith))

-- an entry j between p and the new one
between-same : (p j k : ℕ) (x : Node) → p < j → is_enclosing (node_before p j x) k ≡ is_enclosing x k
between-same p j k (file nm offset size) h = refl
between-same p j k (directory nm n) h = rw (lt-leb j p h)

pub later_same : (k : ℕ) (x : Node) → is_enclosing (node_after x) (suc k) ≡ is_enclosing x k
later_same k (file nm offset size) = refl
later_same k (directory nm n) = ltb-suc k n

pub new-ended : (q k : ℕ) (x : Node) → Fresh q x → q ≤ k → is_enclosing x (suc k) ≡ false
new-ended q k (file nm offset size) f h = refl
new-ended q k (directory nm n) f h = le-ltb (suc k) n (omega arith)

module _ (nodes : List Node) (p q : ℕ) (nm : List ℕ) (new : Node) (w : IsNested nodes) (here : get_or nodes p empty_root ≡ directory nm q) (p<n : p < length nodes) where
  -- a directory up to p that ends past p ends at q or later
  pub around : (j : ℕ) → j ≤ p → p < next_of (get_or nodes j empty_root) → q ≤ next_of (get_or nodes j empty_root)
  around j h l = go (ltb j p) refl
    where
      go : (t : Bool) → ltb j p ≡ t → q ≤ next_of (get_or nodes j empty_root)
      go true e = rw here at (w.inside j p (ltb-true j p e, is_enclosing-is (get_or nodes j empty_root) p ∙ lt-ltb p _ l) p<n)
      go false e =
          let j≡ : j ≡ p = omega (arith, ltb-false j p e) in
          rw (j≡, here) (omega arith)

  -- an entry between p and q ends at q or before
  pub between : (j : ℕ) → p < j → j < q → next_of (get_or nodes j empty_root) ≤ q
  between j h l = rw here at (w.inside p j (h, rw here (lt-ltb j q l)) (omega (arith, q≤n nodes p q nm new w here p<n)))

  pub encl-before : (k : ℕ) → k < q → (j : ℕ) → j < k → is_enclosing (get_or (insert_at p new nodes) j empty_root) k ≡ is_enclosing (get_or nodes j empty_root) k
  encl-before k h j l = rw (inserted-before nodes p q nm new w here p<n j (omega arith)) (go (leb j p) refl)
    where
      go : (t : Bool) → leb j p ≡ t → is_enclosing (node_before p j (get_or nodes j empty_root)) k ≡ is_enclosing (get_or nodes j empty_root) k
      go true e = up-before p q j k (get_or nodes j empty_root) (leb-true j p e) h (around j (leb-true j p e))
      go false e = between-same p j k (get_or nodes j empty_root) (leb-false j p e)

  pub encl-after : (k : ℕ) → q ≤ k → (j : ℕ) → j < q → is_enclosing (get_or (insert_at p new nodes) j empty_root) (suc k) ≡ is_enclosing (get_or nodes j empty_root) k
  encl-after k h j l = rw (inserted-before nodes p q nm new w here p<n j l) (go (leb j p) refl)
    where
      go : (t : Bool) → leb j p ≡ t → is_enclosing (node_before p j (get_or nodes j empty_root)) (suc k) ≡ is_enclosing (get_or nodes j empty_root) k
      go true e = up-after p j k (get_or nodes j empty_root) (leb-true j p e) (omega (arith, p<q nodes p q nm new w here p<n))
      go false e =
          let b : next_of (get_or nodes j empty_root) ≤ q = between j (leb-false j p e) l in
          between-same p j (suc k) (get_or nodes j empty_root) (leb-false j p e) ∙ ended (suc k) (get_or nodes j empty_root) (omega arith) ∙ sym (ended k (get_or nodes j empty_root) (omega arith))

  pub parent-inserted-before : (k : ℕ) → k < q → parent_of (insert_at p new nodes) k ≡ parent_of nodes k
  unfolding parent_of
  parent-inserted-before k h = below-same (insert_at p new nodes) nodes k k k (encl-before k h)

  pub parent-inserted-at : parent_of (insert_at p new nodes) q ≡ p
  parent-inserted-at =
      let h : p < q = p<q nodes p q nm new w here p<n in
      let b : raised_next p q ≡ suc q = omega (arith, raised_next-min p q) in
      parent_is (insert_at p new nodes) q p
      (h, rw (inserted-before nodes p q nm new w here p<n p h, here, le-leb p p (omega arith), b) (lt-ltb q (suc q) (omega arith)))
      (λ j a l. rw (inserted-before nodes p q nm new w here p<n j l) (between-same p j q (get_or nodes j empty_root) a ∙ ended q (get_or nodes j empty_root) (between j a l)))

  module _ (fresh : Fresh q new) where
    below-after : (k : ℕ) → q ≤ k → k < length nodes → (m : ℕ) → q ≤ m → m ≤ k → parent_below (insert_at p new nodes) (suc k) (suc m) ≡ number_after_insert q (parent_below nodes k m)
    below-after k h l zero a b = absurd (omega (arith, p<q nodes p q nm new w here p<n))
    below-after k h l (suc m) a b = go (leb q m) refl (λ e. below-after k h l m e (omega arith))
      where
        step : (t : Bool) (d : ℕ) → q ≤ m → cond t (suc m) (number_after_insert q d) ≡ number_after_insert q (cond t m d)
        step true d e = omega (arith, number_after_insert-min q m)
        step false d e = refl

        go : (t : Bool) → leb q m ≡ t → (q ≤ m → parent_below (insert_at p new nodes) (suc k) (suc m) ≡ number_after_insert q (parent_below nodes k m)) →
            parent_below (insert_at p new nodes) (suc k) (suc (suc m)) ≡ number_after_insert q (parent_below nodes k (suc m))
        go true e ih =
            let r : q ≤ m = leb-true q m e in
            parent-step (insert_at p new nodes) (suc k) (suc m)
            ∙ rw (inserted-after nodes p q nm new w here p<n m r (omega arith), later_same k (get_or nodes m empty_root), ih r) (step (is_enclosing (get_or nodes m empty_root) k) (parent_below nodes k m) r)
            ∙ ap (number_after_insert q) (sym (parent-step nodes k m))
        go false e ih =
            let m≡ : suc m ≡ q = omega (arith, leb-false q m e) in
            let v : parent_below nodes k (suc m) < suc m = below-lt nodes k (suc m) (omega arith) in
            parent-lower (insert_at p new nodes) (suc k) (suc m) (rw (m≡, inserted-at nodes p q nm new w here p<n) (new-ended q k new fresh h))
            ∙ below-same (insert_at p new nodes) nodes (suc k) k (suc m) (λ j l. encl-after k h j (omega arith))
            ∙ omega (arith, number_after_insert-min q (parent_below nodes k (suc m)))

    pub parent-inserted-after : (k : ℕ) → q ≤ k → k < length nodes → parent_of (insert_at p new nodes) (suc k) ≡ number_after_insert q (parent_of nodes k)
    unfolding parent_of
    parent-inserted-after k h l = below-after k h l k h (omega arith)
