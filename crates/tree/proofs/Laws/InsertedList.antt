-- An entry put in as the last child of a directory, by numbers: what stands at each place of the new list. Assumes nothing.
use Rattle.std.specs.Prelude.{ℕ, zero, suc, ◌+◌, ◌-◌, ◌^◌, ◌<◌, ◌≤◌, min, ◌≡◌, refl, Bool, true, false, cond, List, [], ◌∷◌, map, length, get_or, leb, ltb}
use Rattle.std.proofs.Common.{sym, ap, arith, add-zero, ltb-true, leb-true, leb-false, ltb-false, lt-ltb, le-ltb}
use Rattle.std.proofs.lemmas.List.{length-map}
use Rattle.tree.specs.Table.{Node, file, directory, name_of, empty_root, is_enclosing}
use Rattle.tree.specs.Inner.WellFormed.{IsWellFormed}
use Rattle.tree.specs.Lookup.{is_directory, next_of}
use Rattle.tree.specs.Insert.{raised_next, node_before, node_after, splice, insert_at, number_after_insert}
use Rattle.tree.proofs.Laws.Nesting.{Inside}
use Rattle.tree.proofs.Laws.WellNested.{next-bounds, nests}

-- directories nest: each ends behind it, and where the directories around it end or before
pub record IsNested (nodes : List Node) : Type 0 where
  pub bounds : (k : ℕ) → k < length nodes → is_directory (get_or nodes k empty_root) ≡ true → (k < next_of (get_or nodes k empty_root)) × (next_of (get_or nodes k empty_root) ≤ length nodes)
  pub inside : (d k : ℕ) → Inside nodes d k → k < length nodes → next_of (get_or nodes k empty_root) ≤ next_of (get_or nodes d empty_root)

pub well-nested : (nodes : List Node) → IsWellFormed nodes → IsNested nodes
well-nested nodes w = record { bounds = λ k h d. bounds k h (get_or nodes k empty_root) refl d; inside = λ d k i h. inside d k i h (get_or nodes k empty_root) refl }
  where
    bounds : (k : ℕ) → k < length nodes → (x : Node) → get_or nodes k empty_root ≡ x → is_directory x ≡ true → (k < next_of (get_or nodes k empty_root)) × (next_of (get_or nodes k empty_root) ≤ length nodes)
    bounds k h (file nm a b) e d = let z : ◌≡◌ {A = ℕ} 0 1 = cc in absurd (omega arith)
    bounds k h (directory nm n) e d = rw e (next-bounds nodes k n nm w e h)

    inside : (d k : ℕ) → Inside nodes d k → k < length nodes → (x : Node) → get_or nodes k empty_root ≡ x → next_of (get_or nodes k empty_root) ≤ next_of (get_or nodes d empty_root)
    inside d k i h (file nm a b) e = rw e (omega arith)
    inside d k i h (directory nm n) e = rw e (nests nodes d k n nm w i h e)

pub is_enclosing-is : (x : Node) (k : ℕ) → is_enclosing x k ≡ ltb k (next_of x)
is_enclosing-is (file nm offset size) k = sym (le-ltb k 0 (omega arith))
is_enclosing-is (directory nm next) k = refl

-- what can be put in as entry q
abbrev pub Fresh : ℕ → Node → Type 0
Fresh q (file nm offset size) = (offset < 2 ^ 32) × (size < 2 ^ 32)
Fresh q (directory nm next) = next ≡ suc q

pub raised_next-min : (p n : ℕ) → raised_next p n ≡ n + min 1 (n - p)
unfolding raised_next
raised_next-min p n = go (ltb p n) refl
  where
    go : (t : Bool) → ltb p n ≡ t → cond t (suc n) n ≡ n + min 1 (n - p)
    go true e = omega (arith, ltb-true p n e)
    go false e = omega (arith, ltb-false p n e)

pub number_after_insert-min : (q k : ℕ) → number_after_insert q k ≡ k + min 1 (suc k - q)
unfolding number_after_insert
number_after_insert-min q k = go (leb q k) refl
  where
    go : (t : Bool) → leb q k ≡ t → cond t (suc k) k ≡ k + min 1 (suc k - q)
    go true e = omega (arith, leb-true q k e)
    go false e = omega (arith, leb-false q k e)

pub ltb-suc : (a b : ℕ) → ltb (suc a) (suc b) ≡ ltb a b
ltb-suc a b = go (ltb a b) refl
  where
    go : (t : Bool) → ltb a b ≡ t → ltb (suc a) (suc b) ≡ t
    go true e = lt-ltb (suc a) (suc b) (omega (arith, ltb-true a b e))
    go false e = le-ltb (suc a) (suc b) (omega (arith, ltb-false a b e))

pub name_of-node_before : (p k : ℕ) (x : Node) → name_of (node_before p k x) ≡ name_of x
name_of-node_before p k (file nm offset size) = refl
name_of-node_before p k (directory nm next) = refl

pub name_of-node_after : (x : Node) → name_of (node_after x) ≡ name_of x
name_of-node_after (file nm offset size) = refl
name_of-node_after (directory nm next) = refl

-- ---- the list

pub length-splice : (p : ℕ) (new : Node) (k j : ℕ) (xs : List Node) → j ≤ length xs → length (splice p new k j xs) ≡ suc (length xs)
unfolding splice
length-splice p new k zero xs h = ap suc (length-map xs node_after)
length-splice p new k (suc j) [] h = absurd (omega arith)
length-splice p new k (suc j) (x ∷ xs) h = ap suc (length-splice p new (suc k) j xs (omega arith))

splice-before : (p : ℕ) (new : Node) (k j : ℕ) (xs : List Node) (i : ℕ) → i < j → j ≤ length xs → get_or (splice p new k j xs) i empty_root ≡ node_before p (k + i) (get_or xs i empty_root)
unfolding splice
splice-before p new k zero xs i h l = absurd (omega arith)
splice-before p new k (suc j) [] i h l = absurd (omega arith)
splice-before p new k (suc j) (x ∷ xs) zero h l = rw (add-zero k)
splice-before p new k (suc j) (x ∷ xs) (suc i) h l =
    let n : k + suc i ≡ suc k + i = omega arith in
    rw n (splice-before p new (suc k) j xs i (omega arith) (omega arith))

splice_at : (p : ℕ) (new : Node) (k j : ℕ) (xs : List Node) → j ≤ length xs → get_or (splice p new k j xs) j empty_root ≡ new
unfolding splice
splice_at p new k zero xs l = refl
splice_at p new k (suc j) [] l = absurd (omega arith)
splice_at p new k (suc j) (x ∷ xs) l = splice_at p new (suc k) j xs (omega arith)

map-node_after : (xs : List Node) (i : ℕ) → i < length xs → get_or (map node_after xs) i empty_root ≡ node_after (get_or xs i empty_root)
map-node_after [] i h = absurd (omega arith)
map-node_after (x ∷ xs) zero h = refl
map-node_after (x ∷ xs) (suc i) h = map-node_after xs i (omega arith)

splice-after : (p : ℕ) (new : Node) (k j : ℕ) (xs : List Node) (i : ℕ) → j ≤ i → i < length xs → get_or (splice p new k j xs) (suc i) empty_root ≡ node_after (get_or xs i empty_root)
unfolding splice
splice-after p new k zero xs i h l = map-node_after xs i l
splice-after p new k (suc j) [] i h l = absurd (omega arith)
splice-after p new k (suc j) (x ∷ xs) zero h l = absurd (omega arith)
splice-after p new k (suc j) (x ∷ xs) (suc i) h l = splice-after p new (suc k) j xs i (omega arith) (omega arith)

-- ---- the whole tree; p is a directory with next q
module _ (nodes : List Node) (p q : ℕ) (nm : List ℕ) (new : Node) (w : IsNested nodes) (here : get_or nodes p empty_root ≡ directory nm q) (p<n : p < length nodes) where
  pub q≤n : q ≤ length nodes
  q≤n = rw here at (w.bounds p p<n (rw here)).1

  pub p<q : p < q
  p<q = rw here at (w.bounds p p<n (rw here)).0

  is-splice : insert_at p new nodes ≡ splice p new 0 q nodes
  unfolding insert_at
  is-splice = rw here

  pub length_inserted : length (insert_at p new nodes) ≡ suc (length nodes)
  length_inserted = rw is-splice (length-splice p new 0 q nodes q≤n)

  -- entry k, before the new one; the new one; and entry k, which comes after it
  pub inserted-before : (k : ℕ) → k < q → get_or (insert_at p new nodes) k empty_root ≡ node_before p k (get_or nodes k empty_root)
  inserted-before k h = rw (is-splice, splice-before p new 0 q nodes k h q≤n) (ap (λ (m : ℕ). node_before p m (get_or nodes k empty_root)) (omega arith))

  pub inserted-at : get_or (insert_at p new nodes) q empty_root ≡ new
  inserted-at = rw is-splice (splice_at p new 0 q nodes q≤n)

  pub inserted-after : (k : ℕ) → q ≤ k → k < length nodes → get_or (insert_at p new nodes) (suc k) empty_root ≡ node_after (get_or nodes k empty_root)
  inserted-after k h l = rw is-splice (splice-after p new 0 q nodes k h l)
