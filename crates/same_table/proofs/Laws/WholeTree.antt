-- Names, order, kinds, nesting, offsets and sizes are the whole tree: they fix where each directory ends. Assumes nothing.
use Rattle.std.specs.Prelude.{ℕ, ◌<◌, ◌≤◌, ◌≡◌, refl, true, false, List, length, get_or, ltb}
use Rattle.std.proofs.Common.{sym, ap, ◌∙◌, ⊎_elim, arith, ltb-true, lt-ltb, ext_get_or}
use Rattle.std.proofs.lemmas.Bool.{false≢true}
use Rattle.std.proofs.lemmas.List.{length-map, get_or-map}
use Rattle.refusal.specs.Laws.Tests.{lt-or-le}
use Rattle.tree.specs.Table.{Node, file, directory, empty_root, is_enclosing, parent_of}
use Rattle.tree.specs.Inner.WellFormed.{IsWellFormed}
use Rattle.tree.specs.Lookup.{next_of}
use Rattle.tree.proofs.Laws.Nesting.{Inside, parent-at-least}
use Rattle.tree.proofs.Laws.WellNested.{next-bounds, parent-inside, nests}
use Rattle.opened.specs.Opening.{nodes_in}
use Rattle.ledger.proofs.Laws.Opened.{opened}
use Rattle.same_table.specs.Trees.{entry_alone, IsSameTree}
use Rattle.same_table.specs.Theorem.{WholeTree}

-- a directory that ends at entry n in a does not end later in b: entry n would be in another directory
module _ (a b : List Node) (wa : IsWellFormed a) (wb : IsWellFormed b) (same : length a ≡ length b) (nesting : (k : ℕ) → k < length a → parent_of a k ≡ parent_of b k) where
  in-directory : (q n : ℕ) (x : Node) → get_or a q empty_root ≡ x → is_enclosing (get_or a q empty_root) n ≡ true → (d : ℕ) → Inside a d q → q < length a → next_of (get_or a d empty_root) ≡ n → ⊥
  in-directory q n (file nm offset size) e h d i l m = let z : false ≡ true = rw e at h in false≢true z
  in-directory q n (directory nm next) e h d i l m =
      let u : ltb n next ≡ true = rw e at h in
      omega (arith, ltb-true n next u, nests a d q next nm wa i l e)

  not-later : (d n n' : ℕ) (nm nm' : List ℕ) → d < length a → get_or a d empty_root ≡ directory nm n → get_or b d empty_root ≡ directory nm' n' → n < n' → ⊥
  not-later d n n' nm nm' l ea eb h =
      let ba = next-bounds a d n nm wa ea l in
      let bb = next-bounds b d n' nm' wb eb (rw (← same) l) in
      let k : n < length a = omega (arith, bb.1) in
      let q : ℕ = parent_of a n in
      let ib : Inside b d n = (ba.0, rw eb (lt-ltb n n' h)) in
      let g : d ≤ q = rw (nesting n k) (parent-at-least b d n ib) in
      let ia : Inside a q n = parent-inside a n wa (omega (arith, ba.0)) k in
      ⊎_elim (λ c. in-directory q n (get_or a q empty_root) refl ia.1 d (c, rw ea (lt-ltb q n ia.0)) (omega (arith, ia.0)) (rw ea))
      (λ c. let e : q ≡ d = omega arith in let z : ltb n n ≡ true = rw ea at (rw e at ia.1) in omega (arith, ltb-true n n z)) (lt-or-le d q)

module _ (a b : List Node) (wa : IsWellFormed a) (wb : IsWellFormed b) (s : IsSameTree a b) where
  long : length a ≡ length b
  long = sym (length-map a entry_alone) ∙ ap length s.entries ∙ length-map b entry_alone

  entry : (k : ℕ) → k < length a → entry_alone (get_or a k empty_root) ≡ entry_alone (get_or b k empty_root)
  entry k h =
      sym (get_or-map entry_alone a k empty_root empty_root h) ∙ ap (λ (xs : List Node). get_or xs k empty_root) s.entries
      ∙ get_or-map entry_alone b k empty_root empty_root (rw (← long) h)

  next-same : (d n n' : ℕ) (nm nm' : List ℕ) → d < length a → get_or a d empty_root ≡ directory nm n → get_or b d empty_root ≡ directory nm' n' → n ≡ n'
  next-same d n n' nm nm' l ea eb =
      ⊎_elim (λ h. absurd (not-later a b wa wb long s.nesting d n n' nm nm' l ea eb h))
      (λ h. ⊎_elim (λ g. absurd (not-later b a wb wa (sym long) (λ k m. sym (s.nesting k (rw long m))) d n' n nm' nm (rw (← long) l) eb ea g)) (λ g. omega arith) (lt-or-le n' n)) (lt-or-le n n')

  node-same : (d : ℕ) → d < length a → (x y : Node) → get_or a d empty_root ≡ x → get_or b d empty_root ≡ y → entry_alone x ≡ entry_alone y → x ≡ y
  node-same d l (file nm o n) (file nm' o' n') ea eb e = e
  node-same d l (file nm o n) (directory nm' n') ea eb e = let z : ◌≡◌ {A = ℕ} 0 1 = cc in absurd (omega arith)
  node-same d l (directory nm n) (file nm' o' n') ea eb e = let z : ◌≡◌ {A = ℕ} 0 1 = cc in absurd (omega arith)
  node-same d l (directory nm n) (directory nm' n') ea eb e =
      let q : n ≡ n' = next-same d n n' nm nm' l ea eb in
      let m : nm ≡ nm' = cc in
      rw (q, m)

  -- LAW: of well-formed lists of entries
  pub tree_is : a ≡ b
  tree_is = ext_get_or empty_root a b long (λ k h. node-same k h (get_or a k empty_root) (get_or b k empty_root) refl refl (entry k h))

-- THEOREM
pub whole-tree : WholeTree
whole-tree image image' w w' b b' o o' s = tree_is (nodes_in image) (nodes_in image') (opened image w o b).well (opened image' w' o' b').well s
