-- Lookup in the terms of a loop: `..` by the parent instead of a trail, one turn for each part; what is found is an entry. Assumes nothing.
use Rattle.std.specs.Prelude.{Result, Ok, Err}
use Rattle.std.specs.Prelude.{ℕ, ◌<◌, ◌≤◌, ◌≡◌, refl, Bool, true, false, cond, List, [], ◌∷◌, length, get_or, ltb, eqb}
use Rattle.std.proofs.Common.{sym, ◌∙◌, ⊎_elim, arith}
use borrow.Author.Tests.{ltb-true, eq-eqb, ne_eqb}
use Rattle.refusal.specs.Laws.Tests.{lt-or-le}
use Rattle.refusal.specs.declared.Refusal.{Refusal}
use Rattle.refusal.specs.declared.Refusal.TheVariants.{NoSuchEntry, ExpectedDirectory, NotFound}
use Rattle.tree.specs.Table.{Node, file, directory, empty_root, parent_of}
use Rattle.tree.specs.Inner.WellFormed.{IsWellFormed}
use Rattle.tree.specs.Lookup.{is_directory, components, child_of, is_staying, is_going_back, and_then, step_back, follow, lookup}
use Rattle.tree.proofs.Laws.Nesting.{parent-before, parent-root}
use Rattle.tree.proofs.Laws.WellNested.{next-bounds}
use Rattle.tree.proofs.Laws.Children.{Child, child-is}

-- ---- `..` by the parent: the last named step came from the parent, and there is none at the start

unfoldable pub follow_up : List Node → ℕ → ℕ → List (List ℕ) → Result ℕ Refusal
follow_up nodes start k [] = Ok k
follow_up nodes start k (c ∷ cs) =
    cond (is_directory (get_or nodes k empty_root))
    (cond (is_staying c) (follow_up nodes start k cs)
    (cond (is_going_back c) (cond (eqb k start) (Err NotFound) (follow_up nodes start (parent_of nodes k) cs))
    (and_then (child_of nodes k c) (λ j. follow_up nodes start j cs))))
    (Err ExpectedDirectory)

-- the trail of a walk from start to k: each entry is the parent of the one after it
abbrev Trail : List Node → ℕ → List ℕ → ℕ → Type 0
Trail nodes start [] k = k ≡ start
Trail nodes start (j ∷ trail) k = (parent_of nodes k ≡ j) × (j < k) × Trail nodes start trail j

trail-from : (nodes : List Node) (start : ℕ) (trail : List ℕ) (k : ℕ) → Trail nodes start trail k → start ≤ k
trail-from nodes start [] k t = omega arith
trail-from nodes start (j ∷ trail) k t = omega (arith, trail-from nodes start trail j t.2)

step_back_lem : (nodes : List Node) (start k : ℕ) (trail : List ℕ) (cs : List (List ℕ)) → Trail nodes start trail k →
    ((trail' : List ℕ) (j : ℕ) → Trail nodes start trail' j → follow nodes trail' j cs ≡ follow_up nodes start j cs) →
    step_back trail (λ j rest. follow nodes rest j cs) ≡ cond (eqb k start) (Err NotFound) (follow_up nodes start (parent_of nodes k) cs)
step_back_lem nodes start k [] cs t ih = rw (eq-eqb k start t)
step_back_lem nodes start k (j ∷ trail) cs t ih =
    let l : start ≤ j = trail-from nodes start trail j t.2 in
    rw (ne_eqb k start (λ e. omega arith), t.0) (ih trail j t.2)

step-child : (nodes : List Node) (start k : ℕ) (trail : List ℕ) (c : List ℕ) (cs : List (List ℕ)) → Trail nodes start trail k →
    ((trail' : List ℕ) (j : ℕ) → Trail nodes start trail' j → follow nodes trail' j cs ≡ follow_up nodes start j cs) →
    (a : Result ℕ Refusal) → child_of nodes k c ≡ a → and_then a (λ j. follow nodes (k ∷ trail) j cs) ≡ and_then a (λ j. follow_up nodes start j cs)
step-child nodes start k trail c cs t ih (Ok j) e =
    let x : Child nodes k c j = child-is nodes k c j e in
    ih (k ∷ trail) j (x.parent, x.after, t)
step-child nodes start k trail c cs t ih (Err r) e = refl

follow-up : (nodes : List Node) (start : ℕ) (cs : List (List ℕ)) (trail : List ℕ) (k : ℕ) → Trail nodes start trail k → follow nodes trail k cs ≡ follow_up nodes start k cs
unfolding follow follow_up
follow-up nodes start [] trail k t = refl
follow-up nodes start (c ∷ cs) trail k t =
    rw (follow-up nodes start cs trail k t, step_back_lem nodes start k trail cs t (follow-up nodes start cs), step-child nodes start k trail c cs t (follow-up nodes start cs) (child_of nodes k c) refl)

pub lookup-up : (nodes : List Node) (start : ℕ) (path : List ℕ) → lookup nodes start path ≡ cond (ltb start (length nodes)) (follow_up nodes start start (components path)) (Err NoSuchEntry)
unfolding lookup
lookup-up nodes start path = rw (follow-up nodes start (components path) [] start refl)

-- ---- one turn of a loop over the parts

module _ (nodes : List Node) (start k : ℕ) (c : List ℕ) (cs : List (List ℕ)) where
  pub up-file : is_directory (get_or nodes k empty_root) ≡ false → follow_up nodes start k (c ∷ cs) ≡ Err ExpectedDirectory
  unfolding follow_up
  up-file d = rw d

  module _ (d : is_directory (get_or nodes k empty_root) ≡ true) where
    pub up-stays : is_staying c ≡ true → follow_up nodes start k (c ∷ cs) ≡ follow_up nodes start k cs
    unfolding follow_up
    up-stays s = rw (d, s)

    module _ (s : is_staying c ≡ false) where
      pub up-no-back : is_going_back c ≡ true → k ≡ start → follow_up nodes start k (c ∷ cs) ≡ Err NotFound
      unfolding follow_up
      up-no-back b e = rw (d, s, b, eq-eqb k start e)

      pub up-back : is_going_back c ≡ true → (k ≡ start → ⊥) → follow_up nodes start k (c ∷ cs) ≡ follow_up nodes start (parent_of nodes k) cs
      unfolding follow_up
      up-back b e = rw (d, s, b, ne_eqb k start e)

      pub up-missing : is_going_back c ≡ false → (r : Refusal) → child_of nodes k c ≡ Err r → follow_up nodes start k (c ∷ cs) ≡ Err r
      unfolding follow_up
      up-missing b r e = rw (d, s, b, e)

      pub up-child : is_going_back c ≡ false → (j : ℕ) → child_of nodes k c ≡ Ok j → follow_up nodes start k (c ∷ cs) ≡ follow_up nodes start j cs
      unfolding follow_up
      up-child b j e = rw (d, s, b, e)

pub up-end : (nodes : List Node) (start k : ℕ) → follow_up nodes start k [] ≡ Ok k
unfolding follow_up
up-end nodes start k = refl

-- ---- what is found is an entry of the tree

pub child-inside : (nodes : List Node) (d : ℕ) (nm : List ℕ) (k : ℕ) → IsWellFormed nodes → d < length nodes → child_of nodes d nm ≡ Ok k → k < length nodes
child-inside nodes d nm k w h e = go (get_or nodes d empty_root) refl
  where
    go : (x : Node) → get_or nodes d empty_root ≡ x → k < length nodes
    go (file a b c) q = absurd (omega (arith, rw q at (child-is nodes d nm k e).before))
    go (directory a n) q =
        let b : k < n = rw q at (child-is nodes d nm k e).before in
        omega (arith, (next-bounds nodes d n a w q h).1)

up-inside : (nodes : List Node) (start : ℕ) (cs : List (List ℕ)) (k j : ℕ) → IsWellFormed nodes → k < length nodes → follow_up nodes start k cs ≡ Ok j → j < length nodes
unfolding follow_up
up-inside nodes start [] k j w h e = let k≡ : k ≡ j = cc in omega arith
up-inside nodes start (c ∷ cs) k j w h e =
    go (is_directory (get_or nodes k empty_root)) (is_staying c) (is_going_back c) (eqb k start) (child_of nodes k c) refl (λ i l q. up-inside nodes start cs i j w l q) e
  where
    lower : parent_of nodes k < length nodes
    lower = ⊎_elim (λ (l : 0 < k). omega (arith, parent-before nodes k l)) (λ (l : k ≤ 0). let k≡ : k ≡ 0 = omega arith in rw k≡ (root-parent (rw k≡ at h))) (lt-or-le 0 k)
      where
        root-parent : 0 < length nodes → parent_of nodes 0 < length nodes
        root-parent l = rw (parent-root nodes) l

    go : (d s b t : Bool) (a : Result ℕ Refusal) → child_of nodes k c ≡ a → ((i : ℕ) → i < length nodes → follow_up nodes start i cs ≡ Ok j → j < length nodes) →
        cond d (cond s (follow_up nodes start k cs) (cond b (cond t (Err NotFound) (follow_up nodes start (parent_of nodes k) cs)) (and_then a (λ i. follow_up nodes start i cs)))) (Err ExpectedDirectory) ≡ Ok j → j < length nodes
    go false s b t a a≡ ih q = let z : ◌≡◌ {A = ℕ} 0 1 = cc in absurd (omega arith)
    go true true b t a a≡ ih q = ih k h q
    go true false true true a a≡ ih q = let z : ◌≡◌ {A = ℕ} 0 1 = cc in absurd (omega arith)
    go true false true false a a≡ ih q = ih (parent_of nodes k) lower q
    go true false false t (Ok i) a≡ ih q = ih i (child-inside nodes k c i w h a≡) q
    go true false false t (Err r) a≡ ih q = let z : ◌≡◌ {A = ℕ} 0 1 = cc in absurd (omega arith)

pub lookup-inside : (nodes : List Node) (start : ℕ) (path : List ℕ) (j : ℕ) → IsWellFormed nodes → lookup nodes start path ≡ Ok j → j < length nodes
lookup-inside nodes start path j w e = go (ltb start (length nodes)) refl (sym (lookup-up nodes start path) ∙ e)
  where
    go : (t : Bool) → ltb start (length nodes) ≡ t → cond t (follow_up nodes start start (components path)) (Err NoSuchEntry) ≡ Ok j → j < length nodes
    go true h q = up-inside nodes start (components path) start j w (ltb-true start (length nodes) h) q
    go false h q = let z : ◌≡◌ {A = ℕ} 0 1 = cc in absurd (omega arith)
