-- A tree whose entries have other numbers, as after an insert: a path that leads to an entry in the one leads to it in the other. Assumes nothing.
use Rattle.std.specs.Prelude.{Result, Ok, Err}
use Rattle.refusal.specs.declared.Refusal.{Refusal}
use Rattle.std.specs.Prelude.{ℕ, ◌<◌, ◌≤◌, ◌≡◌, refl, Bool, true, false, cond, List, [], ◌∷◌, map, length, get_or, ltb, eqb}
use Rattle.std.proofs.Common.{ap, ◌∙◌, arith, ltb-true, lt-ltb, eqb-true}
use Rattle.std.proofs.lemmas.Bool.{eqb-false}
use Rattle.refusal.specs.declared.Refusal.TheVariants.{NoSuchEntry, ExpectedDirectory}
use Rattle.tree.specs.Table.{Node, file, directory, empty_root}
use Rattle.tree.specs.Lookup.{is_directory, next_of, child_of, is_staying, is_going_back, and_then, step_back, follow, components, lookup}
use Rattle.tree.specs.Insert.{insert_at, number_after_insert}
use Rattle.tree.proofs.Laws.InsertedList.{IsNested, Fresh, number_after_insert-min, length_inserted, p<q}
use Rattle.tree.proofs.Laws.Children.{Child, child-is}
use Rattle.tree.proofs.Laws.ChildInsert.{moved, number_after_insert-low, kept-kind, child-moved, child-kept}

pub directory-is : (x : Node) → is_directory x ≡ true → (nm : List ℕ) × (x ≡ directory nm (next_of x))
directory-is (file nm a b) e = let z : ◌≡◌ {A = ℕ} 0 1 = cc in absurd (omega arith)
directory-is (directory nm n) e = (nm, refl)

-- entry k of M is entry φ k of F: of the same kind, and a child that is found under a name is found under it there
pub record Renumbered (M F : List Node) (φ : ℕ → ℕ) : Type 0 where
  pub inside : (k : ℕ) → k < length M → φ k < length F
  pub kinds : (k : ℕ) → k < length M → is_directory (get_or F (φ k) empty_root) ≡ is_directory (get_or M k empty_root)
  pub children : (d : ℕ) (c : List ℕ) (j : ℕ) → d < length M → child_of M d c ≡ Ok j → child_of F (φ d) c ≡ Ok (φ j)

pub renumbered-same : (M : List Node) → Renumbered M M (λ k. k)
renumbered-same M = record { inside = λ k h. h; kinds = λ k h. refl; children = λ d c j h e. e }

pub renumbered-then : (A B C : List Node) (φ ψ : ℕ → ℕ) → Renumbered A B φ → Renumbered B C ψ → Renumbered A C (λ k. ψ (φ k))
renumbered-then A B C φ ψ r s = record {
  inside = λ k h. s.inside (φ k) (r.inside k h);
  kinds = λ k h. s.kinds (φ k) (r.inside k h) ∙ r.kinds k h;
  children = λ d c j h e. s.children (φ d) c (φ j) (r.inside d h) (r.children d c j h e);
}

-- LAW: an insert
pub renumbered-insert : (nodes : List Node) (p q : ℕ) (nm : List ℕ) (new : Node) → IsNested nodes → get_or nodes p empty_root ≡ directory nm q → p < length nodes → Fresh q new →
    Renumbered nodes (insert_at p new nodes) (number_after_insert q)
renumbered-insert nodes p q nm new w dir p<n fresh = record {
  inside = λ k h. omega (arith, length_inserted nodes p q nm new w dir p<n, number_after_insert-min q k);
  kinds = λ k h. kept-kind nodes p q nm new w dir p<n fresh k h;
  children = λ d c j h e. child d c j h e (eqb d p) refl;
}
  where
    child : (d : ℕ) (c : List ℕ) (j : ℕ) → d < length nodes → child_of nodes d c ≡ Ok j → (t : Bool) → eqb d p ≡ t → child_of (insert_at p new nodes) (number_after_insert q d) c ≡ Ok (number_after_insert q j)
    child d c j h e true t =
        let d≡ : d ≡ p = eqb-true d p t in
        let e' : child_of nodes p c ≡ Ok j = rw d≡ at e in
        let l : j < q = rw dir at (child-is nodes p c j e').before in
        rw (d≡, number_after_insert-low q p (p<q nodes p q nm new w dir p<n), number_after_insert-low q j l) (child-kept nodes p q nm new w dir p<n fresh c j e')
    child d c j h e false t = child-moved nodes p q nm new w dir p<n fresh d h c (eqb-false d p t) ∙ ap (moved q) e

-- the entries of a walk's trail stand one before the other, down to its start
abbrev pub Falling : ℕ → List ℕ → ℕ → Type 0
Falling start [] k = k ≡ start
Falling start (j ∷ trail) k = (j < k) × Falling start trail j

pub from_start : (start : ℕ) (trail : List ℕ) (k : ℕ) → Falling start trail k → start ≤ k
from_start start [] k f = omega arith
from_start start (j ∷ trail) k f = omega (arith, from_start start trail j f.1)

pub child-within : (nodes : List Node) (d : ℕ) (c : List ℕ) (j : ℕ) → IsNested nodes → d < length nodes → is_directory (get_or nodes d empty_root) ≡ true → child_of nodes d c ≡ Ok j → (d < j) × (j < length nodes)
child-within nodes d c j n h k e = let x : Child nodes d c j = child-is nodes d c j e in (x.after, omega (arith, (n.bounds d h k).1, x.before))

-- LAW: a path that leads to j leads to φ j
pub followed : (M F : List Node) (φ : ℕ → ℕ) (start : ℕ) → IsNested M → Renumbered M F φ → (cs : List (List ℕ)) (trail : List ℕ) (k j : ℕ) → k < length M → Falling start trail k →
    follow M trail k cs ≡ Ok j → follow F (map φ trail) (φ k) cs ≡ Ok (φ j)
unfolding follow
followed M F φ start n r [] trail k j h f e = let k≡ : k ≡ j = cc in rw k≡
followed M F φ start n r (c ∷ cs) trail k j h f e =
    rw (r.kinds k h) (go (is_directory (get_or M k empty_root)) refl (is_staying c) (is_going_back c) trail f (child_of M k c) refl (λ t i. followed M F φ start n r cs t i j) e)
  where
    go : (d : Bool) → is_directory (get_or M k empty_root) ≡ d → (s b : Bool) (t : List ℕ) → Falling start t k → (a : Result ℕ Refusal) → child_of M k c ≡ a →
        ((t : List ℕ) (i : ℕ) → i < length M → Falling start t i → follow M t i cs ≡ Ok j → follow F (map φ t) (φ i) cs ≡ Ok (φ j)) →
        cond d (cond s (follow M t k cs) (cond b (step_back t (λ i rest. follow M rest i cs)) (and_then a (λ i. follow M (k ∷ t) i cs)))) (Err ExpectedDirectory) ≡ Ok j →
        cond d (cond s (follow F (map φ t) (φ k) cs) (cond b (step_back (map φ t) (λ i rest. follow F rest i cs)) (and_then (child_of F (φ k) c) (λ i. follow F (φ k ∷ map φ t) i cs)))) (Err ExpectedDirectory) ≡ Ok (φ j)
    go false d s b t u a a≡ ih q = let z : ◌≡◌ {A = ℕ} 0 1 = cc in absurd (omega arith)
    go true d true b t u a a≡ ih q = ih t k h u q
    go true d false true [] u a a≡ ih q = let z : ◌≡◌ {A = ℕ} 0 1 = cc in absurd (omega arith)
    go true d false true (i ∷ rest) u a a≡ ih q = ih rest i (omega (arith, u.0)) u.1 q
    go true d false false t u (Ok i) a≡ ih q =
        let x = child-within M k c i n h d a≡ in
        rw (r.children k c i h a≡) (ih (k ∷ t) i x.1 (x.0, u) q)
    go true d false false t u (Err w) a≡ ih q = let z : ◌≡◌ {A = ℕ} 0 1 = cc in absurd (omega arith)

pub looked-up : (M F : List Node) (φ : ℕ → ℕ) → IsNested M → Renumbered M F φ → (start : ℕ) (path : List ℕ) (j : ℕ) → lookup M start path ≡ Ok j → lookup F (φ start) path ≡ Ok (φ j)
unfolding lookup
looked-up M F φ n r start path j e = go (ltb start (length M)) refl e
  where
    go : (t : Bool) → ltb start (length M) ≡ t → cond t (follow M [] start (components path)) (Err NoSuchEntry) ≡ Ok j →
        cond (ltb (φ start) (length F)) (follow F [] (φ start) (components path)) (Err NoSuchEntry) ≡ Ok (φ j)
    go true t q =
        let h : start < length M = ltb-true start (length M) t in
        rw (lt-ltb (φ start) (length F) (r.inside start h)) (followed M F φ start n r (components path) [] start j h refl q)
    go false t q = let z : ◌≡◌ {A = ℕ} 0 1 = cc in absurd (omega arith)
