-- Make-directories' number: in the tree that it made, `lookup` of its path from its start finds exactly that
-- entry, a directory. Assumes nothing.
use Rattle.std.specs.Prelude.{Result, Ok, Err}
use Prim.Native.Nat.{ℕ, ◌<◌, ◌≤◌}
use Rattle.std.proofs.Math.Path.{◌≡◌, refl}
use Rattle.std.specs.Prelude.{Bool, true, cond, not, ◌||◌, get_or}
use Rattle.std.proofs.Math.Bool.{false}
use mathlib.Core.List.{List, [], ◌∷◌, map}
use Rattle.std.proofs.Common.{arith, lt-ltb}
use Rattle.std.proofs.Math.ListN.{length}
use Rattle.refusal.specs.declared.Refusal.{Refusal}
use Rattle.refusal.specs.declared.Refusal.TheVariants.{ExpectedDirectory, UnsafeName}
use Rattle.tree.specs.Table.{Node, empty_root, is_plain, is_safe}
use Rattle.tree.specs.Lookup.{is_directory, components, is_staying, is_going_back, child_of, follow, lookup}
use Rattle.tree.specs.Insert.{insert_at, empty_directory, number_after_insert}
use Rattle.tree.proofs.Laws.InsertedList.{IsNested, length_inserted, p<q, q≤n}
use Rattle.tree.proofs.Laws.NestedInsert.{nested-insert}
use Rattle.tree.proofs.Laws.ChildInsert.{number_after_insert-low, child-new}
use Rattle.edit_rules.specs.Edits.{new_number, stopped, made, made_step_back, if_found, make}
use Rattle.tree.proofs.Laws.Renumbered.{directory-is, Renumbered, renumbered-same, renumbered-then, renumbered-insert, Falling, from_start, child-within}

-- the numbers of a trail that stand before q stay
trail_low : (start q : ℕ) (φ : ℕ → ℕ) (trail : List ℕ) (k : ℕ) → k < q → Falling start trail k → map (λ i. φ (number_after_insert q i)) trail ≡ map φ trail
trail_low start q φ [] k h f = refl
trail_low start q φ (j ∷ trail) k h f = rw (number_after_insert-low q j (omega (arith, f.0)), trail_low start q φ trail j (omega (arith, f.0)) f.1)

-- the walk from entry k of M made F and ended at j: in F, where M's entries have the numbers φ, the same walk ends there too
record Walked (M : List Node) (start : ℕ) (trail : List ℕ) (k : ℕ) (cs : List (List ℕ)) (F : List Node) (j : ℕ) : Type 0 where
  φ : ℕ → ℕ
  numbers : Renumbered M F φ
  begins : φ start ≡ start
  ends : follow F (map φ trail) (φ k) cs ≡ Ok j
  kind : is_directory (get_or F j empty_root) ≡ true

abbrev Walks : ℕ → List Node → ℕ → Bool → List (List ℕ) → Type 0
Walks start F j b cs = (M : List Node) (trail : List ℕ) (k : ℕ) (bad : Bool) → IsNested M → k < length M → Falling start trail k → make M trail k bad cs ≡ made F j b → Walked M start trail k cs F j

module _ (start : ℕ) (F : List Node) (j : ℕ) (b : Bool) (c : List ℕ) (cs : List (List ℕ)) (ih : Walks start F j b cs) (M : List Node) (k : ℕ) (bad : Bool) (n : IsNested M) (h : k < length M)
    (dir : is_directory (get_or M k empty_root) ≡ true) where
  stay : (trail : List ℕ) → is_staying c ≡ true → Falling start trail k → make M trail k bad cs ≡ made F j b → Walked M start trail k (c ∷ cs) F j
  unfolding follow
  stay trail s f e =
      let w = ih M trail k bad n h f e in
      record { φ = w.φ; numbers = w.numbers; begins = w.begins; ends = rw (w.numbers.kinds k h, dir, s) w.ends; kind = w.kind }

  module _ (s : is_staying c ≡ false) where
    back : is_going_back c ≡ true → (trail : List ℕ) → Falling start trail k → made_step_back trail (λ i rest. make M rest i bad cs) ≡ made F j b → Walked M start trail k (c ∷ cs) F j
    unfolding follow
    back g [] f e = let z : ◌≡◌ {A = ℕ} 0 1 = cc in absurd (omega arith)
    back g (i ∷ rest) f e =
        let w = ih M rest i bad n (omega (arith, f.0)) f.1 e in
        record { φ = w.φ; numbers = w.numbers; begins = w.begins; ends = rw (w.numbers.kinds k h, dir, s, g) w.ends; kind = w.kind }

    module _ (g : is_going_back c ≡ false) (trail : List ℕ) (f : Falling start trail k) where
      found : (i : ℕ) → child_of M k c ≡ Ok i → make M (k ∷ trail) i bad cs ≡ made F j b → Walked M start trail k (c ∷ cs) F j
      unfolding follow
      found i a e =
          let x = child-within M k c i n h dir a in
          let w = ih M (k ∷ trail) i bad n x.1 (x.0, f) e in
          record { φ = w.φ; numbers = w.numbers; begins = w.begins; ends = rw (w.numbers.kinds k h, dir, s, g, w.numbers.children k c i h a) w.ends; kind = w.kind }

      added : (r : Refusal) → child_of M k c ≡ Err r → (bad' : Bool) → make (insert_at k (empty_directory c (new_number M k)) M) (k ∷ trail) (new_number M k) bad' cs ≡ made F j b →
          Walked M start trail k (c ∷ cs) F j
      unfolding follow
      added r a bad' e =
          let q : ℕ = new_number M k in
          let new : Node = empty_directory c q in
          let x = directory-is (get_or M k empty_root) dir in
          let l : k < q = p<q M k q x.0 new n x.1 h in
          let u : q ≤ length M = q≤n M k q x.0 new n x.1 h in
          let n' = nested-insert M k q x.0 new n x.1 h refl in
          let w = ih (insert_at k new M) (k ∷ trail) q bad' n' (omega (arith, length_inserted M k q x.0 new n x.1 h)) (l, f) e in
          let m = renumbered-insert M k q x.0 new n x.1 h refl in
          let k≡ : number_after_insert q k ≡ k = number_after_insert-low q k l in
          let s≡ : number_after_insert q start ≡ start = number_after_insert-low q start (omega (arith, from_start start trail k f)) in
          let a' : child_of (insert_at k new M) k c ≡ Ok q = child-new M k q x.0 new n x.1 h refl r a in
          let t = renumbered-then M (insert_at k new M) F (number_after_insert q) w.φ m w.numbers in
          record {
            φ = λ i. w.φ (number_after_insert q i);
            numbers = t;
            begins = rw s≡ w.begins;
            ends = rw (t.kinds k h, dir, s, g, k≡, trail_low start q w.φ trail k l f, w.numbers.children k c q (omega (arith, length_inserted M k q x.0 new n x.1 h)) a') w.ends;
            kind = w.kind;
          }

walks : (start : ℕ) (F : List Node) (j : ℕ) (b : Bool) (cs : List (List ℕ)) → Walks start F j b cs
unfolding make
walks start F j b [] M trail k bad n h f e = go (is_directory (get_or M k empty_root)) refl e
  where
    same : (xs : List ℕ) → map (λ (i : ℕ). i) xs ≡ xs
    same [] = refl
    same (x ∷ xs) = rw (same xs)

    go : (t : Bool) → is_directory (get_or M k empty_root) ≡ t → cond t (made M k bad) (stopped ExpectedDirectory) ≡ made F j b → Walked M start trail k [] F j
    go true d q =
        let m : M ≡ F = cc in
        let k≡ : k ≡ j = cc in
        rw (← m, ← k≡) (record { φ = λ i. i; numbers = renumbered-same M; begins = refl; ends = unfold follow in refl; kind = d })
    go false d q = let z : ◌≡◌ {A = ℕ} 0 1 = cc in absurd (omega arith)
walks start F j b (c ∷ cs) M trail k bad n h f e = go (is_directory (get_or M k empty_root)) refl (is_staying c) refl (is_going_back c) refl (child_of M k c) refl (is_safe c) (walks start F j b cs) e
  where
    go : (t : Bool) → is_directory (get_or M k empty_root) ≡ t → (u : Bool) → is_staying c ≡ u → (v : Bool) → is_going_back c ≡ v → (a : Result ℕ Refusal) → child_of M k c ≡ a → (y : Bool) → Walks start F j b cs →
        cond t (cond u (make M trail k bad cs) (cond v (made_step_back trail (λ i rest. make M rest i bad cs)) (if_found a (λ i. make M (k ∷ trail) i bad cs)
        (cond y (make (insert_at k (empty_directory c (new_number M k)) M) (k ∷ trail) (new_number M k) (bad || not (is_plain c)) cs) (stopped UnsafeName))))) (stopped ExpectedDirectory) ≡ made F j b →
        Walked M start trail k (c ∷ cs) F j
    go false d u u≡ v v≡ a a≡ y ih q = let z : ◌≡◌ {A = ℕ} 0 1 = cc in absurd (omega arith)
    go true d true u≡ v v≡ a a≡ y ih q = stay start F j b c cs ih M k bad n h d trail u≡ f q
    go true d false u≡ true v≡ a a≡ y ih q = back start F j b c cs ih M k bad n h d u≡ v≡ trail f q
    go true d false u≡ false v≡ (Ok i) a≡ y ih q = found start F j b c cs ih M k bad n h d u≡ v≡ trail f i a≡ q
    go true d false u≡ false v≡ (Err r) a≡ true ih q = added start F j b c cs ih M k bad n h d u≡ v≡ trail f r a≡ (bad || not (is_plain c)) q
    go true d false u≡ false v≡ (Err r) a≡ false ih q = let z : ◌≡◌ {A = ℕ} 0 1 = cc in absurd (omega arith)

-- THEOREM: the path from the start leads to the number in the tree that was made, and a directory is there
pub made_found : (nodes : List Node) (start : ℕ) (path : List ℕ) (F : List Node) (j : ℕ) (b : Bool) → IsNested nodes → start < length nodes → make nodes [] start false (components path) ≡ made F j b →
    (lookup F start path ≡ Ok j) × (is_directory (get_or F j empty_root) ≡ true)
unfolding lookup
made_found nodes start path F j b n h e =
    let w = walks start F j b (components path) nodes [] start false n h refl e in
    let l : start < length F = rw w.begins at (w.numbers.inside start h) in
    (rw (lt-ltb start (length F) l) (rw w.begins at w.ends), w.kind)
