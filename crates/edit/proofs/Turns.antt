-- Make-directories turn by turn, once no trouble stands on the path: each component leads on to what the whole makes, and what there is no
-- room for on the way there is none for at the end. Assumes nothing.
use Rattle.std.specs.Prelude.{Result, Ok, Err}
use Prim.Native.Nat.{ℕ, zero, suc, ◌<◌}
use mathlib.Core.Path.{◌≡◌, refl, ap, ◌∙◌}
use mathlib.Core.Bool.{Bool, true, false, cond, not}
use mathlib.Core.List.{List, [], ◌∷◌}
use native.Mathlib.Omega.{arith}
use lib.ListN.{length, get_or}
use Rattle.refusal.specs.declared.Refusal.{Refusal}
use Rattle.refusal.specs.declared.Refusal.TheVariants.{UnsafeName, ExpectedDirectory, LimitOrMemory}
use Rattle.tree.specs.Table.{Node, empty_root, is_plain, is_safe, parent_of, encode, limits}
use Rattle.tree.specs.Inner.WellFormed.{IsGoodName, IsWellFormed}
use Rattle.tree.specs.Lookup.{is_directory, child_of, is_staying, is_going_back}
use Rattle.tree.proofs.Laws.Children.{child-is}
use Rattle.tree.proofs.Laws.LookupLaws.{child-inside}
use Rattle.tree.proofs.Laws.Nesting.{parent-most}
use Rattle.tree.proofs.Laws.Renumbered.{directory-is}
use Rattle.tree.proofs.Laws.WellNested.{next-bounds}
use Rattle.tree.specs.Insert.{insert_at, empty_directory}
use Rattle.tree.proofs.Laws.InsertLaws.{length-insert, parent-insert-before, parent-insert-at}
use Rattle.tree.proofs.Laws.Growing.{Bigger, bigger-insert, bigger-limits, bigger-encode}
use Rattle.edit_rules.specs.Edits.{new_number, Made, stopped, made, made_step_back, if_found, make}
use Rattle.edit_rules.specs.Inner.Troubles.{made_verdict}
use Rattle.edit_rules.proofs.Laws.MadeTree.{bad-is_staying, AllLt, make-grows}
use Rattle.table_writing.specs.declared.growing.Growing.{Growing}
use Rattle.table_writing.specs.Inner.Growing.{growing_tree}
use Rattle.edit.specs.Inner.Making.{made_tree, made_entry, turn_of, CanTurn, Reaches}

-- ---- the entries left behind are the directories that the entry is nested in

-- n times the parent, the nearest first
unfoldable pub ups : List Node → ℕ → ℕ → List ℕ
ups nodes k zero = []
ups nodes k (suc n) = parent_of nodes k ∷ ups nodes (parent_of nodes k) n

ups-inside : (M : List Node) (k n : ℕ) → k < length M → AllLt (length M) (ups M k n)
unfolding ups
ups-inside M k zero h = tt
ups-inside M k (suc n) h = let l : parent_of M k < length M = omega (arith, parent-most M k) in (l, ups-inside M (parent_of M k) n l)

-- a new entry at q leaves those before it
ups-kept : (M N : List Node) (q : ℕ) → ((i : ℕ) → i < q → parent_of N i ≡ parent_of M i) → (k n : ℕ) → k < q → ups N k n ≡ ups M k n
unfolding ups
ups-kept M N q same k zero h = refl
ups-kept M N q same k (suc n) h = rw (same k h, ups-kept M N q same (parent_of M k) n (omega (arith, parent-most M k)))

-- ---- one turn

-- a test that stops the walk was passed
must : (t : Bool) (x : Made) (c : Refusal) (F : List Node) (j : ℕ) → cond t x (stopped c) ≡ made F j false → (t ≡ true) × (x ≡ made F j false)
must true x c F j e = (refl, e)
must false x c F j e = let z : ◌≡◌ {A = ℕ} 0 1 = cc in absurd (omega arith)

-- the walk goes on from what the turn m made
pub record Onward (m : Made) (cs : List (List ℕ)) (F : List Node) (j : ℕ) : Type 0 where
  pub well : IsWellFormed (made_tree m)
  pub inside : made_entry m < length (made_tree m)
  pub steps : ℕ
  pub left : make (made_tree m) (ups (made_tree m) (made_entry m) steps) (made_entry m) false cs ≡ made F j false

module _ (M : List Node) (k n : ℕ) (nm : List ℕ) (cs : List (List ℕ)) (F : List Node) (j : ℕ) (w : IsWellFormed M) (k<n : k < length M)
    (e : make M (ups M k n) k false (nm ∷ cs) ≡ made F j false) where
  abbrev M' : List Node
  M' = insert_at k (empty_directory nm (new_number M k)) M

  -- what comes after the test of the kind
  abbrev rest : Made
  rest =
      cond (is_staying nm) (make M (ups M k n) k false cs)
      (cond (is_going_back nm) (made_step_back (ups M k n) (λ i trail. make M trail i false cs))
      (if_found (child_of M k nm) (λ i. make M (k ∷ ups M k n) i false cs)
      (cond (is_safe nm) (make M' (k ∷ ups M k n) (new_number M k) (not (is_plain nm)) cs) (stopped UnsafeName))))

  tested : (is_directory (get_or M k empty_root) ≡ true) × (rest ≡ made F j false)
  unfolding make
  tested = must (is_directory (get_or M k empty_root)) rest ExpectedDirectory F j e

  is_plain-is : (b : Bool) → is_plain nm ≡ b → make M' (k ∷ ups M k n) (new_number M k) (not b) cs ≡ made F j false → (is_plain nm ≡ true) × (make M' (k ∷ ups M k n) (new_number M k) false cs ≡ made F j false)
  is_plain-is true p q = (p, q)
  is_plain-is false p q = absurd (bad-is_staying cs M' (k ∷ ups M k n) (new_number M k) F j q)

  -- a new directory
  new-name : cond (is_safe nm) (make M' (k ∷ ups M k n) (new_number M k) (not (is_plain nm)) cs) (stopped UnsafeName) ≡ made F j false →
      IsGoodName nm × (make M' (k ∷ ups M k n) (new_number M k) false cs ≡ made F j false)
  new-name q =
      let s = must (is_safe nm) (make M' (k ∷ ups M k n) (new_number M k) (not (is_plain nm)) cs) UnsafeName F j q in
      let p = is_plain-is (is_plain nm) refl s.1 in
      ((p.0, s.0), p.1)

  pub can-turn : CanTurn M k nm
  can-turn = record { directory = record { inside = k<n; kind = tested.0 }; named = λ s b. record { good = λ c f. go s b c f tested.1 } }
    where
      go : is_staying nm ≡ false → is_going_back nm ≡ false → (c : Refusal) → child_of M k nm ≡ Err c → rest ≡ made F j false → IsGoodName nm
      go s b c f q = (new-name (rw (s, b, f) at q)).0

  onward-new : IsGoodName nm → make M' (k ∷ ups M k n) (new_number M k) false cs ≡ made F j false → Onward (made M' (new_number M k) false) cs F j
  unfolding ups
  onward-new g q =
      let x = directory-is (get_or M k empty_root) tested.0 in
      let a = new_number M k in
      let b = next-bounds M k a x.0 w x.1 k<n in
      let l = length-insert M k a x.0 (empty_directory nm a) w x.1 k<n in
      let p : parent_of M' a ≡ k = parent-insert-at M k a x.0 (empty_directory nm a) w x.1 k<n in
      let u : ups M' k n ≡ ups M k n = ups-kept M M' a (λ i h. parent-insert-before M k a x.0 (empty_directory nm a) w x.1 k<n i h) k n b.0 in
      record {
        well = (bigger-insert M k a x.0 (empty_directory nm a) w x.1 k<n g refl).well;
        inside = omega (arith, l, b.1);
        steps = suc n;
        left = rw (p, u) q;
      }

  pub onward-turn : Onward (turn_of M k nm) cs F j
  unfolding turn_of ups
  onward-turn = go (is_staying nm) (is_going_back nm) n (child_of M k nm) refl tested.1
    where
      go : (u v : Bool) (t : ℕ) (x : Result ℕ Refusal) → child_of M k nm ≡ x →
          cond u (make M (ups M k n) k false cs)
          (cond v (made_step_back (ups M k t) (λ i trail. make M trail i false cs))
          (if_found x (λ i. make M (k ∷ ups M k n) i false cs)
          (cond (is_safe nm) (make M' (k ∷ ups M k n) (new_number M k) (not (is_plain nm)) cs) (stopped UnsafeName)))) ≡ made F j false →
          Onward (cond u (made M k false) (cond v (made M (parent_of M k) false) (if_found x (λ i. made M i false) (made M' (new_number M k) false)))) cs F j
      go true v t x f q = record { well = w; inside = k<n; steps = n; left = q }
      go false true zero x f q = let z : ◌≡◌ {A = ℕ} 0 1 = cc in absurd (omega arith)
      go false true (suc t) x f q = record { well = w; inside = omega (arith, parent-most M k); steps = t; left = q }
      go false false t (Ok i) f q = record { well = w; inside = child-inside M k nm i w k<n f; steps = suc n; left = rw (child-is M k nm i f).parent q }
      go false false t (Err c) f q = let g = new-name q in onward-new g.0 g.1

-- ---- the loop along the path: what is left of the walk makes what the whole makes; F is the tree at its end, and j the entry

pub record Making (F : List Node) (j words room : ℕ) (g : Growing) (k : ℕ) (rest : List (List ℕ)) : Type 0 where
  pub lent : g.words ≡ words
  pub long : length g.bytes.now ≡ room
  pub inside : k < length (growing_tree g)
  pub steps : ℕ
  pub left : make (growing_tree g) (ups (growing_tree g) k steps) k false rest ≡ made F j false

-- the walk met no trouble
pub all_made : (m : Made) → made_verdict m ≡ Ok tt → m ≡ made (made_tree m) (made_entry m) false
all_made (stopped c) e = let z : ◌≡◌ {A = ℕ} 0 1 = cc in absurd (omega arith)
all_made (made nodes k true) e = let z : ◌≡◌ {A = ℕ} 0 1 = cc in absurd (omega arith)
all_made (made nodes k false) e = refl

pub making-start : (g : Growing) (start : ℕ) (cs : List (List ℕ)) → start < length (growing_tree g) → made_verdict (make (growing_tree g) [] start false cs) ≡ Ok tt →
    Making (made_tree (make (growing_tree g) [] start false cs)) (made_entry (make (growing_tree g) [] start false cs)) g.words (length g.bytes.now) g start cs
unfolding ups
making-start g start cs h e = record { lent = refl; long = refl; inside = h; steps = 0; left = all_made (make (growing_tree g) [] start false cs) e }

module _ {F : List Node} {j words room : ℕ} {g : Growing} {k : ℕ} {nm : List ℕ} {cs : List (List ℕ)} (v : Making F j words room g k (nm ∷ cs)) where
  pub making-can : CanTurn (growing_tree g) k nm
  making-can = can-turn (growing_tree g) k v.steps nm cs F j g.stands.well v.inside v.left

  next : Onward (turn_of (growing_tree g) k nm) cs F j
  next = onward-turn (growing_tree g) k v.steps nm cs F j g.stands.well v.inside v.left

  module _ (h : Growing) (lent : h.words ≡ g.words) where
    -- what there is no room for on the way there is none for at the end
    pub making-stops : (x : Result ℕ Refusal) (c : Refusal) → Reaches (turn_of (growing_tree g) k nm) (length g.bytes.now) h x → x ≡ Err c → (c ≡ LimitOrMemory) × (limits F words ≡ Ok tt → room < length (encode F))
    making-stops x c y e =
        let r : Reaches (turn_of (growing_tree g) k nm) (length g.bytes.now) h (Err c) = rw e at y in
        let o = next in
        let T = made_tree (turn_of (growing_tree g) k nm) in
        let b : Bigger T F = (make-grows T _ _ false cs F j o.well o.inside (ups-inside T _ o.steps o.inside) o.left).0 in
        let w : h.words ≡ words = lent ∙ v.lent in
        (r.0, λ l. omega (arith, (rw w at r.1) (bigger-limits T F words b l), bigger-encode T F b, v.long))

    pub making-turn : (q : ℕ) → length h.bytes.now ≡ length g.bytes.now → Reaches (turn_of (growing_tree g) k nm) (length g.bytes.now) h (Ok q) → Making F j words room h q cs
    making-turn q same r =
        let o = next in
        record { lent = lent ∙ v.lent; long = same ∙ v.long; inside = rw (r.1, r.0) o.inside; steps = o.steps; left = rw (r.1, r.0) o.left }

-- the path is at its end
pub making-end : (F : List Node) (j words room : ℕ) (g : Growing) (k : ℕ) → Making F j words room g k [] → (k ≡ j) × (growing_tree g ≡ F)
unfolding make
making-end F j words room g k v =
    let d = must (is_directory (get_or (growing_tree g) k empty_root)) (made (growing_tree g) k false) ExpectedDirectory F j v.left in
    (ap made_entry d.1, ap made_tree d.1)
