-- The tree that make-directories makes is one that the tree grew into by inserts. Assumes nothing.
use Rattle.std.specs.Prelude.{Result, Ok, Err}
use Rattle.refusal.specs.declared.Refusal.{Refusal}
use Rattle.std.specs.Prelude.{ℕ, suc, ◌<◌, ◌≤◌, ◌≡◌, refl, Bool, true, false, cond, not, ◌||◌, List, [], ◌∷◌, length, get_or}
use Rattle.std.proofs.Common.{arith}
use Rattle.refusal.specs.declared.Refusal.TheVariants.{UnsafeName, ExpectedDirectory}
use Rattle.tree.specs.Table.{Node, directory, empty_root, is_plain, is_safe}
use Rattle.tree.proofs.Laws.Renumbered.{directory-is}
use Rattle.tree.specs.Inner.WellFormed.{IsWellFormed}
use Rattle.tree.specs.Lookup.{is_directory, is_staying, is_going_back, child_of}
use Rattle.tree.specs.Insert.{insert_at, empty_directory}
use Rattle.tree.proofs.Laws.LookupLaws.{child-inside}
use Rattle.tree.proofs.Laws.WellNested.{next-bounds}
use Rattle.tree.proofs.Laws.InsertLaws.{length-insert}
use Rattle.tree.proofs.Laws.Growing.{Bigger, bigger-same, bigger-trans, bigger-insert}
use Rattle.edit_rules.specs.Edits.{new_number, stopped, made, made_step_back, if_found, make}
use Rattle.edit_rules.proofs.Laws.Making.{or-not}

-- ---- the tree that is made is one that the tree grew into

-- a bad name is not forgotten
pub bad-is_staying : (cs : List (List ℕ)) (M : List Node) (trail : List ℕ) (k : ℕ) (F : List Node) (j : ℕ) → make M trail k true cs ≡ made F j false → ⊥
unfolding make
bad-is_staying [] M trail k F j e = go (is_directory (get_or M k empty_root)) e
  where
    go : (t : Bool) → cond t (made M k true) (stopped ExpectedDirectory) ≡ made F j false → ⊥
    go true q = let z : ◌≡◌ {A = ℕ} 0 1 = cc in omega arith
    go false q = let z : ◌≡◌ {A = ℕ} 0 1 = cc in omega arith
bad-is_staying (c ∷ cs) M trail k F j e = go (is_directory (get_or M k empty_root)) (is_staying c) (is_going_back c) trail (child_of M k c) (is_safe c) (λ m t i. bad-is_staying cs m t i F j) e
  where
    go : (t u v : Bool) (tr : List ℕ) (a : Result ℕ Refusal) (w : Bool) → ((m : List Node) (t : List ℕ) (i : ℕ) → make m t i true cs ≡ made F j false → ⊥) →
        cond t (cond u (make M trail k true cs) (cond v (made_step_back tr (λ i rest. make M rest i true cs)) (if_found a (λ i. make M (k ∷ trail) i true cs)
        (cond w (make (insert_at k (empty_directory c (new_number M k)) M) (k ∷ trail) (new_number M k) true cs) (stopped UnsafeName))))) (stopped ExpectedDirectory) ≡ made F j false → ⊥
    go false u v tr a w ih q = let z : ◌≡◌ {A = ℕ} 0 1 = cc in omega arith
    go true true v tr a w ih q = ih M trail k q
    go true false true [] a w ih q = let z : ◌≡◌ {A = ℕ} 0 1 = cc in omega arith
    go true false true (i ∷ rest) a w ih q = ih M rest i q
    go true false false tr (Ok i) w ih q = ih M (k ∷ trail) i q
    go true false false tr (Err r) true ih q = ih (insert_at k (empty_directory c (new_number M k)) M) (k ∷ trail) (new_number M k) q
    go true false false tr (Err r) false ih q = let z : ◌≡◌ {A = ℕ} 0 1 = cc in omega arith

abbrev pub AllLt : ℕ → List ℕ → Type 0
AllLt n [] = Unit {0}
AllLt n (t ∷ trail) = (t < n) × AllLt n trail

lt-more : (n m : ℕ) (trail : List ℕ) → n ≤ m → AllLt n trail → AllLt m trail
lt-more n m [] h a = tt
lt-more n m (t ∷ trail) h a = (omega arith, lt-more n m trail h a.1)

grows : (cs : List (List ℕ)) (M : List Node) (trail : List ℕ) (k : ℕ) (bad : Bool) (F : List Node) (j : ℕ) → IsWellFormed M → k < length M → AllLt (length M) trail →
    make M trail k bad cs ≡ made F j false → Bigger M F × (j < length F)
unfolding make
grows [] M trail k bad F j w h a e = go (is_directory (get_or M k empty_root)) e
  where
    go : (t : Bool) → cond t (made M k bad) (stopped ExpectedDirectory) ≡ made F j false → Bigger M F × (j < length F)
    go true q =
        let m : M ≡ F = cc in
        let k≡ : k ≡ j = cc in
        rw (← m, ← k≡) (bigger-same M w, h)
    go false q = let z : ◌≡◌ {A = ℕ} 0 1 = cc in absurd (omega arith)
grows (c ∷ cs) M trail k bad F j w h a e =
    go (is_directory (get_or M k empty_root)) refl (is_staying c) (is_going_back c) trail a (child_of M k c) refl (is_safe c) refl (λ m t i b. grows cs m t i b F j) e
  where
    more : (nm : List ℕ) → get_or M k empty_root ≡ directory nm (new_number M k) → is_safe c ≡ true → (b : Bool) → is_plain c ≡ b →
        ((m : List Node) (t : List ℕ) (i : ℕ) (bd : Bool) → IsWellFormed m → i < length m → AllLt (length m) t → make m t i bd cs ≡ made F j false → Bigger m F × (j < length F)) →
        make (insert_at k (empty_directory c (new_number M k)) M) (k ∷ trail) (new_number M k) (bad || not b) cs ≡ made F j false → Bigger M F × (j < length F)
    more nm d ok true pl ih q =
        let n : ℕ = new_number M k in
        let g : Bigger M (insert_at k (empty_directory c n) M) = bigger-insert M k n nm (empty_directory c n) w d h (pl, ok) refl in
        let l : length (insert_at k (empty_directory c n) M) ≡ suc (length M) = length-insert M k n nm (empty_directory c n) w d h in
        let b : (k < n) × (n ≤ length M) = next-bounds M k n nm w d h in
        let f = ih (insert_at k (empty_directory c n) M) (k ∷ trail) n (bad || false) g.well (omega arith) (omega arith, lt-more (length M) _ trail (omega arith) a) q in
        (bigger-trans M (insert_at k (empty_directory c n) M) F g f.0, f.1)
    more nm d ok false pl ih q = absurd (bad-is_staying cs (insert_at k (empty_directory c (new_number M k)) M) (k ∷ trail) (new_number M k) F j (rw (or-not bad false refl) at q))

    go : (t : Bool) → is_directory (get_or M k empty_root) ≡ t → (u v : Bool) (tr : List ℕ) → AllLt (length M) tr → (x : Result ℕ Refusal) → child_of M k c ≡ x → (y : Bool) → is_safe c ≡ y →
        ((m : List Node) (t : List ℕ) (i : ℕ) (bd : Bool) → IsWellFormed m → i < length m → AllLt (length m) t → make m t i bd cs ≡ made F j false → Bigger m F × (j < length F)) →
        cond t (cond u (make M trail k bad cs) (cond v (made_step_back tr (λ i rest. make M rest i bad cs)) (if_found x (λ i. make M (k ∷ trail) i bad cs)
        (cond y (make (insert_at k (empty_directory c (new_number M k)) M) (k ∷ trail) (new_number M k) (bad || not (is_plain c)) cs) (stopped UnsafeName))))) (stopped ExpectedDirectory) ≡ made F j false → Bigger M F × (j < length F)
    go false d u v tr al x x≡ y y≡ ih q = let z : ◌≡◌ {A = ℕ} 0 1 = cc in absurd (omega arith)
    go true d true v tr al x x≡ y y≡ ih q = ih M trail k bad w h a q
    go true d false true [] al x x≡ y y≡ ih q = let z : ◌≡◌ {A = ℕ} 0 1 = cc in absurd (omega arith)
    go true d false true (i ∷ rest) al x x≡ y y≡ ih q = ih M rest i bad w al.0 al.1 q
    go true d false false tr al (Ok i) x≡ y y≡ ih q = ih M (k ∷ trail) i bad w (child-inside M k c i w h x≡) (h, a) q
    go true d false false tr al (Err r) x≡ true y≡ ih q = let n = directory-is (get_or M k empty_root) d in more n.0 n.1 y≡ (is_plain c) refl ih q
    go true d false false tr al (Err r) x≡ false y≡ ih q = let z : ◌≡◌ {A = ℕ} 0 1 = cc in absurd (omega arith)

-- so a tree on the way that passes a limit makes the last one pass it, and one that has no room leaves none for the last
pub make-grows : (nodes : List Node) (trail : List ℕ) (k : ℕ) (bad : Bool) (cs : List (List ℕ)) (F : List Node) (j : ℕ) → IsWellFormed nodes → k < length nodes → AllLt (length nodes) trail →
    make nodes trail k bad cs ≡ made F j false → Bigger nodes F × (j < length F)
make-grows nodes trail k bad cs F j w h a e = grows cs nodes trail k bad F j w h a e
