-- The tree that make-directories leaves is well-formed and has the same files. Assumes nothing.
use Rattle.std.specs.Prelude.{Result, Ok, Err}
use Prim.Native.Nat.{ℕ, zero, suc, ◌+◌, ◌-◌, ◌<◌, ◌≤◌}
use Rattle.std.specs.Prelude.{◌≡◌, Bool, true, false, cond, ◌||◌, length, get_or}
use Rattle.std.proofs.Math.Path.{refl}
use Rattle.std.proofs.Common.{◌∙◌, arith}
use Rattle.std.proofs.Math.Bool.{not}
use Rattle.std.proofs.lemmas.Bool.{false≢true}
use mathlib.Core.List.{List, [], ◌∷◌}
use Rattle.refusal.specs.declared.Refusal.{Refusal}
use Rattle.refusal.specs.declared.Refusal.TheVariants.{NotFound, ExpectedDirectory, UnsafeName}
use Rattle.tree.specs.Table.{Node, empty_root, is_plain, is_safe}
use Rattle.tree.proofs.Laws.Renumbered.{directory-is}
use Rattle.tree.specs.Inner.WellFormed.{IsWellFormed}
use Rattle.tree.specs.Lookup.{is_directory, is_staying, is_going_back, is_child_named, first_child, child_of}
use Rattle.tree.specs.Insert.{insert_at, empty_directory}
use Rattle.tree.proofs.Laws.WellNested.{next-bounds}
use Rattle.tree.proofs.Laws.InsertLaws.{length-insert, insert-sound}
use Rattle.edit_rules.specs.Edits.{new_number, Made, stopped, made, made_step_back, if_found, make}
use Rattle.ledger.specs.Ledger.{made_nodes}
use Rattle.ledger.specs.Inner.Files.{pick}
use Rattle.ledger.proofs.Laws.Files.{insert-directory}

-- ---- what a step of the walk that comes to an end was

made-not-stopped : {P : Type 0} (c : Refusal) (nodes : List Node) (k : ℕ) (b : Bool) → stopped c ≡ made nodes k b → P
made-not-stopped c nodes k b e = let z : ◌≡◌ {A = ℕ} 0 1 = cc in absurd (omega arith)

module _ {P : Type 0} (m : Made) where
  cond_cases : (a : Bool) (x y : Made) → (a ≡ true → x ≡ m → P) → (a ≡ false → y ≡ m → P) → cond a x y ≡ m → P
  cond_cases true x y f g e = f refl e
  cond_cases false x y f g e = g refl e

  found-cases : (l : Result ℕ Refusal) (f : ℕ → Made) (missing : Made) → ((j : ℕ) → l ≡ Ok j → f j ≡ m → P) → (missing ≡ m → P) → if_found l f missing ≡ m → P
  found-cases (Ok j) f missing g h e = g j refl e
  found-cases (Err c) f missing g h e = h e

-- each is below n
abbrev AllBelow : ℕ → List ℕ → Type 0
AllBelow n [] = Unit {0}
AllBelow n (k ∷ ks) = (k < n) × AllBelow n ks

below_more : (n m : ℕ) (ks : List ℕ) → n ≤ m → AllBelow n ks → AllBelow m ks
below_more n m [] h b = tt
below_more n m (k ∷ ks) h b = (omega arith, below_more n m ks h b.1)

back-cases : {P : Type 0} (nodes : List Node) (k : ℕ) (b : Bool) (n : ℕ) (trail : List ℕ) (f : ℕ → List ℕ → Made) → AllBelow n trail →
    ((j : ℕ) (rest : List ℕ) → j < n → AllBelow n rest → f j rest ≡ made nodes k b → P) → made_step_back trail f ≡ made nodes k b → P
back-cases nodes k b n [] f t g e = made-not-stopped NotFound nodes k b e
back-cases nodes k b n (j ∷ rest) f t g e = g j rest t.0 t.1 e

-- ---- a child's number

first_below : (nodes : List Node) (d : ℕ) (nm : List ℕ) (k n j : ℕ) → first_child nodes d nm k n ≡ Ok j → j < k + n
unfolding first_child
first_below nodes d nm k zero j e = let z : ◌≡◌ {A = ℕ} 0 1 = cc in absurd (omega arith)
first_below nodes d nm k (suc n) j e = go (is_child_named nodes d nm k) e (first_below nodes d nm (suc k) n j)
  where
    go : (a : Bool) → cond a (Ok k) (first_child nodes d nm (suc k) n) ≡ Ok j → (first_child nodes d nm (suc k) n ≡ Ok j → j < suc k + n) → j < k + suc n
    go true q h = let z : k ≡ j = cc in omega arith
    go false q h = omega (arith, h q)

module _ (nodes : List Node) (w : IsWellFormed nodes) (k : ℕ) (l : k < length nodes) (d : is_directory (get_or nodes k empty_root) ≡ true) where
  next-in : (k < new_number nodes k) × (new_number nodes k ≤ length nodes)
  next-in = let x = directory-is (get_or nodes k empty_root) d in next-bounds nodes k (new_number nodes k) x.0 w x.1 l

  child-in : (nm : List ℕ) (j : ℕ) → child_of nodes k nm ≡ Ok j → j < length nodes
  unfolding child_of
  child-in nm j e = omega (arith, first_below nodes k nm (suc k) (new_number nodes k - suc k) j e, next-in.0, next-in.1)

  made-well : (nm : List ℕ) → is_plain nm ≡ true → is_safe nm ≡ true → IsWellFormed (insert_at k (empty_directory nm (new_number nodes k)) nodes)
  made-well nm p s =
      let x = directory-is (get_or nodes k empty_root) d in
      insert-sound nodes k (new_number nodes k) x.0 (empty_directory nm (new_number nodes k)) w x.1 l (p, s) refl

  made-length : (nm : List ℕ) → length (insert_at k (empty_directory nm (new_number nodes k)) nodes) ≡ suc (length nodes)
  made-length nm =
      let x = directory-is (get_or nodes k empty_root) d in
      length-insert nodes k (new_number nodes k) x.0 (empty_directory nm (new_number nodes k)) w x.1 l

-- ---- the walk

-- a bad byte is not forgotten
is_staying-bad : (nodes : List Node) (trail : List ℕ) (k : ℕ) (cs : List (List ℕ)) (new : List Node) (j : ℕ) (b : Bool) → make nodes trail k true cs ≡ made new j b → b ≡ true
unfolding make
is_staying-bad nodes trail k [] new j b e =
    cond_cases (made new j b) (is_directory (get_or nodes k empty_root)) (made nodes k true) (stopped ExpectedDirectory) (λ d q. cc) (λ d q. made-not-stopped ExpectedDirectory new j b q) e
is_staying-bad nodes trail k (c ∷ cs) new j b e =
    let q : ℕ = new_number nodes k in
    let x₁ : Made = make nodes trail k true cs in
    let x₂ : Made = made_step_back trail (λ i rest. make nodes rest i true cs) in
    let x₄ : Made = make (insert_at k (empty_directory c q) nodes) (k ∷ trail) q true cs in
    let x₃ : Made = if_found (child_of nodes k c) (λ i. make nodes (k ∷ trail) i true cs) (cond (is_safe c) x₄ (stopped UnsafeName)) in
    cond_cases (made new j b) (is_directory (get_or nodes k empty_root)) (cond (is_staying c) x₁ (cond (is_going_back c) x₂ x₃)) (stopped ExpectedDirectory)
    (λ d e₁. cond_cases (made new j b) (is_staying c) x₁ (cond (is_going_back c) x₂ x₃) (λ z e₂. is_staying-bad nodes trail k cs new j b e₂)
    (λ z e₂. cond_cases (made new j b) (is_going_back c) x₂ x₃ (λ y e₃. back trail (λ i rest. is_staying-bad nodes rest i cs new j b) e₃)
    (λ y e₃. found-cases (made new j b) (child_of nodes k c) (λ i. make nodes (k ∷ trail) i true cs) (cond (is_safe c) x₄ (stopped UnsafeName)) (λ i a e₄. is_staying-bad nodes (k ∷ trail) i cs new j b e₄)
    (λ e₄. cond_cases (made new j b) (is_safe c) x₄ (stopped UnsafeName) (λ s e₅. is_staying-bad (insert_at k (empty_directory c q) nodes) (k ∷ trail) q cs new j b e₅)
    (λ s e₅. made-not-stopped UnsafeName new j b e₅) e₄) e₃) e₂) e₁)
    (λ d e₁. made-not-stopped ExpectedDirectory new j b e₁) e
  where
    back : (t : List ℕ) → ((i : ℕ) (rest : List ℕ) → make nodes rest i true cs ≡ made new j b → b ≡ true) → made_step_back t (λ i rest. make nodes rest i true cs) ≡ made new j b → b ≡ true
    back [] f q = made-not-stopped NotFound new j b q
    back (i ∷ rest) f q = f i rest q

-- what is picked of the files is that of the tree before
abbrev Same : {A : Type 0} → (List ℕ → ℕ → ℕ → A) → List Node → Made → Type 0
Same g nodes (stopped c) = Unit {0}
Same g nodes (made new k bad) = pick g new ≡ pick g nodes

module _ {A : Type 0} (g : List ℕ → ℕ → ℕ → A) where
  same_cond : (nodes : List Node) (a : Bool) (x y : Made) → Same g nodes x → Same g nodes y → Same g nodes (cond a x y)
  same_cond nodes true x y s t = s
  same_cond nodes false x y s t = t

  same_back : (nodes : List Node) (trail : List ℕ) (f : ℕ → List ℕ → Made) → ((j : ℕ) (rest : List ℕ) → Same g nodes (f j rest)) → Same g nodes (made_step_back trail f)
  same_back nodes [] f s = tt
  same_back nodes (j ∷ rest) f s = s j rest

  same-found : (nodes : List Node) (l : Result ℕ Refusal) (f : ℕ → Made) (x : Made) → ((j : ℕ) → Same g nodes (f j)) → Same g nodes x → Same g nodes (if_found l f x)
  same-found nodes (Ok j) f x s t = s j
  same-found nodes (Err c) f x s t = t

  same_more : (nodes more : List Node) (m : Made) → pick g more ≡ pick g nodes → Same g more m → Same g nodes m
  same_more nodes more (stopped c) e s = tt
  same_more nodes more (made new k bad) e s = s ∙ e

  make_same : (nodes : List Node) (trail : List ℕ) (k : ℕ) (bad : Bool) (cs : List (List ℕ)) → Same g nodes (make nodes trail k bad cs)
  unfolding make
  make_same nodes trail k bad [] = same_cond nodes (is_directory (get_or nodes k empty_root)) (made nodes k bad) (stopped ExpectedDirectory) refl tt
  make_same nodes trail k bad (c ∷ cs) =
      let q : ℕ = new_number nodes k in
      let x₁ : Made = make nodes trail k bad cs in
      let x₂ : Made = made_step_back trail (λ i rest. make nodes rest i bad cs) in
      let x₄ : Made = make (insert_at k (empty_directory c q) nodes) (k ∷ trail) q (bad || not (is_plain c)) cs in
      let x₃ : Made = if_found (child_of nodes k c) (λ i. make nodes (k ∷ trail) i bad cs) (cond (is_safe c) x₄ (stopped UnsafeName)) in
      same_cond nodes (is_directory (get_or nodes k empty_root)) (cond (is_staying c) x₁ (cond (is_going_back c) x₂ x₃)) (stopped ExpectedDirectory)
      (same_cond nodes (is_staying c) x₁ (cond (is_going_back c) x₂ x₃) (make_same nodes trail k bad cs)
      (same_cond nodes (is_going_back c) x₂ x₃ (same_back nodes trail (λ i rest. make nodes rest i bad cs) (λ i rest. make_same nodes rest i bad cs))
      (same-found nodes (child_of nodes k c) (λ i. make nodes (k ∷ trail) i bad cs) (cond (is_safe c) x₄ (stopped UnsafeName)) (λ i. make_same nodes (k ∷ trail) i bad cs)
      (same_cond nodes (is_safe c) x₄ (stopped UnsafeName)
      (same_more nodes (insert_at k (empty_directory c q) nodes) x₄ (insert-directory g k c (suc q) nodes) (make_same (insert_at k (empty_directory c q) nodes) (k ∷ trail) q (bad || not (is_plain c)) cs)) tt)))) tt

  -- LAW: make-directories leaves the files as they are
  pub made-same : (nodes : List Node) (start : ℕ) (cs : List (List ℕ)) → pick g (made_nodes nodes (make nodes [] start false cs)) ≡ pick g nodes
  made-same nodes start cs = go (make nodes [] start false cs) (make_same nodes [] start false cs)
    where
      go : (m : Made) → Same g nodes m → pick g (made_nodes nodes m) ≡ pick g nodes
      go (stopped c) s = refl
      go (made new k bad) s = s

make-good : (nodes : List Node) (trail : List ℕ) (k : ℕ) (bad : Bool) (cs : List (List ℕ)) (new : List Node) (j : ℕ) → IsWellFormed nodes → k < length nodes → AllBelow (length nodes) trail →
    make nodes trail k bad cs ≡ made new j false → IsWellFormed new
unfolding make
make-good nodes trail k bad [] new j w l t e =
    cond_cases (made new j false) (is_directory (get_or nodes k empty_root)) (made nodes k bad) (stopped ExpectedDirectory)
    (λ d q. let z : nodes ≡ new = cc in rw z at w) (λ d q. made-not-stopped ExpectedDirectory new j false q) e
make-good nodes trail k bad (c ∷ cs) new j w l t e =
    let m : Made = made new j false in
    let q : ℕ = new_number nodes k in
    let x₁ : Made = make nodes trail k bad cs in
    let x₂ : Made = made_step_back trail (λ i rest. make nodes rest i bad cs) in
    let x₄ : Made = make (insert_at k (empty_directory c q) nodes) (k ∷ trail) q (bad || not (is_plain c)) cs in
    let x₃ : Made = if_found (child_of nodes k c) (λ i. make nodes (k ∷ trail) i bad cs) (cond (is_safe c) x₄ (stopped UnsafeName)) in
    cond_cases m (is_directory (get_or nodes k empty_root)) (cond (is_staying c) x₁ (cond (is_going_back c) x₂ x₃)) (stopped ExpectedDirectory)
    (λ d e₁. cond_cases m (is_staying c) x₁ (cond (is_going_back c) x₂ x₃) (λ z e₂. make-good nodes trail k bad cs new j w l t e₂)
    (λ z e₂. cond_cases m (is_going_back c) x₂ x₃
    (λ y e₃. back-cases new j false (length nodes) trail (λ i rest. make nodes rest i bad cs) t (λ i rest h r e₄. make-good nodes rest i bad cs new j w h r e₄) e₃)
    (λ y e₃. found-cases m (child_of nodes k c) (λ i. make nodes (k ∷ trail) i bad cs) (cond (is_safe c) x₄ (stopped UnsafeName))
    (λ i a e₄. make-good nodes (k ∷ trail) i bad cs new j w (child-in nodes w k l d c i a) (l, t) e₄)
    (λ e₄. cond_cases m (is_safe c) x₄ (stopped UnsafeName)
    (λ s e₅. added d s (is_plain c) refl e₅
    (λ p e₆. make-good (insert_at k (empty_directory c q) nodes) (k ∷ trail) q (bad || not (is_plain c)) cs new j (made-well nodes w k l d c p s)
    (rw (made-length nodes w k l d c) (omega (arith, (next-in nodes w k l d).1)))
    (rw (made-length nodes w k l d c) (omega arith), below_more (length nodes) (length (insert_at k (empty_directory c q) nodes)) trail (rw (made-length nodes w k l d c) (omega arith)) t) e₆))
    (λ s e₅. made-not-stopped UnsafeName new j false e₅) e₄) e₃) e₂) e₁)
    (λ d e₁. made-not-stopped ExpectedDirectory new j false e₁) e
  where
    or-true : (a : Bool) → (a || true) ≡ true
    or-true true = refl
    or-true false = refl

    added : is_directory (get_or nodes k empty_root) ≡ true → is_safe c ≡ true → (a : Bool) → is_plain c ≡ a →
        make (insert_at k (empty_directory c (new_number nodes k)) nodes) (k ∷ trail) (new_number nodes k) (bad || not (is_plain c)) cs ≡ made new j false →
        (is_plain c ≡ true → make (insert_at k (empty_directory c (new_number nodes k)) nodes) (k ∷ trail) (new_number nodes k) (bad || not (is_plain c)) cs ≡ made new j false →
        IsWellFormed new) → IsWellFormed new
    added d s true p e₅ f = f p e₅
    added d s false p e₅ f =
        let e₆ : make (insert_at k (empty_directory c (new_number nodes k)) nodes) (k ∷ trail) (new_number nodes k) true cs ≡ made new j false = rw (p, or-true bad) at e₅ in
        absurd (false≢true (is_staying-bad (insert_at k (empty_directory c (new_number nodes k)) nodes) (k ∷ trail) (new_number nodes k) cs new j false e₆))

-- LAW: and a well-formed tree
pub made-good : (nodes : List Node) (start : ℕ) (cs : List (List ℕ)) (new : List Node) (j : ℕ) → IsWellFormed nodes → start < length nodes → make nodes [] start false cs ≡ made new j false → IsWellFormed new
made-good nodes start cs new j w l e = make-good nodes [] start false cs new j w l tt e
