-- Names, kinds and nesting do not depend on places: the tree without places is looked up, inserted in and walked as the tree itself.
-- Assumes nothing.
use Rattle.std.specs.Prelude.{Result, Ok, Err}
use Rattle.refusal.specs.declared.Refusal.{Refusal}
use Rattle.std.specs.Prelude.{ℕ, zero, suc, ◌-◌, ◌≡◌, refl, Bool, true, false, cond, not, ◌||◌, List, [], ◌∷◌, map, get_or, set}
use Rattle.std.proofs.Common.{sym, ap}
use Rattle.std.proofs.Math.ListN.{get_or-map}
use Rattle.refusal.specs.declared.Refusal.TheVariants.{ExpectedDirectory, UnsafeName}
use Rattle.tree.specs.Table.{Node, file, directory, empty_root, name_of, is_safe, is_plain, is_enclosing, parent_below, parent_of}
use Rattle.tree.specs.Lookup.{is_directory, next_of, is_staying, is_going_back, first_child, child_of}
use Rattle.tree.specs.Insert.{node_before, node_after, splice, insert_at, node_at_place, set_place, empty_directory}
use Rattle.edit_rules.specs.Edits.{new_number, Made, stopped, made, made_step_back, if_found, make}
use Rattle.ledger.specs.Ledger.{node_without_place, files_before, made_nodes}

-- ---- one entry

node_without_place-name : (x : Node) → name_of (node_without_place x) ≡ name_of x
node_without_place-name (file nm offset size) = refl
node_without_place-name (directory nm next) = refl

node_without_place-next : (x : Node) → next_of (node_without_place x) ≡ next_of x
node_without_place-next (file nm offset size) = refl
node_without_place-next (directory nm next) = refl

node_without_place-kind : (x : Node) → is_directory (node_without_place x) ≡ is_directory x
node_without_place-kind (file nm offset size) = refl
node_without_place-kind (directory nm next) = refl

node_without_place-is_enclosing : (x : Node) (k : ℕ) → is_enclosing (node_without_place x) k ≡ is_enclosing x k
node_without_place-is_enclosing (file nm offset size) k = refl
node_without_place-is_enclosing (directory nm next) k = refl

node_without_place-earlier : (p k : ℕ) (x : Node) → node_without_place (node_before p k x) ≡ node_before p k (node_without_place x)
node_without_place-earlier p k (file nm offset size) = refl
node_without_place-earlier p k (directory nm next) = refl

node_without_place-node_at_place : (o n : ℕ) (x : Node) → node_without_place (node_at_place o n x) ≡ node_at_place 0 n (node_without_place x)
node_without_place-node_at_place o n (file nm offset size) = refl
node_without_place-node_at_place o n (directory nm next) = refl

-- ---- entry k of the tree

module _ (nodes : List Node) (k : ℕ) where
  at_bare : get_or (map node_without_place nodes) k empty_root ≡ node_without_place (get_or nodes k empty_root)
  at_bare = get_or-map node_without_place nodes k empty_root

  pub next-node_without_place : next_of (get_or (map node_without_place nodes) k empty_root) ≡ next_of (get_or nodes k empty_root)
  next-node_without_place = rw at_bare (node_without_place-next (get_or nodes k empty_root))

  pub kind-node_without_place : is_directory (get_or (map node_without_place nodes) k empty_root) ≡ is_directory (get_or nodes k empty_root)
  kind-node_without_place = rw at_bare (node_without_place-kind (get_or nodes k empty_root))

  name-node_without_place : name_of (get_or (map node_without_place nodes) k empty_root) ≡ name_of (get_or nodes k empty_root)
  name-node_without_place = rw at_bare (node_without_place-name (get_or nodes k empty_root))

  is_enclosing-node_without_place : (m : ℕ) → is_enclosing (get_or (map node_without_place nodes) k empty_root) m ≡ is_enclosing (get_or nodes k empty_root) m
  is_enclosing-node_without_place m = rw at_bare (node_without_place-is_enclosing (get_or nodes k empty_root) m)

pub before-node_without_place : (k : ℕ) (xs : List Node) → files_before k (map node_without_place xs) ≡ files_before k xs
unfolding files_before
before-node_without_place zero xs = refl
before-node_without_place (suc k) [] = refl
before-node_without_place (suc k) (file nm offset size ∷ xs) = ap suc (before-node_without_place k xs)
before-node_without_place (suc k) (directory nm next ∷ xs) = before-node_without_place k xs

-- ---- nesting and lookup

below-node_without_place : (nodes : List Node) (k i : ℕ) → parent_below (map node_without_place nodes) k i ≡ parent_below nodes k i
unfolding parent_below
below-node_without_place nodes k zero = refl
below-node_without_place nodes k (suc i) = rw (is_enclosing-node_without_place nodes i k, below-node_without_place nodes k i)

parent-node_without_place : (nodes : List Node) (k : ℕ) → parent_of (map node_without_place nodes) k ≡ parent_of nodes k
unfolding parent_of
parent-node_without_place nodes k = below-node_without_place nodes k k

first-node_without_place : (nodes : List Node) (d : ℕ) (nm : List ℕ) (k n : ℕ) → first_child (map node_without_place nodes) d nm k n ≡ first_child nodes d nm k n
unfolding first_child
first-node_without_place nodes d nm k zero = refl
first-node_without_place nodes d nm k (suc n) = rw (parent-node_without_place nodes k, name-node_without_place nodes k, first-node_without_place nodes d nm (suc k) n)

child-node_without_place : (nodes : List Node) (d : ℕ) (nm : List ℕ) → child_of (map node_without_place nodes) d nm ≡ child_of nodes d nm
unfolding child_of
child-node_without_place nodes d nm = rw (next-node_without_place nodes d) (first-node_without_place nodes d nm (suc d) (next_of (get_or nodes d empty_root) - suc d))

-- ---- an entry put in, a place changed

later-node_without_place : (xs : List Node) → map node_without_place (map node_after xs) ≡ map node_after (map node_without_place xs)
later-node_without_place [] = refl
later-node_without_place (file nm offset size ∷ xs) = rw (later-node_without_place xs)
later-node_without_place (directory nm next ∷ xs) = rw (later-node_without_place xs)

splice-node_without_place : (p : ℕ) (new : Node) (k j : ℕ) (xs : List Node) → map node_without_place (splice p new k j xs) ≡ splice p (node_without_place new) k j (map node_without_place xs)
unfolding splice
splice-node_without_place p new k zero xs = rw (later-node_without_place xs)
splice-node_without_place p new k (suc j) [] = refl
splice-node_without_place p new k (suc j) (x ∷ xs) = rw (node_without_place-earlier p k x, splice-node_without_place p new (suc k) j xs)

pub insert-node_without_place : (p : ℕ) (new : Node) (nodes : List Node) → map node_without_place (insert_at p new nodes) ≡ insert_at p (node_without_place new) (map node_without_place nodes)
unfolding insert_at
insert-node_without_place p new nodes = rw (next-node_without_place nodes p) (splice-node_without_place p new 0 (next_of (get_or nodes p empty_root)) nodes)

set-node_without_place : (o n k : ℕ) (xs : List Node) → map node_without_place (set xs k (node_at_place o n (get_or xs k empty_root))) ≡ set (map node_without_place xs) k (node_at_place 0 n (get_or (map node_without_place xs) k empty_root))
set-node_without_place o n k [] = refl
set-node_without_place o n zero (x ∷ xs) = rw (node_without_place-node_at_place o n x)
set-node_without_place o n (suc k) (x ∷ xs) = rw (set-node_without_place o n k xs)

pub set_place-node_without_place : (o n k : ℕ) (nodes : List Node) → map node_without_place (set_place k o n nodes) ≡ set_place k 0 n (map node_without_place nodes)
unfolding set_place
set_place-node_without_place o n k nodes = set-node_without_place o n k nodes

-- a place changed and the size kept is no change of the tree without places
pub move-node_without_place : (o k : ℕ) (xs : List Node) (nm : List ℕ) (a n : ℕ) → get_or xs k empty_root ≡ file nm a n → map node_without_place (set_place k o n xs) ≡ map node_without_place xs
unfolding set_place
move-node_without_place o k [] nm a n e = refl
move-node_without_place o zero (x ∷ xs) nm a n e = rw e
move-node_without_place o (suc k) (x ∷ xs) nm a n e = rw (move-node_without_place o k xs nm a n e)

-- ---- make-directories

bare_made : Made → Made
bare_made (stopped c) = stopped c
bare_made (made nodes k bad) = made (map node_without_place nodes) k bad

new-node_without_place : (nodes : List Node) (k : ℕ) → new_number (map node_without_place nodes) k ≡ new_number nodes k
new-node_without_place nodes k = next-node_without_place nodes k

-- what the parts of a walk's step give
choose-node_without_place : (a : Bool) (x x' y y' : Made) → x ≡ bare_made x' → y ≡ bare_made y' → cond a x y ≡ bare_made (cond a x' y')
choose-node_without_place true x x' y y' p q = p
choose-node_without_place false x x' y y' p q = q

back-node_without_place : (trail : List ℕ) (f g : ℕ → List ℕ → Made) → ((j : ℕ) (rest : List ℕ) → f j rest ≡ bare_made (g j rest)) → made_step_back trail f ≡ bare_made (made_step_back trail g)
unfolding bare_made
back-node_without_place [] f g h = refl
back-node_without_place (j ∷ rest) f g h = h j rest

found-node_without_place : (l : Result ℕ Refusal) (f g : ℕ → Made) (x y : Made) → ((j : ℕ) → f j ≡ bare_made (g j)) → x ≡ bare_made y → if_found l f x ≡ bare_made (if_found l g y)
found-node_without_place (Ok k) f g x y h e = h k
found-node_without_place (Err c) f g x y h e = e

make-node_without_place : (nodes : List Node) (trail : List ℕ) (k : ℕ) (bad : Bool) (cs : List (List ℕ)) → make (map node_without_place nodes) trail k bad cs ≡ bare_made (make nodes trail k bad cs)
unfolding make bare_made
make-node_without_place nodes trail k bad [] = rw (kind-node_without_place nodes k) (choose-node_without_place (is_directory (get_or nodes k empty_root)) _ (made nodes k bad) _ (stopped ExpectedDirectory) refl refl)
make-node_without_place nodes trail k bad (c ∷ cs) =
    let q : ℕ = new_number nodes k in
    let i : insert_at k (empty_directory c q) (map node_without_place nodes) ≡ map node_without_place (insert_at k (empty_directory c q) nodes) = sym (insert-node_without_place k (empty_directory c q) nodes) in
    let x₁ : Made = make nodes trail k bad cs in
    let x₂ : Made = made_step_back trail (λ j rest. make nodes rest j bad cs) in
    let x₄ : Made = make (insert_at k (empty_directory c q) nodes) (k ∷ trail) q (bad || not (is_plain c)) cs in
    let x₃ : Made = if_found (child_of nodes k c) (λ j. make nodes (k ∷ trail) j bad cs) (cond (is_safe c) x₄ (stopped UnsafeName)) in
    rw (kind-node_without_place nodes k, child-node_without_place nodes k c, next-node_without_place nodes k, i)
    (choose-node_without_place (is_directory (get_or nodes k empty_root)) _ (cond (is_staying c) x₁ (cond (is_going_back c) x₂ x₃)) _ (stopped ExpectedDirectory)
    (choose-node_without_place (is_staying c) _ x₁ _ (cond (is_going_back c) x₂ x₃) (make-node_without_place nodes trail k bad cs)
    (choose-node_without_place (is_going_back c) _ x₂ _ x₃ (back-node_without_place trail (λ j rest. make (map node_without_place nodes) rest j bad cs) (λ j rest. make nodes rest j bad cs) (λ j rest. make-node_without_place nodes rest j bad cs))
    (found-node_without_place (child_of nodes k c) (λ j. make (map node_without_place nodes) (k ∷ trail) j bad cs) (λ j. make nodes (k ∷ trail) j bad cs) _ (cond (is_safe c) x₄ (stopped UnsafeName)) (λ j. make-node_without_place nodes (k ∷ trail) j bad cs)
    (choose-node_without_place (is_safe c) _ x₄ _ (stopped UnsafeName) (make-node_without_place (insert_at k (empty_directory c q) nodes) (k ∷ trail) q (bad || not (is_plain c)) cs) refl))))
    refl)

nodes-node_without_place : (nodes : List Node) (m : Made) → made_nodes (map node_without_place nodes) (bare_made m) ≡ map node_without_place (made_nodes nodes m)
unfolding bare_made
nodes-node_without_place nodes (stopped c) = refl
nodes-node_without_place nodes (made new k bad) = refl

pub made-node_without_place : (nodes : List Node) (start : ℕ) (cs : List (List ℕ)) → made_nodes (map node_without_place nodes) (make (map node_without_place nodes) [] start false cs) ≡ map node_without_place (made_nodes nodes (make nodes [] start false cs))
made-node_without_place nodes start cs = rw (make-node_without_place nodes [] start false cs) (nodes-node_without_place nodes (make nodes [] start false cs))
