-- In a tree whose siblings differ in their names each entry is found by its path. Assumes nothing.
use Rattle.std.specs.Prelude.{Ok, ℕ, zero, suc, ◌<◌, ◌≡◌, refl, true, List, [], ◌∷◌, ◌++◌, length, get_or}
use Rattle.std.proofs.Common.{sym, ap, ◌∙◌, arith, eq-eqb, ltb-true}
use Rattle.std.proofs.lemmas.Bool.{false≢true}
use Rattle.std.proofs.lemmas.List.{append_assoc, append-nil}
use Rattle.endian.specs.Laws.Stored.{same_refl}
use Rattle.refusal.specs.Laws.Tests.{is_false}
use Rattle.tree.specs.Table.{Node, file, directory, name_of, empty_root, is_enclosing, parent_of}
use Rattle.tree.specs.Inner.WellFormed.{IsWellFormed}
use Rattle.tree.specs.Lookup.{is_directory, next_of, is_child_named, child_of, lookup}
use Rattle.tree.proofs.Laws.Nesting.{parent-before}
use Rattle.tree.proofs.Laws.WellNested.{root_is, not-empty, name-good, parent-inside}
use Rattle.tree.proofs.Laws.Children.{named, child-at}
use Rattle.tree.proofs.Laws.Paths.{lookup-child, lookup-behind}
use Rattle.listing.specs.Lines.{ending, path_of}
use Rattle.listing.proofs.Paths.{path-root, path-step}

-- entries of one directory differ in their names
abbrev pub SiblingsDiffer : List Node → Type 0
SiblingsDiffer nodes = (j k : ℕ) → 0 < j → j < length nodes → 0 < k → k < length nodes → parent_of nodes j ≡ parent_of nodes k →
    name_of (get_or nodes j empty_root) ≡ name_of (get_or nodes k empty_root) → j ≡ k

-- what has something inside it is a directory, and what is inside lies before its next
enclosing-directory : (x : Node) (k : ℕ) → is_enclosing x k ≡ true → (is_directory x ≡ true) × (k < next_of x)
enclosing-directory (file nm offset size) k e = absurd (false≢true e)
enclosing-directory (directory nm next) k e = (refl, ltb-true k next e)

directory-ending : (x : Node) → is_directory x ≡ true → ending x ≡ 0x2F ∷ []
directory-ending (file nm offset size) e = absurd (false≢true e)
directory-ending (directory nm next) e = refl

module _ (nodes : List Node) (w : IsWellFormed nodes) (differ : SiblingsDiffer nodes) where
  -- LAW: an entry is the first child with its name
  child-itself : (k : ℕ) → 0 < k → k < length nodes → child_of nodes (parent_of nodes k) (name_of (get_or nodes k empty_root)) ≡ Ok k
  child-itself k h l =
      let i = parent-inside nodes k w h l in
      child-at nodes (parent_of nodes k) (name_of (get_or nodes k empty_root)) k i.0 (enclosing-directory (get_or nodes (parent_of nodes k) empty_root) k i.1).1
      (rw (eq-eqb (parent_of nodes k) (parent_of nodes k) refl) (same_refl (name_of (get_or nodes k empty_root))))
      (λ j a b. is_false (is_child_named nodes (parent_of nodes k) (name_of (get_or nodes k empty_root)) j)
      (λ e.
      let n = named nodes (parent_of nodes k) (name_of (get_or nodes k empty_root)) j e in
      let j≡ : j ≡ k = differ j k (omega arith) (omega arith) h l n.0 n.1 in
      omega arith))

  -- its path without the leading `/` and a directory's last one leads to it
  pub record IsLed (k : ℕ) : Type 0 where
    pub bare : List ℕ
    pub path : path_of nodes k ≡ 0x2F ∷ (bare ++ ending (get_or nodes k empty_root))
    pub found : lookup nodes 0 bare ≡ Ok k

  led-child : (k : ℕ) → 0 < k → k < length nodes → parent_of nodes k ≡ 0 → IsLed k
  led-child k h l p =
      let name : List ℕ = name_of (get_or nodes k empty_root) in
      record {
        bare = name;
        path = path-step nodes k h ∙ rw (p, path-root 0 nodes 0 refl);
        found = lookup-child nodes 0 name k (rw (root_is nodes w) refl) (name-good nodes k w h l).1 (rw p at (child-itself k h l)) (not-empty nodes w);
      }

  led-behind : (k : ℕ) → 0 < k → k < length nodes → IsLed (parent_of nodes k) → IsLed k
  led-behind k h l g =
      let name : List ℕ = name_of (get_or nodes k empty_root) in
      let i = parent-inside nodes k w h l in
      let d : is_directory (get_or nodes (parent_of nodes k) empty_root) ≡ true = (enclosing-directory (get_or nodes (parent_of nodes k) empty_root) k i.1).0 in
      record {
        bare = g.bare ++ (0x2F ∷ name);
        path = path-step nodes k h ∙ rw (g.path, directory-ending (get_or nodes (parent_of nodes k) empty_root) d) (ap (λ (s : List ℕ). 0x2F ∷ s) (append_assoc g.bare (0x2F ∷ []) (name ++ ending (get_or nodes k empty_root)) ∙ sym (append_assoc g.bare (0x2F ∷ name) (ending (get_or nodes k empty_root)))));
        found = lookup-behind nodes (parent_of nodes k) name k d (name-good nodes k w h l).1 (child-itself k h l) 0 g.bare g.found;
      }

  led-below : (bound k : ℕ) → k < bound → 0 < k → k < length nodes → IsLed k
  led-below zero k b h l = absurd (omega arith)
  led-below (suc bound) k b h l = go (parent_of nodes k) refl (led-below bound (parent_of nodes k))
    where
      go : (p : ℕ) → parent_of nodes k ≡ p → (parent_of nodes k < bound → 0 < parent_of nodes k → parent_of nodes k < length nodes → IsLed (parent_of nodes k)) → IsLed k
      go zero e ih = led-child k h l e
      go (suc p) e ih = let a = parent-before nodes k h in led-behind k h l (ih (omega arith) (omega arith) (omega arith))

  -- LAW: each entry past the root is found by its path
  led : (k : ℕ) → 0 < k → k < length nodes → IsLed k
  led k h l = led-below (suc k) k (omega arith) h l

  -- LAW: a file's path is found as it stands
  pub file-found : (k : ℕ) (path name : List ℕ) (offset size : ℕ) → 0 < k → k < length nodes → get_or nodes k empty_root ≡ file name offset size → path_of nodes k ≡ 0x2F ∷ path → lookup nodes 0 path ≡ Ok k
  file-found k path name offset size h l e p =
      let g = led k h l in
      let q : 0x2F ∷ path ≡ 0x2F ∷ g.bare = sym p ∙ rw (e, append-nil g.bare) at g.path in
      let r : path ≡ g.bare = cc in
      rw r g.found
