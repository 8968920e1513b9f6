-- An insert's number: in the tree afterwards `lookup` of the name from the parent, and of the parent's path and the name, finds exactly it,
-- and the entry there is the new one. Assumes nothing.
use Rattle.std.specs.Prelude.{Result, Ok, Err, is_ok}
use Rattle.std.specs.Prelude.{ℕ, ◌<◌, ◌≡◌, refl, true, false, not, List, ◌∷◌, ◌++◌, length, get_or, leb}
use Rattle.std.proofs.Common.{◌∙◌, arith, leb-false}
use Rattle.std.proofs.lemmas.Bool.{not-false}
use Rattle.refusal.specs.declared.Refusal.{Refusal}
use Rattle.refusal.specs.declared.Refusal.TheVariants.{UnsafeName, NoSuchEntry, ExpectedDirectory, AlreadyExists}
use Rattle.refusal.specs.Laws.Chains.{refuse-passed}
use Rattle.tree.specs.Table.{Node, directory, name_of, empty_root, is_safe}
use Rattle.tree.specs.Lookup.{is_directory, child_of, lookup}
use Rattle.tree.specs.Insert.{insert_at, number_after_insert}
use Rattle.tree.proofs.Laws.InsertedList.{IsNested, Fresh, inserted-at, p<q}
use Rattle.tree.proofs.Laws.ChildInsert.{number_after_insert-low, child-new}
use Rattle.edit_rules.specs.Edits.{new_number, insert_verdict}
use Rattle.tree.proofs.Laws.Renumbered.{directory-is, Renumbered, renumbered-insert, looked-up}
use Rattle.tree.proofs.Laws.Paths.{lookup-child, lookup-behind}

-- what an insert's tests leave: the parent is a directory of the tree, and no child of it has the name, which is safe
record Open (nodes : List Node) (p : ℕ) (nm : List ℕ) : Type 0 where
  inside : p < length nodes
  good : is_safe nm ≡ true
  parent : is_directory (get_or nodes p empty_root) ≡ true
  cause : Refusal
  missing : child_of nodes p nm ≡ Err cause

opened : (nodes : List Node) (p : ℕ) (nm : List ℕ) → insert_verdict nodes p nm ≡ Ok tt → Open nodes p nm
unfolding insert_verdict
opened nodes p nm v =
    let v₁ = refuse-passed (leb (length nodes) p) NoSuchEntry _ v in
    let v₂ = refuse-passed (not (is_safe nm)) UnsafeName _ v₁.1 in
    let v₃ = refuse-passed (not (is_directory (get_or nodes p empty_root))) ExpectedDirectory _ v₂.1 in
    let v₄ = refuse-passed (is_ok (child_of nodes p nm)) AlreadyExists _ v₃.1 in
    let m = missing (child_of nodes p nm) v₄.0 in
    record { inside = leb-false _ _ v₁.0; good = not-false (is_safe nm) v₂.0; parent = not-false (is_directory (get_or nodes p empty_root)) v₃.0; cause = m.0; missing = m.1 }
  where
    missing : (a : Result ℕ Refusal) → is_ok a ≡ false → (r : Refusal) × (a ≡ Err r)
    missing (Ok k) e = let z : ◌≡◌ {A = ℕ} 0 1 = cc in absurd (omega arith)
    missing (Err r) e = (r, refl)

module _ (nodes : List Node) (w : IsNested nodes) (p : ℕ) (new : Node) (v : insert_verdict nodes p (name_of new) ≡ Ok tt) (fresh : Fresh (new_number nodes p) new) where
  abbrev q : ℕ
  q = new_number nodes p

  o : Open nodes p (name_of new)
  o = opened nodes p (name_of new) v

  dir : (nm : List ℕ) × (get_or nodes p empty_root ≡ directory nm q)
  dir = directory-is (get_or nodes p empty_root) o.parent

  low : number_after_insert q p ≡ p
  low = number_after_insert-low q p (p<q nodes p q dir.0 new w dir.1 o.inside)

  numbers : Renumbered nodes (insert_at p new nodes) (number_after_insert q)
  numbers = renumbered-insert nodes p q dir.0 new w dir.1 o.inside fresh

  parent-there : (is_directory (get_or (insert_at p new nodes) p empty_root) ≡ true) × (p < length (insert_at p new nodes))
  parent-there = (rw low at (numbers.kinds p o.inside) ∙ o.parent, rw low at (numbers.inside p o.inside))

  child : child_of (insert_at p new nodes) p (name_of new) ≡ Ok q
  child = child-new nodes p q dir.0 new w dir.1 o.inside fresh o.cause o.missing

  -- THEOREM: the entry with the number is the new one
  pub new-entry : get_or (insert_at p new nodes) q empty_root ≡ new
  new-entry = inserted-at nodes p q dir.0 new w dir.1 o.inside

  -- THEOREM: the name, from the parent, leads to it
  pub new-found : lookup (insert_at p new nodes) p (name_of new) ≡ Ok q
  new-found = lookup-child (insert_at p new nodes) p (name_of new) q parent-there.0 o.good child parent-there.1

  -- THEOREM: and so does a path that led to the parent, with the name behind it; the path's start may have moved
  pub new-behind : (start : ℕ) (path : List ℕ) → lookup nodes start path ≡ Ok p → lookup (insert_at p new nodes) (number_after_insert q start) (path ++ (0x2F ∷ name_of new)) ≡ Ok q
  new-behind start path e =
      lookup-behind (insert_at p new nodes) p (name_of new) q parent-there.0 o.good child (number_after_insert q start) path (rw low at (looked-up nodes (insert_at p new nodes) (number_after_insert q) w numbers start path p e))

  -- the root's number stays
  pub new-from-root : (path : List ℕ) → lookup nodes 0 path ≡ Ok p → lookup (insert_at p new nodes) 0 (path ++ (0x2F ∷ name_of new)) ≡ Ok q
  new-from-root path e =
      let z : number_after_insert q 0 ≡ 0 = number_after_insert-low q 0 (omega (arith, p<q nodes p q dir.0 new w dir.1 o.inside)) in
      rw z at (new-behind 0 path e)
