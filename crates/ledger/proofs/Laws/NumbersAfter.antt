-- The numbers that insert and make-directories answer, in the tree read from the image afterwards: an insert's is that of the new entry,
-- found under its name; make-directories' is what its path leads to. Assumes nothing.
use Rattle.std.specs.Prelude.{Result, Ok}
use Rattle.refusal.specs.declared.Refusal.{Refusal}
use Rattle.std.specs.Prelude.{ℕ, ◌<◌, ◌≡◌, true, length, get_or, ltb, leb}
use Rattle.std.proofs.Math.Path.{refl, ap}
use Rattle.std.proofs.Common.{◌∙◌, arith, leb-false}
use Rattle.std.proofs.Math.Bool.{false}
use mathlib.Core.List.{List, [], ◌∷◌, ◌++◌}
use Rattle.endian.specs.Bytes.{AllBytes}
use Rattle.refusal.specs.declared.Refusal.TheVariants.{LimitOrMemory, NoSuchEntry}
use Rattle.refusal.specs.Refusal.{refuse}
use Rattle.refusal.specs.Laws.Chains.{refuse-passed}
use Rattle.tree.specs.Table.{Node, name_of, empty_root}
use Rattle.tree.specs.Lookup.{is_directory, components, lookup}
use Rattle.tree.specs.Insert.{insert_at, empty_file, empty_directory}
use Rattle.tree.proofs.Laws.InsertedList.{IsNested, Fresh, well-nested}
use Rattle.opened.specs.Opening.{nodes_in, opening, disc_of}
use Rattle.edit_rules.specs.Change.{Plan, change}
use Rattle.edit_rules.specs.Edits.{Account, insert_file, insert_directory, make_directories, table_change, new_number, insert_verdict, Made, stopped, made, make, plan_made, plan_make_directories, plan_verdict, plan_tree, verdict_of, image_after, plan_number, plan_of, number_behind, Edit}
use Rattle.edit_rules.proofs.Laws.Accepted.{accepted}
use Rattle.ledger.specs.Ledger.{made_nodes}
use Rattle.ledger.proofs.Laws.Opened.{opened}
use Rattle.ledger.proofs.Laws.TreeAfter.{tree-after}
use Rattle.ledger.proofs.Laws.PlacesAfter.{passed-plan}
use Rattle.edit_rules.proofs.Laws.MakeNumber.{made_found}
use Rattle.edit_rules.proofs.Laws.InsertNumber.{new-entry, new-found, new-from-root}

-- what the edits that give an entry's number answer
abbrev answer_of : Edit → Account → List ℕ → ℕ → ℕ → Result ℕ Refusal
answer_of ed account image words bytes = number_behind (verdict_of ed account image words bytes) (plan_number (plan_of ed (disc_of image)))

-- what an insert of `new` below p, which answered so, leaves in the image
pub record Inserted (image after : List ℕ) (answer : Result ℕ Refusal) (p : ℕ) (new : Node) : Type 0 where
  pub number : ℕ
  pub answered : answer ≡ Ok number
  -- the new entry was put in as the last child, and nothing else is changed
  pub tree : nodes_in after ≡ insert_at p new (nodes_in image)
  -- the entry with that number is the new one
  pub entry : get_or (nodes_in after) number empty_root ≡ new
  -- its name, from the parent, leads to it
  pub found : lookup (nodes_in after) p (name_of new) ≡ Ok number
  -- and so does every path that led to the parent from the root, with the name behind it
  pub behind : (path : List ℕ) → lookup (nodes_in image) 0 path ≡ Ok p → lookup (nodes_in after) 0 (path ++ (0x2F ∷ name_of new)) ≡ Ok number

-- what a make-directories along the path, which answered so, leaves
pub record MadeFrom (image after : List ℕ) (answer : Result ℕ Refusal) (start : ℕ) (path : List ℕ) : Type 0 where
  pub number : ℕ
  pub answered : answer ≡ Ok number
  -- the tree is the one that the walk made
  pub tree : nodes_in after ≡ made_nodes (nodes_in image) (make (nodes_in image) [] start false (components path))
  -- the path leads to that number, and a directory is there
  pub found : lookup (nodes_in after) start path ≡ Ok number
  pub kind : is_directory (get_or (nodes_in after) number empty_root) ≡ true

module _ (account : Account) (image : List ℕ) (words bytes : ℕ) (b : AllBytes image) where
  nested : opening image words ≡ Ok tt → IsNested (nodes_in image)
  nested e = well-nested (nodes_in image) (opened image words e b).well

  inserted : (after : List ℕ) (answer : Result ℕ Refusal) (p : ℕ) (new : Node) → opening image words ≡ Ok tt → insert_verdict (nodes_in image) p (name_of new) ≡ Ok tt → Fresh (new_number (nodes_in image) p) new →
      answer ≡ Ok (new_number (nodes_in image) p) → nodes_in after ≡ insert_at p new (nodes_in image) → Inserted image after answer p new
  inserted after answer p new e v fresh a t =
      let nodes : List Node = nodes_in image in
      let n : IsNested nodes = nested e in
      record {
        number = new_number nodes p;
        answered = a;
        tree = t;
        entry = rw t (new-entry nodes n p new v fresh);
        found = rw t (new-found nodes n p new v fresh);
        behind = λ path l. rw t (new-from-root nodes n p new v fresh path l);
      }

  -- THEOREM: an accepted insert of a file
  pub inserted-file : (p : ℕ) (nm : List ℕ) → verdict_of (insert_file p nm) account image words bytes ≡ Ok tt →
      Inserted image (image_after (insert_file p nm) account image words bytes) (answer_of (insert_file p nm) account image words bytes) p (empty_file nm)
  inserted-file p nm v =
      let o = accepted (insert_file p nm) account image words bytes v in
      let t = passed-plan (insert_verdict (nodes_in image) p nm) (change (new_number (nodes_in image) p) (table_change (insert_at p (empty_file nm) (nodes_in image)))) image words bytes o.own in
      inserted (image_after (insert_file p nm) account image words bytes) _ p (empty_file nm) o.opens t.0 (omega arith, omega arith) (rw (v, t.2))
      (tree-after (insert_file p nm) account image words bytes b tt v ∙ ap (λ (x : Plan). plan_tree x (nodes_in image)) t.2)

  -- THEOREM: and of a directory
  pub inserted-directory : (p : ℕ) (nm : List ℕ) → verdict_of (insert_directory p nm) account image words bytes ≡ Ok tt →
      Inserted image (image_after (insert_directory p nm) account image words bytes) (answer_of (insert_directory p nm) account image words bytes) p (empty_directory nm (new_number (nodes_in image) p))
  inserted-directory p nm v =
      let q : ℕ = new_number (nodes_in image) p in
      let o = accepted (insert_directory p nm) account image words bytes v in
      let t = passed-plan (insert_verdict (nodes_in image) p nm) (change q (table_change (insert_at p (empty_directory nm q) (nodes_in image)))) image words bytes o.own in
      inserted (image_after (insert_directory p nm) account image words bytes) _ p (empty_directory nm q) o.opens t.0 refl (rw (v, t.2))
      (tree-after (insert_directory p nm) account image words bytes b tt v ∙ ap (λ (x : Plan). plan_tree x (nodes_in image)) t.2)

  made_as : (start : ℕ) (path : List ℕ) (m : Made) → opening image words ≡ Ok tt → make (nodes_in image) [] start false (components path) ≡ m → start < length (nodes_in image) →
      plan_verdict (plan_made m) (disc_of image) words bytes ≡ Ok tt → (after : List ℕ) → nodes_in after ≡ plan_tree (plan_made m) (nodes_in image) → (answer : Result ℕ Refusal) → answer ≡ Ok (plan_number (plan_made m)) →
      MadeFrom image after answer start path
  made_as start path (stopped c) e q h v after t answer a = let z : ◌≡◌ {A = ℕ} 0 1 = cc in absurd (omega arith)
  made_as start path (made new k true) e q h v after t answer a = let z : ◌≡◌ {A = ℕ} 0 1 = cc in absurd (omega arith)
  made_as start path (made new k false) e q h v after t answer a =
      let f = made_found (nodes_in image) start path new k false (nested e) h q in
      record { number = k; answered = a; tree = t ∙ rw q; found = rw t f.0; kind = rw t f.1 }

  -- THEOREM: an accepted make-directories
  pub made-directories : (start : ℕ) (path : List ℕ) → verdict_of (make_directories start path) account image words bytes ≡ Ok tt →
      MadeFrom image (image_after (make_directories start path) account image words bytes) (answer_of (make_directories start path) account image words bytes) start path
  unfolding plan_make_directories
  made-directories start path v =
      let nodes : List Node = nodes_in image in
      let o = accepted (make_directories start path) account image words bytes v in
      let t = passed-plan (refuse (ltb 1024 (length path)) LimitOrMemory (refuse (leb (length nodes) start) NoSuchEntry (Ok tt))) (plan_made (make nodes [] start false (components path))) image words bytes o.own in
      let v₁ = refuse-passed (ltb 1024 (length path)) LimitOrMemory _ t.0 in
      let v₂ = refuse-passed (leb (length nodes) start) NoSuchEntry (Ok tt) v₁.1 in
      made_as start path (make nodes [] start false (components path)) o.opens refl (leb-false _ _ v₂.0) t.1 (image_after (make_directories start path) account image words bytes)
      (tree-after (make_directories start path) account image words bytes b tt v ∙ ap (λ (x : Plan). plan_tree x nodes) t.2) _ (rw (v, t.2))
