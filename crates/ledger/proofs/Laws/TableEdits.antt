-- The edits that write only the table keep image and ledger: rewrite, insert, make-directories. Assumes nothing.
use Rattle.std.specs.Prelude.{Ok, is_ok}
use Rattle.std.specs.Prelude.{ℕ, suc, ◌<◌, ◌≤◌, ◌≡◌, true, not, length, get_or, ltb, leb}
use Rattle.std.proofs.Math.Path.{refl}
use Rattle.std.proofs.Common.{sym, ◌∙◌, arith, leb-false}
use Rattle.std.proofs.Math.Bool.{false}
use mathlib.Core.List.{List, [], ◌∷◌, map}
use Rattle.std.proofs.lemmas.Bool.{not-false}
use Rattle.refusal.specs.declared.Refusal.TheVariants.{LimitOrMemory, InvalidNameByte, UnsafeName, NoSuchEntry, ExpectedDirectory, AlreadyExists}
use Rattle.refusal.specs.Refusal.{refuse}
use Rattle.refusal.specs.Laws.Chains.{refuse-passed}
use Rattle.tree.specs.Table.{Node, name_of, empty_root, is_plain, is_safe}
use Rattle.tree.proofs.Laws.Renumbered.{directory-is}
use Rattle.tree.specs.Inner.WellFormed.{IsWellFormed}
use Rattle.tree.specs.Lookup.{is_directory, components, child_of}
use Rattle.tree.specs.Insert.{insert_at, empty_file, empty_directory}
use Rattle.tree.proofs.Laws.InsertLaws.{Fresh, insert-sound}
use Rattle.space.specs.Used.{used_regions}
use Rattle.executable.specs.Program.{program_behind}
use Rattle.opened.specs.Opening.{nodes_in, disc_of}
use Rattle.edit_rules.specs.Change.{written_image, table_verdict, change}
use Rattle.edit_rules.specs.Edits.{insert_file, insert_directory, make_directories, table_change, new_number, insert_verdict, plan_insert, Made, stopped, made, make, plan_made, plan_make_directories}
use Rattle.ledger.specs.Ledger.{Ledger, node_without_place, files_before, new_history, put_in, made_nodes, ledger_with}
use Rattle.ledger.proofs.Laws.Written.{new_end}
use Rattle.ledger.specs.Inner.Files.{own_place, files_of}
use Rattle.ledger.proofs.Laws.Files.{files_in, places_in, used-put-in, insert-directory, insert-file}
use Rattle.ledger.proofs.Laws.Histories.{trues-put-in, true-new}
use Rattle.ledger.proofs.Laws.Bare.{before-node_without_place, next-node_without_place, insert-node_without_place, made-node_without_place}
use Rattle.ledger.proofs.Laws.Making.{made-same, made-good}
use Rattle.ledger.proofs.Laws.Opened.{Opened}
use Rattle.ledger.proofs.Laws.Room.{room}
use Rattle.ledger.proofs.Laws.Kept.{Kept, opened-kept, Tabled, tabled}
use Rattle.ledger.proofs.Laws.Plans.{Good, good-plan_behind, good-refused}

-- ---- an insert's tests

pub record Insertable (nodes : List Node) (p : ℕ) (nm : List ℕ) : Type 0 where
  pub number : p < length nodes
  pub good : is_safe nm ≡ true
  pub parent : is_directory (get_or nodes p empty_root) ≡ true
  pub bytes : is_plain nm ≡ true

pub insertable : (nodes : List Node) (p : ℕ) (nm : List ℕ) → insert_verdict nodes p nm ≡ Ok tt → Insertable nodes p nm
unfolding insert_verdict
insertable nodes p nm v =
    let v₁ = refuse-passed (leb (length nodes) p) NoSuchEntry _ v in
    let v₂ = refuse-passed (not (is_safe nm)) UnsafeName _ v₁.1 in
    let v₃ = refuse-passed (not (is_directory (get_or nodes p empty_root))) ExpectedDirectory _ v₂.1 in
    let v₄ = refuse-passed (is_ok (child_of nodes p nm)) AlreadyExists _ v₃.1 in
    let v₅ = refuse-passed (not (is_plain nm)) InvalidNameByte (Ok tt) v₄.1 in
    record {
      number = leb-false _ _ v₁.0;
      good = not-false (is_safe nm) v₂.0;
      parent = not-false (is_directory (get_or nodes p empty_root)) v₃.0;
      bytes = not-false (is_plain nm) v₅.0;
    }

pub inserted-well : (nodes : List Node) (p : ℕ) (nm : List ℕ) → IsWellFormed nodes → Insertable nodes p nm → (new : Node) → Fresh (new_number nodes p) new → name_of new ≡ nm → IsWellFormed (insert_at p new nodes)
inserted-well nodes p nm w i new f e =
    let x = directory-is (get_or nodes p empty_root) i.parent in
    insert-sound nodes p (new_number nodes p) x.0 new w x.1 i.number (rw e (i.bytes, i.good)) f

module _ (w : ℕ) (image : List ℕ) (l : Ledger) (K : Kept w image l) (words bytes : ℕ) (lent : words ≤ w) where
  o : Opened image
  o = opened-kept w image l K

  on-table : (new : List Node) → IsWellFormed new → table_verdict (table_change new) (disc_of image) words bytes ≡ Ok tt →
      used_regions (new_end (table_change new) image) (program_behind image ∷ files_of new) ≡ used_regions (new_end (table_change new) image) (places_in image) → Tabled w image new l.histories (written_image (table_change new) image)
  on-table new wf v same = tabled w image l K words lent new wf (room (table_change new) image words bytes o v) same

  -- the files stay as they are
  same-files : (new : List Node) → IsWellFormed new → files_of new ≡ files_in image → (ns : List Node) → map node_without_place new ≡ ns → (number : ℕ) → Good w image words bytes (change number (table_change new)) (record { nodes = ns; histories = l.histories })
  same-files new wf f ns e number v =
      let t = on-table new wf v (rw f) in
      record { bytes = t.bytes; opens = t.opens; shape = rw t.tree e; trues = rw (t.tree, f) t.trues }

  pub step-rewrite : Good w image words bytes (change 0 (table_change (nodes_in image))) l
  step-rewrite = same-files (nodes_in image) o.well refl l.nodes K.shape 0

  next-is : (p : ℕ) → new_number l.nodes p ≡ new_number (nodes_in image) p
  next-is p = rw (← K.shape) (next-node_without_place (nodes_in image) p)

  pub step-insert-directory : (p : ℕ) (nm : List ℕ) → Good w image words bytes (plan_insert (empty_directory nm) (nodes_in image) p nm) (ledger_with (insert_directory p nm) l)
  step-insert-directory p nm =
      good-plan_behind w image words bytes (insert_verdict (nodes_in image) p nm) _ _ (λ v.
      let i = insertable (nodes_in image) p nm v in
      let q : ℕ = new_number (nodes_in image) p in
      let wf = inserted-well (nodes_in image) p nm o.well i (empty_directory nm q) refl refl in
      let e : map node_without_place (insert_at p (empty_directory nm q) (nodes_in image)) ≡ insert_at p (empty_directory nm (new_number l.nodes p)) l.nodes =
      insert-node_without_place p (empty_directory nm q) (nodes_in image) ∙ rw (next-is p, K.shape) in
      same-files (insert_at p (empty_directory nm q) (nodes_in image)) wf (insert-directory own_place p nm (suc q) (nodes_in image)) (insert_at p (empty_directory nm (new_number l.nodes p)) l.nodes) e q)

  pub step-insert-file : (p : ℕ) (nm : List ℕ) → Good w image words bytes (plan_insert (λ q. empty_file nm) (nodes_in image) p nm) (ledger_with (insert_file p nm) l)
  step-insert-file p nm =
      good-plan_behind w image words bytes (insert_verdict (nodes_in image) p nm) _ _ (λ v u.
      let i = insertable (nodes_in image) p nm v in
      let q : ℕ = new_number (nodes_in image) p in
      let new : List Node = insert_at p (empty_file nm) (nodes_in image) in
      let wf : IsWellFormed new = inserted-well (nodes_in image) p nm o.well i (empty_file nm) (omega arith, omega arith) refl in
      let f : files_of new ≡ put_in (files_before q (nodes_in image)) (record { offset = 0; size = 0 }) (files_in image) = insert-file own_place p nm 0 0 (nodes_in image) in
      let t = on-table new wf u (rw f (used-put-in (new_end (table_change new) image) (files_before q (nodes_in image)) 0 (program_behind image) (files_in image))) in
      let n : files_before (new_number l.nodes p) l.nodes ≡ files_before q (nodes_in image) = rw (next-is p, ← K.shape) (before-node_without_place q (nodes_in image)) in
      record {
        bytes = t.bytes;
        opens = t.opens;
        shape = rw t.tree (insert-node_without_place p (empty_file nm) (nodes_in image) ∙ rw K.shape);
        trues = rw (t.tree, f, n) (trues-put-in (written_image (table_change new) image) (files_before q (nodes_in image)) (record { offset = 0; size = 0 }) new_history (files_in image) l.histories (true-new (written_image (table_change new) image)) t.trues);
      })

  pub step-make-directories : (start : ℕ) (path : List ℕ) → Good w image words bytes (plan_make_directories (nodes_in image) start path) (ledger_with (make_directories start path) l)
  unfolding plan_make_directories
  step-make-directories start path =
      good-plan_behind w image words bytes (refuse (ltb 1024 (length path)) LimitOrMemory (refuse (leb (length (nodes_in image)) start) NoSuchEntry (Ok tt))) _ _ (λ v.
      let v₁ = refuse-passed (ltb 1024 (length path)) LimitOrMemory _ v in
      let v₂ = refuse-passed (leb (length (nodes_in image)) start) NoSuchEntry (Ok tt) v₁.1 in
      go (make (nodes_in image) [] start false (components path)) refl (leb-false _ _ v₂.0))
    where
      shape : (m : Made) → make (nodes_in image) [] start false (components path) ≡ m → map node_without_place (made_nodes (nodes_in image) m) ≡ made_nodes l.nodes (make l.nodes [] start false (components path))
      shape m e = rw (← e, ← K.shape) (sym (made-node_without_place (nodes_in image) start (components path)))

      go : (m : Made) → make (nodes_in image) [] start false (components path) ≡ m → start < length (nodes_in image) → Good w image words bytes (plan_made m) (ledger_with (make_directories start path) l)
      go (stopped c) e h = good-refused w image words bytes c (ledger_with (make_directories start path) l)
      go (made new k true) e h = good-refused w image words bytes InvalidNameByte (ledger_with (make_directories start path) l)
      go (made new k false) e h =
          let f : files_of new ≡ files_in image = rw e at (made-same own_place (nodes_in image) start (components path)) in
          same-files new (made-good (nodes_in image) start (components path) new k o.well h e) f (made_nodes l.nodes (make l.nodes [] start false (components path))) (shape (made new k false) e) k
