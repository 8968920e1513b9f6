-- Of an edit whose tree the old one fixes: what it plans, if its tests pass, is told by the tree and the edit alone; so two images with the same tree
-- get the same table from it. Assumes nothing.
use Rattle.std.specs.Prelude.{Ok, Err, ℕ, ◌≡◌, refl, true, false, List, [], length, get_or, ltb, leb}
use Rattle.std.proofs.Common.{sym, ap, subst, ◌∙◌, arith, le-leb, ne_eqb}
use Rattle.refusal.specs.declared.Refusal.TheVariants.{LimitOrMemory, NoSuchEntry}
use Rattle.refusal.specs.Refusal.{Verdict, refuse, first}
use Rattle.endian.specs.Bytes.{AllBytes}
use Rattle.tree.specs.Table.{Node, empty_root}
use Rattle.tree.specs.Lookup.{components}
use Rattle.tree.specs.Insert.{insert_at, empty_file, empty_directory}
use Rattle.space.specs.declared.region.DiscRegion.{DiscRegion}
use Rattle.opened.specs.Opening.{nodes_in, region_of, Disc, disc_of, free_of}
use Rattle.edit_rules.specs.Change.{Plan, change, filled}
use Rattle.edit_rules.specs.Edits.{Edit, Account, insert_file, insert_directory, make_directories, move_file, resize_file, fill_file, rewrite, table_change, plan_behind, new_number, insert_verdict, Made, stopped, made, make, plan_made, plan_make_directories, file_verdict, relocation_change, relocate_verdict, plan_move, resize_change, plan_sized, plan_resize, clip_verdict, plan_fill, plan_of, plan_verdict, plan_tree, verdict_of, image_after}
use Rattle.edit_rules.proofs.Laws.Accepted.{accepted}
use Rattle.ledger.specs.Runs.{IsPassable}
use Rattle.same_table.specs.Trees.{HasTableOf, HaveSameTable, file_size, WritesNewTable, IsFixedByTree}
use Rattle.same_table.specs.Theorem.{SameTable}
use Rattle.same_table.proofs.Laws.Tabled.{is_tabled}
use Rattle.same_table.proofs.Laws.WholeTree.{whole-tree}
use Rattle.same_table.proofs.Laws.WrittenTable.{written-table}

-- what such an edit plans, if its tests pass
abbrev pub fixed_plan : List Node → Edit → Plan
fixed_plan nodes (insert_file p nm) = change (new_number nodes p) (table_change (insert_at p (empty_file nm) nodes))
fixed_plan nodes (insert_directory p nm) = change (new_number nodes p) (table_change (insert_at p (empty_directory nm (new_number nodes p)) nodes))
fixed_plan nodes (make_directories start path) = plan_made (make nodes [] start false (components path))
fixed_plan nodes (move_file k to) =
    let old : DiscRegion = region_of (get_or nodes k empty_root) in
    change k (relocation_change nodes k old (record { offset = to; size = old.size }))
fixed_plan nodes (resize_file k n) = change k (resize_change nodes k (region_of (get_or nodes k empty_root)) n)
fixed_plan nodes (fill_file k clip) = filled k clip (change k (resize_change nodes k (region_of (get_or nodes k empty_root)) (length clip)))
fixed_plan nodes rewrite = change 0 (table_change nodes)

module _ (d : Disc) (words bytes : ℕ) where
  abbrev Passes : Plan → Type 0
  Passes p = plan_verdict p d words bytes ≡ Ok tt

  passed-behind : (v : Verdict) (p : Plan) → Passes (plan_behind v p) → (plan_behind v p ≡ p) × Passes p
  passed-behind (Ok _) p e = (refl, e)
  passed-behind (Err c) p e = let z : ◌≡◌ {A = ℕ} 0 1 = cc in absurd (omega arith)

  passed-made : (m : Made) → Passes (plan_made m) → is_tabled (plan_made m) ≡ true
  passed-made (stopped c) e = let z : ◌≡◌ {A = ℕ} 0 1 = cc in absurd (omega arith)
  passed-made (made new k true) e = let z : ◌≡◌ {A = ℕ} 0 1 = cc in absurd (omega arith)
  passed-made (made new k false) e = refl

  -- a smaller size asks for no free space
  smaller : (k n : ℕ) → IsFixedByTree d.nodes (resize_file k n) → plan_sized (free_of d) d.nodes k (region_of (get_or d.nodes k empty_root)) n ≡ change k (resize_change d.nodes k (region_of (get_or d.nodes k empty_root)) n)
  smaller k n h =
      let size : ℕ = file_size d.nodes k in
      rw (ne_eqb n size (λ e. omega arith), le-leb n size (omega arith))

  resized : (k n : ℕ) → IsFixedByTree d.nodes (resize_file k n) → Passes (plan_resize (free_of d) d.nodes k n) → plan_resize (free_of d) d.nodes k n ≡ fixed_plan d.nodes (resize_file k n)
  unfolding plan_resize
  resized k n h e = (passed-behind (file_verdict d.nodes k) (plan_sized (free_of d) d.nodes k (region_of (get_or d.nodes k empty_root)) n) e).0 ∙ smaller k n h

  -- LAW
  pub plan-fixed : (ed : Edit) → IsFixedByTree d.nodes ed → Passes (plan_of ed d) → (plan_of ed d ≡ fixed_plan d.nodes ed) × (is_tabled (fixed_plan d.nodes ed) ≡ true)
  unfolding plan_make_directories plan_move plan_fill
  plan-fixed (insert_file p nm) h e = ((passed-behind (insert_verdict d.nodes p nm) (fixed_plan d.nodes (insert_file p nm)) e).0, refl)
  plan-fixed (insert_directory p nm) h e = ((passed-behind (insert_verdict d.nodes p nm) (fixed_plan d.nodes (insert_directory p nm)) e).0, refl)
  plan-fixed (make_directories start path) h e =
      let m : Made = make d.nodes [] start false (components path) in
      let q = passed-behind (refuse (ltb 1024 (length path)) LimitOrMemory (refuse (leb (length d.nodes) start) NoSuchEntry (Ok tt))) (plan_made m) e in
      (q.0, passed-made m q.1)
  plan-fixed (move_file k to) h e =
      let old : DiscRegion = region_of (get_or d.nodes k empty_root) in
      ((passed-behind (first (file_verdict d.nodes k) (relocate_verdict (free_of d) old (record { offset = to; size = old.size }))) (fixed_plan d.nodes (move_file k to)) e).0, refl)
  plan-fixed (resize_file k n) h e = (resized k n h e, refl)
  plan-fixed (fill_file k clip) h e =
      let q = passed-behind (clip_verdict d.nodes k (length clip)) (filled k clip (plan_resize (free_of d) d.nodes k (length clip))) e in
      (q.0 ∙ ap (filled k clip) (resized k (length clip) h q.1), refl)
  plan-fixed rewrite h e = (refl, refl)

fixed-writes : (nodes : List Node) (ed : Edit) → IsFixedByTree nodes ed → WritesNewTable nodes ed
fixed-writes nodes (insert_file p nm) h = tt
fixed-writes nodes (insert_directory p nm) h = tt
fixed-writes nodes (make_directories start path) h = tt
fixed-writes nodes (move_file k to) h = tt
fixed-writes nodes (resize_file k n) h = λ e. omega (arith, h)
fixed-writes nodes (fill_file k clip) h = λ e. omega (arith, h)
fixed-writes nodes rewrite h = tt

-- of an accepted one, the written table of the tree that it plans
module _ (ed : Edit) (a : Account) (image : List ℕ) (words bytes : ℕ) (h : IsPassable ed) (b : AllBytes image) (f : IsFixedByTree (nodes_in image) ed) (v : verdict_of ed a image words bytes ≡ Ok tt) where
  fixed : (plan_of ed (disc_of image) ≡ fixed_plan (nodes_in image) ed) × (is_tabled (fixed_plan (nodes_in image) ed) ≡ true)
  fixed = plan-fixed (disc_of image) words bytes ed f (accepted ed a image words bytes v).own

  -- LAW
  pub fixed-table : HasTableOf (image_after ed a image words bytes) (plan_tree (fixed_plan (nodes_in image) ed) (nodes_in image))
  fixed-table =
      subst (λ (p : Plan). HasTableOf (image_after ed a image words bytes) (plan_tree p (nodes_in image))) fixed.0
      (written-table ed a image words bytes h b v (fixed-writes (nodes_in image) ed f))

same_tables : (image image' : List ℕ) (nodes : List Node) → HasTableOf image nodes → HasTableOf image' nodes → HaveSameTable image image'
same_tables image image' nodes x y = record { table = x.table ∙ sym y.table; size = x.size ∙ sym y.size }

-- THEOREM
pub same-table : SameTable
same-table ed a a' image image' words words' bytes bytes' h b b' s f v v' =
    let e : nodes_in image ≡ nodes_in image' = whole-tree image image' words words' b b' (accepted ed a image words bytes v).opens (accepted ed a' image' words' bytes' v').opens s in
    same_tables (image_after ed a image words bytes) (image_after ed a' image' words' bytes') (plan_tree (fixed_plan (nodes_in image) ed) (nodes_in image)) (fixed-table ed a image words bytes h b f v)
    (subst (λ (ns : List Node). HasTableOf (image_after ed a' image' words' bytes') (plan_tree (fixed_plan ns ed) ns)) (sym e) (fixed-table ed a' image' words' bytes' h b' (subst (λ (ns : List Node). IsFixedByTree ns ed) e f) v'))
