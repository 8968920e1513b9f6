-- Which accepted edits write a table: all but a resize or a fill to the size that the file has. Assumes nothing.
use Rattle.std.specs.Prelude.{Result, Ok, Err, ℕ, ◌≡◌, refl, Bool, true, false, cond, ◌||◌, [], length, get_or, ltb, leb}
use Rattle.std.proofs.Common.{arith, ne_eqb}
use Rattle.refusal.specs.declared.Refusal.{Refusal}
use Rattle.refusal.specs.declared.Refusal.TheVariants.{LimitOrMemory, NoSuchEntry}
use Rattle.refusal.specs.Refusal.{Verdict, refuse, first}
use Rattle.tree.specs.Table.{empty_root}
use Rattle.tree.specs.Lookup.{components}
use Rattle.space.specs.declared.region.DiscRegion.{DiscRegion}
use Rattle.space.specs.MaxRegionSize.{max_region_size}
use Rattle.space.specs.Allocate.{allocation_of}
use Rattle.opened.specs.Opening.{region_of, Disc, free_of}
use Rattle.edit_rules.specs.Change.{Plan, refused, nothing, change, filled}
use Rattle.edit_rules.specs.Edits.{Edit, insert_file, insert_directory, make_directories, move_file, resize_file, fill_file, rewrite, plan_behind, insert_verdict, Made, stopped, made, make, plan_made, plan_make_directories, file_verdict, relocate_verdict, plan_move, resize_change, plan_elsewhere, plan_sized, plan_resize, clip_verdict, plan_fill, plan_of, plan_verdict}
use Rattle.same_table.specs.Trees.{WritesNewTable}

-- the plan comes to a table that is written
abbrev pub is_tabled : Plan → Bool
is_tabled (refused v) = false
is_tabled nothing = false
is_tabled (change k c) = true
is_tabled (filled k clip p) = is_tabled p

module _ (d : Disc) (words bytes : ℕ) where
  abbrev Passes : Plan → Type 0
  Passes p = plan_verdict p d words bytes ≡ Ok tt

  abbrev Tables : Plan → Type 0
  Tables p = Passes p → is_tabled p ≡ true

  behind : (v : Verdict) (p : Plan) → Tables p → Tables (plan_behind v p)
  behind (Ok _) p f e = f e
  behind (Err c) p f e = let z : ◌≡◌ {A = ℕ} 0 1 = cc in absurd (omega arith)

  of-made : (m : Made) → Tables (plan_made m)
  of-made (stopped c) e = let z : ◌≡◌ {A = ℕ} 0 1 = cc in absurd (omega arith)
  of-made (made new k true) e = let z : ◌≡◌ {A = ℕ} 0 1 = cc in absurd (omega arith)
  of-made (made new k false) e = refl

  of-elsewhere : (k n : ℕ) (old : DiscRegion) (r : Result DiscRegion Refusal) → Tables (plan_elsewhere d.nodes (free_of d) k old n r)
  of-elsewhere k n old (Err c) e = let z : ◌≡◌ {A = ℕ} 0 1 = cc in absurd (omega arith)
  of-elsewhere k n old (Ok r) e = behind (relocate_verdict (free_of d) old (record { offset = r.offset; size = n })) _ (λ u. refl) e

  of-cond : (t : Bool) (p q : Plan) → Tables p → Tables q → Tables (cond t p q)
  of-cond true p q f g = f
  of-cond false p q f g = g

  resized : (k n : ℕ) → WritesNewTable d.nodes (resize_file k n) → Tables (plan_resize (free_of d) d.nodes k n)
  unfolding plan_resize
  resized k n h =
      let old : DiscRegion = region_of (get_or d.nodes k empty_root) in
      behind (file_verdict d.nodes k) (plan_sized (free_of d) d.nodes k old n)
      (rw (ne_eqb n old.size h)
      (of-cond (leb n old.size || leb n (max_region_size old.offset old.size (free_of d))) (change k (resize_change d.nodes k old n)) (plan_elsewhere d.nodes (free_of d) k old n (allocation_of 0x8000 n (free_of d)))
      (λ u. refl) (of-elsewhere k n old (allocation_of 0x8000 n (free_of d)))))

  -- LAW
  pub plan-tabled : (ed : Edit) → WritesNewTable d.nodes ed → Tables (plan_of ed d)
  unfolding plan_make_directories plan_move plan_fill
  plan-tabled (insert_file p nm) h = behind (insert_verdict d.nodes p nm) _ (λ u. refl)
  plan-tabled (insert_directory p nm) h = behind (insert_verdict d.nodes p nm) _ (λ u. refl)
  plan-tabled (make_directories start path) h =
      behind (refuse (ltb 1024 (length path)) LimitOrMemory (refuse (leb (length d.nodes) start) NoSuchEntry (Ok tt))) _ (of-made (make d.nodes [] start false (components path)))
  plan-tabled (move_file k to) h =
      let old : DiscRegion = region_of (get_or d.nodes k empty_root) in
      behind (first (file_verdict d.nodes k) (relocate_verdict (free_of d) old (record { offset = to; size = old.size }))) _ (λ u. refl)
  plan-tabled (resize_file k n) h = resized k n h
  plan-tabled (fill_file k clip) h = behind (clip_verdict d.nodes k (length clip)) _ (resized k (length clip) h)
  plan-tabled rewrite h = λ u. refl
