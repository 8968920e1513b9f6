-- Of every edit but a fill: if its tests pass, the tree read from the image afterwards is the one that it planned, offsets included, the
-- program is the same, byte for byte, and the disc has the layout of the plan. Assumes nothing.
use Rattle.std.specs.Prelude.{Result, Ok, Err}
use Rattle.refusal.specs.Refusal.{Verdict}
use Rattle.std.specs.Prelude.{ℕ, suc, ◌^◌, ◌<◌, ◌≤◌, ◌≡◌, true, cond, ◌||◌, get_or, ltb, eqb}
use Rattle.std.proofs.Math.Path.{refl}
use Rattle.std.proofs.Common.{ap, arith, leb-false}
use Rattle.std.proofs.Math.Bool.{Bool, false}
use mathlib.Core.List.{List, []}
use Rattle.std.proofs.lemmas.Bool.{eqb-false}
use Rattle.std.proofs.Math.ListN.{length}
use Rattle.std.proofs.Math.Dec.{leb}
use Rattle.refusal.specs.declared.Refusal.{Refusal}
use Rattle.refusal.specs.declared.Refusal.TheVariants.{LimitOrMemory, InvalidNameByte, NoSuchEntry}
use Rattle.refusal.specs.Refusal.{refuse, first}
use Rattle.refusal.specs.Laws.Chains.{refuse-passed, first-passed}
use Rattle.refusal.specs.Laws.Tests.{or-false}
use Rattle.header.specs.Verdicts.{fst_size}
use Rattle.tree.specs.Table.{Node, empty_root, encode}
use Rattle.tree.specs.Inner.WellFormed.{IsWellFormed}
use Rattle.tree.specs.Lookup.{is_directory, components}
use Rattle.tree.specs.Insert.{insert_at, empty_file, empty_directory}
use Rattle.space.specs.declared.region.DiscRegion.{DiscRegion}
use Rattle.space.specs.Used.{nonempty_regions}
use Rattle.space.specs.MaxRegionSize.{max_region_size}
use Rattle.space.specs.Allocate.{allocation_of}
use Rattle.opened.specs.Opening.{nodes_in, free_space_of, disc_of}
use Rattle.edit_rules.specs.Change.{Change, written_image, Plan, refused, nothing, change}
use Rattle.edit_rules.specs.Edits.{table_change, plan_behind, new_number, insert_verdict, plan_insert, Made, stopped, made, make, plan_made, plan_make_directories, file_verdict, relocation_change, relocate_verdict, plan_move, resize_change, plan_elsewhere, plan_resize, plan_verdict, plan_tree, plan_image}
use Rattle.ledger.specs.Ledger.{Ledger, files_before}
use Rattle.ledger.proofs.Laws.Written.{fst-offset-written_image, fst-size-written_image, fst-max-size-written_image, disc-end-written_image}
use Rattle.ledger.proofs.Laws.Files as files-insert
use Rattle.ledger.specs.Inner.Files.{own_place, files_of}
use Rattle.ledger.proofs.Laws.Files.{files_in, nonempty_regions-put-in}
use Rattle.ledger.proofs.Laws.Opened.{Opened, nodes-written_image}
use Rattle.ledger.proofs.Laws.Room.{room}
use Rattle.ledger.proofs.Laws.Kept.{Kept, opened-kept, table-safe, table-spares}
use Rattle.ledger.proofs.Laws.ProgramKept.{ProgramKept, nothing-done, program-kept}
use Rattle.ledger.proofs.Laws.Placed.{place_in, resized-placed, placed-tree, placed-program, placed-laid}
use Rattle.ledger.proofs.Laws.Layout.{Lays, laid_same}
use Rattle.ledger.proofs.Laws.Making.{made-same, made-good}
use Rattle.ledger.proofs.Laws.TableEdits.{insertable, inserted-well}
use Rattle.ledger.proofs.Laws.PlaceEdits.{is-file, free-else, put-else, small_size, free-here, small-offset}

module _ (image : List ℕ) (words bytes : ℕ) where
  -- a plan that passes its tests leaves its tree in the image, the program as it was, and its layout
  abbrev pub Arrives : Plan → Type 0
  Arrives p = plan_verdict p (disc_of image) words bytes ≡ Ok tt → (nodes_in (plan_image p image) ≡ plan_tree p (nodes_in image)) × ProgramKept image (plan_image p image) × Lays p image (plan_image p image)

  arrives-refused : (c : Refusal) → Arrives (refused (Err c))
  arrives-refused c e = (refl, nothing-done image, refl)

  pub arrives-plan_behind : (v : Verdict) (p : Plan) → (v ≡ Ok tt → Arrives p) → Arrives (plan_behind v p)
  arrives-plan_behind (Ok _) p f = f refl
  arrives-plan_behind (Err c) p f = arrives-refused c

  arrives-cond : (a : Bool) (p q : Plan) → (a ≡ true → Arrives p) → (a ≡ false → Arrives q) → Arrives (cond a p q)
  arrives-cond true p q f g = f refl
  arrives-cond false p q f g = g refl

  module _ (w : ℕ) (l : Ledger) (K : Kept w image l) (lent : words ≤ w) where
    o : Opened image
    o = opened-kept w image l K

    -- ---- only the table is written

    pub on-table : (new : List Node) → IsWellFormed new → nonempty_regions (files_of new) ≡ nonempty_regions (files_in image) → (number : ℕ) → Arrives (change number (table_change new))
    on-table new wf same number v =
        let r = room (table_change new) image words bytes o v in
        let s = table-safe w image l K words lent new wf r in
        let t = nodes-written_image (table_change new) image s words w lent r.within in
        let p = program-kept (table_change new) image o s (table-spares w image l K words lent new wf r 0) in
        let image' : List ℕ = written_image (table_change new) image in (
          t,
          p,
          laid_same image image' (disc-end-written_image (table_change new) image s) (fst-offset-written_image (table_change new) image s) p.program (length (encode new)) (fst-size-written_image (table_change new) image s) (fst-max-size-written_image (table_change new) image s) r.end r.clear (rw t same),
        )

    pub insert-file : (p : ℕ) (nm : List ℕ) → Arrives (plan_insert (λ q. empty_file nm) (nodes_in image) p nm)
    insert-file p nm =
        arrives-plan_behind (insert_verdict (nodes_in image) p nm) _ (λ v.
        on-table (insert_at p (empty_file nm) (nodes_in image)) (inserted-well (nodes_in image) p nm o.well (insertable (nodes_in image) p nm v) (empty_file nm) (omega arith, omega arith) refl)
        (rw (files-insert.insert-file own_place p nm 0 0 (nodes_in image)) (nonempty_regions-put-in (files_before (new_number (nodes_in image) p) (nodes_in image)) 0 (files_in image))) (new_number (nodes_in image) p))

    pub insert-directory : (p : ℕ) (nm : List ℕ) → Arrives (plan_insert (empty_directory nm) (nodes_in image) p nm)
    insert-directory p nm =
        let q : ℕ = new_number (nodes_in image) p in
        arrives-plan_behind (insert_verdict (nodes_in image) p nm) _ (λ v.
        on-table (insert_at p (empty_directory nm q) (nodes_in image)) (inserted-well (nodes_in image) p nm o.well (insertable (nodes_in image) p nm v) (empty_directory nm q) refl refl)
        (rw (files-insert.insert-directory own_place p nm (suc q) (nodes_in image))) q)

    pub make-directories : (from : ℕ) (path : List ℕ) → Arrives (plan_make_directories (nodes_in image) from path)
    unfolding plan_make_directories
    make-directories from path =
        arrives-plan_behind (refuse (ltb 1024 (length path)) LimitOrMemory (refuse (leb (length (nodes_in image)) from) NoSuchEntry (Ok tt))) _ (λ v.
        let v₁ = refuse-passed (ltb 1024 (length path)) LimitOrMemory _ v in
        let v₂ = refuse-passed (leb (length (nodes_in image)) from) NoSuchEntry (Ok tt) v₁.1 in
        go (make (nodes_in image) [] from false (components path)) refl (leb-false _ _ v₂.0))
      where
        go : (m : Made) → make (nodes_in image) [] from false (components path) ≡ m → from < length (nodes_in image) → Arrives (plan_made m)
        go (stopped c) q h = arrives-refused c
        go (made new k true) q h = arrives-refused InvalidNameByte
        go (made new k false) q h = on-table new (made-good (nodes_in image) from (components path) new k o.well h q) (ap nonempty_regions (rw q at (made-same own_place (nodes_in image) from (components path)))) k

    -- ---- a file's place is changed

    module _ (k : ℕ) (is_file : is_directory (get_or (nodes_in image) k empty_root) ≡ false) where
      move-to : (new : DiscRegion) → relocate_verdict (free_space_of image) (place_in image k) new ≡ Ok tt → new.offset < 2 ^ 32 → new.size < 2 ^ 32 → Arrives (change k (relocation_change (nodes_in image) k (place_in image k) new))
      move-to new v ho hn u =
          let p = put-else w image l K words bytes lent k is_file new v ho hn u in
          let f = free-else w image l K words bytes lent k is_file new v in
          (placed-tree w image l K words lent k is_file new f _ p, placed-program w image l K words lent k is_file new f _ p, placed-laid w image l K words lent k is_file new f _ p)

      stay : (n : ℕ) → n < 2 ^ 32 → (n ≡ (place_in image k).size → ⊥) → (leb n (place_in image k).size || leb n (max_region_size (place_in image k).offset (place_in image k).size (free_space_of image))) ≡ true →
          Arrives (change k (resize_change (nodes_in image) k (place_in image k) n))
      stay n hn d v u =
          let new : DiscRegion = record { offset = (place_in image k).offset; size = n } in
          let free = free-here w image l K words bytes lent k is_file n v in
          let c : Change = resize_change (nodes_in image) k (place_in image k) n in
          let p = resized-placed w image l K words lent k is_file new free refl (small-offset w image l K words bytes lent k is_file n free d) hn (room c image words bytes o u) in
          (placed-tree w image l K words lent k is_file new free c p, placed-program w image l K words lent k is_file new free c p, placed-laid w image l K words lent k is_file new free c p)

      elsewhere : (n : ℕ) → n < 2 ^ 32 → (place_in image k).size < n → (a : Result DiscRegion Refusal) → Arrives (plan_elsewhere (nodes_in image) (free_space_of image) k (place_in image k) n a)
      elsewhere n hn d (Err c) = arrives-refused c
      elsewhere n hn d (Ok r) =
          let new : DiscRegion = record { offset = r.offset; size = n } in
          arrives-plan_behind (relocate_verdict (free_space_of image) (place_in image k) new) _ (λ v.
          move-to new v (omega (arith, o.bounds.small, (free-else w image l K words bytes lent k is_file new v r.offset (omega arith, omega arith)).1)) hn)

    pub move : (k to : ℕ) → to < 2 ^ 32 → Arrives (plan_move (free_space_of image) (nodes_in image) k to)
    unfolding plan_move
    move k to h =
        let new : DiscRegion = record { offset = to; size = (place_in image k).size } in
        arrives-plan_behind (first (file_verdict (nodes_in image) k) (relocate_verdict (free_space_of image) (place_in image k) new)) _ (λ v.
        let v₁ = first-passed (file_verdict (nodes_in image) k) _ v in
        let is_file = is-file (nodes_in image) k v₁.0 in
        move-to k is_file new v₁.1 h (small_size w image l K words bytes lent k is_file))

    pub resize : (k n : ℕ) → n < 2 ^ 32 → Arrives (plan_resize (free_space_of image) (nodes_in image) k n)
    unfolding plan_resize
    resize k n h =
        let old : DiscRegion = place_in image k in
        let t : Bool = leb n old.size || leb n (max_region_size old.offset old.size (free_space_of image)) in
        let in₁ : Plan = change k (resize_change (nodes_in image) k old n) in
        let in₂ : Plan = plan_elsewhere (nodes_in image) (free_space_of image) k old n (allocation_of 0x8000 n (free_space_of image)) in
        arrives-plan_behind (file_verdict (nodes_in image) k) _ (λ v.
        let is_file = is-file (nodes_in image) k v in
        arrives-cond (eqb n old.size) nothing (cond t in₁ in₂) (λ q u. (refl, nothing-done image, (laid_same image image refl refl refl (fst_size image) refl refl o.bounds.table (λ k i h. (o.places.lie k i h).0) refl, refl)))
        (λ q. arrives-cond t in₁ in₂ (stay k is_file n h (eqb-false n old.size q))
        (λ g. elsewhere k is_file n h (leb-false n old.size (or-false (leb n old.size) _ g).0) (allocation_of 0x8000 n (free_space_of image)))))
