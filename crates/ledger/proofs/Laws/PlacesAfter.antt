-- A move puts its file at the offset asked for, a resize gives it the size asked for, a fill that of its clip, and every other entry stays, in
-- the tree read from the image afterwards; growth that does not fit where the file is goes where allocation finds room, to a multiple of 0x8000. Assumes nothing.
use Rattle.std.specs.Prelude.{Result, Ok, Err}
use Rattle.refusal.specs.Refusal.{Verdict}
use Rattle.refusal.specs.declared.Refusal.{Refusal}
use Prim.Native.Nat.{ℕ, ◌*◌, ◌^◌, ◌<◌, ◌≤◌}
use Rattle.std.specs.Prelude.{◌≡◌, Bool, true, false, cond, ◌||◌, get_or, eqb}
use Rattle.std.proofs.Math.Path.{refl, ap}
use Rattle.std.proofs.Common.{sym, ◌∙◌, ⊎_elim, arith, leb-true, leb-false, eqb-true}
use mathlib.Core.List.{List}
use Rattle.std.proofs.Math.ListN.{length}
use Rattle.std.proofs.lemmas.List.{set-get_or}
use Rattle.std.proofs.Math.Dec.{leb}
use Rattle.endian.specs.Bytes.{AllBytes}
use Rattle.refusal.specs.declared.Refusal.TheVariants.{NoSuchEntry}
use Rattle.refusal.specs.Refusal.{first}
use Rattle.refusal.specs.Laws.Chains.{refuse-passed, first-passed}
use Rattle.refusal.specs.Laws.Tests.{or_cases, or-false}
use Rattle.tree.specs.Table.{Node, file, empty_root}
use Rattle.tree.specs.Insert.{set_place}
use Rattle.tree.proofs.Laws.PlaceLaws.{set_place-at, set_place-other}
use Rattle.space.specs.declared.region.DiscRegion.{DiscRegion}
use Rattle.space.specs.MaxRegionSize.{max_region_size}
use Rattle.space.specs.Allocate.{allocation_of}
use Rattle.space.specs.Laws.AllocateLaws.{found-region}
use Rattle.header.specs.Verdicts.{disc_end}
use Rattle.opened.specs.Opening.{nodes_in, used_in, free_space_of, region_of, disc_of}
use Rattle.edit_rules.specs.Change.{Plan, nothing, change, filled}
use Rattle.edit_rules.specs.Edits.{Account, move_file, resize_file, fill_file, plan_behind, file_verdict, relocation_change, relocate_verdict, plan_move, resize_change, plan_elsewhere, clip_verdict, plan_resize, plan_fill, plan_verdict, plan_tree, verdict_of, image_after}
use Rattle.edit_rules.proofs.Laws.Accepted.{accepted}
use Rattle.ledger.proofs.Laws.TreeAfter.{tree-after}

-- entry k of the tree afterwards is a file at this place, and every other entry is as it was
pub record PlacedAt (image after : List ℕ) (k : ℕ) (nm : List ℕ) (offset size : ℕ) : Type 0 where
  pub lies : get_or (nodes_in after) k empty_root ≡ file nm offset size
  pub others : (j : ℕ) → (j ≡ k → ⊥) → get_or (nodes_in after) j empty_root ≡ get_or (nodes_in image) j empty_root

-- the file afterwards, where it has n bytes
pub record ResizedTo (image after : List ℕ) (k : ℕ) (nm : List ℕ) (offset size n : ℕ) : Type 0 where
  pub at : ℕ
  pub place : PlacedAt image after k nm at n
  -- a shrink, and growth that fits where the file is, leave it there
  pub shrinks : n ≤ size → at ≡ offset
  pub grows : n ≤ max_region_size offset size (free_space_of image) → at ≡ offset
  -- at a multiple of 0x8000, where it can't grow in place
  pub found : size < n → max_region_size offset size (free_space_of image) < n → (r : DiscRegion) × (allocation_of 0x8000 n (free_space_of image) ≡ Ok r) × (at ≡ r.offset)
  pub multiple : size < n → max_region_size offset size (free_space_of image) < n → (j : ℕ) × (at ≡ j * 0x8000)

-- a plan behind tests that passes
pub passed-plan : (v : Verdict) (p : Plan) (image : List ℕ) (words bytes : ℕ) → plan_verdict (plan_behind v p) (disc_of image) words bytes ≡ Ok tt → (v ≡ Ok tt) × (plan_verdict p (disc_of image) words bytes ≡ Ok tt) × (plan_behind v p ≡ p)
passed-plan (Ok _) p image words bytes e = (refl, e, refl)
passed-plan (Err c) p image words bytes e = let z : ◌≡◌ {A = ℕ} 0 1 = cc in absurd (omega arith)

file-number : (nodes : List Node) (k : ℕ) → file_verdict nodes k ≡ Ok tt → k < length nodes
file-number nodes k v = leb-false _ _ (refuse-passed (leb (length nodes) k) NoSuchEntry _ v).0

-- a file put where it is
same_place : (nodes : List Node) (k : ℕ) (nm : List ℕ) (o n : ℕ) → get_or nodes k empty_root ≡ file nm o n → set_place k o n nodes ≡ nodes
unfolding set_place
same_place nodes k nm o n e = rw e (rw e at (set-get_or nodes k empty_root))

module _ (account : Account) (image : List ℕ) (words bytes : ℕ) (b : AllBytes image) (k : ℕ) (nm : List ℕ) (offset size : ℕ) (here : get_or (nodes_in image) k empty_root ≡ file nm offset size) where
  place_is : region_of (get_or (nodes_in image) k empty_root) ≡ record { offset = offset; size = size }
  place_is = rw here

  placed_at : (after : List ℕ) (o n : ℕ) → k < length (nodes_in image) → nodes_in after ≡ set_place k o n (nodes_in image) → PlacedAt image after k nm o n
  placed_at after o n h t = record {
    lies = rw t (set_place-at o n k (nodes_in image) h ∙ rw here);
    others = λ j d. rw t (set_place-other o n k j (nodes_in image) d);
  }

  -- THEOREM: an accepted move of the file to `to`
  pub moved : (to : ℕ) → to < 2 ^ 32 → verdict_of (move_file k to) account image words bytes ≡ Ok tt → PlacedAt image (image_after (move_file k to) account image words bytes) k nm to size
  unfolding plan_move
  moved to h v =
      let old : DiscRegion = region_of (get_or (nodes_in image) k empty_root) in
      let new : DiscRegion = record { offset = to; size = old.size } in
      let t = first (file_verdict (nodes_in image) k) (relocate_verdict (free_space_of image) old new) in
      let p = passed-plan t (change k (relocation_change (nodes_in image) k old new)) image words bytes (accepted (move_file k to) account image words bytes v).own in
      let e : nodes_in (image_after (move_file k to) account image words bytes) ≡ set_place k to size (nodes_in image) =
      tree-after (move_file k to) account image words bytes b h v ∙ ap (λ (x : Plan). plan_tree x (nodes_in image)) p.2 ∙ rw here in
      placed_at (image_after (move_file k to) account image words bytes) to size (file-number (nodes_in image) k (first-passed (file_verdict (nodes_in image) k) _ p.0).0) e

  -- ---- a resize

  module _ (n : ℕ) (after : List ℕ) (inside : k < length (nodes_in image)) where
    abbrev old : DiscRegion
    old = record { offset = offset; size = size }

    -- it stays where it is
    there : nodes_in after ≡ set_place k offset n (nodes_in image) → (size < n → max_region_size offset size (free_space_of image) < n → ⊥) → ResizedTo image after k nm offset size n
    there t f = record {
      at = offset;
      place = placed_at after offset n inside t;
      shrinks = λ h. refl;
      grows = λ h. refl;
      found = λ h l. absurd (f h l);
      multiple = λ h l. absurd (f h l);
    }

    -- it goes where allocation found room
    away : (r : DiscRegion) → allocation_of 0x8000 n (free_space_of image) ≡ Ok r → size < n → max_region_size offset size (free_space_of image) < n →
        nodes_in after ≡ set_place k r.offset n (nodes_in image) → ResizedTo image after k nm offset size n
    away r e h l t = record {
      at = r.offset;
      place = placed_at after r.offset n inside t;
      shrinks = λ z. absurd (omega arith);
      grows = λ z. absurd (omega arith);
      found = λ a c. (r, e, refl);
      multiple = λ a c. (found-region (disc_end image) (used_in image) 0x8000 n r e).multiple;
    }

    by_cases : (a : Bool) → eqb n size ≡ a → (t : Bool) → (leb n size || leb n (max_region_size offset size (free_space_of image))) ≡ t → (al : Result DiscRegion Refusal) → allocation_of 0x8000 n (free_space_of image) ≡ al →
        plan_verdict (cond a nothing (cond t (change k (resize_change (nodes_in image) k old n)) (plan_elsewhere (nodes_in image) (free_space_of image) k old n al))) (disc_of image) words bytes ≡ Ok tt →
        nodes_in after ≡ plan_tree (cond a nothing (cond t (change k (resize_change (nodes_in image) k old n)) (plan_elsewhere (nodes_in image) (free_space_of image) k old n al))) (nodes_in image) →
        ResizedTo image after k nm offset size n
    by_cases true e t u al q v w =
        let n≡ : n ≡ size = eqb-true n size e in
        there (w ∙ sym (same_place (nodes_in image) k nm offset n (rw n≡ here))) (λ h l. omega arith)
    by_cases false e true u al q v w = there w (λ h l. ⊎_elim (λ c. omega (arith, leb-true n size c)) (λ c. omega (arith, leb-true n _ c)) (or_cases (leb n size) _ u))
    by_cases false e false u (Err c) q v w = let z : ◌≡◌ {A = ℕ} 0 1 = cc in absurd (omega arith)
    by_cases false e false u (Ok r) q v w =
        let new : DiscRegion = record { offset = r.offset; size = n } in
        let p = passed-plan (relocate_verdict (free_space_of image) old new) (change k (relocation_change (nodes_in image) k old new)) image words bytes v in
        let o = or-false (leb n size) _ u in
        away r q (leb-false n size o.0) (leb-false n _ o.1) (w ∙ ap (λ (x : Plan). plan_tree x (nodes_in image)) p.2)

  -- THEOREM: an accepted resize of the file to n bytes
  pub sized : (n : ℕ) → n < 2 ^ 32 → verdict_of (resize_file k n) account image words bytes ≡ Ok tt → ResizedTo image (image_after (resize_file k n) account image words bytes) k nm offset size n
  unfolding plan_resize
  sized n h v =
      let after : List ℕ = image_after (resize_file k n) account image words bytes in
      let p = passed-plan (file_verdict (nodes_in image) k) _ image words bytes (accepted (resize_file k n) account image words bytes v).own in
      let t = tree-after (resize_file k n) account image words bytes b h v ∙ ap (λ (x : Plan). plan_tree x (nodes_in image)) p.2 in
      by_cases n after (file-number (nodes_in image) k p.0) (eqb n size) refl (leb n size || leb n (max_region_size offset size (free_space_of image))) refl (allocation_of 0x8000 n (free_space_of image)) refl
      (rw place_is at p.1) (rw place_is at t)

  -- THEOREM: an accepted fill of the file: it lies where a resize to the clip's length would leave it
  pub filled-to : (clip : List ℕ) → AllBytes clip → verdict_of (fill_file k clip) account image words bytes ≡ Ok tt → ResizedTo image (image_after (fill_file k clip) account image words bytes) k nm offset size (length clip)
  unfolding plan_resize plan_fill
  filled-to clip c v =
      let n : ℕ = length clip in
      let after : List ℕ = image_after (fill_file k clip) account image words bytes in
      let f = passed-plan (clip_verdict (nodes_in image) k n) (filled k clip (plan_resize (free_space_of image) (nodes_in image) k n)) image words bytes (accepted (fill_file k clip) account image words bytes v).own in
      let p = passed-plan (file_verdict (nodes_in image) k) _ image words bytes f.1 in
      let t = tree-after (fill_file k clip) account image words bytes b c v ∙ ap (λ (x : Plan). plan_tree x (nodes_in image)) f.2 ∙ ap (λ (x : Plan). plan_tree x (nodes_in image)) p.2 in
      by_cases n after (file-number (nodes_in image) k p.0) (eqb n size) refl (leb n size || leb n (max_region_size offset size (free_space_of image))) refl (allocation_of 0x8000 n (free_space_of image)) refl
      (rw place_is at p.1) (rw place_is at t)
