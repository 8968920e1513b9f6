-- Where a file lies once it is resized to the clip: behind both tables, in the image, and apart from what is zeroed. Assumes nothing.
use Rattle.std.specs.Prelude.{Result, Ok, Err}
use Rattle.refusal.specs.Refusal.{Verdict}
use Prim.Native.Nat.{ℕ, ◌+◌, ◌<◌, ◌≤◌}
use mathlib.Core.Path.{◌≡◌, refl, sym, ap, ◌∙◌}
use mathlib.Core.Logic.{◌⊎◌, inl}
use mathlib.Core.Bool.{Bool, true, false, cond, ◌||◌}
use mathlib.Core.List.{List}
use native.Mathlib.Omega.{arith}
use borrow.Author.Tests.{eqb-true}
use lib.Dec.{leb, eqb}
use lib.ListN.{length, get_or}
use Rattle.endian.specs.Bytes.{span}
use Rattle.endian.specs.Laws.Stored.{length-span}
use Rattle.refusal.specs.declared.Refusal.{Refusal}
use Rattle.refusal.specs.declared.Refusal.TheVariants.{OverlappingMove}
use Rattle.refusal.specs.Laws.Chains.{refuse-passed, first-passed}
use Rattle.header.specs.Verdicts.{table_end}
use Rattle.tree.specs.Table.{Node, file, directory, empty_root, encode, limits}
use Rattle.tree.specs.Lookup.{is_directory}
use Rattle.tree.specs.Insert.{node_at_place, set_place}
use Rattle.tree.proofs.Laws.PlaceLaws.{set_place-at}
use Rattle.space.specs.declared.region.DiscRegion.{DiscRegion}
use Rattle.space.specs.Used.{end_of}
use Rattle.space.specs.MaxRegionSize.{max_region_size}
use Rattle.space.specs.Allocate.{allocation_of}
use Rattle.opened.specs.Opening.{nodes_in, region_of, free_space_of, disc_of}
use Rattle.opened.specs.Inner.Prepared.{IsOpenImage}
use Rattle.edit_rules.specs.Change.{Change, table_verdict, Plan, refused, nothing, change, filled}
use Rattle.edit_rules.specs.Edits.{is_overlapping, relocate_verdict, relocation_change, resize_change, plan_behind, plan_elsewhere, plan_sized, plan_verdict, plan_tree}
use Rattle.edit_rules.proofs.Laws.PlaceTests.{place-passed}
use Rattle.edit.specs.Inner.Files.{IsFile}
use Rattle.edit.specs.declared.decision.Writing.{Writing}
use Rattle.edit.specs.declared.decision.Decision.TheVariants as decision
use Rattle.edit.specs.Inner.Decision.{change_with, ClipFits, Carries}
use Rattle.edit.proofs.Images.{one-behind, file-lies, new-place, end-in-image}
use Rattle.edit.proofs.Stays.{stays-on-disc}
use Rattle.edit.specs.Inner.Filling.{IsClear, uncopied_writing}

-- a file that is put elsewhere is there
put-there : (nodes : List Node) (k o n : ℕ) → IsFile nodes k → (region_of (get_or (set_place k o n nodes) k empty_root)).offset ≡ o
put-there nodes k o n f = ap (λ (x : Node). (region_of x).offset) (set_place-at o n k nodes f.inside) ∙ go (get_or nodes k empty_root) f.kind
  where
    go : (x : Node) → is_directory x ≡ false → (region_of (node_at_place o n x)).offset ≡ o
    go (file nm a b) e = refl
    go (directory nm b) e = let z : ◌≡◌ {A = ℕ} 0 1 = cc in absurd (omega arith)

-- of a change that gives a file n bytes: nothing is asked where n is 0
record Lies (image : List ℕ) (c : Change) (n : ℕ) : Type 0 where
  size : c.place.size ≡ n
  behind : 0 < n → (table_end image ≤ c.place.offset) × (c.place.offset + n ≤ length image)
  covers : c.kept ≤ n
  apart : 0 < n → 0 < c.lost.size → (c.place.offset + n ≤ c.lost.offset) ⊎ (end_of c.lost ≤ c.place.offset)

-- the same of the numbers that are written
clear : (image : List ℕ) (c : Change) (n words room size : ℕ) (bytes : List ℕ) (w : Writing) → Lies image c n → table_verdict c (disc_of image) words room ≡ Ok tt → span bytes 0 size ≡ encode c.nodes → size ≤ length bytes →
    c ≡ change_with c.nodes w → IsClear image size w n
unfolding table_verdict
clear image c n words room size bytes w l v t s e =
    let p : c.place ≡ w.place = ap (λ (x : Change). x.place) e in
    let q : c.kept ≡ w.kept = ap (λ (x : Change). x.kept) e in
    let o : c.lost ≡ record { offset = w.lost.offset; size = w.lost.size } = ap (λ (x : Change). x.lost) e in
    let long : length (encode c.nodes) ≡ size = ap length (sym t) ∙ length-span bytes 0 size (omega arith) in
    let tests = place-passed image room (length (encode c.nodes)) c.place (first-passed (limits c.nodes words) _ v).1 in
    record {
      into = λ y. rw (← p) (l.behind y).1;
      old-table = λ y. rw (← p) (l.behind y).0;
      new-table = λ y. rw (← p, ← long) (tests.before (omega (arith, l.size)));
      covers = rw (← q) l.covers;
      apart = λ y. rw (p, o) at (l.apart y);
    }

module _ (image : List ℕ) (words : ℕ) (known : IsOpenImage image words) (k : ℕ) (f : IsFile (nodes_in image) k) (old : DiscRegion) (here : region_of (get_or (nodes_in image) k empty_root) ≡ old) (n : ℕ) where
  -- ---- where the file stays

  old-lies : 0 < old.size → (table_end image ≤ old.offset) × (end_of old ≤ length image)
  old-lies z = let l = rw here at (file-lies image words known k (rw here z)) in (l.0, omega (arith, l.1, end-in-image image words known))

  stays : (leb n old.size || leb n (max_region_size old.offset old.size (free_space_of image))) ≡ true → 0 < n → (table_end image ≤ old.offset) × (old.offset + n ≤ length image)
  stays t z = let l = stays-on-disc image words known k f old here n t z in (l.0, omega (arith, l.1, end-in-image image words known))

  lies-here : (leb n old.size || leb n (max_region_size old.offset old.size (free_space_of image))) ≡ true → Lies image (resize_change (nodes_in image) k old n) n
  lies-here t = record { size = refl; behind = stays t; covers = omega arith; apart = λ z y. inl (omega arith) }

  -- ---- where it goes elsewhere

  lies-there : (o : ℕ) → relocate_verdict (free_space_of image) old (record { offset = o; size = n }) ≡ Ok tt → Lies image (relocation_change (nodes_in image) k old (record { offset = o; size = n })) n
  lies-there o v =
      let new : DiscRegion = record { offset = o; size = n } in
      record {
        size = refl;
        behind = λ z. let l = new-place image words known old new v z in (l.0, omega (arith, l.1, end-in-image image words known));
        covers = omega arith;
        apart = one-behind old new (refuse-passed (is_overlapping old new) OverlappingMove _ v).0;
      }

  -- ---- the resize

  -- LAW: what its plan is: nothing, refused, or a change that leaves the clip's place clear
  sized : (Shown : Plan → Type 0) → (n ≡ old.size → Shown nothing) → ((c : Refusal) → Shown (refused (Err c))) →
      ((c : Change) → Lies image c n → (region_of (get_or c.nodes k empty_root)).offset ≡ c.place.offset → Shown (change k c)) → Shown (plan_sized (free_space_of image) (nodes_in image) k old n)
  sized Shown same none-fits some = by_size (eqb n old.size) refl
    where
      moved : (o : ℕ) (v : Verdict) → relocate_verdict (free_space_of image) old (record { offset = o; size = n }) ≡ v → Shown (plan_behind v (change k (relocation_change (nodes_in image) k old (record { offset = o; size = n }))))
      moved o (Ok _) e = some (relocation_change (nodes_in image) k old (record { offset = o; size = n })) (lies-there o e) (put-there (nodes_in image) k o n f)
      moved o (Err c) e = none-fits c

      by_place : (r : Result DiscRegion Refusal) → Shown (plan_elsewhere (nodes_in image) (free_space_of image) k old n r)
      by_place (Err c) = none-fits c
      by_place (Ok r) = moved r.offset (relocate_verdict (free_space_of image) old (record { offset = r.offset; size = n })) refl

      by-room : (t : Bool) → (leb n old.size || leb n (max_region_size old.offset old.size (free_space_of image))) ≡ t →
          Shown (cond t (change k (resize_change (nodes_in image) k old n)) (plan_elsewhere (nodes_in image) (free_space_of image) k old n (allocation_of 0x8000 n (free_space_of image))))
      by-room true e = some (resize_change (nodes_in image) k old n) (lies-here e) (put-there (nodes_in image) k old.offset n f)
      by-room false e = by_place (allocation_of 0x8000 n (free_space_of image))

      by_size : (t : Bool) → eqb n old.size ≡ t →
          Shown (cond t nothing (cond (leb n old.size || leb n (max_region_size old.offset old.size (free_space_of image))) (change k (resize_change (nodes_in image) k old n)) (plan_elsewhere (nodes_in image) (free_space_of image) k old n (allocation_of 0x8000 n (free_space_of image)))))
      by_size true e = same (eqb-true n old.size e)
      by_size false e = by-room (leb n old.size || leb n (max_region_size old.offset old.size (free_space_of image))) refl

  abbrev p : Plan
  p = plan_sized (free_space_of image) (nodes_in image) k old n

  -- where nothing is to be resized, the clip has the file's size
  pub clip-stays : (bytes : List ℕ) → Carries (Ok decision.Nothing) bytes p → ClipFits (length image) old.offset n × (p ≡ nothing)
  clip-stays bytes =
      sized (λ (x : Plan). Carries (Ok decision.Nothing) bytes x → ClipFits (length image) old.offset n × (x ≡ nothing))
      (λ e h. (record { into = λ z. omega (arith, old-lies (omega arith)); behind = λ z. omega (arith, old-lies (omega arith), known.reads.bounds.after-header) }, refl)) (λ c h. absurd h)
      (λ c l g h. absurd h)

  pub never-clip : (bytes : List ℕ) (number at : ℕ) → Carries (Ok (decision.Clip number at)) bytes p → ⊥
  never-clip bytes number at = sized (λ (x : Plan). Carries (Ok (decision.Clip number at)) bytes x → ⊥) (λ e h. h) (λ c h. h) (λ c l g h. h)

  -- and a change that passes its tests can be written behind the clip
  pub clip-clear : (room number size : ℕ) (bytes clip : List ℕ) (w : Writing) → size ≤ length bytes → Carries (Ok (decision.Write number size w)) bytes p → plan_verdict p (disc_of image) words room ≡ Ok tt →
      IsClear image size w n × ((region_of (get_or (plan_tree p (nodes_in image)) k empty_root)).offset ≡ w.place.offset) × Carries (Ok (decision.Write k size (uncopied_writing w))) bytes (filled k clip p)
  clip-clear room number size bytes clip w held =
      sized
      (λ (x : Plan).
      Carries (Ok (decision.Write number size w)) bytes x → plan_verdict x (disc_of image) words room ≡ Ok tt → IsClear image size w n × ((region_of (get_or (plan_tree x (nodes_in image)) k empty_root)).offset ≡ w.place.offset) × Carries (Ok (decision.Write k size (uncopied_writing w))) bytes (filled k clip x))
      (λ e h. absurd h) (λ c h. absurd h)
      (λ c l g h v. (
        clear image c n words room size bytes w l v h.table held h.change,
        g ∙ ap (λ (x : Change). x.place.offset) h.change,
        record { number = refl; table = h.table; old = ap (λ (x : Change). x.old) h.change; place = ap (λ (x : Change). x.place) h.change; uncopied = refl },
      ))
