-- Where a new table and a file's new place lie, if the tests of an edit pass: in no other file, and not in the program. Assumes nothing.
use Rattle.std.specs.Prelude.{Ok}
use Rattle.std.specs.Prelude.{ℕ, ◌+◌, ◌-◌, ◌<◌, ◌≤◌, ◌≡◌, refl, true, ◌||◌, List, length, ltb, leb}
use Rattle.std.proofs.Common.{inl, inr, ⊎_elim, arith, ltb-false, leb-true}
use Rattle.endian.specs.Laws.Stored.{Outside}
use Rattle.refusal.specs.declared.Refusal.TheVariants.{OverlappingMove, NotEnoughSpace}
use Rattle.refusal.specs.Laws.Chains.{refuse-passed, first-passed}
use Rattle.header.specs.Verdicts.{fst_offset, fst_size, disc_end, table_end}
use Rattle.tree.specs.Table.{encode, limits}
use Rattle.space.specs.declared.region.DiscRegion.{DiscRegion}
use Rattle.space.specs.Used.{used_regions}
use Rattle.space.specs.Free.{is_free_in, free_regions}
use Rattle.space.specs.MaxRegionSize.{max_region_size}
use Rattle.refusal.specs.Laws.Tests.{lt-or-le, or_cases}
use Rattle.space.specs.Laws.GrowthLaws.{IsLargestSize, table-largest, file-largest, place-free}
use Rattle.executable.specs.Program.{program_behind}
use Rattle.opened.specs.Opening.{nodes_in, regions_behind_table, used_in, free_space_of, disc_of}
use Rattle.edit_rules.specs.Change.{Change, table_verdict}
use Rattle.edit_rules.specs.Edits.{relocate_verdict, is_overlapping}
use Rattle.edit_rules.proofs.Laws.PlaceTests.{PlacePassed, place-passed, in-region}
use Rattle.ledger.proofs.Laws.Written.{new_end}
use Rattle.ledger.proofs.Laws.Files.{places_in, used-files}
use Rattle.ledger.proofs.Laws.Apart.{Has, region, free-clear}
use Rattle.ledger.proofs.Laws.Opened.{Opened}

pub free-places : (image : List ℕ) → free_space_of image ≡ free_regions (disc_end image) (used_regions (table_end image) (places_in image))
unfolding used_in regions_behind_table
free-places image = rw (used-files (table_end image) (program_behind image) (nodes_in image))

-- the first n bytes of a region that has no byte i do not have it either
pub outside : (r : DiscRegion) (n i : ℕ) → n ≤ r.size → (Has r i → ⊥) → Outside r.offset n i
outside r n i h f = ⊎_elim (λ a. inl a) (λ a. ⊎_elim (λ b. absurd (f (a, omega arith))) (λ b. inr b) (lt-or-le i (r.offset + n))) (lt-or-le i r.offset)

-- ---- the table

pub record TableRoom (c : Change) (image : List ℕ) (words : ℕ) : Type 0 where
  pub within : limits c.nodes words ≡ Ok tt
  pub end : new_end c image ≤ disc_end image
  pub clear : (k i : ℕ) → Has (region (places_in image) k) i → new_end c image ≤ i
  pub place : 0 < c.place.size → new_end c image ≤ c.place.offset

module _ (c : Change) (image : List ℕ) (words bytes : ℕ) (o : Opened image) (v : table_verdict c (disc_of image) words bytes ≡ Ok tt) where
  within-ok : limits c.nodes words ≡ Ok tt
  unfolding table_verdict
  within-ok = (first-passed (limits c.nodes words) _ v).0

  tests : PlacePassed image bytes (length (encode c.nodes)) c.place
  unfolding table_verdict
  tests = place-passed image bytes (length (encode c.nodes)) c.place (first-passed (limits c.nodes words) _ v).1

  largest : IsLargestSize (is_free_in (used_regions (table_end image) (places_in image))) (disc_end image) (fst_offset image) (fst_size image) (max_region_size (fst_offset image) (fst_size image) (free_space_of image))
  largest = rw (free-places image) (table-largest (disc_end image) (table_end image) (places_in image) (fst_offset image) (fst_size image) refl)

  -- LAW: a new table is within the limits, ends on the disc, and covers no byte of the program or of a file, nor of the edited file's new place
  pub room : TableRoom c image words
  room = record {
    within = within-ok;
    end = omega (arith, largest.below, tests.grows, o.bounds.table);
    clear = λ k i h. ⊎_elim (λ l. absurd (not-grown k i h l)) (λ l. l) (lt-or-le i (new_end c image));
    place = tests.before;
  }
    where
      not-grown : (k i : ℕ) → Has (region (places_in image) k) i → i < new_end c image → ⊥
      not-grown k i h l =
          (free-clear (table_end image) (places_in image) i (largest.pass i (o.places.lie k i h).0 (omega (arith, tests.grows)))).1 k h

-- ---- a file's new place

-- each byte of it lies behind the table and on the disc, and in no other place than number r
abbrev pub Placeable : List ℕ → ℕ → DiscRegion → Type 0
Placeable image r new = (i : ℕ) → Has new i → (table_end image ≤ i) × (i < disc_end image) × ((k : ℕ) → (k ≡ r → ⊥) → Has (region (places_in image) k) i → ⊥)

module _ (image : List ℕ) (o : Opened image) where
  -- LAW: a place elsewhere that passes its tests has a byte of no file, and none of the program
  pub elsewhere : (old new : DiscRegion) → relocate_verdict (free_space_of image) old new ≡ Ok tt → (i : ℕ) → Has new i → (table_end image ≤ i) × (i < disc_end image) × ((k : ℕ) → Has (region (places_in image) k) i → ⊥)
  elsewhere old new v i h =
      let t = (refuse-passed (is_overlapping old new) OverlappingMove _ v).1 in
      let l : new.size ≤ max_region_size new.offset 0 (free_space_of image) = ltb-false _ _ (refuse-passed (ltb (max_region_size new.offset 0 (free_space_of image)) new.size) NotEnoughSpace (Ok tt) t).0 in
      let l' : new.size ≤ max_region_size new.offset 0 (free_regions (disc_end image) (used_regions (table_end image) (places_in image))) = rw (free-places image) at l in
      let p = place-free (disc_end image) (used_regions (table_end image) (places_in image)) new.offset new.size (omega arith) l' in
      let e : new.offset + (i - new.offset) ≡ i = omega arith in
      let f = free-clear (table_end image) (places_in image) i (rw e at (p.1 (i - new.offset) (omega arith))) in
      (f.0, omega (arith, p.0), f.1)

  -- LAW: where a file shrinks, or grows to its largest size at most
  pub in_place : (r n : ℕ) → r < length (places_in image) →
      (leb n (region (places_in image) r).size || leb n (max_region_size (region (places_in image) r).offset (region (places_in image) r).size (free_space_of image))) ≡ true →
      Placeable image r (record { offset = (region (places_in image) r).offset; size = n })
  in_place r n h v i b =
      ⊎_elim (λ l. let g : Has (region (places_in image) r) i = (b.0, l) in ((o.places.lie r i g).0, (o.places.lie r i g).1, λ k d m. d (o.places.apart k r i m g)))
      (λ l. ⊎_elim (λ a. absurd (omega (arith, leb-true n (region (places_in image) r).size a))) (λ a. grown l (leb-true _ _ a)) (or_cases (leb n (region (places_in image) r).size) _ v))
      (lt-or-le i ((region (places_in image) r).offset + (region (places_in image) r).size))
    where
      old : DiscRegion
      old = region (places_in image) r

      grown : old.offset + old.size ≤ i → n ≤ max_region_size old.offset old.size (free_space_of image) → (table_end image ≤ i) × (i < disc_end image) × ((k : ℕ) → (k ≡ r → ⊥) → Has (region (places_in image) k) i → ⊥)
      grown l m =
          let g = file-largest (disc_end image) (table_end image) (places_in image) old (in-region (places_in image) r h) in
          let m' : n ≤ max_region_size old.offset old.size (free_regions (disc_end image) (used_regions (table_end image) (places_in image))) = rw (free-places image) at m in
          let f = free-clear (table_end image) (places_in image) i (g.pass i l (omega arith)) in
          (f.0, omega (arith, g.below), λ k d. f.1 k)
