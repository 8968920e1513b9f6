-- A change that gives one file another place or size, and keeps clear of the others: the image opens, has the changed tree, and every file is
-- true to its history. Assumes nothing.
use Rattle.std.specs.Prelude.{Ok}
use Rattle.std.specs.Prelude.{ℕ, suc, ◌+◌, ◌-◌, ◌^◌, ◌<◌, ◌≤◌, min, ◌≡◌, refl, false, List, length, get_or, set}
use Rattle.std.proofs.Common.{ap, ◌∙◌}
use Rattle.std.proofs.Math.Logic.{inl}
use native.Mathlib.Omega.{arith}
use Rattle.endian.specs.Bytes.{AllBytes}
use Rattle.header.specs.Verdicts.{disc_end, table_end}
use Rattle.tree.specs.Table.{empty_root, encode}
use Rattle.tree.specs.Lookup.{is_directory}
use Rattle.tree.specs.Insert.{set_place}
use Rattle.tree.proofs.Laws.PlaceLaws.{set_place-sound}
use Rattle.space.specs.declared.region.DiscRegion.{DiscRegion}
use Rattle.opened.specs.Opening.{nodes_in, opening, region_of}
use Rattle.edit_rules.specs.Change.{Change, written_image}
use Rattle.edit_rules.specs.Edits.{relocation_change, resize_change}
use Rattle.ledger.specs.Ledger.{History, Ledger, files_before, new_history, lowered_history}
use Rattle.ledger.proofs.Laws.Written.{new_end, Safe, bytes-written_image, rest-written_image, copy_written, fst-offset-written_image, fst-size-written_image, fst-max-size-written_image, disc-end-written_image}
use Rattle.ledger.proofs.Laws.Layout.{LaidOut, laid-place}
use Rattle.ledger.specs.Inner.Files.{files_of}
use Rattle.ledger.proofs.Laws.Files.{files_in, places_in, files-set_place, files-at, files-count}
use Rattle.ledger.proofs.Laws.Apart.{Has, region, apart-test, apart-table, apart-set}
use Rattle.ledger.proofs.Laws.Histories.{True, Trues, SameIn, trues-set, trues-at, true-lowered_history}
use Rattle.ledger.proofs.Laws.Opened.{Opened, nodes-written_image, opens-written_image}
use Rattle.ledger.proofs.Laws.Room.{outside, TableRoom, Placeable}
use Rattle.ledger.proofs.Laws.Kept.{Kept, opened-kept}
use Rattle.ledger.proofs.Laws.ProgramKept.{ProgramKept, program-kept}

-- where file k lies, its number among the files, and that of its place behind the table
abbrev pub place_in : List ℕ → ℕ → DiscRegion
place_in image k = region_of (get_or (nodes_in image) k empty_root)

abbrev pub number_in : List ℕ → ℕ → ℕ
number_in image k = files_before k (nodes_in image)

abbrev pub place_number : List ℕ → ℕ → ℕ
place_number image k = suc (number_in image k)

-- where it lies among the others
module _ (w : ℕ) (image : List ℕ) (l : Ledger) (K : Kept w image l) (k : ℕ) (is_file : is_directory (get_or (nodes_in image) k empty_root) ≡ false) where
  pub place_is : region (places_in image) (place_number image k) ≡ place_in image k
  place_is = files-at k (nodes_in image) is_file

  pub place-lies : (i : ℕ) → Has (place_in image k) i → (table_end image ≤ i) × (i < disc_end image)
  place-lies i h = (opened-kept w image l K).places.lie (place_number image k) i (rw place_is h)

  pub not_there : (j i : ℕ) → (j ≡ place_number image k → ⊥) → Has (region (places_in image) j) i → Has (place_in image k) i → ⊥
  not_there j i d h g = d ((opened-kept w image l K).places.apart j (place_number image k) i h (rw place_is g))

module _ (w : ℕ) (image : List ℕ) (l : Ledger) (K : Kept w image l) (words : ℕ) (lent : words ≤ w) (k : ℕ) (is_file : is_directory (get_or (nodes_in image) k empty_root) ≡ false) (new : DiscRegion) (free : Placeable image (place_number image k) new) where
  o : Opened image
  o = opened-kept w image l K

  pub record Placed (c : Change) : Type 0 where
    pub nodes : c.nodes ≡ set_place k new.offset new.size (nodes_in image)
    pub safe : Safe c image
    pub room : TableRoom c image words
    pub place : c.place ≡ new
    pub others : (j : ℕ) → (j ≡ place_number image k → ⊥) → SameIn image (written_image c image) (region (places_in image) j)
    pub moved : (i : ℕ) → i < min (place_in image k).size new.size → get_or (written_image c image) (new.offset + i) 0 ≡ get_or image ((place_in image k).offset + i) 0

  pub placed-program : (c : Change) → Placed c → ProgramKept image (written_image c image)
  placed-program c p = program-kept c image o p.safe (p.others 0 (λ e. omega arith))

  pub placed-opens : (c : Change) → Placed c → opening (written_image c image) w ≡ Ok tt
  placed-opens c p =
      let e : files_of c.nodes ≡ set (files_in image) (number_in image k) new = rw p.nodes (files-set_place new.offset new.size k (nodes_in image) is_file) in
      let n : place_number image k < length (places_in image) = omega (arith, files-count k (nodes_in image) is_file) in
      opens-written_image c image p.safe words w lent p.room.within o.program (placed-program c p).program
      (rw e
      (apart-test (new_end c image) (disc_end image) (set (places_in image) (place_number image k) new) (omega (arith, o.bounds.after-header))
      (apart-set (new_end c image) (disc_end image) (places_in image) (apart-table (table_end image) (new_end c image) (disc_end image) (places_in image) o.places p.room.end p.room.clear) (place_number image k) new
      n (λ i h. (omega (arith, p.room.place (rw p.place (omega arith)), ap (λ (r : DiscRegion). r.offset) p.place), (free i h).1)) (λ j i d h g. (free i g).2 j d h))))

  pub placed-tree : (c : Change) → Placed c → nodes_in (written_image c image) ≡ set_place k new.offset new.size (nodes_in image)
  placed-tree c p = nodes-written_image c image p.safe words w lent p.room.within ∙ p.nodes

  pub placed-laid : (c : Change) → Placed c → LaidOut image (written_image c image) (length (encode c.nodes)) (place_in image k) new
  placed-laid c p =
      let e : files_in (written_image c image) ≡ set (files_in image) (number_in image k) new = rw (placed-tree c p) (files-set_place new.offset new.size k (nodes_in image) is_file) in
      rw (files-at k (nodes_in image) is_file) at
      (laid-place image (written_image c image) (disc-end-written_image c image p.safe) (fst-offset-written_image c image p.safe) (placed-program c p).program (length (encode c.nodes)) (fst-size-written_image c image p.safe) (fst-max-size-written_image c image p.safe) p.room.end
      p.room.clear o (number_in image k) new (files-count k (nodes_in image) is_file) e)

  pub placed-trues : (c : Change) → Placed c → (g : History) → True (written_image c image) new g → Trues (written_image c image) (files_in (written_image c image)) (set l.histories (number_in image k) g)
  placed-trues c p g h =
      rw (placed-tree c p, files-set_place new.offset new.size k (nodes_in image) is_file)
      (trues-set image (written_image c image) (number_in image k) new g (files_in image) l.histories (λ j d. p.others (suc j) (λ e. d (omega arith))) h K.trues)

  -- its history
  pub placed-true : (c : Change) → Placed c → True (written_image c image) new (lowered_history new.size (get_or l.histories (number_in image k) new_history))
  placed-true c p =
      true-lowered_history image (written_image c image) (place_in image k) new (get_or l.histories (number_in image k) new_history) p.moved (rw (files-at k (nodes_in image) is_file) at (trues-at image (files_in image) l.histories (number_in image k) K.trues (files-count k (nodes_in image) is_file)))

  pub placed-bytes : (c : Change) → Placed c → AllBytes (written_image c image)
  placed-bytes c p = bytes-written_image c image p.safe

  -- ---- elsewhere: the bytes are copied, the old place is zeroed

  module _ (no_region : (i : ℕ) → Has new i → Has (place_in image k) i → ⊥) (ho : new.offset < 2 ^ 32) (hn : new.size < 2 ^ 32)
      (r : TableRoom (relocation_change (nodes_in image) k (place_in image k) new) image words) where
    c : Change
    c = relocation_change (nodes_in image) k (place_in image k) new

    old-clear : (i : ℕ) → Has (place_in image k) i → new_end c image ≤ i
    unfolding c
    old-clear i h = r.clear (place_number image k) i (rw (place_is w image l K k is_file) h)

    relocated-safe : Safe (relocation_change (nodes_in image) k (place_in image k) new) image
    unfolding c
    relocated-safe = record {
      bytes = K.bytes;
      header = o.header;
      bounds = o.bounds;
      well = set_place-sound new.offset new.size k (nodes_in image) o.well ho hn;
      table = r.end;
      copied = λ z. (
        (free new.offset (omega arith, omega arith)).0,
        r.place (omega arith),
        omega (arith, (free (new.offset + new.size - 1) (omega arith, omega arith)).1),
        omega (arith, (place-lies w image l K k is_file ((place_in image k).offset + (place_in image k).size - 1) (omega arith, omega arith)).1),
      );
      zeroed = λ z. (
        (place-lies w image l K k is_file (place_in image k).offset (omega arith, omega arith)).0,
        old-clear (place_in image k).offset (omega arith, omega arith),
        omega (arith, (place-lies w image l K k is_file ((place_in image k).offset + (place_in image k).size - 1) (omega arith, omega arith)).1),
      );
    }

    pub relocated-placed : Placed (relocation_change (nodes_in image) k (place_in image k) new)
    unfolding c
    relocated-placed = record {
      nodes = refl;
      safe = relocated-safe;
      room = r;
      place = refl;
      others = λ j d i h.
          rest-written_image c image relocated-safe i (o.places.lie j i h).0 (r.clear j i h) (λ z. outside new (min (place_in image k).size new.size) i (omega arith) (λ g. (free i g).2 j d h))
          (λ z. outside (place_in image k) (place_in image k).size i (omega arith) (not_there w image l K k is_file j i d h));
      moved = λ i h. copy_written c image relocated-safe i h (λ z. outside (place_in image k) (place_in image k).size (new.offset + i) (omega arith) (no_region (new.offset + i) (omega arith, omega arith)));
    }

  -- ---- in place: nothing is copied, the lost end is zeroed

  module _ (here : new.offset ≡ (place_in image k).offset) (ho : new.offset < 2 ^ 32) (hn : new.size < 2 ^ 32)
      (r : TableRoom (resize_change (nodes_in image) k (place_in image k) new.size) image words) where
    d : Change
    d = resize_change (nodes_in image) k (place_in image k) new.size

    lost-old : (i : ℕ) → Has d.lost i → Has (place_in image k) i
    unfolding d
    lost-old i h = (omega arith, omega arith)

    old-clear' : (i : ℕ) → Has (place_in image k) i → new_end d image ≤ i
    unfolding d
    old-clear' i h = r.clear (place_number image k) i (rw (place_is w image l K k is_file) h)

    resized-safe : Safe (resize_change (nodes_in image) k (place_in image k) new.size) image
    unfolding d
    resized-safe = record {
      bytes = K.bytes;
      header = o.header;
      bounds = o.bounds;
      well = set_place-sound (place_in image k).offset new.size k (nodes_in image) o.well (rw here at ho) hn;
      table = r.end;
      copied = λ z. absurd (omega arith);
      zeroed = λ z. (
        (place-lies w image l K k is_file ((place_in image k).offset + new.size) (omega arith, omega arith)).0,
        old-clear' ((place_in image k).offset + new.size) (omega arith, omega arith),
        omega (arith, (place-lies w image l K k is_file ((place_in image k).offset + (place_in image k).size - 1) (omega arith, omega arith)).1),
      );
    }

    pub resized-placed : Placed (resize_change (nodes_in image) k (place_in image k) new.size)
    unfolding d
    resized-placed = record {
      nodes = rw here;
      safe = resized-safe;
      room = r;
      place = rw (← here);
      others = λ j q i h.
          rest-written_image d image resized-safe i (o.places.lie j i h).0 (r.clear j i h) (λ z. absurd (omega arith))
          (λ z. outside d.lost d.lost.size i (omega arith) (λ g. not_there w image l K k is_file j i q h (lost-old i g)));
      moved = λ i h.
          rw here (rest-written_image d image resized-safe ((place_in image k).offset + i) (place-lies w image l K k is_file ((place_in image k).offset + i) (omega arith, omega arith)).0 (old-clear' ((place_in image k).offset + i) (omega arith, omega arith)) (λ z. absurd (omega arith))
          (λ z. inl (omega arith)));
    }
