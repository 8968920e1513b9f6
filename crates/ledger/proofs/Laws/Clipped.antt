-- A clip put over a file, as long as the file: the image opens with the same tree and program, every other file stays, and the file is the clip.
-- Assumes nothing.
use Rattle.std.specs.Prelude.{ℕ, suc, ◌+◌, ◌-◌, ◌<◌, ◌≤◌, ◌≡◌, refl, false, List, [], ◌∷◌, length, get_or, set}
use Rattle.space.specs.Used.{no_region}
use Rattle.std.proofs.Common.{ap, ⊎_elim, true≢false, arith}
use Rattle.std.proofs.lemmas.List.{set-get_or}
use Rattle.endian.specs.Bytes.{put, span, be32, AllBytes}
use Rattle.endian.specs.Laws.Stored.{put_in, span-put}
use Rattle.header.specs.Verdicts.{disc_end, table_end}
use Rattle.tree.specs.Table.{empty_root}
use Rattle.tree.specs.Lookup.{is_directory}
use Rattle.opened.specs.Opening.{nodes_in, free_space_of, used_of}
use Rattle.edit_rules.specs.Change.{Plan}
use Rattle.ledger.specs.Ledger.{History, Ledger, refilled_history}
use Rattle.edit_rules.proofs.Laws.Puts.{Fits, put-length, put_all, put-else, put-below, field_below}
use Rattle.ledger.proofs.Laws.Files.{files_in, places_in}
use Rattle.ledger.proofs.Laws.Apart.{Has, region}
use Rattle.ledger.proofs.Laws.Histories.{True, SameIn, trues-set}
use Rattle.ledger.proofs.Laws.Alike.{Alike, tree-same, total-same, free-same, opens-same}
use Rattle.ledger.proofs.Laws.Opened.{Opened}
use Rattle.ledger.proofs.Laws.Room.{outside}
use Rattle.ledger.proofs.Laws.Kept.{Kept, opened-kept}
use Rattle.ledger.proofs.Laws.Placed.{place_in, number_in, place_number, place_is, place-lies, not_there}
use Rattle.ledger.proofs.Laws.ProgramKept.{ProgramKept, program-spared}
use Rattle.ledger.proofs.Laws.Layout.{Lays, laid_on}

-- the image with the clip over file k
abbrev pub with_clip : List ℕ → ℕ → List ℕ → List ℕ
with_clip image k clip = put image (place_in image k).offset clip

-- the bytes at `at` are the clip, all of them
pub record Shown (image : List ℕ) (at : ℕ) (clip : List ℕ) : Type 0 where
  pub inside : 0 < length clip → at + length clip ≤ length image
  pub bytes : span image at (length clip) ≡ clip

module _ (w : ℕ) (image : List ℕ) (l : Ledger) (K : Kept w image l) (k : ℕ) (is_file : is_directory (get_or (nodes_in image) k empty_root) ≡ false) (clip : List ℕ) (bytes : AllBytes clip) (long : length clip ≡ (place_in image k).size) where
  o : Opened image
  o = opened-kept w image l K

  lies : (i : ℕ) → Has (place_in image k) i → (table_end image ≤ i) × (i < disc_end image)
  lies = place-lies w image l K k is_file

  fits : Fits image (place_in image k).offset (length clip)
  fits z = omega (arith, o.bounds.image_holds, (lies ((place_in image k).offset + length clip - 1) (omega arith, omega arith)).1)

  pub length-clipped : length (with_clip image k clip) ≡ length image
  length-clipped = put-length image (place_in image k).offset clip fits

  -- ---- byte by byte

  else_same : (i : ℕ) → (Has (place_in image k) i → ⊥) → get_or (with_clip image k clip) i 0 ≡ get_or image i 0
  else_same i h = put-else image (place_in image k).offset clip fits i (λ z. outside (place_in image k) (length clip) i (omega arith) h)

  behind : 0 < length clip → table_end image ≤ (place_in image k).offset
  behind z = (lies (place_in image k).offset (omega arith, omega arith)).0

  low_same : (i : ℕ) → i < table_end image → get_or (with_clip image k clip) i 0 ≡ get_or image i 0
  low_same = put-below image (place_in image k).offset clip (table_end image) fits behind

  others_same : (j : ℕ) → (j ≡ place_number image k → ⊥) → SameIn image (with_clip image k clip) (region (places_in image) j)
  others_same j d i h = else_same i (not_there w image l K k is_file j i d h)

  -- ---- the header, the table, the program

  field-same : (at : ℕ) → at + 4 ≤ 0x440 → be32 (with_clip image k clip) at ≡ be32 image at
  field-same at h = field_below image (place_in image k).offset clip (table_end image) fits behind at (omega (arith, o.bounds.after-header))

  pub program-clipped : ProgramKept image (with_clip image k clip)
  program-clipped =
      program-spared image (with_clip image k clip) o length-clipped (λ i h. low_same i (omega (arith, o.bounds.after-header))) (λ i h g. low_same i (omega arith)) (others_same 0 (λ e. omega arith))

  alike : Alike image (with_clip image k clip)
  alike = record {
    len = length-clipped;
    field = λ at h. field-same at (⊎_elim (λ z. omega arith) (λ z. z.1) h);
    table = λ i h l. low_same i l;
    program = program-clipped.program;
  }

  pub tree-clipped : nodes_in (with_clip image k clip) ≡ nodes_in image
  tree-clipped = tree-same image (with_clip image k clip) alike o

  -- what was laid out before the clip is laid out with it
  pub layout-clipped : (first : List ℕ) (p : Plan) → Lays p first image → Lays p first (with_clip image k clip)
  layout-clipped first = laid_on first image (with_clip image k clip) o alike (field-same 0x42C (omega arith))

  -- LAW: as many bytes are used, and the same are free
  pub used-clipped : used_of (with_clip image k clip) ≡ used_of image
  used-clipped = total-same image (with_clip image k clip) alike o

  pub free-clipped : free_space_of (with_clip image k clip) ≡ free_space_of image
  free-clipped = free-same image (with_clip image k clip) alike o

  -- ---- the file

  file-clipped : (h : History) → True (with_clip image k clip) (place_in image k) (refilled_history clip h)
  file-clipped h = record {
    least = omega arith;
    known = omega arith;
    same = λ i u. put_in image (place_in image k).offset clip (fits (omega arith)) i u;
    unnamed = λ z. absurd (true≢false z);
  }

  pub clip-shown : Shown (with_clip image k clip) (place_in image k).offset clip
  clip-shown = record { inside = λ z. rw length-clipped (fits z); bytes = go clip refl }
    where
      go : (c : List ℕ) → clip ≡ c → span (put image (place_in image k).offset c) (place_in image k).offset (length c) ≡ c
      go [] e = refl
      go (x ∷ xs) e = let q : length clip ≡ length (x ∷ xs) = ap length e in span-put image (place_in image k).offset (x ∷ xs) (omega (arith, fits (omega arith)))

  -- LAW: the image with the clip over file k
  pub clipped-kept : (h : History) → Kept w (with_clip image k clip) (record { nodes = l.nodes; histories = set l.histories (number_in image k) (refilled_history clip h) })
  clipped-kept h =
      let r : ℕ = number_in image k in
      let p : region (files_in image) r ≡ place_in image k = place_is w image l K k is_file in
      record {
        bytes = put_all image (place_in image k).offset clip fits K.bytes bytes;
        opens = opens-same image (with_clip image k clip) alike o w K.opens;
        shape = rw tree-clipped K.shape;
        trues = rw tree-clipped (rw (set-get_or (files_in image) r no_region) at (trues-set image (with_clip image k clip) r (region (files_in image) r) (refilled_history clip h) (files_in image) l.histories
            (λ j d. others_same (suc j) (λ e. d (omega arith))) (rw p (file-clipped h)) K.trues));
      }
