-- An accepted move or resize can be made in parts. Assumes nothing.
use Rattle.std.specs.Prelude.{Result, Ok, Err}
use Rattle.std.specs.Prelude.{ℕ, ◌+◌, ◌^◌, ◌<◌, ◌≤◌, ◌≡◌, refl, Bool, true, false, cond, ◌||◌, List, eqb, leb, length, get_or, set}
use Rattle.std.proofs.Common.{subst, arith, leb-false, eqb-true, get_or-set_same, get_or-set_other}
use Rattle.std.proofs.lemmas.Bool.{eqb-false}
use Rattle.endian.specs.Bytes.{AllBytes}
use Rattle.refusal.specs.declared.Refusal.{Refusal}
use Rattle.refusal.specs.Refusal.{Verdict, first}
use Rattle.refusal.specs.Laws.Chains.{first-passed}
use Rattle.refusal.specs.Laws.Tests.{or-false}
use Rattle.tree.specs.Table.{empty_root}
use Rattle.tree.specs.Lookup.{is_directory}
use Rattle.space.specs.declared.region.DiscRegion.{DiscRegion}
use Rattle.space.specs.Used.{no_region}
use Rattle.space.specs.MaxRegionSize.{max_region_size}
use Rattle.space.specs.Allocate.{allocation_of}
use Rattle.opened.specs.Opening.{nodes_in, free_space_of, disc_of}
use Rattle.edit_rules.specs.Change.{Change, written_image, Plan, refused, nothing, change, filled}
use Rattle.edit_rules.specs.Edits.{Edit, Account, insert_file, insert_directory, make_directories, move_file, resize_file, fill_file, rewrite, plan_behind, file_verdict, relocation_change, relocate_verdict, plan_move, resize_change, plan_elsewhere, plan_resize, plan_of, plan_verdict, verdict_of}
use Rattle.edit_rules.proofs.Laws.Accepted.{Accepted, accepted}
use Rattle.ledger.specs.Ledger.{Ledger, first_ledger}
use Rattle.ledger.proofs.Laws.Written.{fst-offset-written_image, fst-size-written_image, disc-end-written_image}
use Rattle.ledger.proofs.Laws.Files.{files_in, places_in, files-set_place, files-count, files-at}
use Rattle.ledger.proofs.Laws.Apart.{Has, region}
use Rattle.ledger.proofs.Laws.Opened.{Opened}
use Rattle.ledger.proofs.Laws.Room.{room, Placeable, elsewhere}
use Rattle.ledger.proofs.Laws.Kept.{Kept, opened-kept}
use Rattle.ledger.proofs.Laws.Placed.{place_in, number_in, place_number, place_is, not_there, Placed, placed-opens, placed-tree, placed-program, resized-placed}
use Rattle.ledger.proofs.Laws.PlaceEdits.{is-file, free-else, put-else, small_size, free-here, small-offset}
use Rattle.ledger.proofs.Laws.Layout.{places-are}
use Rattle.ledger.proofs.Laws.Sequence.{start}
use Rattle.edit.specs.Asked.{IsPlaceEdit}
use Rattle.steps.proofs.Laws.Parts.{FreeAt, Parts}

-- what a move's or a resize's plan is, if its tests pass
abbrev pub Parted : ℕ → List ℕ → Plan → Type 0
Parted w image (refused v) = Unit {0}
Parted w image nothing = Unit {0}
Parted w image (change k c) = Parts w c image
Parted w image (filled k clip p) = ⊥

module _ (image : List ℕ) (words bytes w : ℕ) (l : Ledger) (K : Kept w image l) (lent : words ≤ w) where
  o : Opened image
  o = opened-kept w image l K

  abbrev Splits : Plan → Type 0
  Splits p = plan_verdict p (disc_of image) words bytes ≡ Ok tt → Parted w image p

  splits-plan_behind : (v : Verdict) (p : Plan) → (v ≡ Ok tt → Splits p) → Splits (plan_behind v p)
  splits-plan_behind (Ok _) p f = f refl
  splits-plan_behind (Err c) p f = λ e. tt

  splits-cond : (a : Bool) (p q : Plan) → (a ≡ true → Splits p) → (a ≡ false → Splits q) → Splits (cond a p q)
  splits-cond true p q f g = f refl
  splits-cond false p q f g = g refl

  module _ (k : ℕ) (is_file : is_directory (get_or (nodes_in image) k empty_root) ≡ false) where
    -- what file k has lost is free, if none of it lies in the new place
    module _ (new : DiscRegion) (free : Placeable image (place_number image k) new) (c : Change) (p : Placed w image l K words lent k is_file new free c)
        (was : (i : ℕ) → Has c.lost i → Has (place_in image k) i) (left : (i : ℕ) → Has c.lost i → Has new i → ⊥) where
      places-after : places_in (written_image c image) ≡ set (places_in image) (place_number image k) new
      places-after =
          places-are image (written_image c image) (disc-end-written_image c image p.safe) (fst-offset-written_image c image p.safe) (placed-program w image l K words lent k is_file new free c p).program (set (files_in image) (number_in image k) new)
          (rw (placed-tree w image l K words lent k is_file new free c p) (files-set_place new.offset new.size k (nodes_in image) is_file))

      in-none : (i : ℕ) → Has c.lost i → (j : ℕ) (b : Bool) → eqb j (place_number image k) ≡ b → Has (region (set (places_in image) (place_number image k) new) j) i → ⊥
      in-none i h j true e g =
          let n : place_number image k < length (places_in image) = omega (arith, files-count k (nodes_in image) is_file) in
          let z : j ≡ place_number image k = eqb-true j (place_number image k) e in
          left i h (rw (get_or-set_same (places_in image) (place_number image k) new no_region n) at (rw z at g))
      in-none i h j false e g =
          let d : j ≡ place_number image k → ⊥ = eqb-false j (place_number image k) e in
          not_there w image l K k is_file j i d (rw (get_or-set_other (places_in image) (place_number image k) j new no_region d) at g) (was i h)

      lost-free : FreeAt (written_image c image) c.lost
      lost-free i h = (
        rw (fst-offset-written_image c image p.safe, fst-size-written_image c image p.safe) (p.room.clear (place_number image k) i (rw (place_is w image l K k is_file) (was i h))),
        λ j g. in-none i h j (eqb j (place_number image k)) refl (subst (λ (fs : List DiscRegion). Has (region fs j) i) places-after g),
      )

    to-other : (new : DiscRegion) → relocate_verdict (free_space_of image) (place_in image k) new ≡ Ok tt → new.offset < 2 ^ 32 → new.size < 2 ^ 32 → Splits (change k (relocation_change (nodes_in image) k (place_in image k) new))
    to-other new v ho hn u =
        let c : Change = relocation_change (nodes_in image) k (place_in image k) new in
        let free = free-else w image l K words bytes lent k is_file new v in
        let p = put-else w image l K words bytes lent k is_file new v ho hn u in
        let apart : (i : ℕ) → Has new i → Has (place_in image k) i → ⊥ = λ i h g. (elsewhere image o (place_in image k) new v i h).2 (place_number image k) (rw (files-at k (nodes_in image) is_file) g) in
        record {
          safe = p.safe;
          opens = placed-opens w image l K words lent k is_file new free c p;
          tree = placed-tree w image l K words lent k is_file new free c p;
          copy = λ i h. let e = elsewhere image o (place_in image k) new v i (h.0, omega arith) in (e.0, e.2);
          source = λ i h g. apart i (g.0, omega arith) (h.0, omega arith);
          lost = lost-free new free c p (λ i h. h) (λ i h g. apart i g h);
        }

    stay : (n : ℕ) → n < 2 ^ 32 → (n ≡ (place_in image k).size → ⊥) → (leb n (place_in image k).size || leb n (max_region_size (place_in image k).offset (place_in image k).size (free_space_of image))) ≡ true →
        Splits (change k (resize_change (nodes_in image) k (place_in image k) n))
    stay n hn d v u =
        let new : DiscRegion = record { offset = (place_in image k).offset; size = n } in
        let free = free-here w image l K words bytes lent k is_file n v in
        let c : Change = resize_change (nodes_in image) k (place_in image k) n in
        let p = resized-placed w image l K words lent k is_file new free refl (small-offset w image l K words bytes lent k is_file n free d) hn (room c image words bytes o u) in
        record {
          safe = p.safe;
          opens = placed-opens w image l K words lent k is_file new free c p;
          tree = placed-tree w image l K words lent k is_file new free c p;
          copy = λ i h. absurd (omega arith);
          source = λ i h g. omega arith;
          lost = lost-free new free c p (λ i h. (omega arith, omega arith)) (λ i h g. omega arith);
        }

    found : (n : ℕ) → n < 2 ^ 32 → (place_in image k).size < n → (a : Result DiscRegion Refusal) → Splits (plan_elsewhere (nodes_in image) (free_space_of image) k (place_in image k) n a)
    found n hn d (Err c) = λ e. tt
    found n hn d (Ok r) =
        let new : DiscRegion = record { offset = r.offset; size = n } in
        splits-plan_behind (relocate_verdict (free_space_of image) (place_in image k) new) _ (λ v.
        to-other new v (omega (arith, o.bounds.small, (free-else w image l K words bytes lent k is_file new v r.offset (omega arith, omega arith)).1)) hn)

  move-splits : (k to : ℕ) → to < 2 ^ 32 → Splits (plan_move (free_space_of image) (nodes_in image) k to)
  unfolding plan_move
  move-splits k to h =
      let new : DiscRegion = record { offset = to; size = (place_in image k).size } in
      splits-plan_behind (first (file_verdict (nodes_in image) k) (relocate_verdict (free_space_of image) (place_in image k) new)) _ (λ v.
      let v₁ = first-passed (file_verdict (nodes_in image) k) _ v in
      let is_file = is-file (nodes_in image) k v₁.0 in
      to-other k is_file new v₁.1 h (small_size w image l K words bytes lent k is_file))

  resize-splits : (k n : ℕ) → n < 2 ^ 32 → Splits (plan_resize (free_space_of image) (nodes_in image) k n)
  unfolding plan_resize
  resize-splits k n h =
      let old : DiscRegion = place_in image k in
      let t : Bool = leb n old.size || leb n (max_region_size old.offset old.size (free_space_of image)) in
      let in₁ : Plan = change k (resize_change (nodes_in image) k old n) in
      let in₂ : Plan = plan_elsewhere (nodes_in image) (free_space_of image) k old n (allocation_of 0x8000 n (free_space_of image)) in
      splits-plan_behind (file_verdict (nodes_in image) k) _ (λ v.
      let is_file = is-file (nodes_in image) k v in
      splits-cond (eqb n old.size) nothing (cond t in₁ in₂) (λ q u. tt)
      (λ q. splits-cond t in₁ in₂ (stay k is_file n h (eqb-false n old.size q))
      (λ g. found k is_file n h (leb-false n old.size (or-false (leb n old.size) _ g).0) (allocation_of 0x8000 n (free_space_of image)))))

  splits : (ed : Edit) → IsPlaceEdit ed → Splits (plan_of ed (disc_of image))
  splits (insert_file p nm) h = absurd h
  splits (insert_directory p nm) h = absurd h
  splits (make_directories from path) h = absurd h
  splits (move_file k to) h = move-splits k to h
  splits (resize_file k n) h = resize-splits k n h
  splits (fill_file k clip) h = absurd h
  splits rewrite h = absurd h

-- ---- of an accepted one

module _ (ed : Edit) (a : Account) (image : List ℕ) (words bytes : ℕ) (h : IsPlaceEdit ed) (b : AllBytes image) (v : verdict_of ed a image words bytes ≡ Ok tt) where
  -- LAW: its plan can be made in parts
  pub parted : Parted words image (plan_of ed (disc_of image))
  parted =
      let A : Accepted (plan_of ed (disc_of image)) a image words bytes = accepted ed a image words bytes v in
      let same : words ≤ words = omega arith in
      splits image words bytes words (first_ledger image) (start image words words same b A.opens) same ed h A.own

  -- LAW: and is none of a fill
  pub not_filled : (k : ℕ) (clip : List ℕ) (p : Plan) → plan_of ed (disc_of image) ≡ filled k clip p → ⊥
  not_filled k clip p e = subst (Parted words image) e parted

  pub change-parts : (k : ℕ) (c : Change) → plan_of ed (disc_of image) ≡ change k c → Parts words c image
  change-parts k c e = subst (Parted words image) e parted

  -- LAW: what is left to be zeroed ends on the disc
  pub lost-on-disc : (k : ℕ) (c : Change) → plan_of ed (disc_of image) ≡ change k c → 0 < c.lost.size → c.lost.offset + c.lost.size < 2 ^ 32
  lost-on-disc k c e z = let s = (change-parts k c e).safe in omega (arith, (s.zeroed z).2, s.bounds.small)
