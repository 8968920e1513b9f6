-- The edits of a file's place keep image and ledger: move, and resize in place and elsewhere. Assumes nothing.
use Rattle.std.specs.Prelude.{Result, Ok, Err}
use Rattle.refusal.specs.declared.Refusal.{Refusal}
use Rattle.std.specs.Prelude.{ℕ, ◌+◌, ◌-◌, ◌^◌, ◌<◌, ◌≤◌, ◌≡◌, refl, true, false, cond, ◌||◌, List, [], length, get_or, eqb}
use Rattle.std.proofs.Common.{sym, ◌∙◌, ⊎_elim, true≢false, arith, leb-false, eqb-true}
use Rattle.std.proofs.Math.Bool.{Bool}
use Rattle.std.proofs.lemmas.Bool.{eqb-false}
use Rattle.std.proofs.lemmas.List.{set-get_or}
use Rattle.std.proofs.Math.Dec.{leb}
use Rattle.refusal.specs.declared.Refusal.TheVariants.{NoSuchEntry, ExpectedFile}
use Rattle.refusal.specs.Refusal.{first}
use Rattle.refusal.specs.Laws.Chains.{refuse-passed, first-passed}
use Rattle.tree.specs.Table.{Node, file, directory, empty_root}
use Rattle.tree.specs.Lookup.{is_directory}
use Rattle.space.specs.declared.region.DiscRegion.{DiscRegion}
use Rattle.space.specs.Used.{no_region}
use Rattle.refusal.specs.Laws.Tests.{lt-or-le, or-false}
use Rattle.space.specs.MaxRegionSize.{max_region_size}
use Rattle.space.specs.Allocate.{allocation_of}
use Rattle.opened.specs.Opening.{nodes_in, free_space_of, region_of, disc_of}
use Rattle.edit_rules.specs.Change.{Change, written_image, table_verdict, Plan, nothing, change}
use Rattle.edit_rules.specs.Edits.{move_file, resize_file, file_verdict, relocation_change, relocate_verdict, plan_move, resize_change, plan_elsewhere, plan_resize}
use Rattle.ledger.specs.Ledger.{History, Ledger, files_before, new_history, named_history, lowered_history, ledger_with}
use Rattle.ledger.proofs.Laws.Files.{files_in, files-at, files-count}
use Rattle.ledger.proofs.Laws.Apart.{region}
use Rattle.ledger.proofs.Laws.Histories.{True, trues-at, true-lowered_history, trues-set}
use Rattle.ledger.proofs.Laws.Bare.{before-node_without_place, set_place-node_without_place, move-node_without_place}
use Rattle.ledger.proofs.Laws.Opened.{Opened}
use Rattle.ledger.proofs.Laws.Room.{room, Placeable, elsewhere, in_place}
use Rattle.ledger.proofs.Laws.Kept.{Kept, opened-kept}
use Rattle.ledger.proofs.Laws.Placed.{place_in, number_in, place_number, Placed, placed-opens, placed-tree, placed-trues, placed-true, placed-bytes, relocated-placed, resized-placed}
use Rattle.ledger.proofs.Laws.Plans.{Good, good-plan_behind, good-refused, good-cond}

-- ---- a file's tests

pub is-file : (nodes : List Node) (k : ℕ) → file_verdict nodes k ≡ Ok tt → is_directory (get_or nodes k empty_root) ≡ false
is-file nodes k v =
    (refuse-passed (is_directory (get_or nodes k empty_root)) ExpectedFile (Ok tt) (refuse-passed (leb (length nodes) k) NoSuchEntry _ v).1).0

pub file-of : (x : Node) → is_directory x ≡ false → (nm : List ℕ) × (x ≡ file nm (region_of x).offset (region_of x).size)
file-of (file nm offset size) e = (nm, refl)
file-of (directory nm next) e = ([], absurd (true≢false e))

-- ---- a history that is marked, where the size stays

true-named_history : (image : List ℕ) (y : DiscRegion) (h : History) → h.m ≤ y.size → True image y (lowered_history y.size h) → True image y (named_history h)
true-named_history image y h l t = record {
  least = l;
  known = omega (arith, t.known);
  same = λ i d. t.same i (omega arith);
  unnamed = λ z. absurd (true≢false z);
}

module _ (w : ℕ) (image : List ℕ) (l : Ledger) (K : Kept w image l) (words bytes : ℕ) (lent : words ≤ w) where
  o : Opened image
  o = opened-kept w image l K

  number_is : (k : ℕ) → files_before k l.nodes ≡ number_in image k
  number_is k = rw (← K.shape) (before-node_without_place k (nodes_in image))

  module _ (k : ℕ) (is_file : is_directory (get_or (nodes_in image) k empty_root) ≡ false) where
    -- its history so far
    old-true : True image (place_in image k) (get_or l.histories (number_in image k) new_history)
    old-true = rw (files-at k (nodes_in image) is_file) at (trues-at image (files_in image) l.histories (number_in image k) K.trues (files-count k (nodes_in image) is_file))

    -- resized in some way
    resized-kept : (c : Change) (new : DiscRegion) (free : Placeable image (place_number image k) new) →
        Placed w image l K words lent k is_file new free c → Kept w (written_image c image) (ledger_with (resize_file k new.size) l)
    resized-kept c new free p = record {
      bytes = placed-bytes w image l K words lent k is_file new free c p;
      opens = placed-opens w image l K words lent k is_file new free c p;
      shape = rw (placed-tree w image l K words lent k is_file new free c p) (set_place-node_without_place new.offset new.size k (nodes_in image) ∙ rw K.shape);
      trues = rw (number_is k) (placed-trues w image l K words lent k is_file new free c p
          (lowered_history new.size (get_or l.histories (number_in image k) new_history)) (placed-true w image l K words lent k is_file new free c p));
    }

    -- moved to a place of the same size
    moved-kept : (c : Change) (to : ℕ) (free : Placeable image (place_number image k) (record { offset = to; size = (place_in image k).size })) →
        Placed w image l K words lent k is_file (record { offset = to; size = (place_in image k).size }) free c →
        Kept w (written_image c image) (ledger_with (move_file k to) l)
    moved-kept c to free p =
        let new : DiscRegion = record { offset = to; size = (place_in image k).size } in
        let h : History = get_or l.histories (number_in image k) new_history in
        let x = file-of (get_or (nodes_in image) k empty_root) is_file in
        record {
          bytes = placed-bytes w image l K words lent k is_file new free c p;
          opens = placed-opens w image l K words lent k is_file new free c p;
          shape = rw (placed-tree w image l K words lent k is_file new free c p) (move-node_without_place to k (nodes_in image) x.0 _ _ x.1 ∙ K.shape);
          trues = rw (number_is k) (placed-trues w image l K words lent k is_file new free c p (named_history h)
              (true-named_history (written_image c image) new h old-true.least (placed-true w image l K words lent k is_file new free c p)));
        }

    -- elsewhere
    pub free-else : (new : DiscRegion) → relocate_verdict (free_space_of image) (place_in image k) new ≡ Ok tt → Placeable image (place_number image k) new
    free-else new v i h = let f = elsewhere image o (place_in image k) new v i h in (f.0, f.1, λ j d. f.2 j)

    pub put-else : (new : DiscRegion) (v : relocate_verdict (free_space_of image) (place_in image k) new ≡ Ok tt) → new.offset < 2 ^ 32 → new.size < 2 ^ 32 →
        table_verdict (relocation_change (nodes_in image) k (place_in image k) new) (disc_of image) words bytes ≡ Ok tt →
        Placed w image l K words lent k is_file new (free-else new v) (relocation_change (nodes_in image) k (place_in image k) new)
    put-else new v ho hn u =
        relocated-placed w image l K words lent k is_file new (free-else new v)
        (λ i h g. (elsewhere image o (place_in image k) new v i h).2 (place_number image k) (rw (files-at k (nodes_in image) is_file) g)) ho hn
        (room (relocation_change (nodes_in image) k (place_in image k) new) image words bytes o u)

    -- the file's size, and where it is resized in place its offset, have 32 bits
    pub small_size : (place_in image k).size < 2 ^ 32
    small_size =
        ⊎_elim (λ z. omega (arith, o.bounds.small, (o.places.lie (place_number image k) ((place_in image k).offset + (place_in image k).size - 1) (rw (files-at k (nodes_in image) is_file) (omega arith, omega arith))).1))
        (λ z. omega arith) (lt-or-le 0 (place_in image k).size)

    -- resized to the present size: nothing is written
    same_size : (n : ℕ) → n ≡ (place_in image k).size → Kept w image (ledger_with (resize_file k n) l)
    same_size n e =
        let r : ℕ = number_in image k in
        let h : History = get_or l.histories r new_history in
        let x = file-of (get_or (nodes_in image) k empty_root) is_file in
        let x' : get_or (nodes_in image) k empty_root ≡ file x.0 (place_in image k).offset n = rw e x.1 in
        let t : True image (region (files_in image) r) (lowered_history n h) =
        rw (files-at k (nodes_in image) is_file, e) (true-lowered_history image image (place_in image k) (place_in image k) h (λ i d. refl) old-true) in
        record {
          bytes = K.bytes;
          opens = K.opens;
          shape = sym (move-node_without_place 0 k (nodes_in image) x.0 (place_in image k).offset n x') ∙ set_place-node_without_place 0 n k (nodes_in image) ∙ rw K.shape;
          trues = rw (number_is k) (rw (set-get_or (files_in image) r no_region) at (trues-set image image r (region (files_in image) r) (lowered_history n h) (files_in image) l.histories (λ j d i g. refl) t K.trues));
        }

    -- in place
    pub free-here : (n : ℕ) → (leb n (place_in image k).size || leb n (max_region_size (place_in image k).offset (place_in image k).size (free_space_of image))) ≡ true →
        Placeable image (place_number image k) (record { offset = (place_in image k).offset; size = n })
    free-here n v =
        let f = files-at k (nodes_in image) is_file in
        rw f at (in_place image o (place_number image k) n (omega (arith, files-count k (nodes_in image) is_file)) (rw f v))

    pub small-offset : (n : ℕ) → Placeable image (place_number image k) (record { offset = (place_in image k).offset; size = n }) →
        (n ≡ (place_in image k).size → ⊥) → (place_in image k).offset < 2 ^ 32
    small-offset n free d =
        ⊎_elim (λ z. omega (arith, o.bounds.small, (free (place_in image k).offset (omega arith, omega arith)).1))
        (λ z. ⊎_elim (λ y. omega (arith, o.bounds.small, (o.places.lie (place_number image k) (place_in image k).offset (rw (files-at k (nodes_in image) is_file) (omega arith, omega arith))).1))
        (λ y. absurd (d (omega arith))) (lt-or-le 0 (place_in image k).size)) (lt-or-le 0 n)

    here : (n : ℕ) → n < 2 ^ 32 → (n ≡ (place_in image k).size → ⊥) →
        (leb n (place_in image k).size || leb n (max_region_size (place_in image k).offset (place_in image k).size (free_space_of image))) ≡ true →
        Good w image words bytes (change k (resize_change (nodes_in image) k (place_in image k) n)) (ledger_with (resize_file k n) l)
    here n hn d v u =
        let new : DiscRegion = record { offset = (place_in image k).offset; size = n } in
        let free = free-here n v in
        resized-kept (resize_change (nodes_in image) k (place_in image k) n) new free
        (resized-placed w image l K words lent k is_file new free refl (small-offset n free d) hn
        (room (resize_change (nodes_in image) k (place_in image k) n) image words bytes o u))

    -- where a place is found
    found : (n : ℕ) → n < 2 ^ 32 → (place_in image k).size < n → (a : Result DiscRegion Refusal) →
        Good w image words bytes (plan_elsewhere (nodes_in image) (free_space_of image) k (place_in image k) n a) (ledger_with (resize_file k n) l)
    found n hn d (Err c) = good-refused w image words bytes c (ledger_with (resize_file k n) l)
    found n hn d (Ok r) =
        good-plan_behind w image words bytes (relocate_verdict (free_space_of image) (place_in image k) (record { offset = r.offset; size = n })) _ _ (λ v u.
        let new : DiscRegion = record { offset = r.offset; size = n } in
        let ho : new.offset < 2 ^ 32 = omega (arith, o.bounds.small, (free-else new v r.offset (omega arith, omega arith)).1) in
        resized-kept (relocation_change (nodes_in image) k (place_in image k) new) new (free-else new v) (put-else new v ho hn u))

  pub step_move : (k to : ℕ) → to < 2 ^ 32 → Good w image words bytes (plan_move (free_space_of image) (nodes_in image) k to) (ledger_with (move_file k to) l)
  unfolding plan_move
  step_move k to h =
      let new : DiscRegion = record { offset = to; size = (place_in image k).size } in
      good-plan_behind w image words bytes (first (file_verdict (nodes_in image) k) (relocate_verdict (free_space_of image) (place_in image k) new)) _ _ (λ v u.
      let v₁ = first-passed (file_verdict (nodes_in image) k) _ v in
      let is_file = is-file (nodes_in image) k v₁.0 in
      moved-kept k is_file (relocation_change (nodes_in image) k (place_in image k) new) to (free-else k is_file new v₁.1) (put-else k is_file new v₁.1 h (small_size k is_file) u))

  pub step-resize : (k n : ℕ) → n < 2 ^ 32 → Good w image words bytes (plan_resize (free_space_of image) (nodes_in image) k n) (ledger_with (resize_file k n) l)
  unfolding plan_resize
  step-resize k n h =
      let old : DiscRegion = place_in image k in
      let t : Bool = leb n old.size || leb n (max_region_size old.offset old.size (free_space_of image)) in
      let in₁ : Plan = change k (resize_change (nodes_in image) k old n) in
      let in₂ : Plan = plan_elsewhere (nodes_in image) (free_space_of image) k old n (allocation_of 0x8000 n (free_space_of image)) in
      good-plan_behind w image words bytes (file_verdict (nodes_in image) k) _ _ (λ v.
      let is_file = is-file (nodes_in image) k v in
      good-cond w image words bytes (eqb n old.size) nothing (cond t in₁ in₂) (ledger_with (resize_file k n) l) (λ e u. same_size k is_file n (eqb-true n old.size e))
      (λ e. good-cond w image words bytes t in₁ in₂ (ledger_with (resize_file k n) l) (here k is_file n h (eqb-false n old.size e))
      (λ g. found k is_file n h (leb-false n old.size (or-false (leb n old.size) _ g).0) (allocation_of 0x8000 n (free_space_of image)))))
