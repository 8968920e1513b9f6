-- An open image: its table, the tests of a new one, and where its files lie. Assumes nothing.
use Rattle.std.specs.Prelude.{Result, Ok, Err}
use Rattle.refusal.specs.Refusal.{Verdict, first}
use Rattle.refusal.specs.declared.Refusal.{Refusal}
use Prim.Native.Nat.{ℕ, zero, suc, ◌+◌, ◌≤◌, ◌<◌, ◌^◌}
use mathlib.Core.Path.{◌≡◌, refl, sym, ap, ◌∙◌}
use mathlib.Core.Logic.{◌⊎◌, inl, inr, ⊎_elim}
use mathlib.Core.Bool.{Bool, true, false, cond, ◌&&◌}
use mathlib.Core.List.{List, [], ◌∷◌, map, tail}
use native.Mathlib.Omega.{arith}
use borrow.Author.Tests.{ltb-false, lt-ltb, le-ltb, leb-true, eqb-true}
use lib.Dec.{ltb, leb, eqb}
use lib.ListN.{length, get_or}
use Rattle.refusal.specs.declared.Refusal.TheVariants.{LimitOrMemory, NotEnoughSpace, OverlappingMove}
use Rattle.refusal.specs.Laws.Chains.{refuse-passed, first-passed}
use Rattle.header.specs.Verdicts.{fst_offset, fst_size, disc_end, table_end}
use Rattle.tree.specs.Table.{Node, empty_root, count, nodes_of, texts_of, encode, limits}
use Rattle.tree.proofs.Laws.Accepted.{length-nodes_of}
use Rattle.tree.proofs.Laws.WrittenEntries.{length-encode}
use Rattle.tree.proofs.Laws.RoundTrip.{Within, within-limits, limits-within}
use Rattle.table_writing.specs.Inner.Measure.{measure_of}
use Rattle.space.specs.declared.region.DiscRegion.{DiscRegion}
use Rattle.space.specs.Used.{end_of, used_regions}
use Rattle.space.specs.Laws.UsedLaws.{lies_within, files_within}
use Rattle.refusal.specs.Laws.Tests.{and_left, and_right, or_cases, lt-or-le}
use Rattle.space.specs.MaxRegionSize.{max_region_size}
use Rattle.space.specs.Free.{free_regions}
use Rattle.space.specs.Laws.GrowthLaws.{table-largest, place-free}
use Rattle.space.specs.Laws.PassedLayout.{passes}
use Rattle.opened.specs.Opening.{table_of, nodes_in, region_of, regions_behind_table, used_in, free_space_of, Disc, disc_of}
use Rattle.edit_rules.specs.Change.{table_verdict, place_verdict}
use Rattle.edit_rules.specs.Edits.{is_overlapping, relocate_verdict}
use Rattle.edit_rules.proofs.Laws.PlaceTests.{place-passed, free-byte}
use Rattle.opened.specs.Inner.Prepared.{IsOpenImage}
use Rattle.edit.specs.Inner.Decision.{TableFits, placing_change, value_behind}
use Rattle.edit.proofs.Decisions.{tests-passed}

-- regions that do not overlap lie one behind the other
pub one-behind : (old new : DiscRegion) → is_overlapping old new ≡ false → 0 < new.size → 0 < old.size → (end_of new ≤ old.offset) ⊎ (end_of old ≤ new.offset)
one-behind old new e z y = ⊎_elim (λ h. inl (ltb-false old.offset (end_of new) (rw (lt-ltb new.offset (end_of old) h) at e))) (λ h. inr h) (lt-or-le new.offset (end_of old))

-- ---- a file that is not empty lies behind the table and on the disc

lies : (t e : ℕ) (x : DiscRegion) → lies_within t e x ≡ true → 0 < x.size → (t ≤ x.offset) × (end_of x ≤ e)
unfolding lies_within
lies t e x l z =
    ⊎_elim (λ q. absurd (omega (arith, eqb-true x.size 0 q)))
    (λ q. (leb-true t x.offset (and_left (leb t x.offset) (leb (end_of x) e) q), leb-true (end_of x) e (and_right (leb t x.offset) (leb (end_of x) e) q)))
    (or_cases (eqb x.size 0) (leb t x.offset && leb (end_of x) e) l)

within-rest : (t e : ℕ) (x : DiscRegion) (xs : List DiscRegion) → files_within t e (x ∷ xs) ≡ true → files_within t e xs ≡ true
unfolding files_within
within-rest t e x xs w = and_right (lies_within t e x) (files_within t e xs) w

within-at : (t e : ℕ) (xs : List Node) (k : ℕ) → files_within t e (map region_of xs) ≡ true → 0 < (region_of (get_or xs k empty_root)).size → (t ≤ (region_of (get_or xs k empty_root)).offset) × (end_of (region_of (get_or xs k empty_root)) ≤ e)
unfolding files_within
within-at t e [] k w z = absurd (omega arith)
within-at t e (x ∷ xs) zero w z = lies t e (region_of x) (and_left (lies_within t e (region_of x)) (files_within t e (map region_of xs)) w) z
within-at t e (x ∷ xs) (suc k) w z = within-at t e xs k (and_right (lies_within t e (region_of x)) (files_within t e (map region_of xs)) w) z

-- ---- the limits of the tree as it is, from the size that was measured

-- a table that is not measured passes the limit of the texts
pub measured-cause : (tab : List ℕ) (cause : Refusal) → measure_of tab ≡ Err cause → cause ≡ LimitOrMemory
unfolding measure_of
measured-cause tab cause e = go (ltb 1048576 (length (texts_of (tail (nodes_of tab))))) e
  where
    go : (t : Bool) → cond t (Err LimitOrMemory) (Ok (length (encode (nodes_of tab)))) ≡ Err cause → cause ≡ LimitOrMemory
    go true q = cc
    go false q = let z : ◌≡◌ {A = ℕ} 0 1 = cc in absurd (omega arith)

module _ (image : List ℕ) (words : ℕ) (known : IsOpenImage image words) where
  length-nodes : length (nodes_in image) ≡ count (table_of image)
  unfolding nodes_in
  length-nodes = length-nodes_of (table_of image)

  within : length (texts_of (tail (nodes_in image))) ≤ 2 ^ 20 → Within (nodes_in image) words
  unfolding nodes_in
  within h = record {
    few = omega (arith, length-nodes, known.reads.table.few);
    texts = h;
    room = omega (arith, length-nodes, known.reads.table.room);
    depth = known.reads.table.depth;
  }

  pub measured-past : measure_of (table_of image) ≡ Err LimitOrMemory → limits (nodes_in image) words ≡ Err LimitOrMemory
  unfolding measure_of limits nodes_in
  measured-past e = go (ltb 1048576 (length (texts_of (tail (nodes_in image))))) refl e
    where
      go : (t : Bool) → ltb 1048576 (length (texts_of (tail (nodes_in image)))) ≡ t → cond t (Err LimitOrMemory) (Ok (length (encode (nodes_in image)))) ≡ Err LimitOrMemory → limits (nodes_in image) words ≡ Err LimitOrMemory
      go true a q = let f : length (nodes_in image) ≤ 16384 = omega (arith, length-nodes, known.reads.table.few) in
          rw (le-ltb 16384 (length (nodes_in image)) f, a)
      go false a q = let z : ◌≡◌ {A = ℕ} 0 1 = cc in absurd (omega arith)

  pub measured-size : (n : ℕ) → measure_of (table_of image) ≡ Ok n → (limits (nodes_in image) words ≡ Ok tt) × (n ≡ length (encode (nodes_in image)))
  unfolding measure_of nodes_in
  measured-size n e = go (ltb 1048576 (length (texts_of (tail (nodes_in image))))) refl e
    where
      go : (t : Bool) → ltb 1048576 (length (texts_of (tail (nodes_in image)))) ≡ t → cond t (Err LimitOrMemory) (Ok (length (encode (nodes_in image)))) ≡ Ok n →
          (limits (nodes_in image) words ≡ Ok tt) × (n ≡ length (encode (nodes_in image)))
      go true a q = let z : ◌≡◌ {A = ℕ} 0 1 = cc in absurd (omega arith)
      go false a q = (limits-within (nodes_in image) words (within (ltb-false 1048576 _ a)), cc)

  -- ---- where the table and the files lie

  pub place-fits : (x : Disc) → disc_of image ≡ x → (room size : ℕ) (place : DiscRegion) → place_verdict x room size place ≡ Ok tt → TableFits (length image) room (fst_offset image) (fst_size image) size
  unfolding used_in
  place-fits x same room size place e =
      let p = place-passed image room size place (ap (λ (y : Disc). place_verdict y room size place) same ∙ e) in
      let m : size ≤ max_region_size (fst_offset image) (fst_size image) (free_regions (disc_end image) (used_regions (table_end image) (regions_behind_table image))) = p.grows in
      let l = table-largest (disc_end image) (table_end image) (regions_behind_table image) (fst_offset image) (fst_size image) refl in
      let k = known.reads.bounds in
      record {
        behind-header = k.after-header;
        old = omega (arith, k.table, k.image_holds);
        into = omega (arith, l.below, k.table, k.image_holds);
        held = p.held;
        small = omega (arith, l.below, k.table, k.small);
      }

  -- the disc ends in the image, at a number of 32 bits
  pub end-in-image : disc_end image ≤ length image
  end-in-image = known.reads.bounds.image_holds

  pub end-small : disc_end image < 2 ^ 32
  end-small = omega (arith, known.reads.bounds.small)

  -- a file that is not empty lies behind the table, and ends by the disc end
  pub file-lies : (k : ℕ) → 0 < (region_of (get_or (nodes_in image) k empty_root)).size → (table_end image ≤ (region_of (get_or (nodes_in image) k empty_root)).offset) × (end_of (region_of (get_or (nodes_in image) k empty_root)) ≤ disc_end image)
  unfolding used_in regions_behind_table
  file-lies k z =
      let b = known.reads.bounds in
      let p = passes (table_end image) (disc_end image) (regions_behind_table image) (omega (arith, b.after-header)) known.layout in
      within-at (table_end image) (disc_end image) (nodes_in image) k (within-rest _ _ _ _ p.within) z

  -- n bytes that are free
  pub place-lies : (o n : ℕ) → n ≤ max_region_size o 0 (free_space_of image) → 0 < n → (table_end image ≤ o) × (o + n ≤ disc_end image)
  unfolding used_in
  place-lies o n m z =
      let p = place-free (disc_end image) (used_in image) o n z m in
      let e : o + 0 ≡ o = omega arith in
      ((free-byte (table_end image) (regions_behind_table image) o (rw e at (p.1 0 z))).0, p.0)

  -- a new place that is not empty
  pub new-place : (old new : DiscRegion) → relocate_verdict (free_space_of image) old new ≡ Ok tt → 0 < new.size → (table_end image ≤ new.offset) × (end_of new ≤ disc_end image)
  new-place old new e z =
      let a = refuse-passed (is_overlapping old new) OverlappingMove _ e in
      let b = refuse-passed (ltb (max_region_size new.offset 0 (free_space_of image)) new.size) NotEnoughSpace _ a.1 in
      place-lies new.offset new.size (ltb-false _ new.size b.0) z

-- the tests of a table: the limits, then its size and place
pub table-tests : (nodes : List Node) (place : DiscRegion) (x : Disc) (words room : ℕ) →
    table_verdict (placing_change nodes place) x words room ≡ first (limits nodes words) (place_verdict x room (length (encode nodes)) place)
unfolding table_verdict place_verdict
table-tests nodes place x words room = refl

-- what the tests of a table that passed give: it is small, and it fits
pub table-passed : (nodes : List Node) (place : DiscRegion) (x : Disc) (words room : ℕ) → table_verdict (placing_change nodes place) x words room ≡ Ok tt →
    (length (encode nodes) ≤ 2 ^ 24) × (place_verdict x room (length (encode nodes)) place ≡ Ok tt)
table-passed nodes place x words room e =
    let p = first-passed (limits nodes words) (place_verdict x room (length (encode nodes)) place) (sym (table-tests nodes place x words room) ∙ e) in
    let w = within-limits nodes words p.0 in
    (omega (arith, length-encode nodes, w.few, w.texts), p.1)

-- ---- the table as it is

-- the limits were passed, or the table's place was judged
pub table-past : (nodes : List Node) (place : DiscRegion) (x : Disc) (words room : ℕ) → limits nodes words ≡ Err LimitOrMemory → Err LimitOrMemory ≡ value_behind (table_verdict (placing_change nodes place) x words room) (length (encode nodes))
table-past nodes place x words room e =
    sym (ap (λ (v : Verdict). value_behind v (length (encode nodes))) (table-tests nodes place x words room ∙ ap (λ (v : Verdict). first v (place_verdict x room (length (encode nodes)) place)) e))

pub table-sized : (nodes : List Node) (place : DiscRegion) (x : Disc) (words room size : ℕ) (v : Verdict) → limits nodes words ≡ Ok tt → size ≡ length (encode nodes) → v ≡ place_verdict x room size place →
    value_behind v size ≡ value_behind (table_verdict (placing_change nodes place) x words room) (length (encode nodes))
table-sized nodes place x words room size v a b p =
    ap (λ (u : Verdict). value_behind u size) p ∙ ap (λ (n : ℕ). value_behind (place_verdict x room n place) n) b
    ∙ sym (ap (λ (u : Verdict). value_behind u (length (encode nodes))) (table-tests nodes place x words room ∙ ap (λ (u : Verdict). first u (place_verdict x room (length (encode nodes)) place)) a))

-- a table that passed its tests
pub record NewTable (nodes : List Node) (place : DiscRegion) (image : List ℕ) (x : Disc) (words room size : ℕ) : Type 0 where
  pub passed : table_verdict (placing_change nodes place) x words room ≡ Ok tt
  pub length-is : size ≡ length (encode nodes)
  pub small : length (encode nodes) ≤ 2 ^ 24
  pub held : length (encode nodes) ≤ room
  pub fits : TableFits (length image) room (fst_offset image) (fst_size image) size

pub new-table : (nodes : List Node) (place : DiscRegion) (image : List ℕ) (x : Disc) (words room size : ℕ) (r : Result ℕ Refusal) → IsOpenImage image words → disc_of image ≡ x →
    r ≡ value_behind (table_verdict (placing_change nodes place) x words room) (length (encode nodes)) → r ≡ Ok size → NewTable nodes place image x words room size
new-table nodes place image x words room size r known same e f =
    let p = tests-passed (table_verdict (placing_change nodes place) x words room) (length (encode nodes)) size (sym e ∙ f) in
    let q = table-passed nodes place x words room p.0 in
    let t : TableFits (length image) room (fst_offset image) (fst_size image) (length (encode nodes)) = place-fits image words known x same room (length (encode nodes)) place q.1 in
    record { passed = p.0; length-is = sym p.1; small = q.0; held = t.held; fits = rw (← p.1) t }
