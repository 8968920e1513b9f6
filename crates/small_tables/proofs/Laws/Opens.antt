-- LAW: an image with the table of a shape in it opens, and has that shape's tree. Assumes nothing.
use Rattle.std.specs.Prelude.{ℕ, suc, ◌+◌, ◌-◌, ◌*◌, ◌<◌, ◌≤◌, ◌≡◌, ◌⊎◌, refl, true, List, [], ◌∷◌, length, map, take, Ok, None, slice_index_or}
use Rattle.std.proofs.Common.{ap, ◌∙◌, inl, inr, ⊎_elim, arith, lt-ltb, le-leb, zero-add}
use Rattle.endian.specs.Bytes.{be32, be32_bytes, put}
use Rattle.endian.specs.Laws.Stored.{be32-put, be32-same, length-put, put-outside, span-put, drop-put}
use Rattle.header.specs.Verdicts.{fst_offset, fst_size, disc_end, table_end}
use Rattle.header.specs.Laws.FieldTests.{GoodHeader, Bounded, header-passed}
use Rattle.space.specs.Used.{no_region, nonempty_regions, used_regions}
use Rattle.space.specs.Layout.{are_disjoint_below, are_below, are_pairwise_disjoint, is_disjoint_from_all}
use Rattle.executable.specs.Program.{program_of, program_in, own_region, program_behind}
use Rattle.opened.specs.Opening.{table_of as table_in, nodes_in, region_of, regions_behind_table, used_in}
use Rattle.ledger.proofs.Laws.Opened.{opening-passes}
use Rattle.small_tables.specs.declared.shape.Entry.{Entry}
use Rattle.small_tables.specs.declared.shape.Entry.TheVariants.{File, Directory}
use Rattle.small_tables.specs.Shapes.{tree_from, tree_of}
use Rattle.small_tables.specs.Tables.{table_of}
use Rattle.small_tables.specs.Theorem.{CanHold, with_table, EachOpens}
use Rattle.small_tables.proofs.Laws.Begun.{shape-length}
use Rattle.small_tables.proofs.Laws.Accepted.{read-back}
use Rattle.small_tables.proofs.Laws.Trees.{table-size}

-- ---- an image with a table put in

module _ (image tab : List ℕ) (h : CanHold image (length tab)) where
  abbrev new : List ℕ
  new = with_table image tab

  abbrev inner : List ℕ
  inner = put image (fst_offset image) tab

  good : GoodHeader image
  good = header-passed image h.header

  length-inner : length inner ≡ length image
  length-inner = length-put image (fst_offset image) tab (omega (arith, h.room, h.whole))

  length-new : length new ≡ length image
  length-new = length-put inner 0x428 (be32_bytes (length tab)) (omega (arith, length-inner, good.whole)) ∙ length-inner

  -- the header is as it was, but for the size
  other_byte : (i : ℕ) → (i < 0x428) ⊎ ((0x42C ≤ i) × (i < 0x440)) → slice_index_or new i 0 ≡ slice_index_or image i 0
  other_byte i o =
      put-outside inner 0x428 (be32_bytes (length tab)) (omega (arith, length-inner, good.whole)) i (⊎_elim (λ p. inl p) (λ p. inr p.0) o)
      ∙ put-outside image (fst_offset image) tab (omega (arith, h.room, h.whole)) i
      (⊎_elim (λ p. inl (omega (arith, h.behind_header))) (λ p. inl (omega (arith, p.1, h.behind_header))) o)

  other-word : (at : ℕ) → (at + 4 ≤ 0x428) ⊎ ((0x42C ≤ at) × (at + 4 ≤ 0x440)) → be32 new at ≡ be32 image at
  other-word at o =
      be32-same new image at (λ i l. other_byte (at + i) (⊎_elim (λ p. inl (omega arith)) (λ p. inr (omega (arith, p.0), omega (arith, p.1))) o))

  fst_offset-new : fst_offset new ≡ fst_offset image
  fst_offset-new = other-word 0x424 (inl (omega arith))

  fst_size-new : fst_size new ≡ length tab
  fst_size-new = be32-put inner 0x428 (length tab) (omega (arith, length-inner, good.whole)) (omega (arith, h.room, h.small))

  disc_end-new : disc_end new ≡ disc_end image
  disc_end-new = rw (other-word 0x434 (inr (omega arith, omega arith)), other-word 0x438 (inr (omega arith, omega arith)))

  table_end-new : table_end new ≡ fst_offset image + length tab
  table_end-new = omega (arith, fst_offset-new, fst_size-new)

  table-new : table_in new ≡ tab
  unfolding table_in
  table-new =
      rw (fst_offset-new, fst_size-new)
      (ap (take (length tab)) (drop-put inner 0x428 (be32_bytes (length tab)) (omega (arith, length-inner, good.whole)) (fst_offset image) (omega (arith, h.behind_header)))
      ∙ span-put image (fst_offset image) tab (omega (arith, h.room, h.whole)))

  header-new : GoodHeader new
  header-new = record {
    whole = omega (arith, length-new, good.whole);
    not-wii = λ e. good.not-wii (rw (other-word 0x18 (inl (omega arith))) at e);
    is-gcn = other-word 0x1C (inl (omega arith)) ∙ good.is-gcn;
  }

  bounds-new : Bounded new
  bounds-new = record {
    after-header = omega (arith, fst_offset-new, h.behind_header);
    small = omega (arith, disc_end-new, h.small);
    table = omega (arith, disc_end-new, table_end-new, h.room);
    image_holds = omega (arith, disc_end-new, length-new, h.whole);
  }

  program-new : program_of new ≡ Ok None
  unfolding program_of
  program-new = rw (other-word 0x420 (inl (omega arith)), h.no_program)

  behind-new : program_behind new ≡ no_region
  unfolding program_in own_region
  behind-new = rw program-new

-- ---- a shape's files have no bytes

no-regions : (k : ℕ) (s : List Entry) → nonempty_regions (map region_of (tree_from k s)) ≡ []
unfolding nonempty_regions tree_from
no-regions k [] = refl
no-regions k (File ∷ s) = no-regions (suc k) s
no-regions k (Directory next ∷ s) = no-regions (suc k) s

only-table : (end t : ℕ) (s : List Entry) → 0 < t → t ≤ end → are_disjoint_below end (used_regions t (no_region ∷ map region_of (tree_of s))) ≡ true
unfolding nonempty_regions tree_of are_disjoint_below are_below are_pairwise_disjoint is_disjoint_from_all
only-table end t s some h = rw (lt-ltb 0 t some, no-regions 0 s, zero-add t, le-leb t end h)

-- ---- each shape of the list

-- LAW: with each of the tables it opens
pub each-opens : EachOpens
unfolding nodes_in used_in regions_behind_table
each-opens image n words s some few i hold room =
    let tab : List ℕ = table_of s in
    let e : length s ≡ n = shape-length n s some i in
    let l : length tab ≡ 14 * n - 2 = table-size s (omega arith) ∙ ap (λ (m : ℕ). 14 * m - 2) e in
    let h : CanHold image (length tab) = rw l hold in
    let r = read-back n words s some few i room in
    let nodes : nodes_in (with_table image tab) ≡ tree_of s = rw (table-new image tab h) r.tree in (
      opening-passes (with_table image tab) words (header-new image tab h) (bounds-new image tab h)
          (rw (table-new image tab h) r.accepted)
          (rw (program-new image tab h))
          (rw (disc_end-new image tab h, table_end-new image tab h, behind-new image tab h, nodes)
          (only-table (disc_end image) (fst_offset image + length tab) s (omega (arith, h.behind_header)) h.room)),
      nodes,
    )
