-- Images that have the table, the program and the header's fields but the FST maximum in common open alike: to the same tree, with the same used and
-- free regions. Assumes nothing.
use Rattle.std.specs.Prelude.{Ok}
use Rattle.std.specs.Prelude.{ℕ, ◌+◌, ◌<◌, ◌≤◌, ◌≡◌, ◌⊎◌, List, get_or}
use Rattle.std.proofs.Common.{sym, ◌∙◌, inl, inr, arith}
use Rattle.std.proofs.Math.ListN.{length}
use Rattle.endian.specs.Bytes.{be32}
use Rattle.endian.specs.Laws.Stored.{span_ext}
use Rattle.header.specs.Verdicts.{fst_offset, fst_size, user_size, disc_size, disc_end, table_end}
use Rattle.header.specs.Laws.FieldTests.{GoodHeader, bounds-same, header-passes, bounds-pass}
use Rattle.executable.specs.Program.{program_of, program_in}
use Rattle.opened.specs.Opening.{table_of, nodes_in, regions_behind_table, used_in, layout_verdict, free_space_of, used_of, opening}
use Rattle.opened.proofs.Laws.OpeningLaws.{table-accepted}
use Rattle.ledger.proofs.Laws.Opened.{Opened}

pub record Alike (image image' : List ℕ) : Type 0 where
  pub len : length image' ≡ length image
  pub field : (at : ℕ) → (at + 4 ≤ 0x42C) ⊎ ((0x430 ≤ at) × (at + 4 ≤ 0x440)) → be32 image' at ≡ be32 image at
  pub table : (i : ℕ) → fst_offset image ≤ i → i < table_end image → get_or image' i 0 ≡ get_or image i 0
  pub program : program_of image' ≡ program_of image

module _ (image image' : List ℕ) (a : Alike image image') where
  pub start-same : fst_offset image' ≡ fst_offset image
  start-same = a.field 0x424 (inl (omega arith))

  pub size_same : fst_size image' ≡ fst_size image
  size_same = a.field 0x428 (inl (omega arith))

  user-same : user_size image' ≡ user_size image
  user-same = a.field 0x434 (inr (omega arith, omega arith))

  disc-same : disc_size image' ≡ disc_size image
  disc-same = a.field 0x438 (inr (omega arith, omega arith))

  pub end_same : disc_end image' ≡ disc_end image
  end_same = rw (user-same, disc-same)

  module _ (o : Opened image) where
    pub table_same : table_of image' ≡ table_of image
    unfolding table_of
    table_same =
        let e : fst_offset image + fst_size image ≤ length image = omega (arith, o.bounds.table, o.bounds.image_holds) in
        rw (start-same, size_same) (span_ext image' image (fst_offset image) (fst_size image) (rw a.len e) e (λ i h. a.table (fst_offset image + i) (omega arith) (omega arith)))

    -- LAW: the tree, what is used and what is free
    pub tree-same : nodes_in image' ≡ nodes_in image
    unfolding nodes_in
    tree-same = rw table_same

    used-same : used_in image' ≡ used_in image
    unfolding used_in regions_behind_table program_in
    used-same = rw (tree-same, start-same, size_same, a.program)

    pub total-same : used_of image' ≡ used_of image
    unfolding used_of regions_behind_table program_in
    total-same = rw (tree-same, start-same, size_same, a.program)

    pub free-same : free_space_of image' ≡ free_space_of image
    free-same = rw (used-same, end_same)

    header-same : GoodHeader image'
    header-same = record {
      whole = rw a.len o.header.whole;
      not-wii = λ z. o.header.not-wii (sym (a.field 0x18 (inl (omega arith))) ∙ z);
      is-gcn = a.field 0x1C (inl (omega arith)) ∙ o.header.is-gcn;
    }

    -- LAW: with as many words
    pub opens-same : (w : ℕ) → opening image w ≡ Ok tt → opening image' w ≡ Ok tt
    unfolding opening layout_verdict
    opens-same w e =
        rw (
          header-passes image' header-same,
          bounds-same image image' a.len start-same size_same user-same disc-same,
          bounds-pass image o.bounds,
          table_same,
          table-accepted image w e,
          a.program,
          o.program,
          used-same,
          end_same,
          o.regions,
        )
