-- Where the program lies of an image that opens, and that one which lies elsewhere is refused, 14. Assumes nothing.
use Rattle.std.specs.Prelude.{Ok, Err}
use Prim.Native.Nat.{ℕ, ◌≤◌}
use Rattle.std.specs.Prelude.{◌≡◌, ◌⊎◌, Bool, not, ◌&&◌, eqb}
use Rattle.std.proofs.Math.Path.{refl, sym}
use Rattle.std.proofs.Common.{◌∙◌, arith}
use Rattle.std.proofs.Math.Logic.{inl, inr, ⊎_elim}
use Rattle.std.proofs.Math.Bool.{true, false}
use mathlib.Core.List.{List, map}
use borrow.Author.Tests.{leb-true, eqb-true}
use Rattle.std.proofs.Math.Dec.{leb}
use Rattle.endian.specs.Bytes.{AllBytes}
use Rattle.refusal.specs.declared.Refusal.TheVariants.{OverlappingRegions}
use Rattle.refusal.specs.Refusal.{refuse}
use Rattle.refusal.specs.Laws.Tests.{and_left, and_right, or_cases}
use Rattle.header.specs.Verdicts.{dol_offset, fst_offset, table_end, disc_end}
use Rattle.space.specs.declared.region.DiscRegion.{DiscRegion}
use Rattle.space.specs.Used.{end_of}
use Rattle.space.specs.Layout.{are_pairwise_disjoint, are_disjoint_below}
use Rattle.space.specs.Laws.UsedLaws.{lies_within, files_within, are_disjoint-below-used}
use Rattle.executable.specs.Program.{program_of, program_verdict, program_in, program_behind}
use Rattle.executable.specs.Laws.ProgramLaws.{Accepted, absent, present, accepted, own-cases}
use Rattle.opened.specs.Opening.{nodes_in, region_of, regions_behind_table, used_in, layout_verdict, opening}
use Rattle.opened.specs.Inner.Prepared.{verdict_before24, IsOpenImage}
use Rattle.opened.proofs.Laws.OpeningLaws.{opens, opening-split}

-- before the table or behind it, and within the disc end
abbrev pub WellPlaced : List ℕ → DiscRegion → Type 0
WellPlaced image r = ((0x440 ≤ r.offset) × (end_of r ≤ fst_offset image)) ⊎ ((table_end image ≤ r.offset) × (end_of r ≤ disc_end image))

module _ (image : List ℕ) (words : ℕ) (bytes : AllBytes image) (some : dol_offset image ≡ 0 → ⊥) where
  -- a program has a byte
  full : program_verdict (program_of image) ≡ Ok tt → 0xE4 ≤ (program_in image).size
  full p = go (accepted image p)
    where
      go : Accepted image → 0xE4 ≤ (program_in image).size
      go (absent z e) = absurd (some z)
      go (present z v e) = rw e (omega arith)

  -- its own region lies within what is behind the table
  own-within : IsOpenImage image words → lies_within (table_end image) (disc_end image) (program_behind image) ≡ true
  unfolding used_in regions_behind_table files_within
  own-within o =
      let fs : List DiscRegion = map region_of (nodes_in image) in
      let t : ℕ = table_end image in
      let e : ℕ = disc_end image in
      let d : (leb t e && (files_within t e (regions_behind_table image) && are_pairwise_disjoint (regions_behind_table image))) ≡ true =
      sym (are_disjoint-below-used t e (regions_behind_table image) (omega (arith, o.reads.bounds.after-header))) ∙ o.layout in
      and_left (lies_within t e (program_behind image)) (files_within t e fs) (and_left (files_within t e (regions_behind_table image)) (are_pairwise_disjoint (regions_behind_table image)) (and_right (leb t e) _ d))

  -- LAW: so it lies, in an image that opens
  pub program-lies : opening image words ≡ Ok tt → WellPlaced image (program_in image)
  unfolding lies_within
  program-lies e =
      let o = opens image words bytes e in
      let r : DiscRegion = program_in image in
      ⊎_elim (λ b. inl (b.0, b.1))
      (λ q. ⊎_elim (λ z. absurd (omega (arith, full o.program, eqb-true r.size 0 z)))
      (λ w. inr (leb-true (table_end image) r.offset (and_left (leb (table_end image) r.offset) (leb (end_of r) (disc_end image)) w), leb-true (end_of r) (disc_end image) (and_right (leb (table_end image) r.offset) (leb (end_of r) (disc_end image)) w)))
      (or_cases (eqb r.size 0) (leb (table_end image) r.offset && leb (end_of r) (disc_end image)) (rw q at (own-within o))))
      (own-cases (fst_offset image) r)

  -- LAW: anywhere else it is 14, once the tests before it passed
  pub program-elsewhere : verdict_before24 image words ≡ Ok tt → program_verdict (program_of image) ≡ Ok tt → (WellPlaced image (program_in image) → ⊥) → opening image words ≡ Err OverlappingRegions
  unfolding layout_verdict
  program-elsewhere b p n = opening-split image words ∙ rw (b, p) (go (are_disjoint_below (disc_end image) (used_in image)) refl)
    where
      go : (t : Bool) → are_disjoint_below (disc_end image) (used_in image) ≡ t → refuse (not t) OverlappingRegions (Ok tt) ≡ Err OverlappingRegions
      go false q = refl
      go true q = absurd (n (program-lies (opening-split image words ∙ rw (b, p, q))))
