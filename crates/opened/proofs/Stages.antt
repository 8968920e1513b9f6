-- What a refusal is about, by the tests that led there. Assumes nothing.
use Prim.Native.Nat.{ℕ}
use Rattle.std.specs.Prelude.{◌≡◌, refl, true, false, List, [], Option, unwrap_or, is_err}
use Rattle.std.specs.Option.{option_map_or}
use Rattle.std.proofs.Common.{sym, ◌∙◌}
use Rattle.refusal.specs.Refusal.{Verdict, first}
use Rattle.endian.specs.Bytes.{AllBytes}
use Rattle.header.specs.Verdicts.{header_verdict, bounds_verdict, dol_offset, fst_offset, disc_end, table_end}
use Rattle.tree.specs.Table.{check}
use Rattle.tree.specs.Faults.{refused_entry}
use Rattle.table.specs.Inner.Reading.{Opens}
use Rattle.space.specs.declared.region.DiscRegion.{DiscRegion}
use Rattle.executable.specs.Program.{Program, program_of, place_of, own_region, program_in}
use Rattle.executable.specs.Sections.{refused_section}
use Rattle.opened.specs.Opening.{table_of, nodes_in, regions_behind_table}
use Rattle.opened.specs.Faults.{owned_regions, first_conflict, about_of}
use Rattle.opened.specs.Inner.Owned.{owned_in}
use Rattle.header.specs.Laws.FieldTests.{Bounded}
use Rattle.opened.specs.declared.faults.About.{About}
use Rattle.opened.specs.declared.faults.About.TheVariants as about
use Rattle.refusal.specs.Laws.Chains.{not-refused}
use Rattle.opened.proofs.Laws.OpeningLaws.{readable, went_on}

module _ (image : List ℕ) (words : ℕ) where
  pub about-header : is_err (first (header_verdict image) (bounds_verdict image)) ≡ true → about.Image ≡ about_of image words
  unfolding about_of
  about-header e = rw e refl

  module _ (h : Verdict) (header : h ≡ first (header_verdict image) (bounds_verdict image)) (header-passed : is_err h ≡ false) where
    module _ (tab : List ℕ) (is : tab ≡ table_of image) (t : Verdict) (table : t ≡ check tab words) where
      same : check (table_of image) words ≡ t
      same = rw (← is) (sym table)

      pub about-table : is_err t ≡ true → (o : Option ℕ) → o ≡ refused_entry tab words → option_map_or about.Entry o about.Image ≡ about_of image words
      unfolding about_of
      about-table e o q = rw (q, is, ← header, header-passed, same, e) refl

      module _ (table-passed : is_err t ≡ false) where
        pub opens_then : Opens tab
        opens_then = record { words = words; passed = sym table ∙ not-refused t table-passed }

        pub bounded : AllBytes image → Bounded image
        bounded bytes =
            (readable image words bytes (sym (went_on h (header_verdict image) (bounds_verdict image) (check (table_of image) words) header header-passed) ∙ (same ∙ not-refused t table-passed))).bounds

        module _ (p : Program) (program : p ≡ program_of image) where
          pub about-program : is_err p ≡ true → (o : Option ℕ) → o ≡ refused_section image (dol_offset image) → option_map_or about.Section o about.Image ≡ about_of image words
          unfolding about_of
          about-program e o q = rw (q, ← header, header-passed, same, table-passed, ← program, e) refl

          pub about-regions : is_err p ≡ false → (o : Option About) → o ≡ first_conflict (disc_end image) [] (owned_regions image) → unwrap_or o about.Image ≡ about_of image words
          unfolding about_of
          about-regions e o q = rw (q, ← header, header-passed, same, table-passed, ← program, e) refl

-- the regions by their table, where it ends, and the program
pub owned-same : (image tab : List ℕ) (t fst : ℕ) (own : DiscRegion) (p : Program) → tab ≡ table_of image → t ≡ table_end image → p ≡ program_of image → fst ≡ fst_offset image → own ≡ own_region fst (place_of p) →
    owned_in tab t own ≡ owned_regions image
unfolding owned_in regions_behind_table nodes_in program_in
owned-same image tab t fst own p a b c d e = rw (e, d, c, b, a) refl
