-- Where a program may lie, region by region, and its least length, by computing: the table from 0x440 to 0x45A and a file from 0x600 to 0x700
-- behind it, or from 0x600 to 0x61A and a program before it; the disc ends at 0x900. Assumes nothing.
use Rattle.std.specs.Prelude.{ℕ, ◌≡◌, refl, List, [], ◌∷◌, ◌++◌, replicate, Ok, Err}
use Rattle.endian.specs.Bytes.{be32}
use Rattle.refusal.specs.declared.Refusal.TheVariants.{OverlappingRegions}
use Rattle.refusal.specs.Refusal.{number_of, Verdict}
use Rattle.space.specs.declared.region.DiscRegion.{DiscRegion}
use Rattle.space.specs.Used.{nonempty_regions, total_size, used_regions, used_total}
use Rattle.space.specs.Layout.{are_disjoint, is_disjoint_from_all, are_pairwise_disjoint, are_below, are_disjoint_below, regions_verdict}
use Rattle.executable.specs.Dol.{words_at, largest_of}
use Rattle.executable.specs.Program.{program_from, own_region}

abbrev at : ℕ → ℕ → DiscRegion
at o n = record { offset = o; size = n }

abbrev file : DiscRegion
file = at 0x600 0x100

-- 14 or not, with a table of 0x1A bytes at 0x440 and the file; with one at 0x600 and no file
abbrev behind : ℕ → ℕ → Verdict
behind o n = regions_verdict 0x900 (used_regions 0x45A (own_region 0x440 (at o n) ∷ file ∷ []))

abbrev before : ℕ → ℕ → Verdict
before o n = regions_verdict 0x900 (used_regions 0x61A (own_region 0x600 (at o n) ∷ []))

pub record Places : Type 0 where
  -- from the table's end on, and with one byte in the table
  pub abuts-table : behind 0x45A 0x100 ≡ Ok tt
  pub in_table : behind 0x459 0x100 ≡ Err OverlappingRegions
  -- up to a file, one byte into it, from its last byte on, right behind it
  pub abuts-file : (behind 0x500 0x100 ≡ Ok tt) × (behind 0x500 0x101 ≡ Err OverlappingRegions) × (behind 0x6FF 0x100 ≡ Err OverlappingRegions) × (behind 0x700 0x100 ≡ Ok tt)
  -- up to the disc end, and one byte past it
  pub abuts-end : (behind 0x800 0x100 ≡ Ok tt) × (behind 0x801 0x100 ≡ Err OverlappingRegions)
  -- between 0x440 and the FST offset, one byte before, one byte into the table, and across it
  pub between : (before 0x440 0x1C0 ≡ Ok tt) × (before 0x43F 0x1C0 ≡ Err OverlappingRegions) × (before 0x440 0x1C1 ≡ Err OverlappingRegions) × (before 0x500 0x200 ≡ Err OverlappingRegions)
  -- the used total counts the program where it is a region of its own, and not before the table
  pub totals : (used_total 0x45A (own_region 0x440 (at 0x700 0x100) ∷ file ∷ []) ≡ 0x65A) × (used_total 0x61A (own_region 0x600 (at 0x440 0x1C0) ∷ []) ≡ 0x61A)
  pub fourteen : number_of OverlappingRegions ≡ 14

pub places : Places
unfolding own_region nonempty_regions total_size are_disjoint_below are_pairwise_disjoint is_disjoint_from_all are_disjoint are_below
places = record {
  abuts-table = refl;
  in_table = refl;
  abuts-file = (refl, refl, refl, refl);
  abuts-end = (refl, refl);
  between = (refl, refl, refl, refl);
  totals = (refl, refl);
  fourteen = refl;
}

-- a header whose first text section has this offset's and size's last byte
abbrev header : ℕ → ℕ → List ℕ
header offset size = (0 ∷ 0 ∷ 0 ∷ offset ∷ []) ++ (replicate 0x8C 0 ++ ((0 ∷ 0 ∷ 0 ∷ size ∷ []) ++ replicate 0x50 0))

-- of 0xE3, 0xE4 and 0xE5 bytes
pub least : ((program_from (header 0xE0 3) 0).size ≡ 0xE4) × ((program_from (header 0xE0 4) 0).size ≡ 0xE4) × ((program_from (header 0xE0 5) 0).size ≡ 0xE5)
unfolding be32 words_at largest_of
least = (refl, refl, refl)
