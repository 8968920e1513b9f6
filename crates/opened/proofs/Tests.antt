-- The tests of opening, joined: what the collecting of the used regions needs, and what the test of them leaves. Assumes nothing.
use Rattle.std.specs.Prelude.{Option, Ok, Err, unwrap_or}
use Rattle.refusal.specs.Refusal.{Verdict}
use Prim.Native.Nat.{ℕ, ◌+◌, ◌-◌, ◌*◌, ◌^◌, ◌<◌, ◌≤◌}
use mathlib.Core.Path.{◌≡◌, sym, ap, ◌∙◌}
use mathlib.Core.List.{List, ◌∷◌, ◌++◌}
use native.Mathlib.Omega.{arith}
use lib.ListN.{length}
use Rattle.endian.specs.Bytes.{AllBytes}
use Rattle.refusal.specs.declared.Refusal.{Refusal}
use Rattle.refusal.specs.Refusal.{first}
use Rattle.header.specs.Laws.FieldTests.{Bounded}
use Rattle.header.specs.Verdicts.{fst_offset, disc_end, table_end}
use Rattle.tree.specs.Table.{count}
use Rattle.space.specs.declared.region.DiscRegion.{DiscRegion}
use Rattle.space.specs.Used.{nonempty_regions, no_region}
use Rattle.space.specs.Inner.Words.{AllNonempty}
use Rattle.space.specs.Laws.UsedLaws.{nonempty_regions-all}
use Rattle.space.specs.Inner.Sort.{regions_in, sum_of}
use Rattle.space.specs.Inner.Words.{IsChecked}
use Rattle.space.specs.Layout.{are_disjoint_below, regions_verdict}
use Rattle.space.specs.Free.{free_regions}
use Rattle.space.specs.Laws.MiddleLaws.{below-middle, free-middle, sum-middle, used-middle-same}
use Rattle.space.specs.Laws.SortLaws.{sum-sorted_regions}
use Rattle.executable.specs.Program.{program_of, program_verdict, program_in, own_region, program_behind}
use Rattle.opened.specs.Opening.{table_of, nodes_in, regions_behind_table, used_in, layout_verdict, opening}
use Rattle.opened.specs.Inner.Prepared.{verdict_before24, regions_from, CollectedUsed, SameUse, UsedWords, IsReadable, IsOpen}
use Rattle.opened.proofs.Laws.OpeningLaws.{opens, opening-split, program-first}
use Rattle.opened.proofs.UsedRegions.{regions-of-tree}

-- ---- the tests before 24, one after another

pub refused-before : (image : List ℕ) (words : ℕ) (c : Refusal) → Err c ≡ verdict_before24 image words → opening image words ≡ Err c
refused-before image words c e = opening-split image words ∙ ap (λ (a : Verdict). first a (layout_verdict image)) (sym e)

pub end_fits : (image : List ℕ) (e : ℕ) → Bounded image → e ≡ disc_end image → e < 2 ^ 32
end_fits image e b p = omega (arith, b.small)

pub table-end-fits : (image : List ℕ) (to : ℕ) → Bounded image → to ≡ table_end image → to < 2 ^ 32
table-end-fits image to b p = omega (arith, b.table, b.small)

-- what `collect` asks
module _ (image : List ℕ) (n c : ℕ) (k : IsReadable image n) (g : c ≡ count (table_of image)) where
  pub some-entry : 0 < c
  unfolding count
  some-entry = omega arith

  pub entries-inside : 12 * c ≤ length (table_of image)
  entries-inside = omega (arith, k.table.fits)

  pub words-enough : 2 * (c + 1) ≤ n
  words-enough = omega (arith, k.table.room)

-- what `collect` gives comes to what is used
module _ (image w : List ℕ) (m to c : ℕ) (tab : List ℕ) (program : DiscRegion) (e : tab ≡ table_of image) (f : to ≡ table_end image) (g : c ≡ count (table_of image)) (p : program ≡ program_behind image)
    (k : CollectedUsed tab c to program w m) where
  told : {A : Type 0} (h : List DiscRegion → A) → ((x : DiscRegion) (ys xs : List DiscRegion) → h (xs ++ (x ∷ ys)) ≡ h (x ∷ (xs ++ ys))) → h (regions_in w 0 m) ≡ h (used_in image)
  unfolding used_in regions_behind_table nodes_in nonempty_regions
  told h s =
      ap h k.list ∙ used-middle-same h s to program (regions_from tab k.turn (c - k.turn)) (regions_from tab 1 (k.turn - 1))
      ∙ rw (e, f, p, g, ← regions-of-tree (table_of image) k.turn k.from (omega (arith, k.to)))

  pub used-words : SameUse (disc_end image) (regions_in w 0 m) (used_in image)
  used-words = record {
    below = told (are_disjoint_below (disc_end image)) (λ x ys xs. below-middle x ys (disc_end image) xs);
    free = told (free_regions (disc_end image)) (λ x ys xs. free-middle x ys (disc_end image) xs);
    sums = λ f. told (sum_of f) (λ x ys xs. sum-middle x ys f xs);
  }

  pub regions-full : AllNonempty (regions_in w 0 m)
  regions-full = rw k.list (nonempty_regions-all (record { offset = 0; size = to } ∷ (regions_from tab 1 (k.turn - 1) ++ (program ∷ regions_from tab k.turn (c - k.turn)))))

-- what the test of the regions asks, after `collect`
pub regions-room : (image : List ℕ) (n n' m c : ℕ) → IsReadable image n → c ≡ count (table_of image) → m ≤ c + 1 → n' ≡ n → 2 * (c + 2 + m) ≤ n'
regions-room image n n' m c k e b l = omega (arith, k.table.room)

-- test 24, after the others passed
pub refused-24 : (image : List ℕ) (words : ℕ) (c : Refusal) → verdict_before24 image words ≡ Ok tt → program_verdict (program_of image) ≡ Err c → opening image words ≡ Err c
refused-24 image words c before h = opening-split image words ∙ rw before (program-first image c h)

pub own_is : (image : List ℕ) (p : Option DiscRegion) (fst : ℕ) (r : DiscRegion) → Ok p ≡ program_of image → fst ≡ fst_offset image → r ≡ own_region fst (unwrap_or p no_region) → r ≡ program_behind image
unfolding program_in
own_is image p fst r e f h = rw (← e, ← f) h

-- the test of the regions, after the others passed
module _ (image w w' : List ℕ) (words buf m e : ℕ) (v : Verdict) (before : verdict_before24 image words ≡ Ok tt) (program : program_verdict (program_of image) ≡ Ok tt) (used : SameUse (disc_end image) (regions_in w 0 m) (used_in image)) (end : e ≡ disc_end image)
    (k : IsChecked w w' buf m e v) (kept : length w' ≡ words) where
  verdict : v ≡ regions_verdict (disc_end image) (used_in image)
  verdict = rw (end, used.below) at k.answer

  all : (u : Verdict) → v ≡ u → opening image words ≡ u
  unfolding layout_verdict
  all u h = opening-split image words ∙ rw (before, program) (sym verdict ∙ h)

  pub left-refused : (c : Refusal) → v ≡ Err c → opening image (length w') ≡ Err c
  left-refused c h = rw kept (all (Err c) h)

  left-words : v ≡ Ok tt → UsedWords image w' m
  left-words h = record {
    sorted = rw (← end) (k.ready h);
    free = rw end at k.free ∙ used.free;
    sums = λ f. rw k.order (sum-sorted_regions (regions_in w 0 m) f ∙ used.sums f);
  }

  pub left_open : AllBytes image → v ≡ Ok tt → IsOpen image w' m
  left_open bytes h = record { known = rw kept (opens image words bytes (all (Ok tt) h)); used = left-words h }
