-- The third call's test says what it means: a span that passes it is free byte for byte, and a free one passes. Assumes nothing.
use Rattle.std.specs.Prelude.{Ok, ℕ, ◌+◌, ◌-◌, ◌<◌, ◌≤◌, ◌≡◌, true, false, not, ◌||◌, List, ltb}
use Rattle.std.proofs.Common.{ap, ◌∙◌, ⊎_elim, arith, ltb-true, ltb-false, le-ltb}
use Rattle.refusal.specs.declared.Refusal.TheVariants.{SpanNotFree}
use Rattle.refusal.specs.Laws.Chains.{first-passed, refuse-passed}
use Rattle.refusal.specs.Laws.Tests.{lt-or-le, or_cases, is_false}
use Rattle.header.specs.Verdicts.{disc_end, table_end}
use Rattle.space.specs.declared.region.DiscRegion.{DiscRegion}
use Rattle.space.specs.Used.{is_used, used_regions}
use Rattle.space.specs.Free.{is_free_in}
use Rattle.space.specs.MaxRegionSize.{max_region_size}
use Rattle.space.specs.Laws.UsedLaws.{used-is, is_inside-in}
use Rattle.space.specs.Laws.LayoutLaws.{is_inside-from, is_inside-to}
use Rattle.space.specs.Laws.GrowthLaws.{place-free, free-place}
use Rattle.executable.specs.Program.{program_behind}
use Rattle.opened.specs.Opening.{nodes_in, regions_behind_table, used_in, free_space_of, opening}
use Rattle.ledger.proofs.Laws.Files.{places_in, used-files}
use Rattle.ledger.proofs.Laws.Apart.{Has, region, used-some}
use Rattle.steps.specs.Parts.{zero_verdict}
use Rattle.steps.specs.Places.{IsWhollyFree}
use Rattle.steps.specs.Promise.{ZeroesWhatIsFree}
use Rattle.steps.proofs.Laws.Parts.{FreeAt}

module _ (image : List ℕ) (r : DiscRegion) where
  -- LAW: what 0 bytes at its start can grow to reaches its end, if it is wholly free
  pub free-reaches : IsWhollyFree image r → r.size ≤ max_region_size r.offset 0 (free_space_of image)
  free-reaches f = ⊎_elim (λ z. free-place (disc_end image) (used_in image) r.offset r.size (ends z) (λ j k. (f (r.offset + j) (is_inside-in r (r.offset + j) (omega arith) (omega arith))).1)) (λ z. omega arith) (lt-or-le 0 r.size)
    where
      ends : 0 < r.size → r.offset + r.size ≤ disc_end image
      ends z = omega (arith, (f (r.offset + r.size - 1) (is_inside-in r (r.offset + r.size - 1) (omega arith) (omega arith))).0)

  -- LAW: and only then
  reaches-free : r.size ≤ max_region_size r.offset 0 (free_space_of image) → IsWhollyFree image r
  reaches-free h i e =
      let a : r.offset ≤ i = is_inside-from r i e in
      let b : i < r.offset + r.size = is_inside-to r i e in
      let p = place-free (disc_end image) (used_in image) r.offset r.size (omega arith) h in
      let q : r.offset + (i - r.offset) ≡ i = omega arith in
      (omega (arith, p.0), rw q at (p.1 (i - r.offset) (omega arith)))

  -- and then it ends on the disc, if it has a byte
  pub reaches-end : 0 < r.size → r.size ≤ max_region_size r.offset 0 (free_space_of image) → r.offset + r.size ≤ disc_end image
  reaches-end z h = (place-free (disc_end image) (used_in image) r.offset r.size z h).0

  -- LAW: a place that ends on the disc is wholly free, if no byte of it is the table's, the program's or a file's
  pub wholly-free : FreeAt image r → r.offset + r.size ≤ disc_end image → IsWhollyFree image r
  unfolding used_in regions_behind_table
  wholly-free f h i e =
      let b : i < r.offset + r.size = is_inside-to r i e in
      let g = f i (is_inside-from r i e, b) in
      (omega arith, rw (used-files (table_end image) (program_behind image) (nodes_in image)) (unused (table_end image) (places_in image) i g.0 g.1))
    where
      unused : (t : ℕ) (fs : List DiscRegion) (i : ℕ) → t ≤ i → ((j : ℕ) → Has (region fs j) i → ⊥) → is_free_in (used_regions t fs) i ≡ true
      unused t fs i h f =
          let u : (ltb i t || is_used fs i) ≡ false = is_false _ (λ e. ⊎_elim (λ a. let l : i < t = ltb-true i t a in omega arith) (λ a. let s = used-some fs i a in f s.0 s.1) (or_cases (ltb i t) (is_used fs i) e)) in
          ap not (used-is t fs i ∙ u)

module _ (image : List ℕ) (words : ℕ) (span : DiscRegion) where
  -- LAW: what the third call accepts opens, and has room for the span
  pub span-accepted : zero_verdict image words span ≡ Ok tt → (opening image words ≡ Ok tt) × (span.size ≤ max_region_size span.offset 0 (free_space_of image))
  unfolding zero_verdict
  span-accepted e =
      let p = first-passed (opening image words) _ e in
      (p.0, ltb-false _ _ (refuse-passed (ltb (max_region_size span.offset 0 (free_space_of image)) span.size) SpanNotFree (Ok tt) p.1).0)

  -- LAW: and the other way round
  pub span-passes : opening image words ≡ Ok tt → span.size ≤ max_region_size span.offset 0 (free_space_of image) → zero_verdict image words span ≡ Ok tt
  unfolding zero_verdict
  span-passes o h = rw (o, le-ltb (max_region_size span.offset 0 (free_space_of image)) span.size h)

  -- LAW: on an image that opens the zeros are written exactly where each byte of the span is free
  pub zeroes-what-is-free : ZeroesWhatIsFree image words span (zero_verdict image words span)
  zeroes-what-is-free o = (λ e. reaches-free image span (span-accepted e).1, λ f. span-passes o (free-reaches image span f))
