-- What opening tells of an image, and that the free bytes and the used total fill the disc. Assumes nothing.
use Rattle.std.specs.Prelude.{Result, Ok, Err, is_err}
use Rattle.refusal.specs.Refusal.{Verdict}
use Rattle.std.specs.Prelude.{ℕ, zero, suc, ◌+◌, ◌≤◌, ◌<◌, ◌≡◌, refl, true, false, not, List, length, take, drop}
use Rattle.std.proofs.Common.{sym, ap, ◌∙◌, ⊎_elim, arith, add_assoc, length-take}
use Rattle.std.proofs.lemmas.Bool.{not-false}
use Rattle.std.proofs.Math.ListN.{get_or-eq_default}
use Rattle.endian.specs.Bytes.{be32, span, AllBytes}
use Rattle.endian.specs.Laws.Stored.{length-span, get_d-span}
use Rattle.refusal.specs.Laws.Tests.{lt-or-le}
use Rattle.refusal.specs.declared.Refusal.TheVariants.{OverlappingRegions}
use Rattle.refusal.specs.declared.Refusal.{Refusal}
use Rattle.refusal.specs.Refusal.{first}
use Rattle.refusal.specs.Laws.Chains.{first-passed, first-stop, first-go, refuse-passed}
use Rattle.header.specs.Verdicts.{header_verdict, bounds_verdict, fst_offset, fst_size, disc_end, table_end}
use Rattle.header.specs.Laws.FieldTests.{header-passed, Bounded, bounds-passed}
use Rattle.tree.specs.Table.{count, check}
use Rattle.tree.specs.Inner.Accepted.{IsAccepted}
use Rattle.tree.proofs.Laws.Accepted.{accepted}
use Rattle.space.specs.declared.region.DiscRegion.{DiscRegion}
use Rattle.space.specs.Used.{total_size}
use Rattle.space.specs.Inner.Sort.{regions_in, is_among}
use Rattle.space.specs.Layout.{are_disjoint_below}
use Rattle.space.specs.Laws.TotalLaws.{free_bytes, total-used, used-and-free}
use Rattle.space.specs.Laws.SortLaws.{same_total, same-regions}
use Rattle.executable.specs.Program.{program_of, program_verdict}
use Rattle.opened.specs.Opening.{table_of, regions_behind_table, used_in, used_of, layout_verdict, opening}
use Rattle.opened.specs.Inner.Prepared.{verdict_before24, UsedWords, IsReadable, IsOpenImage, OpensImage, IsOpen, Prepares}

-- ---- chains

pub first-assoc : (a b c : Verdict) → first (first a b) c ≡ first a (first b c)
first-assoc (Ok _) b c = refl
first-assoc (Err x) b c = refl

-- the first two groups refused, or passed
pub stopped : (v a b c : Verdict) → v ≡ first a b → is_err v ≡ true → v ≡ first a (first b c)
stopped v a b c e r = sym (first-stop v c r) ∙ ap (λ (u : Verdict). first u c) e ∙ first-assoc a b c

pub went_on : (v a b c : Verdict) → v ≡ first a b → is_err v ≡ false → c ≡ first a (first b c)
went_on v a b c e r = sym (first-go v c r) ∙ ap (λ (u : Verdict). first u c) e ∙ first-assoc a b c

-- ---- parts of an image

pub span-bytes : (s : List ℕ) (at n : ℕ) → AllBytes s → AllBytes (span s at n)
span-bytes s at n h i =
    ⊎_elim (λ l. rw (get_d-span s at n i l) (h (at + i)))
    (λ l. rw (get_or-eq_default (take n (drop at s)) 0 {n = i} (omega (arith, length-take n (drop at s)))) (omega arith)) (lt-or-le i n)

pub be32-span : (s : List ℕ) (at n i : ℕ) → i + 4 ≤ n → be32 (span s at n) i ≡ be32 s (at + i)
unfolding be32
be32-span s at n i h =
    rw (
      get_d-span s at n i (omega arith),
      get_d-span s at n (i + 1) (omega arith),
      get_d-span s at n (i + 2) (omega arith),
      get_d-span s at n (i + 3) (omega arith),
      add_assoc at i 1,
      add_assoc at i 2,
      add_assoc at i 3,
    )

-- ---- what the tests before 24 give

pub readable : (image : List ℕ) (words : ℕ) → AllBytes image → verdict_before24 image words ≡ Ok tt → IsReadable image words
unfolding table_of count
readable image words bytes e =
    let p = first-passed (header_verdict image) _ e in
    let q = first-passed (bounds_verdict image) _ p.1 in
    let b : Bounded image = bounds-passed image q.0 in
    let l : length (span image (fst_offset image) (fst_size image)) ≡ fst_size image =
    length-span image (fst_offset image) (fst_size image) (omega (arith, b.table, b.image_holds)) in
    let t : IsAccepted (table_of image) words = accepted (table_of image) words (span-bytes image (fst_offset image) (fst_size image) bytes) q.1 in
    record {
      header = header-passed image p.0;
      bounds = b;
      size = l;
      root = omega (arith, t.fits, l);
      table = t;
      next = sym (be32-span image (fst_offset image) (fst_size image) 8 (omega (arith, t.fits, t.root-next, l))) ∙ t.root-next;
    }

-- ---- the whole of opening

-- opening is the tests before 24, then 24 and 14
pub opening-split : (image : List ℕ) (words : ℕ) → opening image words ≡ first (verdict_before24 image words) (layout_verdict image)
unfolding opening
opening-split image words = go (header_verdict image) (bounds_verdict image) (check (table_of image) words) (layout_verdict image)
  where
    go : (a b c d : Verdict) → first a (first b (first c d)) ≡ first (first a (first b c)) d
    go a b c d = sym (first-assoc a (first b c) d ∙ ap (first a) (first-assoc b c d))

-- LAW: 24 comes before 14
pub program-first : (image : List ℕ) (c : Refusal) → program_verdict (program_of image) ≡ Err c → layout_verdict image ≡ Err c
unfolding layout_verdict
program-first image c e = rw e

pub opens : (image : List ℕ) (words : ℕ) → AllBytes image → opening image words ≡ Ok tt → IsOpenImage image words
unfolding layout_verdict
opens image words bytes e =
    let p = first-passed (verdict_before24 image words) _ (sym (opening-split image words) ∙ e) in
    let q = first-passed (program_verdict (program_of image)) _ p.1 in
    record {
      bytes = bytes;
      passed = e;
      reads = readable image words bytes p.0;
      program = q.0;
      layout = not-false (are_disjoint_below (disc_end image) (used_in image)) (refuse-passed (not (are_disjoint_below (disc_end image) (used_in image))) OverlappingRegions (Ok tt) q.1).0;
    }

-- table end, files, program and free bytes fill the disc, on every image that opens
pub disc-filled : (image : List ℕ) (words : ℕ) → AllBytes image → opening image words ≡ Ok tt → used_of image + free_bytes (disc_end image) (used_in image) ≡ disc_end image
unfolding used_of used_in
disc-filled image words bytes e = used-and-free (table_end image) (disc_end image) (regions_behind_table image) (opens image words bytes e).layout

-- the table of an image that opens is accepted
pub table-accepted : (image : List ℕ) (words : ℕ) → opening image words ≡ Ok tt → check (table_of image) words ≡ Ok tt
unfolding opening
table-accepted image words e =
    (first-passed (check (table_of image) words) _ (first-passed (bounds_verdict image) _ (first-passed (header_verdict image) _ e).1).1).0

-- ---- once the image is open

pub still-opens : (image w : List ℕ) (m : ℕ) → IsOpen image w m → OpensImage image
still-opens image w m o = record { words = length w; known = o.known }

module _ (image w : List ℕ) (p : Result ℕ Refusal) (h : Prepares image w p) where
  pub was-ready : (m : ℕ) → p ≡ Ok m → IsOpen image w m
  was-ready m e = rw e at h

  pub was-refused : (c : Refusal) → p ≡ Err c → opening image (length w) ≡ Err c
  was-refused c e = rw e at h

-- what the words tell of the used regions
module _ (image w : List ℕ) (m : ℕ) (used : UsedWords image w m) where
  pub used-total : total_size (regions_in w 0 m) ≡ used_of image
  unfolding used_in used_of
  used-total = same_total (regions_in w 0 m) (used_in image) used.sums ∙ total-used (table_end image) (regions_behind_table image)

  pub used-regions : (r : DiscRegion) → is_among r (regions_in w 0 m) ≡ is_among r (used_in image)
  used-regions = same-regions (regions_in w 0 m) (used_in image) used.sums

-- the words hold the table's region at least
pub some-region : (image w : List ℕ) (m : ℕ) → IsOpen image w m → 0 < m
unfolding used_of regions_in total_size
some-region image w zero o = absurd (omega (arith, used-total image w 0 o.used, o.known.reads.bounds.after-header))
some-region image w (suc m) o = omega arith
