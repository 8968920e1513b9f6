-- The third call: the verdict by what the open disc tells, and the zeros. Assumes nothing.
use Rattle.std.specs.Prelude.{Ok, Err, ℕ, ◌<◌, ◌≤◌, ◌≡◌, List, replicate}
use Rattle.std.proofs.Common.{sym, ap, subst, ◌∙◌, lt-ltb, le-ltb}
use Rattle.endian.specs.Bytes.{put, AllBytes}
use Rattle.refusal.specs.declared.Refusal.{Refusal}
use Rattle.refusal.specs.declared.Refusal.TheVariants.{SpanNotFree}
use Rattle.refusal.specs.Refusal.{Verdict}
use Rattle.space.specs.declared.region.DiscRegion.{DiscRegion}
use Rattle.space.specs.MaxRegionSize.{max_region_size}
use Rattle.opened.specs.Opening.{free_space_of, opening, Disc, free_of}
use Rattle.opened.specs.Inner.Disc.{Opened, Means}
use Rattle.steps.specs.Parts.{zero_verdict, image_after_zeros}
use Rattle.steps.specs.Places.{DifferOnlyIn}
use Rattle.steps.specs.Promise.{ZeroesWhatIsFree}
use Rattle.steps.specs.Inner.Span.{IsInImage}
use Rattle.steps.proofs.Laws.OwnParts.{span-fits, own-zeros}
use Rattle.steps.proofs.Laws.WhollyFree.{zeroes-what-is-free}

-- ---- the test

-- opening refused it
pub unopened : (image : List ℕ) (words : ℕ) (c : Refusal) (span : DiscRegion) → opening image words ≡ Err c → Err c ≡ zero_verdict image words span
unfolding zero_verdict
unopened image words c span e = rw e

-- n is what the disc tells of 0 bytes at the span's place
module _ (image : List ℕ) (words : ℕ) (d : Opened) (o : Means image d × (d.words ≡ words)) (span : DiscRegion) (n : ℕ) (e : n ≡ max_region_size span.offset 0 (free_of d.disc)) where
  opens : opening image words ≡ Ok tt
  opens = rw o.1 at o.0.known.passed

  size-is : n ≡ max_region_size span.offset 0 (free_space_of image)
  size-is = e ∙ ap (λ (x : Disc). max_region_size span.offset 0 (free_of x)) (sym o.0.is)

  pub not-free : n < span.size → Err SpanNotFree ≡ zero_verdict image words span
  unfolding zero_verdict
  not-free h = rw (opens, ← size-is, lt-ltb n span.size h)

  pub free : span.size ≤ n → Ok tt ≡ zero_verdict image words span
  unfolding zero_verdict
  free h = rw (opens, ← size-is, le-ltb n span.size h)

-- ---- the zeros

module _ (image : List ℕ) (words : ℕ) (span : DiscRegion) where
  -- a span that passes lies in the image
  pub zeros-fit : AllBytes image → zero_verdict image words span ≡ Ok tt → IsInImage image span
  zeros-fit b v = span-fits image words span b v

  pub zeroed : (image' : List ℕ) → zero_verdict image words span ≡ Ok tt → image' ≡ put image span.offset (replicate span.size 0) → image' ≡ image_after_zeros image words span
  unfolding image_after_zeros
  zeroed image' v q = rw v q

  pub left : (c : Refusal) → zero_verdict image words span ≡ Err c → image ≡ image_after_zeros image words span
  unfolding image_after_zeros
  left c v = rw v

  pub only-free : (r : Verdict) → r ≡ zero_verdict image words span → ZeroesWhatIsFree image words span r
  only-free r e = subst (λ (v : Verdict). ZeroesWhatIsFree image words span v) (sym e) (zeroes-what-is-free image words span)

  pub only-zeroed : AllBytes image → (image' : List ℕ) → image' ≡ image_after_zeros image words span → DifferOnlyIn image image' span
  only-zeroed b image' e = subst (λ (x : List ℕ). DifferOnlyIn image x span) (sym e) (own-zeros image words span b)
