-- A copy that is done in part, and done again. Assumes nothing.
use Rattle.std.proofs.Common.{◌≡◌, ◌⊎◌, ⊎_elim, ℕ, ◌+◌, ◌-◌, ◌≤◌, ◌<◌, true, List, length, get_or, refl, sym, ◌∙◌, ap, arith, ext_get_or}
use Rattle.std.proofs.lemmas.Bool.{cases_lt}
use Rattle.endian.specs.Bytes.{put, span}
use Rattle.endian.specs.Laws.Stored.{length-span, length-put, put_in, put-before, put-after, put-none, span_ext}
use Rattle.journal.specs.declared.plan.Copying.{Copying}
use Rattle.journal.specs.Disk.{Torn}
use Rattle.journal.specs.Journal.{copied, copying_fits}
use Rattle.journal.proofs.Torn.{put-torn}
use Rattle.journal.proofs.Fitting.{copying_fits-place}

-- a place is in a range or outside it
pub cases_in : (at n i : ℕ) → ((at ≤ i) × (i < at + n)) ⊎ ((i < at) ⊎ (at + n ≤ i))
cases_in at n i = grind arith

pub put_within : (s : List ℕ) (at : ℕ) (bs : List ℕ) → at + length bs ≤ length s → (i : ℕ) → at ≤ i → i < at + length bs
    → get_or (put s at bs) i 0 ≡ get_or bs (i - at) 0
put_within s at bs fits i le lt = let e : at + (i - at) ≡ i = omega arith in ap (λ (n : ℕ). get_or (put s at bs) n 0) (sym e)
    ∙ put_in s at bs fits (i - at) (omega arith)

-- bytes put over a torn write of the same range
put_again : (image image' : List ℕ) (at : ℕ) (bs : List ℕ) → at + length bs ≤ length image → Torn at (length bs) image image'
    → put image' at bs ≡ put image at bs
put_again image image' at bs fits torn =
    let fits' : at + length bs ≤ length image' = rw torn.same_length fits in
    ext_get_or 0 (put image' at bs) (put image at bs) (length-put image' at bs fits' ∙ torn.same_length ∙ sym (length-put image at bs fits))
    (λ i lt. ⊎_elim
    (λ inside. put_within image' at bs fits' i inside.0 inside.1 ∙ sym (put_within image at bs fits i inside.0 inside.1))
    (⊎_elim (λ before. put-before image' at bs fits' i before ∙ torn.below i before ∙ sym (put-before image at bs fits i before))
    (λ past. put-after image' at bs fits' i past ∙ torn.above i past ∙ sym (put-after image at bs fits i past)))
    (cases_in at (length bs) i))

-- where no bytes are torn, nothing is
pub torn_none : (at : ℕ) (image image' : List ℕ) → Torn at 0 image image' → image' ≡ image
torn_none at image image' torn = ext_get_or 0 image' image torn.same_length (λ i lt. ⊎_elim (torn.below i) (λ le. torn.above i (omega arith)) (cases_lt i at))

module _ (copy : Copying) (image : List ℕ) where
  abbrev bytes : List ℕ
  bytes = span image copy.from copy.len

  module _ (place : copy.to + copy.len ≤ length image) (source : copy.from + copy.len ≤ length image) where
    long : length bytes ≡ copy.len
    long = length-span image copy.from copy.len source

    whole : Torn copy.to copy.len image (copied copy image)
    whole = rw long at (put-torn image copy.to bytes (rw long place))

    again : (image' : List ℕ) → (copy.from + copy.len ≤ copy.to) ⊎ (copy.to + copy.len ≤ copy.from) → Torn copy.to copy.len image image'
        → copied copy image' ≡ copied copy image
    again image' apart torn =
        let same : span image' copy.from copy.len ≡ bytes =
        span_ext image' image copy.from copy.len (rw torn.same_length source) source
        (λ i lt. ⊎_elim (λ up. torn.below (copy.from + i) (omega arith)) (λ down. torn.above (copy.from + i) (omega arith)) apart) in
        ap (put image' copy.to) same ∙ put_again image image' copy.to bytes (rw long place) (rw long torn)

  none : copy.len ≡ 0 → copied copy image ≡ image
  none e = rw e (put-none image copy.to)

module _ (copy : Copying) (image : List ℕ) (fits : copying_fits (length image) copy ≡ true) where
  -- a torn copy leaves its source whole, so it may be made again
  pub copied_again : (image' : List ℕ) → Torn copy.to copy.len image image' → copied copy image' ≡ copied copy image
  copied_again image' torn =
      ⊎_elim (λ (e : copy.len ≡ 0). ap (copied copy) (torn_none copy.to image image' (rw e at torn)))
      (λ place. again copy image place.0.0 place.1 image' place.2 torn) (copying_fits-place (length image) copy fits)

  pub copied-torn : Torn copy.to copy.len image (copied copy image)
  copied-torn = ⊎_elim (λ (e : copy.len ≡ 0). rw (none copy image e) (record { same_length = refl; below = λ i lt. refl; above = λ i le. refl }))
      (λ place. whole copy image place.0.0 place.1) (copying_fits-place (length image) copy fits)

  pub copied_twice : copied copy (copied copy image) ≡ copied copy image
  copied_twice = copied_again (copied copy image) copied-torn

  pub length-copied : length (copied copy image) ≡ length image
  length-copied = copied-torn.same_length
