-- One more piece brought to its place. Assumes nothing.
use Rattle.std.proofs.Common.{◌≡◌, ◌⊎◌, inl, inr, ⊎_elim, true, ℕ, ◌+◌, ◌≤◌, ◌<◌, List, [], ◌++◌, length, take, replicate, refl, sym, ◌∙◌, ap, arith}
use Rattle.endian.specs.Bytes.{put, span}
use Rattle.std.proofs.lemmas.List.{length-replicate, take-replicate, replicate-append-replicate}
use Rattle.endian.specs.Laws.Stored.{length-span, put-none}
use Rattle.endian.proofs.Parts.{down-part, span-add}
use Rattle.journal.specs.declared.plan.Copying.{Copying}
use Rattle.journal.specs.declared.plan.Step.{Step}
use Rattle.journal.specs.Journal.{copying_fits, step_fits, write_of}
use Rattle.journal.specs.Disk.{Disk, State, TearsImage, TearsJournal, Looks, Steps, with_image, with_journal}
use Rattle.journal.specs.Inner.Carried.{Carries}
use Rattle.journal.proofs.Fitting.{copying_fits-place}
use Rattle.journal.proofs.Loose.{write_of_none}
use Rattle.journal.proofs.Torn.{put-behind, tears_image_refl, tears_image-wider, tears_image_trans, tears_journal_refl, tears_journal-wider, tears_journal_trans}
use Rattle.journal.proofs.Carried.{carried_none, carried-turn}

-- ---- what is seen

pub image_none : (s : Disk) (at : ℕ) → s ≡ with_image s (put s.image at [])
image_none s at = ap (with_image s) (sym (put-none s.image at))

pub journal_none : (s : Disk) (at : ℕ) → s ≡ with_journal s (put s.journal at [])
journal_none s at = ap (with_journal s) (sym (put-none s.journal at))

-- a step of no bytes
pub step_none : (s : Disk) (step : Step) → step_fits s.journal (length s.image) step ≡ true → step.len ≡ 0
    → s ≡ with_image s (put s.image step.at (write_of s.journal step).bytes)
step_none s step fits none = rw (write_of_none s.journal (length s.image) step fits none) (image_none s step.at)

-- behind the bytes a go the bytes b
module _ (s₀ s r t : Disk) (at m : ℕ) (a b whole : List ℕ) (next : m ≡ at + length a) (is : whole ≡ a ++ b) (looks : r ≡ s) where
  pub image-more : at ≤ length s₀.image → s ≡ with_image s₀ (put s₀.image at a) → t ≡ with_image r (put r.image m b) → t ≡ with_image s₀ (put s₀.image at whole)
  image-more le so_far written = written ∙ ap (λ (d : Disk). with_image d (put d.image m b)) (looks ∙ so_far)
      ∙ ap (with_image s₀) (put-behind s₀.image at a m b le next ∙ ap (put s₀.image at) (sym is))

  pub journal-more : at ≤ length s₀.journal → s ≡ with_journal s₀ (put s₀.journal at a) → t ≡ with_journal r (put r.journal m b)
      → t ≡ with_journal s₀ (put s₀.journal at whole)
  journal-more le so_far written = written ∙ ap (λ (d : Disk). with_journal d (put d.journal m b)) (looks ∙ so_far)
      ∙ ap (with_journal s₀) (put-behind s₀.journal at a m b le next ∙ ap (put s₀.journal at) (sym is))

-- the same of the image's own bytes, which go to a place apart
pub copy-more : (s₀ s r t : Disk) (copy : Copying) (done n next : ℕ) (b : List ℕ) → copying_fits (length s₀.image) copy ≡ true → done < copy.len
    → next ≡ done + n → next ≤ copy.len
    → s ≡ with_image s₀ (put s₀.image copy.to (span s₀.image copy.from done)) → r ≡ s → b ≡ span s.image (copy.from + done) n
    → t ≡ with_image r (put r.image (copy.to + done) b)
    → t ≡ with_image s₀ (put s₀.image copy.to (span s₀.image copy.from next))
copy-more s₀ s r t copy done n next b fits some is le so_far looks read written =
    ⊎_elim
    (λ (none : copy.len ≡ 0). absurd (omega arith))
    (λ place.
    let seen : s.image ≡ put s₀.image copy.to (span s₀.image copy.from done) = ap (λ (d : Disk). d.image) so_far in
    let turn : put s.image (copy.to + done) b ≡ put s₀.image copy.to (span s₀.image copy.from next) =
    rw is (down-part s₀.image s.image (put s.image (copy.to + done) b) copy.from copy.to copy.len done n seen
    (ap (put s.image (copy.to + done)) read) (omega arith) place.1 place.0.0 (or_flip place.2)) in
    written ∙ ap (λ (d : Disk). with_image d (put d.image (copy.to + done) b)) looks ∙ ap (with_image s) turn
    ∙ ap (λ (d : Disk). with_image d (put s₀.image copy.to (span s₀.image copy.from next))) so_far)
    (copying_fits-place (length s₀.image) copy fits)
  where
    or_flip : (copy.from + copy.len ≤ copy.to) ⊎ (copy.to + copy.len ≤ copy.from) → (copy.to ≤ copy.from) ⊎ (copy.from + copy.len ≤ copy.to)
    or_flip way = ⊎_elim (λ up. inr up) (λ down. inl (omega arith)) way

-- bytes of the journal
pub bring-more : (s₀ s r t : Disk) (from at done n next : ℕ) (b : List ℕ) → from + next ≤ length s₀.journal → at + next ≤ length s₀.image → next ≡ done + n
    → s ≡ with_image s₀ (put s₀.image at (span s₀.journal from done)) → r ≡ s → b ≡ span s.journal (from + done) n
    → t ≡ with_image r (put r.image (at + done) b)
    → t ≡ with_image s₀ (put s₀.image at (span s₀.journal from next))
bring-more s₀ s r t from at done n next b held place is so_far looks read written =
    let same : s.journal ≡ s₀.journal = ap (λ (d : Disk). d.journal) so_far in
    let joined : span s₀.journal from next ≡ span s₀.journal from done ++ b = rw (is, read, same) (span-add s₀.journal from done n) in
    image-more s₀ s r t at (at + done) (span s₀.journal from done) b (span s₀.journal from next)
    (rw (length-span s₀.journal from done (omega arith)) refl) joined looks (omega arith) so_far written

-- zeros
pub zero-more : (s₀ s t : Disk) (at done n next most : ℕ) (zeros : List ℕ) → at + next ≤ length s₀.image → next ≡ done + n → n ≤ most → zeros ≡ replicate most 0
    → s ≡ with_image s₀ (put s₀.image at (replicate done 0)) → t ≡ with_image s (put s.image (at + done) (take n zeros))
    → t ≡ with_image s₀ (put s₀.image at (replicate next 0))
zero-more s₀ s t at done n next most zeros place is le zero so_far written =
    let piece : take n zeros ≡ replicate n 0 = rw zero (take-replicate n most 0 le) in
    let joined : replicate next 0 ≡ replicate done 0 ++ take n zeros = rw (is, piece) (sym (replicate-append-replicate done n 0)) in
    image-more s₀ s s t at (at + done) (replicate done 0) (take n zeros) (replicate next 0) (rw (length-replicate {A = ℕ} done 0) refl) joined refl
    (omega arith) so_far written

-- bytes of the clip
pub clip-more : (s₀ s r t : Disk) (clip now : List ℕ) (at done n next : ℕ) (b : List ℕ) → next ≤ length clip → at ≤ length s₀.journal
    → next ≡ done + n → now ≡ clip
    → s ≡ with_journal s₀ (put s₀.journal at (span clip 0 done)) → r ≡ s → b ≡ span now done n → t ≡ with_journal r (put r.journal (at + done) b)
    → t ≡ with_journal s₀ (put s₀.journal at (span clip 0 next))
clip-more s₀ s r t clip now at done n next b held place is same so_far looks read written =
    let z : 0 + done ≡ done = omega arith in
    let joined : span clip 0 next ≡ span clip 0 done ++ b = rw (is, read, same) (rw z at (span-add clip 0 done n)) in
    journal-more s₀ s r t at (at + done) (span clip 0 done) b (span clip 0 next) (rw (length-span clip 0 done (omega arith)) refl) joined looks place
    so_far written

-- ---- what a crash leaves

module _ (at len m n : ℕ) (le : at ≤ m) (ge : m + n ≤ at + len) (old mid read new : State) (looks : Looks mid read) where
  pub image_turn : Carries (TearsImage at len) old mid → Steps (TearsImage m n) read new → Carries (TearsImage at len) old new
  image_turn so_far steps = carried-turn (TearsImage at len) (TearsImage m n) (tears_image_refl at len) (tears_image_trans at len)
      (λ c d. tears_image-wider m n at len c d le ge) old mid read new so_far looks steps

  pub journal_turn : Carries (TearsJournal at len) old mid → Steps (TearsJournal m n) read new → Carries (TearsJournal at len) old new
  journal_turn so_far steps = carried-turn (TearsJournal at len) (TearsJournal m n) (tears_journal_refl at len) (tears_journal_trans at len)
      (λ c d. tears_journal-wider m n at len c d le ge) old mid read new so_far looks steps

-- before the first piece
pub image_start : (at len : ℕ) (s : State) → Carries (TearsImage at len) s s
image_start at len = carried_none (TearsImage at len) (tears_image_refl at len)

pub journal_start : (at len : ℕ) (s : State) → Carries (TearsJournal at len) s s
journal_start at len = carried_none (TearsJournal at len) (tears_journal_refl at len)
