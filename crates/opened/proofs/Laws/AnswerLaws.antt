-- The answers by the verdict of opening, and by the disc that was opened. Assumes nothing.
use Rattle.std.specs.Prelude.{Result, Ok, Err, ℕ, List}
use Rattle.refusal.specs.Refusal.{Verdict}
use Rattle.std.specs.Prelude.{◌≡◌}
use Rattle.std.proofs.Common.{◌∙◌}
use Rattle.refusal.specs.declared.Refusal.{Refusal}
use Rattle.opened.specs.Opening.{opening}
use Rattle.opened.specs.Inner.Disc.{Opened, Means, OpensAs}
use Rattle.opened.proofs.Laws.Meant.{start_meant, room_meant, end_meant, entries_meant, total_meant}
use Rattle.opened.specs.Answers.{answer_behind, summary_of}
use Rattle.opened.specs.Inner.Told.{told_of}

pub answer_behind-passed : {A : Type 0} (v : Verdict) (f : Refusal → A) (a : A) → v ≡ Ok tt → a ≡ answer_behind v f a
answer_behind-passed v f a e = rw e

pub answer_behind-refused : {A : Type 0} (v : Verdict) (f : Refusal → A) (a : A) (c : Refusal) → v ≡ Err c → f c ≡ answer_behind v f a
answer_behind-refused v f a c e = rw e

-- ---- what an opened disc is asked

module _ (image : List ℕ) (words : ℕ) (r : Result Opened Refusal) (h : OpensAs image words r) (d : Opened) (e : r ≡ Ok d) where
  opened-disc : Means image d × (d.words ≡ words)
  opened-disc = let o : OpensAs image words (Ok d) = rw e at h in o

  pub opened_means : Means image d
  opened_means = opened-disc.0

  pub opened_passes : opening image words ≡ Ok tt
  opened_passes = rw opened-disc.1 at opened-disc.0.known.passed

module _ {A : Type 0} (f : Refusal → A) (a : A) (image : List ℕ) (words : ℕ) (r : Result Opened Refusal) (h : OpensAs image words r) where
  -- what it answers is the image's answer behind opening's tests
  pub asked : (d : Opened) → r ≡ Ok d → (b : A) → (Means image d → b ≡ a) → b ≡ answer_behind (opening image words) f a
  asked d e b g = g (opened_means image words r h d e) ∙ answer_behind-passed (opening image words) f a (opened_passes image words r h d e)

  pub not_asked : (c : Refusal) → r ≡ Err c → f c ≡ answer_behind (opening image words) f a
  not_asked c e = let o : OpensAs image words (Err c) = rw e at h in answer_behind-refused (opening image words) f a c o

-- what it tells of itself
pub told_meant : (image : List ℕ) (d : Opened) → Means image d → told_of d.disc ≡ summary_of image
told_meant image d m =
    rw (start_meant image d m, room_meant image d m, end_meant image d m, entries_meant image d m, total_meant image d m)
