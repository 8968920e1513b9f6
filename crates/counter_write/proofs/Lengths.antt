-- What calls do to files of which the lengths alone are known. Assumes nothing.
use Rattle.std.proofs.Common.{◌≡◌, refl, sym, ap, ◌∙◌, ℕ, ◌+◌, ◌-◌, ◌≤◌, max, replicate, arith}
use Rattle.std.proofs.lemmas.List.{take-replicate, drop-replicate}
use Rattle.journal.specs.Disk.{Steps, TearsJournal}
use Rattle.counter_write.specs.Inner.Real.{state_of}

-- a write that makes a journal longer, or not; image and clip stay
pub tears_grown : (image journal clip at n : ℕ) (image' journal' clip' : ℕ) → at ≤ journal → image' ≡ image → clip' ≡ clip → journal' ≡ max journal (at + n)
    → Steps (TearsJournal at n) (state_of image journal clip) (state_of image' journal' clip')
tears_grown image journal clip at n image' journal' clip' within same_image same_clip grown = record {
  part = record {
    image = ap (λ k. replicate k 0) same_image;
    journal = record {
      before = take-replicate at journal' 0 (omega arith) ∙ sym (take-replicate at journal 0 within);
      after =
          let rest : journal' - (at + n) ≡ journal - (at + n) = omega arith in
          drop-replicate (at + n) journal' 0 ∙ ap (λ k. replicate k 0) rest ∙ sym (drop-replicate (at + n) journal 0);
    };
    record_text = refl;
  };
  crash = λ d left. absurd left;
  time = record {
    later = omega arith;
    nothing_else = λ t d le left. absurd left;
    keeps = λ t d le left. left;
    seen_too = λ left. left;
    same_clip = ap (λ k. replicate k 0) same_clip;
  };
}
