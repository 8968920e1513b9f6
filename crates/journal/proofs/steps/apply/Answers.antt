use Rattle.std.proofs.Common.{◌≡◌, ◌∙◌, ℕ, ◌<◌, ◌+◌, true, List, length, get_or, drop, sym, ap, arith}
use Rattle.endian.specs.Bytes.{put}
use Rattle.journal.specs.declared.plan.Step.{Step}
use Rattle.journal.specs.Disk.{Disk, State, TearsImage, with_image}
use Rattle.journal.specs.Journal.{after, write_of, writes_of, steps_fit}
use Rattle.journal.specs.Inner.Carried.{Carries, Loose}
use Rattle.journal.proofs.Loose.{after-end, after-next, fit-next, loose_trans, torn-loose}
use Rattle.journal.proofs.Carried.{carried_on, carried-wider}
use Rattle.journal.proofs.steps.apply.Goals as goal

module _ (steps : List Step) (k : ℕ) (other : Step) (lt : k < length steps) where
  abbrev x : Step
  x = get_or steps k other

  one_more : (old mid new : State) → Carries (Loose steps) old mid → Carries (TearsImage x.at x.len) mid new → Carries (Loose steps) old new
  one_more old mid new so_far carried =
      carried_on (Loose steps) (loose_trans steps) old mid new so_far
      (carried-wider (TearsImage x.at x.len) (Loose steps) (torn-loose steps k other lt) mid new carried)

  left_more : (journal whole : List ℕ) (d e : Disk) → d.journal ≡ journal → after (writes_of journal (drop k steps)) d.image ≡ whole
      → e ≡ with_image d (put d.image x.at (write_of d.journal x).bytes)
      → after (writes_of journal (drop (k + 1) steps)) e.image ≡ whole
  left_more journal whole d e same left written =
      ap (λ (c : Disk). after (writes_of journal (drop (k + 1) steps)) c.image) written
      ∙ ap (λ (j : List ℕ). after (writes_of journal (drop (k + 1) steps)) (put d.image x.at (write_of j x).bytes)) same
      ∙ after-next steps k other lt journal d.image whole left

  fits_more : (d e : Disk) → steps_fit d.journal (length d.image) (drop k steps) ≡ true → TearsImage x.at x.len d e
      → steps_fit e.journal (length e.image) (drop (k + 1) steps) ≡ true
  fits_more d e fits torn = rw (torn.journal, torn.image.same_length) (fit-next steps k other lt d.journal (length d.image) fits).1

abbrev none : Step
none = record { at = 0; len = 0; from = 0 }

pub write_step-requires-clause-fits : goal.write_step-requires-clause-fits
write_step-requires-clause-fits g c = (fit-next c.args.steps.now c.loop-step.step-index none c.loop-step-test.true _ _ c.loop-step.invariant.fits).0

pub returns-in_err-write_step-clause-carried : goal.returns-in_err-write_step-clause-carried
returns-in_err-write_step-clause-carried g c =
    one_more c.args.steps.now c.loop-step.step-index none c.loop-step-test.true _ _ _ c.loop-step.invariant.carried c.write_step.ensures.carried

pub loop-step-preserved : goal.loop-step-preserved
loop-step-preserved g c = record {
  left = λ k. left_more c.args.steps.now c.loop-step.step-index none c.loop-step-test.true _ _ _ _ c.loop-step.invariant.carried.part.journal
      (c.loop-step.invariant.left k) (c.in_ok-write_step.ensures.done k);
  fits = fits_more c.args.steps.now c.loop-step.step-index none c.loop-step-test.true _ _ c.loop-step.invariant.fits c.write_step.ensures.carried.part;
  carried = one_more c.args.steps.now c.loop-step.step-index none c.loop-step-test.true _ _ _ c.loop-step.invariant.carried c.write_step.ensures.carried;
  faults = omega arith;
}

pub returns-clause-done : goal.returns-clause-done
returns-clause-done g c = λ k.
    let part = c.loop-step.invariant.carried.part in
    seen (g.F.Files.state c.args.files.now).seen (g.F.Files.state c.loop-step.files).seen _ part.journal part.record_text
    (sym (after-end _ _ c.args.steps.now c.loop-step.step-index c.loop-step-test.false) ∙ c.loop-step.invariant.left k)
  where
    seen : (s t : Disk) (image : List ℕ) → t.journal ≡ s.journal → t.record_text ≡ s.record_text → t.image ≡ image → t ≡ with_image s image
    seen s t image same as_was is = λ i. record { image = is i; journal = same i; record_text = as_was i }
