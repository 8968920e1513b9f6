use Rattle.std.proofs.Common.{◌≡◌, ℕ, ◌+◌, ◌<◌, Bool, ◌&&◌, List, length, get_or, drop, sym, ◌∙◌, ap}
use Rattle.std.proofs.lemmas.List.{at_drop_more, at_drop_all}
use Rattle.journal.specs.declared.plan.Step.{Step}
use Rattle.journal.specs.Journal.{steps_fit, step_fits}
use Rattle.journal.proofs.head.steps_fit.Goals as goal

-- one step, and those behind it
steps_fit-drop : (journal : List ℕ) (long : ℕ) (steps : List Step) (k : ℕ) (none : Step) → k < length steps
    → steps_fit journal long (drop k steps) ≡ (step_fits journal long (get_or steps k none) && steps_fit journal long (drop (k + 1) steps))
unfolding steps_fit
steps_fit-drop journal long steps k none lt = at_drop_more (steps_fit journal long) steps k none lt

pub returns-then-not-step_fits : goal.returns-then-not-step_fits
returns-then-not-step_fits c journal long =
    let none : Step = record { at = 0; len = 0; from = 0 } in
    let rest = steps_fit journal c.args.image_len (drop (c.loop-step.step-index + 1) c.args.steps.now) in
    let fits = sym c.if-not-step_fits.true ∙ c.step_fits.ensures journal long in
    ap (λ (b : Bool). b && rest) fits ∙ sym (steps_fit-drop journal c.args.image_len c.args.steps.now c.loop-step.step-index none c.loop-step-test.true) ∙ c.loop-step.invariant journal long

pub loop-step-preserved : goal.loop-step-preserved
loop-step-preserved c journal long =
    let none : Step = record { at = 0; len = 0; from = 0 } in
    let rest = steps_fit journal c.args.image_len (drop (c.loop-step.step-index + 1) c.args.steps.now) in
    let fits = sym c.if-not-step_fits.false ∙ c.step_fits.ensures journal long in
    ap (λ (b : Bool). b && rest) fits ∙ sym (steps_fit-drop journal c.args.image_len c.args.steps.now c.loop-step.step-index none c.loop-step-test.true) ∙ c.loop-step.invariant journal long

pub returns : goal.returns
unfolding steps_fit
returns c journal long = sym (at_drop_all (steps_fit journal c.args.image_len) c.args.steps.now c.loop-step.step-index c.loop-step-test.false) ∙ c.loop-step.invariant journal long
