-- `steps::zero` meets its contract: a span that passes lies in the image.
use Rattle.std.specs.Prelude.{Err}
use Rattle.std.proofs.Common.{sym, ap, ◌∙◌}
use Rattle.std.proofs.lemmas.Result.{err_from_is_err_and}
use Rattle.steps.proofs.Zeroing.{zeros-fit, zeroed, left, only-free, only-zeroed}
use Rattle.steps.proofs.steps.zero.Goals as goal

pub returns-in_err-check_span-clause-image_after : goal.returns-in_err-check_span-clause-image_after
returns-in_err-check_span-clause-image_after c = left _ _ _ _ (sym (rw c.new-words.ensures.memory at c.check_span.ensures) ∙ c.in_err-check_span.was)

pub returns-in_err-check_span-clause-what_is_free : goal.returns-in_err-check_span-clause-what_is_free
returns-in_err-check_span-clause-what_is_free c =
    let p = err_from_is_err_and c.from_residual.result c.from_residual.ensures.1 in
    only-free _ _ _ _ (p.1 ∙ ap Err p.2 ∙ sym c.in_err-check_span.was ∙ (rw c.new-words.ensures.memory at c.check_span.ensures))

pub write_zeros-requires : goal.write_zeros-requires
write_zeros-requires c = zeros-fit _ _ _ c.of_bytes.ensures (sym c.check_span.ensures ∙ c.in_ok-check_span.was)

pub returns-clause-image_after : goal.returns-clause-image_after
returns-clause-image_after c = zeroed _ _ _ _ (sym (rw c.new-words.ensures.memory at c.check_span.ensures) ∙ c.in_ok-check_span.was) c.write_zeros.ensures

pub returns-clause-own_part : goal.returns-clause-own_part
returns-clause-own_part c = only-zeroed _ _ _ c.of_bytes.ensures _ (returns-clause-image_after c)

pub returns-clause-what_is_free : goal.returns-clause-what_is_free
returns-clause-what_is_free c = only-free _ _ _ _ (sym c.in_ok-check_span.was ∙ (rw c.new-words.ensures.memory at c.check_span.ensures))
