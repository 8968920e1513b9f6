-- `header::check` meets its contract: the fields that are left give the answer of all, as long as none refuses.
use Rattle.std.proofs.Common.{refl, sym, ◌∙◌}
use Rattle.std.proofs.lemmas.Result.{err_from_is_err_and}
use Rattle.header.specs.Fields.{fields}
use Rattle.header.specs.Verdicts.{header_verdict}
use Rattle.header.proofs.Turns.{fields-end, fields-stop, fields_go}
use Rattle.header.proofs.fields.check.Goals as goal

pub loop-field-init : goal.loop-field-init
unfolding header_verdict
loop-field-init c = refl

pub returns-in_err-check_field : goal.returns-in_err-check_field
unfolding fields
returns-in_err-check_field c =
    let p = err_from_is_err_and c.from_residual.result c.from_residual.ensures.1 in
    rw (p.1, p.2) (sym (c.loop-field.invariant ∙ fields-stop _ _ _ c.loop-field-test.true c.in_err-check_field.ensures refl))

pub loop-field-preserved : goal.loop-field-preserved
unfolding fields
loop-field-preserved c = c.loop-field.invariant ∙ fields_go _ _ _ c.loop-field-test.true c.in_ok-check_field.ensures refl

pub returns : goal.returns
returns c = sym (c.loop-field.invariant ∙ fields-end _ _ c.loop-field-test.false)
