-- `wish_list::list::add_path` meets its contract: a path by itself, then behind those before it.
use Rattle.std.proofs.Common.{sym, ap, ◌∙◌}
use Rattle.std.proofs.lemmas.Result.{err_from_is_err_and}
use Rattle.refusal.specs.Refusal.{Verdict, first}
use Rattle.wish_list.specs.Inner.Earlier.{order_verdict}
use Rattle.wish_list.proofs.Judging.{path_verdict-parts, form-short, form-some}
use Rattle.wish_list.proofs.list.add_path.Goals as goal

pub returns-in_err-form_verdict-clause-verdict : goal.returns-in_err-form_verdict-clause-verdict
returns-in_err-form_verdict-clause-verdict c =
    let p = err_from_is_err_and c.from_residual.result c.from_residual.ensures.1 in
    λ before k. rw (p.1, p.2) (sym (path_verdict-parts before c.args.path.now ∙ ap (λ (v : Verdict). first v (order_verdict before c.args.path.now)) (sym c.form_verdict.ensures ∙ c.in_err-form_verdict.was)))

pub add-requires-clause-some : goal.add-requires-clause-some
add-requires-clause-some c = form-some c.args.path.now (sym c.form_verdict.ensures ∙ c.in_ok-form_verdict.was)

pub add-requires-clause-short : goal.add-requires-clause-short
add-requires-clause-short c = form-short c.args.path.now (sym c.form_verdict.ensures ∙ c.in_ok-form_verdict.was)

pub returns-clause-verdict : goal.returns-clause-verdict
returns-clause-verdict c =
    λ before k. c.add.ensures.verdict before k ∙ sym (path_verdict-parts before c.args.path.now ∙ ap (λ (v : Verdict). first v (order_verdict before c.args.path.now)) (sym c.form_verdict.ensures ∙ c.in_ok-form_verdict.was))
