-- `sheet::lines::Lines::next` meets its contract: the first line that is left.
use Rattle.std.specs.Prelude.{◌≡◌, []}
use Rattle.std.proofs.Common.{◌∙◌, sym, ap}
use Rattle.sheet.specs.Inner.Left.{lines_left}
use Rattle.sheet.proofs.Stepping.{lines_left-none, good-left, yields-first, progress}
use Rattle.sheet.proofs.lines.LinesIterator.next.Goals as goal

pub returns-in_err-row-clause-steps : goal.returns-in_err-row-clause-steps
returns-in_err-row-clause-steps c =
    let none : c.args.self.now ≡ [] = sym c.self.view_is ∙ lines_left-none c.self.inside.texts.now c.self.inside.rows.now c.in_err-row.ensures.cases in
    rw c.from_residual.ensures (none, none)

pub invariant_of-self : goal.invariant_of-self
invariant_of-self c =
    let first = c.in_ok-row.ensures.cases.0 in
    record {
      ended = c.self.invariant.ended;
      good = good-left c.self.inside.texts.now c.in_ok-row.row.now c.in_ok-row.rest.now (rw first at c.self.invariant.good);
    }

pub returns-clause-steps : goal.returns-clause-steps
returns-clause-steps c =
    let texts = c.self.inside.texts.now in
    let first = c.in_ok-row.ensures.cases.0 in
    yields-first texts c.in_ok-row.row.now c.in_ok-row.rest.now (rw first at c.self.invariant.good) c.args.self.now
    (ap (λ rows. lines_left rows texts) (sym first) ∙ c.self.view_is) c.line_in.result c.line_in.ensures.ok c.line_in.ensures.err c.ok.result c.ok.ensures.value

pub returns-clause-goes : goal.returns-clause-goes
returns-clause-goes c = progress c.ok.result _ _ (returns-clause-steps c)
