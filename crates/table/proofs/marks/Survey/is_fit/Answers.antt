-- `Survey::is_fit` meets its contract: a text that follows no lead byte starts with a unit of the clean texts.
use native.Mathlib.Omega.{arith}
use Rattle.table.proofs.BlockLaws.{fit-early, fit-after}
use Rattle.table.proofs.marks.Survey.is_fit.Goals as goal

pub returns-then-at-self-clause-fit : goal.returns-then-at-self-clause-fit
returns-then-at-self-clause-fit c =
    let s = c.self.inside in
    let i = c.self.invariant in
    let h = rw (← c.self.view_is) at c.requires.from in
    rw (← c.self.view_is) (λ e. fit-early s.table.now s.base s.first c.args.at (i.clean c.in_default.is) i.early h c.if-at-self.true)

pub returns-then-not-is_lead-clause-fit : goal.returns-then-not-is_lead-clause-fit
returns-then-not-is_lead-clause-fit c =
    let s = c.self.inside in
    let i = c.self.invariant in
    let b = c.byte_at in
    let l = c.is_lead in
    rw (← c.self.view_is)
    (λ e. fit-after s.table.now s.base c.args.at _ b.result l.result (i.clean c.in_default.is) b.ensures (omega (arith, i.early.before, c.if-at-self.false)) (omega (arith, i.early.before, c.if-at-self.false)) l.ensures c.if-not-is_lead.true)
