-- `Units::next` meets its contract: the unit that stands at the place, and those behind it are left.
use Rattle.std.proofs.Common.{length, sym, ap, ◌∙◌, arith}
use Rattle.tree.proofs.Laws.UnitLaws.{units-none, units-pair, units-single}
use Rattle.table.proofs.units.UnitsIterator.next.Goals as goal

pub returns-then-text-at-clause-steps : goal.returns-then-text-at-clause-steps
returns-then-text-at-clause-steps c =
    let u = c.self.inside in
    let none = sym c.self.view_is ∙ units-none u.text.now u.at c.if-text-at.true in
    (none, none)

pub returns-then-is_pair-clause-steps : goal.returns-then-is_pair-clause-steps
returns-then-is_pair-clause-steps c =
    let u = c.self.inside in
    sym c.self.view_is ∙ units-pair u.text.now u.at (sym c.is_pair.ensures ∙ c.if-is_pair.true)

pub returns-then-is_pair-clause-goes : goal.returns-then-is_pair-clause-goes
returns-then-is_pair-clause-goes c =
    let u = c.self.inside in
    let one = sym c.self.view_is ∙ units-pair u.text.now u.at (sym c.is_pair.ensures ∙ c.if-is_pair.true) in
    record { on = λ _. (tt, tt, omega (arith, ap length one)); keeps = tt; rests = λ _. tt }

pub returns-clause-steps : goal.returns-clause-steps
returns-clause-steps c =
    let u = c.self.inside in
    sym c.self.view_is ∙ units-single u.text.now u.at c.if-text-at.false (sym c.is_pair.ensures ∙ c.if-is_pair.false)

pub returns-clause-goes : goal.returns-clause-goes
returns-clause-goes c =
    let u = c.self.inside in
    let one = sym c.self.view_is ∙ units-single u.text.now u.at c.if-text-at.false (sym c.is_pair.ensures ∙ c.if-is_pair.false) in
    record { on = λ _. (tt, tt, omega (arith, ap length one)); keeps = tt; rests = λ _. tt }
