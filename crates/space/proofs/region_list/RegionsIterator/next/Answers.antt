-- `Regions::next` meets its contract: the region at `next` is the first of those that are left.
use Rattle.std.proofs.Common.{◌-◌, length, sym, ap, ◌∙◌, arith}
use Rattle.space.specs.Inner.Sort.{region_at}
use Rattle.space.proofs.Pairs.{regions-more, regions-none}
use Rattle.space.proofs.region_list.RegionsIterator.next.Goals as goal

pub returns-then-self-clause-steps : goal.returns-then-self-clause-steps
returns-then-self-clause-steps c =
    let f = c.self.inside in
    let none = sym c.self.view_is ∙ regions-none f.words.now f.next (f.count - f.next) (omega arith) in
    (none, none)

pub returns-clause-steps : goal.returns-clause-steps
unfolding region_at
returns-clause-steps c =
    let f = c.self.inside in
    sym c.self.view_is ∙ regions-more f.words.now f.next f.count (omega arith)

pub returns-clause-goes : goal.returns-clause-goes
unfolding region_at
returns-clause-goes c =
    let f = c.self.inside in
    let one = sym c.self.view_is ∙ regions-more f.words.now f.next f.count (omega arith) in
    record { on = λ _. (tt, tt, omega (arith, ap length one)); keeps = tt; rests = λ _. tt }
