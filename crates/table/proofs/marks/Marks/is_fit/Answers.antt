-- `Marks::is_fit` meets its contract: behind the units of the block a mark tells, or the text ends in it.
use Rattle.std.proofs.Common.{sym, ◌∙◌}
use borrow.Author.Tests.{eqb-true}
use Rattle.table.proofs.BlockLaws.{fit-end}
use Rattle.table.proofs.marks.Marks.is_fit.Goals as goal

pub returns : goal.returns
returns c =
    let s = c.self.inside in
    let p = c.pass_units-place in
    rw (← c.self.view_is) (λ e. p.ensures.fit (fit-end s.table.now p.result (sym c.byte_at.ensures ∙ eqb-true _ _ e)))
