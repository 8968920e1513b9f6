-- `table::name::text_is` meets its contract: a text of n bytes has its end n bytes on, so that where it is, the n bytes decide.
use native.Mathlib.Omega.{arith}
use mathlib.Core.Path.{sym, ◌∙◌}
use Rattle.table.proofs.Comparing.{text-short, text-longer, text-exact}
use borrow.Author.Rules.{rules}
use Rattle.table.proofs.name.text_is.Goals as goal

pub returns-then-table-at : goal.returns-then-table-at
returns-then-table-at c = search (text-short, rules)

pub returns-then-byte_at-ne0 : goal.returns-then-byte_at-ne0
returns-then-byte_at-ne0 c =
    let a = c.args in
    sym (text-longer a.table.now a.name.now a.at (λ e. c.if-byte_at-ne0.true (c.byte_at.ensures ∙ e)))

pub returns : goal.returns
returns c =
    c.same.ensures
    ∙ sym (text-exact c.args.table.now c.args.name.now c.args.at c.requires.no_zero (omega (arith, c.if-table-at.false)) (sym c.byte_at.ensures ∙ c.if-byte_at-ne0.false))
