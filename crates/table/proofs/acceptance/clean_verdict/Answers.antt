-- `table::acceptance::clean_verdict` meets its contract: of plain and safe units only the empty text, `.` and `..` are no names.
use Rattle.std.proofs.Common.{sym, ◌∙◌}
use Rattle.tree.specs.Table.{is_plain}
use Rattle.table.proofs.Judging.{is_safe-none, is_safe-fit}
use Rattle.table.specs.Inner.Texts.{text_at}
use Rattle.table.proofs.acceptance.clean_verdict.Goals as goal

pub returns-then-is_nameless_at : goal.returns-then-is_nameless_at
unfolding is_plain
returns-then-is_nameless_at c =
    rw (c.requires.plain, is_safe-none (text_at c.args.table.now c.args.at) (sym c.is_nameless_at.ensures ∙ c.if-is_nameless_at.true))

pub returns : goal.returns
unfolding is_plain
returns c =
    rw (c.requires.plain, is_safe-fit (text_at c.args.table.now c.args.at) (sym c.is_nameless_at.ensures ∙ c.if-is_nameless_at.false) c.requires.safe)
