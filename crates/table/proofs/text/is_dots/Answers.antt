-- `table::text::is_dots` meets its contract: three bytes of the text tell.
use Rattle.std.proofs.Common.{ap, ◌∙◌, ◌≡◌, ◌+◌, min, length, arith}
use Rattle.tree.specs.Table.{is_dots}
use Rattle.table.proofs.Texts.{is_dots-three}
use Rattle.table.proofs.text.is_dots.Goals as goal

pub returns : goal.returns
returns c =
    let tab = c.args.table.now in
    let m : c.min-end.result ≡ min (length tab) (c.args.at + 3) = omega (arith, c.min-end.ensures, c.saturating_add.ensures) in
    c.is_dots.ensures ∙ ap is_dots c.text_at.ensures ∙ is_dots-three tab c.args.at c.min-end.result m
