-- `table::text::is_clean_from` meets its contract: each unit is.
use Rattle.std.proofs.Common.{rules, sym, ap, ◌∙◌}
use Rattle.std.proofs.lemmas.Iterator.Consumers.{YieldsList-from_first}
use Rattle.std.proofs.lemmas.Iterator.Search.{all_from_yields_List}
use lib.ListN.{drop}
use Rattle.tree.specs.Units.{units}
use Rattle.table.specs.Inner.Texts.{is_clean_unit}
use Rattle.table.specs.Inner.Read.{unit_of}
use Rattle.table.proofs.Judging.{clean-is, whole-rest}
use Rattle.table.proofs.text.is_clean_from.Goals as goal

pub returns : goal.returns
returns c =
    let T = c.args.table.now in
    all_from_yields_List is_clean_unit _ _ _ c.all.ensures.ran (YieldsList-from_first unit_of (λ rest. rest) (units (drop c.min.result T)) (c.new.ensures ∙ ap units (whole-rest T c.min.result))) (λ x b q k. search rules)
    ∙ clean-is T c.pass_clean_units-from.result c.min.result c.min.ensures ∙ sym c.pass_clean_units-from.ensures
