-- `table::name_tests::is_plain` meets its contract: each unit is.
use Rattle.std.proofs.Common.{rules, ◌∙◌}
use Rattle.std.proofs.lemmas.Iterator.Consumers.{YieldsList-from_first}
use Rattle.std.proofs.lemmas.Iterator.Search.{all_from_yields_List}
use Rattle.tree.specs.Table.{is_plain_unit}
use Rattle.tree.specs.Units.{units}
use Rattle.table.specs.Inner.Read.{unit_of}
use Rattle.table.proofs.Judging.{is_plain-is}
use Rattle.table.proofs.name_tests.is_plain.Goals as goal

pub returns : goal.returns
returns c =
    all_from_yields_List is_plain_unit _ _ _ c.all.ensures.ran (YieldsList-from_first unit_of (λ rest. rest) (units c.args.name.now) c.new.ensures) (λ x b q k. search rules)
    ∙ is_plain-is c.args.name.now
