-- `table::name_tests::is_safe` meets its contract: not empty, no dots, and each unit is.
use Rattle.std.proofs.Common.{rules, ◌∙◌, sym}
use Rattle.std.proofs.lemmas.Iterator.Consumers.{YieldsList-from_first}
use Rattle.std.proofs.lemmas.Iterator.Search.{all_from_yields_List}
use Rattle.tree.specs.Table.{is_safe_unit}
use Rattle.tree.specs.Units.{units}
use Rattle.table.specs.Inner.Read.{unit_of}
use Rattle.table.proofs.Judging.{is_safe-none, is_safe-is}
use Rattle.table.proofs.name_tests.is_safe.Goals as goal

pub returns-then-not-is_nameless : goal.returns-then-not-is_nameless
returns-then-not-is_nameless c =
    all_from_yields_List is_safe_unit _ _ _ c.all.ensures.ran (YieldsList-from_first unit_of (λ rest. rest) (units c.args.name.now) c.new.ensures) (λ x b q k. search rules)
    ∙ sym (is_safe-is c.args.name.now (sym c.is_nameless.ensures ∙ c.if-not-is_nameless.true))

pub returns-else-not-is_nameless : goal.returns-else-not-is_nameless
returns-else-not-is_nameless c =
    let e = sym c.is_nameless.ensures ∙ c.if-not-is_nameless.false in
    rw (c.if-not-is_nameless.false, is_safe-none c.args.name.now e)
