-- `wish_list::list::has_safe_names` meets its contract.
use Rattle.std.proofs.Common.{rules, tests}
use Rattle.std.proofs.lemmas.Iterator.Search.{all_from_yields_List}
use Rattle.std.proofs.lemmas.Iterator.Splits.{YieldsList-from_slice_split}
use Rattle.tree.specs.Table.{is_safe}
use Rattle.wish_list.specs.Paths.{is_slash}
use Rattle.wish_list.proofs.list.has_safe_names.Goals as goal

pub returns : goal.returns
returns c =
    all_from_yields_List is_safe _ _ _ c.all.ensures.ran
    (YieldsList-from_slice_split _ is_slash c.args.path.now c.split.ensures.rest c.split.ensures.done c.split.ensures.closure (λ x b q k. search (rules, tests)))
    (λ x b q k. search (rules, tests))
