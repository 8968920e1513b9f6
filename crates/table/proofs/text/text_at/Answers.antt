-- `table::text::text_at` meets its contract: the first zero byte ends the text.
use Rattle.std.proofs.Common.{rules, ap, ◌∙◌, length, ◌-◌, take, drop, List, ℕ}
use borrow.Author.Tests.{tests}
use Rattle.std.proofs.lemmas.Iterator.{YieldsList-from_slice}
use Rattle.std.proofs.lemmas.Iterator.Search.{position_from_yields_List}
use Rattle.std.specs.Prelude.{Some, None}
use Rattle.tree.specs.Table.{first_text}
use Rattle.table.proofs.Judging.{is_zero, cut-some, cut-none, drop-min, whole-rest}
use Rattle.table.proofs.text.text_at.Goals as goal

pub returns-in-Some : goal.returns-in-Some
returns-in-Some c =
    let tab = c.args.table.now in
    let rest : List ℕ = take (length tab - c.min.result) (drop c.min.result tab) in
    let found = position_from_yields_List is_zero _ _ (Some c.in-Some.len) c.in-Some.ensures.ran (YieldsList-from_slice rest (cc)) (λ x b q k. search (rules, tests)) in
    cut-some rest c.in-Some.len found ∙ ap first_text (whole-rest tab c.min.result ∙ rw c.min.ensures (drop-min c.args.at tab))

pub returns-in-None : goal.returns-in-None
returns-in-None c =
    let tab = c.args.table.now in
    let rest : List ℕ = take (length tab - c.min.result) (drop c.min.result tab) in
    let found = position_from_yields_List is_zero _ _ None c.in-None.ensures.ran (YieldsList-from_slice rest (cc)) (λ x b q k. search (rules, tests)) in
    cut-none rest found ∙ ap first_text (whole-rest tab c.min.result ∙ rw c.min.ensures (drop-min c.args.at tab))
