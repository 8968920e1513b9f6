-- `TextBuffer::push_text` meets its contract: the first zero byte ends the text.
use Rattle.std.proofs.Common.{rules}
use borrow.Author.Tests.{tests}
use Rattle.std.proofs.lemmas.Iterator.{YieldsList-from_slice}
use Rattle.std.proofs.lemmas.Iterator.Search.{position_from_yields_List}
use Rattle.std.specs.Prelude.{Some, None}
use Rattle.table.proofs.Judging.{is_zero, cut-some, cut-none}
use Rattle.listing.proofs.Joining.{appends-as}
use Rattle.listing.proofs.buffer.TextBuffer.push_text.Goals as goal

pub returns-in-Some : goal.returns-in-Some
returns-in-Some c =
    let text = c.args.text.now in
    let found = position_from_yields_List is_zero _ _ (Some c.in-Some.len) c.in-Some.ensures.ran (YieldsList-from_slice text (cc)) (λ x b q k. search (rules, tests)) in
    appends-as c.push_bytes.ensures (cut-some text c.in-Some.len found)

pub returns-in-None : goal.returns-in-None
returns-in-None c =
    let text = c.args.text.now in
    let found = position_from_yields_List is_zero _ _ None c.in-None.ensures.ran (YieldsList-from_slice text (cc)) (λ x b q k. search (rules, tests)) in
    appends-as c.push_bytes-in-None.ensures (cut-none text found)
