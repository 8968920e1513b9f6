-- `listing::calls::report` meets its contract, by the two cases of a listing.
use Rattle.std.proofs.Common.{length}
use Rattle.listing.proofs.Answers.{report-text, report-refused}
use Rattle.listing.proofs.calls.report.Goals as goal

pub returns-in-Ok : goal.returns-in-Ok
returns-in-Ok c =
    let e = c.list_small.ensures in
    let a = report-text c.args.image.now (length c.args.words.now) c.args.text.now _ _ (e.answer, e.text_after) _ c.in-Ok.is in
    record { answer = a.0; text_after = a.1; words_zero = e.words_zero }

pub returns-in-Err : goal.returns-in-Err
returns-in-Err c =
    let e = c.list_small.ensures in
    let a = report-refused c.args.image.now (length c.args.words.now) c.args.text.now _ _ (e.answer, e.text_after) _ c.in-Err.is _ _ (c.write_refused.ensures.answer, c.write_refused.ensures.text_after) in
    record { answer = a.0; text_after = a.1; words_zero = e.words_zero }
