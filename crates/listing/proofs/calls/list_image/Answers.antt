-- `listing::calls::list_image` meets its contract, by the two cases of an image.
use Rattle.std.proofs.lemmas.Result.{err_from_is_err_and}
use Rattle.listing.proofs.Answers.{list-refused, buffer-refused, list-opened, buffer-opened}
use Rattle.listing.proofs.calls.list_image.Goals as goal

pub returns-in_err-disc : goal.returns-in_err-disc
returns-in_err-disc c =
    let p = err_from_is_err_and c.from_residual.result c.from_residual.ensures.1 in
    let e = rw c.in_err-disc.was at c.of_image.ensures in
    rw (p.1, p.2) (record { answer = list-refused _ _ _ _ e; text_after = buffer-refused _ _ _ _ e })

pub returns : goal.returns
returns c =
    record { answer = list-opened _ _ _ _ c.in_ok-disc.ensures _ c.list_disc.ensures.answer; text_after = buffer-opened _ _ _ _ c.in_ok-disc.ensures _ c.list_disc.ensures.text_after }
