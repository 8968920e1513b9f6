use Rattle.std.proofs.Common.{◌==◌, lit<, ap, ◌∙◌}
use Rattle.std.specs.List.{slice_split}
use Rattle.std.proofs.lemmas.Result.{IfOk-at_ok}
use Rattle.std.proofs.lemmas.Iterator.Consumers.{map_from_collect}
use Rattle.std.proofs.lemmas.Iterator.Splits.{YieldsList-from_str_split}
use Rattle.conversation.specs.Lines.{texts}
use Rattle.conversation.proofs.reading.read_request.Goals as goal

pub returns-in-Ok-read_words : goal.returns-in-Ok-read_words
returns-in-Ok-read_words c =
    let road = YieldsList-from_str_split 32 c.in-Ok.line.now (lit< tt) c.split.ensures.text c.split.ensures.has_more c.split.ensures.pattern in
    let words = IfOk-at_ok _ c.in_ok-words.was (map_from_collect _ c.collect.ensures.ran road) in
    c.in-Ok-read_words.ensures ∙ ap texts c.as_slice.ensures.value ∙ words ∙ ap (slice_split (λ b. b == 32)) c.in-Ok.ensures.cases.0
