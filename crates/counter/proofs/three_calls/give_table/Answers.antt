-- `counter::three_calls::give_table` meets its contract: a refusal writes back the slots that were read.
use Rattle.std.proofs.Common.{rules, ap, ◌≡◌, ◌∙◌}
use Rattle.counter.specs.Replies.{number_told, totals_words}
use Rattle.counter.proofs.Refusals.{totals-stay_behind}
use Rattle.counter.proofs.three_calls.give_table.Goals as goal

pub returns-clause-refused : goal.returns-clause-refused
returns-clause-refused c = λ h.
    let written = c.write_table-left.ensures.written in
    let number : c.give.result ≡ number_told c.write_table-left.result = search rules in
    c.totals_words.ensures.words
    ∙ ap totals_words (written.totals ∙ totals-stay_behind _ _ _ _ _ _ _ _ written.answered number h)
    ∙ c.totals_in-record.ensures.written_back
