-- `counter::editing::give_done` meets its contract: a refusal writes back the slots that were read.
use Rattle.std.proofs.Common.{ap, ◌∙◌}
use Rattle.counter.specs.Replies.{number_told, totals_words}
use Rattle.counter.proofs.Refusals.{totals-stay}
use Rattle.counter.proofs.editing.give_done.Goals as goal

pub returns-clause-refused : goal.returns-clause-refused
returns-clause-refused c = λ h.
    c.totals_words.ensures.words
    ∙ ap totals_words (c.done-verdict.ensures.totals ∙ totals-stay _ _ _ _ _ _ (λ e. c.give.ensures.number ∙ ap number_told (c.done-verdict.ensures.answered ∙ e)) h)
    ∙ c.totals_in-record.ensures.written_back
