-- `counter::editing::give_entry` meets its contract: a refusal writes back the slots that were read.
use Rattle.std.proofs.Common.{ap, ◌∙◌}
use Rattle.counter.specs.Replies.{totals_words}
use Rattle.counter.proofs.Refusals.{totals-stay_behind}
use Rattle.counter.proofs.editing.give_entry.Goals as goal

pub returns-clause-refused : goal.returns-clause-refused
returns-clause-refused c = λ h.
    let edited = c.run-given.ensures.edited in
    c.totals_words.ensures.words
    ∙ ap totals_words (edited.totals ∙ totals-stay_behind _ _ _ _ _ _ _ _ edited.answered c.give.ensures.number h)
    ∙ c.totals_in-record.ensures.written_back
