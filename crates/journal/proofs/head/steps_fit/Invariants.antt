use Rattle.std.proofs.Common.{◌≡◌, List, ℕ, length, drop}
use Rattle.journal.specs.Journal as journal_of
use Rattle.journal.proofs.head.steps_fit.Given as goal

-- what is left of the steps decides
abbrev pub invariant-loop-step : goal.invariant-loop-step
invariant-loop-step l = (journal : List ℕ) → length journal ≡ l.journal_len →
    journal_of.steps_fit journal l.image_len (drop l.step-index l.steps) ≡ journal_of.steps_fit journal l.image_len l.steps
