-- The cause that has a number.
use Rattle.std.specs.Prelude.{ℕ, ◌≡◌, Result, MatchResult}
use Rattle.refusal.specs.declared.Refusal.{Refusal}
use Rattle.refusal.specs.declared.number.NoCause.{NoCause}
use Rattle.refusal.specs.Refusal.{number_of}

-- the result is the cause that has this number, or says that none has it
abbrev pub IsCauseOf : ℕ → Result Refusal NoCause → Type 0
IsCauseOf n r = MatchResult r (λ cause. number_of cause ≡ n) (λ e. (e.0 ≡ n) × ((cause : Refusal) → ¬ (number_of cause ≡ n)))
