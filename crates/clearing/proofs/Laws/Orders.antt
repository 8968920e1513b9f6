-- LAW: what opening refuses comes before 21, and 21 for no byte before all else. Assumes nothing.
use Rattle.std.specs.Prelude.{ℕ, ◌≡◌, List, Ok, Err}
use Rattle.refusal.specs.declared.Refusal.{Refusal}
use Rattle.refusal.specs.declared.Refusal.TheVariants.{NotEnoughSpace}
use Rattle.opened.specs.Opening.{opening}
use Rattle.clearing.specs.Clearing.{clear_answer, cheapest_run}

module _ (image : List ℕ) (words : ℕ) where
  pub opening-first : (n budget : ℕ) (c : Refusal) → opening image words ≡ Err c → clear_answer image words n budget ≡ Err c
  unfolding clear_answer
  opening-first n budget c e = rw e

  pub then-21 : (budget : ℕ) → opening image words ≡ Ok tt → clear_answer image words 0 budget ≡ Err NotEnoughSpace
  unfolding clear_answer cheapest_run
  then-21 budget e = rw e
