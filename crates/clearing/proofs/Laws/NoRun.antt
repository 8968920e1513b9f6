-- LAW: refused for room exactly if no byte is asked for or no start at all gives a run. Assumes nothing.
use Rattle.std.specs.Prelude.{ℕ, ◌≡◌, ◌⊎◌, Err}
use Rattle.std.proofs.Common.{sym, ◌∙◌, inl, inr, ⊎_elim, arith}
use Rattle.refusal.specs.declared.Refusal.TheVariants.{NotEnoughSpace}
use Rattle.clearing.specs.Clearing.{Occupancy, occupancy_of, cheapest_run}
use Rattle.clearing.specs.Theorem.{NoRun}
use Rattle.clearing.proofs.Laws.Sound.{IsSound, IsRunOn}
use Rattle.clearing.proofs.Laws.Told.{IsRefused, IsAnswered, told-cases, first-run, no-candidate}
use Rattle.clearing.proofs.Laws.Opened.{sound, clear-told, run-on, run-of}

module _ (o : Occupancy) (s : IsSound o) (n budget : ℕ) where
  refused : cheapest_run o n budget ≡ Err NotEnoughSpace → (n ≡ 0) ⊎ ((x : ℕ) → IsRunOn o n x → ⊥)
  refused e = go (told-cases o n budget)
    where
      go : IsRefused o n budget ⊎ IsAnswered o n budget → (n ≡ 0) ⊎ ((x : ℕ) → IsRunOn o n x → ⊥)
      go (inl r) = ⊎_elim (λ z. inl z) (λ c. inr (no-candidate o s n c)) r.none
      go (inr a) = absurd (let q = a.answer in cc)

  refuses : (n ≡ 0) ⊎ ((x : ℕ) → IsRunOn o n x → ⊥) → cheapest_run o n budget ≡ Err NotEnoughSpace
  refuses h = go (told-cases o n budget)
    where
      go : IsRefused o n budget ⊎ IsAnswered o n budget → cheapest_run o n budget ≡ Err NotEnoughSpace
      go (inl r) = r.answer
      go (inr a) = absurd (⊎_elim (λ z. omega (arith, a.some)) (λ f. f a.first (first-run o n budget a)) h)

pub no-run : NoRun
no-run image words n budget bytes passed = (
  λ e. ⊎_elim (λ z. inl z) (λ f. inr (λ x r. f x (run-on image n x r))) (refused (occupancy_of image) (sound image words bytes passed) n budget (sym (clear-told image words bytes passed n budget) ∙ e)),
  λ h. clear-told image words bytes passed n budget ∙ refuses (occupancy_of image) (sound image words bytes passed) n budget (⊎_elim (λ z. inl z) (λ f. inr (λ x r. f x (run-of image n x r))) h),
)
