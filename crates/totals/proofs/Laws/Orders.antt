-- The order of the record's tests: 27, then 28, then 25, whatever comes after. Assumes nothing.
use Rattle.std.specs.Prelude.{ℕ, ◌+◌, ◌-◌, ◌^◌, ◌<◌, ◌≤◌, ◌≡◌, ◌⊎◌, Bool, true, false, nat_lt, Ok, Err}
use Rattle.std.proofs.Common.{refl, inl, inr, ⊎_elim, arith, lt-ltb, le-ltb}
use Rattle.std.proofs.lemmas.Bool.{false≢true}
use Rattle.refusal.specs.Refusal.{refuse}
use Rattle.refusal.specs.declared.Refusal.TheVariants.{TotalsOutOfRange, TakenAboveLimit, FreeBelowShares}
use Rattle.totals.specs.declared.Totals.{Totals}
use Rattle.totals.specs.declared.SpaceChange.{SpaceChange}
use Rattle.totals.specs.Totals.{team_of, others, remainders, totals_verdict}

-- one of three tests of the same cause
out : (a b c : Bool) → (a ≡ true) ⊎ ((b ≡ true) ⊎ (c ≡ true)) → refuse a TotalsOutOfRange (refuse b TotalsOutOfRange (refuse c TotalsOutOfRange (Ok tt))) ≡ Err TotalsOutOfRange
out true b c h = refl
out false true c h = refl
out false false true h = refl
out false false false h = absurd (⊎_elim (λ e. false≢true e) (λ g. ⊎_elim (λ e. false≢true e) (λ e. false≢true e) g) h)

module _ (t : Totals) (k : ℕ) (x : SpaceChange) where
  -- LAW: above its limit is 27
  pub limit-first : (team_of t k).limit + x.before < (team_of t k).taken + x.after → totals_verdict t k x ≡ Err TakenAboveLimit
  unfolding totals_verdict
  limit-first h = rw (lt-ltb ((team_of t k).limit + x.before) ((team_of t k).taken + x.after) h)

  module _ (within : (team_of t k).taken + x.after ≤ (team_of t k).limit + x.before) where
    -- LAW: within it, with less free than is kept for the others, is 28
    pub shares-next : x.free < remainders (others t.teams k) → totals_verdict t k x ≡ Err FreeBelowShares
    unfolding totals_verdict
    shares-next h = rw (le-ltb ((team_of t k).limit + x.before) ((team_of t k).taken + x.after) within, lt-ltb x.free (remainders (others t.teams k)) h)

    -- LAW: with enough free, used bytes or the team's own count outside 32 bits are 25
    pub range-last : remainders (others t.teams k) ≤ x.free → (t.used + x.after < x.before) ⊎ ((2 ^ 32 ≤ t.used + x.after - x.before) ⊎ (2 ^ 32 ≤ (team_of t k).edits + 1)) → totals_verdict t k x ≡ Err TotalsOutOfRange
    unfolding totals_verdict
    range-last enough h =
        rw (le-ltb ((team_of t k).limit + x.before) ((team_of t k).taken + x.after) within, le-ltb x.free (remainders (others t.teams k)) enough)
        (out (nat_lt (t.used + x.after) x.before) (nat_lt (2 ^ 32 - 1) (t.used + x.after - x.before)) (nat_lt (2 ^ 32 - 1) ((team_of t k).edits + 1))
        (⊎_elim (λ a. inl (lt-ltb (t.used + x.after) x.before a)) (λ g. inr (⊎_elim (λ a. inl (lt-ltb (2 ^ 32 - 1) (t.used + x.after - x.before) (omega (arith, a)))) (λ a. inr (lt-ltb (2 ^ 32 - 1) ((team_of t k).edits + 1) (omega (arith, a)))) g)) h))
