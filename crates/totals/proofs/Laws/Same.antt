-- Of the bytes used before an edit and after it only the difference counts. Assumes nothing.
use Rattle.std.specs.Prelude.{ℕ, ◌+◌, ◌-◌, ◌≡◌, nat_lt}
use Rattle.std.proofs.Common.{arith, ltb-true, lt-ltb}
use Rattle.refusal.specs.Laws.Tests.{same_test}
use Rattle.totals.specs.declared.Totals.{Totals}
use Rattle.totals.specs.declared.SpaceChange.{SpaceChange}
use Rattle.totals.specs.Totals.{team_of, totals_verdict, moved_totals}

same-sum : (u a b c d : ℕ) → b + c ≡ d + a → u + b - a ≡ u + d - c
same-sum u a b c d h = omega arith

same-excess : (u v a b c d : ℕ) → b + c ≡ d + a → nat_lt (u + a) (v + b) ≡ nat_lt (u + c) (v + d)
same-excess u v a b c d h =
    same_test (nat_lt (u + a) (v + b)) (nat_lt (u + c) (v + d)) (λ q. lt-ltb (u + c) (v + d) (omega (arith, ltb-true (u + a) (v + b) q))) (λ q. lt-ltb (u + a) (v + b) (omega (arith, ltb-true (u + c) (v + d) q)))

same-deficit : (u a b c d : ℕ) → b + c ≡ d + a → nat_lt (u + b) a ≡ nat_lt (u + d) c
same-deficit u a b c d h =
    same_test (nat_lt (u + b) a) (nat_lt (u + d) c) (λ q. lt-ltb (u + d) c (omega (arith, ltb-true (u + b) a q))) (λ q. lt-ltb (u + b) a (omega (arith, ltb-true (u + d) c q)))

module _ (x y : SpaceChange) (difference : x.after + y.before ≡ y.after + x.before) (free : x.free ≡ y.free) (largest : x.largest ≡ y.largest) (t : Totals) (k : ℕ) where
  -- LAW: the same difference, the same answer
  pub same-verdict : totals_verdict t k x ≡ totals_verdict t k y
  unfolding totals_verdict
  same-verdict = rw (same-excess (team_of t k).limit (team_of t k).taken x.before x.after y.before y.after difference, free, same-deficit t.used x.before x.after y.before y.after difference, same-sum t.used x.before x.after y.before y.after difference)

  -- LAW: and the same record
  pub same-moved : moved_totals t k x ≡ moved_totals t k y
  unfolding moved_totals
  same-moved = rw (same-sum t.used x.before x.after y.before y.after difference, same-sum (team_of t k).taken x.before x.after y.before y.after difference, largest)
