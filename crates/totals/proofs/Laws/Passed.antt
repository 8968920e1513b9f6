-- What an edit that the record's tests accept has passed, and that no more is asked. Assumes nothing.
use Rattle.std.specs.Prelude.{ℕ, ◌+◌, ◌-◌, ◌^◌, ◌<◌, ◌≤◌, ◌≡◌, Ok}
use Rattle.std.proofs.Common.{arith, ltb-false, le-ltb}
use Rattle.refusal.specs.Laws.Chains.{refuse-passed}
use Rattle.totals.specs.declared.Totals.{Totals}
use Rattle.totals.specs.declared.SpaceChange.{SpaceChange}
use Rattle.totals.specs.Totals.{team_of, others, remainders, totals_verdict}

pub record Passed (t : Totals) (k : ℕ) (x : SpaceChange) : Type 0 where
  -- 27
  pub within-limit : (team_of t k).taken + x.after ≤ (team_of t k).limit + x.before
  -- 28
  pub kept-for-others : remainders (others t.teams k) ≤ x.free
  -- 25
  pub used-left : x.before ≤ t.used + x.after
  pub used-fits : t.used + x.after - x.before < 2 ^ 32
  pub count-fits : (team_of t k).edits + 1 < 2 ^ 32

module _ (t : Totals) (k : ℕ) (x : SpaceChange) where
  -- LAW
  pub passed : totals_verdict t k x ≡ Ok tt → Passed t k x
  unfolding totals_verdict
  passed e =
      let a = refuse-passed _ _ _ e in
      let b = refuse-passed _ _ _ a.1 in
      let c = refuse-passed _ _ _ b.1 in
      let d = refuse-passed _ _ _ c.1 in
      let f = refuse-passed _ _ _ d.1 in
      let used = ltb-false (2 ^ 32 - 1) (t.used + x.after - x.before) d.0 in
      let count = ltb-false (2 ^ 32 - 1) ((team_of t k).edits + 1) f.0 in
      record {
        within-limit = ltb-false _ _ a.0;
        kept-for-others = ltb-false _ _ b.0;
        used-left = ltb-false _ _ c.0;
        used-fits = omega (arith, used);
        count-fits = omega (arith, count);
      }

  -- LAW
  pub passes : Passed t k x → totals_verdict t k x ≡ Ok tt
  unfolding totals_verdict
  passes p =
      rw (le-ltb ((team_of t k).limit + x.before) ((team_of t k).taken + x.after) p.within-limit, le-ltb x.free (remainders (others t.teams k)) p.kept-for-others, le-ltb (t.used + x.after) x.before p.used-left, le-ltb (2 ^ 32 - 1) (t.used + x.after - x.before) (omega (arith, p.used-fits)), le-ltb (2 ^ 32 - 1) ((team_of t k).edits + 1) (omega (arith, p.count-fits)))
