-- One turn of a loop that looks for the entry that is refused, in the terms of a loop that counts k up to n: it stops at one, goes on
-- where there is none, and ends with none. Assumes nothing.
use Prim.Native.Nat.{ℕ, suc, ◌+◌, ◌-◌, ◌<◌, ◌≤◌}
use Rattle.std.specs.Prelude.{◌≡◌, true, false, List, None, Some, is_err}
use native.Mathlib.Omega.{arith}
use Rattle.std.proofs.Math.Numerals.{add-one}
use Rattle.refusal.specs.Refusal.{Verdict}
use Rattle.tree.specs.Table.{node_at, nodes_from, entry_verdict, dirs_open_at, dirs_with}
use Rattle.tree.specs.Faults.{first_refused, walk_refused}
use Rattle.tree.proofs.Laws.Steps.{walk_entry}

-- v is what the test of entry i answered, which is the turn's
module _ (tab : List ℕ) (k n i : ℕ) (turn : i ≡ k) (v : Verdict) (test : v ≡ entry_verdict tab i) where
  pub refused-here : k < n → is_err v ≡ true → first_refused tab k (n - k) ≡ Some k
  unfolding first_refused
  refused-here h e =
      let s : n - k ≡ suc (n - (k + 1)) = omega arith in
      let t : is_err (entry_verdict tab k) ≡ true = rw (← turn, ← test) e in
      rw (s, t)

  pub refused-later : k < n → is_err v ≡ false → first_refused tab k (n - k) ≡ first_refused tab (k + 1) (n - (k + 1))
  unfolding first_refused
  refused-later h e =
      let s : n - k ≡ suc (n - (k + 1)) = omega arith in
      let t : is_err (entry_verdict tab k) ≡ false = rw (← turn, ← test) e in
      rw (s, t, add-one k)

pub refused_none : (tab : List ℕ) (k n : ℕ) → n ≤ k → first_refused tab k (n - k) ≡ None
unfolding first_refused
refused_none tab k n h = let s : n - k ≡ 0 = omega arith in rw s

-- v is what the entry's own tests answered
module _ (tab : List ℕ) (c : ℕ) (dirs : List ℕ) (k n : ℕ) where
  pub stopped-here : (v : Verdict) → k < n → v ≡ walk_entry tab c dirs k (node_at tab c k) → is_err v ≡ true → walk_refused tab c dirs k (nodes_from tab c k (n - k)) ≡ Some k
  unfolding walk_refused nodes_from
  stopped-here v h q e =
      let s : n - k ≡ suc (n - (k + 1)) = omega arith in
      rw (s, ← q, e)

  pub stopped-later : (v : Verdict) → k < n → v ≡ walk_entry tab c dirs k (node_at tab c k) → is_err v ≡ false →
      walk_refused tab c dirs k (nodes_from tab c k (n - k)) ≡ walk_refused tab c (dirs_with (dirs_open_at k dirs) (node_at tab c k)) (k + 1) (nodes_from tab c (k + 1) (n - (k + 1)))
  unfolding walk_refused nodes_from
  stopped-later v h q e =
      let s : n - k ≡ suc (n - (k + 1)) = omega arith in
      rw (s, ← q, e, add-one k)

  pub stopped_none : n ≤ k → walk_refused tab c dirs k (nodes_from tab c k (n - k)) ≡ None
  unfolding walk_refused nodes_from
  stopped_none h = let s : n - k ≡ 0 = omega arith in rw s
