-- One turn of a loop that looks for the first refusal, in the terms of a loop that counts k up to n: it stops at a refusal, goes on
-- where there is none, and ends with none. Assumes nothing.
use Rattle.std.specs.Prelude.{Ok, Err, is_err}
use Rattle.refusal.specs.Refusal.{Verdict}
use Prim.Native.Nat.{ℕ, suc, ◌+◌, ◌-◌, ◌<◌, ◌≤◌}
use Rattle.std.specs.Prelude.{◌≡◌, refl, true, false, List, [], ◌∷◌}
use Rattle.std.proofs.Common.{◌∙◌, le-leb}
use native.Mathlib.Omega.{arith}
use Rattle.std.proofs.Math.Numerals.{add-one}
use Rattle.std.proofs.lemmas.Bool.{lt-leb}
use Rattle.refusal.specs.Refusal.{first}
use Rattle.refusal.specs.Laws.Chains.{first-stop, first-go}
use Rattle.tree.specs.Table.{Node, name_of, node_at, nodes_from, entry_verdict, entries_verdict, dirs_open_at, dirs_with, name_verdict, next_verdict, walk}

first-assoc : (a b c : Verdict) → first a (first b c) ≡ first (first a b) c
first-assoc (Ok _) b c = refl
first-assoc (Err r) b c = refl

-- ---- the entries, each in turn: 5, 6

entries-step : (tab : List ℕ) (k n : ℕ) → k < n → entries_verdict tab k (n - k) ≡ first (entry_verdict tab k) (entries_verdict tab (k + 1) (n - (k + 1)))
unfolding entries_verdict
entries-step tab k n h =
    let e : n - k ≡ suc (n - (k + 1)) = omega arith in
    rw (e, add-one k)

pub entries-end : (tab : List ℕ) (k n : ℕ) → n ≤ k → entries_verdict tab k (n - k) ≡ Ok tt
unfolding entries_verdict
entries-end tab k n h =
    let e : n - k ≡ 0 = omega arith in
    rw e

-- v is what the entry's own test answered
pub entries-stop : (tab : List ℕ) (k n : ℕ) (v : Verdict) → k < n → v ≡ entry_verdict tab k → is_err v ≡ true → entries_verdict tab k (n - k) ≡ v
entries-stop tab k n v h q z = entries-step tab k n h ∙ rw (← q) (first-stop v _ z)

pub entries-go : (tab : List ℕ) (k n : ℕ) (v : Verdict) → k < n → v ≡ entry_verdict tab k → is_err v ≡ false →
    entries_verdict tab k (n - k) ≡ entries_verdict tab (k + 1) (n - (k + 1))
entries-go tab k n v h q z = entries-step tab k n h ∙ rw (← q) (first-go v _ z)

-- ---- the walk, of each entry: 11, 12, 13, 10, and 9 for the depth

-- all tests of entry k, which reads as x
abbrev pub walk_entry : List ℕ → ℕ → List ℕ → ℕ → Node → Verdict
walk_entry tab c dirs k x = first (name_verdict tab c k (name_of x)) (next_verdict c (dirs_open_at k dirs) k x)

module _ (tab : List ℕ) (c : ℕ) (dirs : List ℕ) (k n : ℕ) where
  walk_step : k < n → walk tab c dirs k (nodes_from tab c k (n - k)) ≡
      first (walk_entry tab c dirs k (node_at tab c k)) (walk tab c (dirs_with (dirs_open_at k dirs) (node_at tab c k)) (k + 1) (nodes_from tab c (k + 1) (n - (k + 1))))
  unfolding walk nodes_from
  walk_step h =
      let e : n - k ≡ suc (n - (k + 1)) = omega arith in
      rw (e, add-one k) (first-assoc (name_verdict tab c k (name_of (node_at tab c k))) (next_verdict c (dirs_open_at k dirs) k (node_at tab c k)) _)

  pub walk_end : n ≤ k → walk tab c dirs k (nodes_from tab c k (n - k)) ≡ Ok tt
  unfolding walk nodes_from
  walk_end h =
      let e : n - k ≡ 0 = omega arith in
      rw e

  pub walk-stop : (v : Verdict) → k < n → v ≡ walk_entry tab c dirs k (node_at tab c k) → is_err v ≡ true → walk tab c dirs k (nodes_from tab c k (n - k)) ≡ v
  walk-stop v h q z = walk_step h ∙ rw (← q) (first-stop v _ z)

  pub walk-go : (v : Verdict) → k < n → v ≡ walk_entry tab c dirs k (node_at tab c k) → is_err v ≡ false →
      walk tab c dirs k (nodes_from tab c k (n - k)) ≡ walk tab c (dirs_with (dirs_open_at k dirs) (node_at tab c k)) (k + 1) (nodes_from tab c (k + 1) (n - (k + 1)))
  walk-go v h q z = walk_step h ∙ rw (← q) (first-go v _ z)

-- ---- the directories that end at an entry are shut one by one

pub shut_none : (k : ℕ) → dirs_open_at k [] ≡ []
unfolding dirs_open_at
shut_none k = refl

pub dirs_open_at-pop : (k n : ℕ) (dirs : List ℕ) → n ≤ k → dirs_open_at k (n ∷ dirs) ≡ dirs_open_at k dirs
unfolding dirs_open_at
dirs_open_at-pop k n dirs h = rw (le-leb n k h)

pub shut_open : (k n : ℕ) (dirs : List ℕ) → k < n → dirs_open_at k (n ∷ dirs) ≡ n ∷ dirs
unfolding dirs_open_at
shut_open k n dirs h = rw (lt-leb n k h)
