-- LAW: a candidate costs nothing exactly where so many free bytes stand in a row. Assumes nothing.
use Rattle.std.specs.Prelude.{ℕ, ◌<◌, ◌≡◌, true, ◌==◌, nat_le}
use Rattle.std.specs.List.{list_any}
use Rattle.std.proofs.Common.{arith, le-leb, leb-true, eqb-true, eq-eqb}
use Rattle.refusal.specs.Laws.Tests.{same_test}
use Rattle.space.specs.Free.{largest_size}
use Rattle.clearing.specs.Clearing.{Occupancy, free_by, cost_of, candidates}
use Rattle.clearing.proofs.Laws.Members.{any-in, in-any}
use Rattle.clearing.proofs.Laws.Sound.{IsSound}
use Rattle.clearing.proofs.Laws.CandidateBefore.{candidate-before}
use Rattle.clearing.proofs.Laws.Candidates.{candidate-in, candidates-run}
use Rattle.clearing.proofs.Laws.Floors.{row-large, large-row, free-in-a-row, row-free}

pub row-candidates : (o : Occupancy) → IsSound o → (n : ℕ) → 0 < n → list_any (λ x. cost_of o n x == 0) (candidates o n) ≡ nat_le n (largest_size (free_by o))
row-candidates o s n some = same_test (list_any (λ x. cost_of o n x == 0) (candidates o n)) (nat_le n (largest_size (free_by o))) there back
  where
    there : list_any (λ x. cost_of o n x == 0) (candidates o n) ≡ true → nat_le n (largest_size (free_by o)) ≡ true
    there e =
        let w = any-in (λ x. cost_of o n x == 0) (candidates o n) e in
        le-leb n (largest_size (free_by o)) (row-large o n some w.0 (free-in-a-row o n some w.0 (candidates-run o n w.0 w.1) (eqb-true (cost_of o n w.0) 0 w.2)))

    back : nat_le n (largest_size (free_by o)) ≡ true → list_any (λ x. cost_of o n x == 0) (candidates o n) ≡ true
    back e =
        let w = large-row o n some (leb-true n (largest_size (free_by o)) e) in
        let f = row-free o n some w.0 w.1 in
        let c = candidate-before o s n w.0 f.0 in
        in-any (λ x. cost_of o n x == 0) (candidates o n) c.0 (candidate-in o n c.0 c.1) (eq-eqb (cost_of o n c.0) 0 (omega (arith, c.3, f.1)))
