-- The sizes of some regions together, region by region.
use Rattle.std.specs.Prelude.{ℕ, ◌+◌, ◌≡◌, List, ◌∷◌}
use Rattle.std.proofs.Common.{arith}
use Rattle.std.proofs.lemmas.List.Sums.{sum_by-cons}
use Rattle.space.specs.declared.region.DiscRegion.{DiscRegion}
use Rattle.space.specs.Used.{total_size}

pub total_size-cons : (x : DiscRegion) (xs : List DiscRegion) → total_size (x ∷ xs) ≡ x.size + total_size xs
unfolding total_size
total_size-cons x xs = sum_by-cons (λ (y : DiscRegion). y.size) x xs

-- one of those that are left goes to those that were added up
pub total-step : (used n : ℕ) (x : DiscRegion) (xs : List DiscRegion) → used + total_size (x ∷ xs) ≡ n → used + x.size + total_size xs ≡ n
total-step used n x xs e = omega (arith, total_size-cons x xs, e)
