-- An allocation: of the free regions, each from its first multiple of the alignment on, the largest that has room, the last among equals.
use Rattle.refusal.specs.declared.Refusal.{Refusal}
use Rattle.std.specs.Prelude.{ℕ, zero, suc, ◌-◌, ◌^◌, Bool, false, ◌&&◌, ◌||◌, List, Result, Ok, Err, if◌then◌else◌, ◌==◌, nat_lt, nat_le}
use Rattle.refusal.specs.declared.Refusal.TheVariants.{NotEnoughSpace, InvalidAlignment}
use Rattle.space.specs.declared.region.DiscRegion.{DiscRegion}
use Rattle.std.specs.List.{fold}
use Rattle.space.specs.Used.{end_of, no_region}
use Rattle.space.specs.Align.{align_up}

-- what a free region has from its first multiple on
abbrev pub rest : ℕ → DiscRegion → DiscRegion
rest align r = record { offset = align_up align r.offset; size = end_of r - align_up align r.offset }

-- the padding does not reach its size, and the rest is not below the wish
abbrev pub is_large_enough : ℕ → ℕ → DiscRegion → Bool
is_large_enough align wish r = nat_lt 0 (rest align r).size && nat_le wish (rest align r).size

-- the better of the best so far and the rest of r; r among equals
unfoldable pub better_of : ℕ → ℕ → DiscRegion → DiscRegion → DiscRegion
better_of align wish best r = if is_large_enough align wish r && nat_le best.size (rest align r).size then rest align r else best

-- the largest rest, of equal ones the last; `best` is the best so far
unfoldable pub largest_rest : ℕ → ℕ → DiscRegion → List DiscRegion → DiscRegion
largest_rest align wish best rs = fold (better_of align wish) best rs

-- x is one of the n powers of two from 2 ^ k on
unfoldable pub is_power_among : ℕ → ℕ → ℕ → Bool
is_power_among zero k x = false
is_power_among (suc n) k x = 2 ^ k == x || is_power_among n (suc k) x

-- an alignment has 32 bits
abbrev pub is_power_of_two : ℕ → Bool
is_power_of_two x = is_power_among 32 0 x

-- a rest has a byte, so size 0 means that there is none
abbrev pub rest_or_refusal : DiscRegion → Result DiscRegion Refusal
rest_or_refusal b = if b.size == 0 then Err NotEnoughSpace else Ok b

-- the answer of `allocate`, among the free regions rs
unfoldable pub allocation_of : ℕ → ℕ → List DiscRegion → Result DiscRegion Refusal
allocation_of align wish rs = if is_power_of_two align then rest_or_refusal (largest_rest align wish no_region rs) else Err InvalidAlignment
