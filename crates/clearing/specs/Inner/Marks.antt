-- The candidates and what they cost, by the used regions in order. Assumes nothing: these are
-- definitions.
use Rattle.std.specs.Prelude.{ℕ, ◌+◌, ◌-◌, ◌*◌, ◌^◌, ◌<◌, ◌≤◌, length, ◌≡◌, Bool, true, ◌&&◌, List, [], ◌∷◌, map, filter, if◌then◌else◌, nat_lt, nat_le}
use Rattle.space.specs.declared.region.DiscRegion.{DiscRegion}
use Rattle.space.specs.Used.{end_of, total_size}
use Rattle.space.specs.Layout.{are_disjoint}
use Rattle.space.specs.Inner.Sort.{regions_in}
use Rattle.space.specs.Inner.Words.{AllNonempty, is_in_sequence}
use Rattle.clearing.specs.Clearing.{Occupancy, bytes_from, cost_of, candidates}
use Rattle.clearing.specs.declared.stretch.Run.{Run}

-- what is sought: so many bytes, that end by the disc's end and spare the program
pub record Search : Type 0 where
  pub size : ℕ
  pub disc_end : ℕ
  pub program : DiscRegion

-- there is room for it at x
abbrev pub has_room : Search → ℕ → Bool
has_room s x = nat_le (x + s.size) s.disc_end && are_disjoint (bytes_from x s.size) s.program

-- the sizes of the regions that start before y
unfoldable pub started_size : ℕ → List DiscRegion → ℕ
started_size y rs = total_size (filter (λ r. nat_lt r.offset y) rs)

-- the run behind a region costs the sizes of those behind it that start before the run ends
abbrev pub run_behind : Search → DiscRegion → List DiscRegion → Run
run_behind s r rs = record { offset = end_of r; cost = started_size (end_of r + s.size) rs }

-- the runs behind regions in order, where there is room
unfoldable pub runs_behind : Search → List DiscRegion → List Run
runs_behind s [] = []
runs_behind s (r ∷ rs) =
    if has_room s (end_of r) then run_behind s r rs ∷ runs_behind s rs else runs_behind s rs

-- the candidates on a disc, each with its cost
abbrev pub candidate_runs : Occupancy → ℕ → List Run
candidate_runs o n = map (λ x. record { offset = x; cost = cost_of o n x }) (candidates o n)

-- ---- the two marks

abbrev pub AllStartBefore : ℕ → List DiscRegion → Type 0
AllStartBefore y [] = Unit {0}
AllStartBefore y (r ∷ rs) = (r.offset < y) × AllStartBefore y rs

-- m used regions stand in words, those from i on in order and behind x; those from there up to j
-- start before the run at x ends, and have so many bytes
pub record AreMarks (s : Search) (x : ℕ) (w : List ℕ) (m i j between : ℕ) : Type 0 where
  pub some : 0 < s.size
  pub small : s.disc_end < 2 ^ 32
  pub held : 2 * m ≤ length w
  pub first : i ≤ j
  pub second : j ≤ m
  pub full : AllNonempty (regions_in w i (m - i))
  pub order : is_in_sequence x s.disc_end (regions_in w i (m - i)) ≡ true
  pub sizes : total_size (regions_in w i (j - i)) ≡ between
  pub started : AllStartBefore (x + s.size) (regions_in w i (j - i))
