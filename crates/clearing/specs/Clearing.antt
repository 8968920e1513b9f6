-- A run: so many bytes in a row for a new file, and what lies in its way (RULES, A run to clear).
-- Assumes nothing: these are definitions.
use Rattle.std.specs.Prelude.{Option, Some, None, Result, Ok, Err}
use Rattle.std.specs.Prelude.{ℕ, suc, ◌+◌, ◌-◌, min, max, Bool, not, ◌&&◌, ◌||◌, if◌then◌else◌, ◌==◌, nat_lt, nat_le}
use Rattle.std.specs.Prelude.{List, [], ◌∷◌, length, map, take, filter}
use Rattle.std.specs.List.{fold, list_any, range_with_len}
use Rattle.refusal.specs.declared.Refusal.{Refusal}
use Rattle.refusal.specs.declared.Refusal.TheVariants.{NotEnoughSpace}
use Rattle.header.specs.Verdicts.{disc_end, table_end}
use Rattle.space.specs.declared.region.DiscRegion.{DiscRegion}
use Rattle.space.specs.Used.{end_of, used_regions, total_size}
use Rattle.space.specs.Layout.{are_disjoint}
use Rattle.space.specs.Free.{free_regions, largest_size}
use Rattle.executable.specs.Program.{program_behind}
use Rattle.opened.specs.Opening.{nodes_in, region_of, opening}
use Rattle.opened.specs.Answers.{answer_behind}
use Rattle.clearing.specs.declared.clear.CheapestRun.{CheapestRun}

-- what the bytes of a disc are taken by
pub record Occupancy : Type 0 where
  pub table_end : ℕ
  pub disc_end : ℕ
  -- the program where it lies behind the table, of size 0 elsewhere
  pub program : DiscRegion
  -- each file's bytes; a directory has none
  pub files : List DiscRegion

abbrev pub occupancy_of : List ℕ → Occupancy
occupancy_of image = record {
  table_end = table_end image;
  disc_end = disc_end image;
  program = program_behind image;
  files = map region_of (nodes_in image);
}

-- RULES, Free space
abbrev pub used_by : Occupancy → List DiscRegion
used_by o = used_regions o.table_end (o.program ∷ o.files)

abbrev pub free_by : Occupancy → List DiscRegion
free_by o = free_regions o.disc_end (used_by o)

-- ---- a run of n bytes at x, and what it costs

abbrev pub bytes_from : ℕ → ℕ → DiscRegion
bytes_from x n = record { offset = x; size = n }

-- it lies between the table's end and the disc's end, and has no byte of the program
abbrev pub is_run : Occupancy → ℕ → ℕ → Bool
is_run o n x =
    nat_le o.table_end x && nat_le (x + n) o.disc_end && are_disjoint (bytes_from x n) o.program

-- the files that have a byte of it
abbrev pub files_touched : Occupancy → ℕ → ℕ → List DiscRegion
files_touched o n x = filter (λ f. not (are_disjoint (bytes_from x n) f)) o.files

-- their sizes, each file whole
unfoldable pub cost_of : Occupancy → ℕ → ℕ → ℕ
cost_of o n x = total_size (files_touched o n x)

-- ---- the candidates

-- some used region ends at x
abbrev pub is_end_of_use : Occupancy → ℕ → Bool
is_end_of_use o x = list_any (λ r. end_of r == x) (used_by o)

-- where the runs start that start at such an end, rising
unfoldable pub candidates : Occupancy → ℕ → List ℕ
candidates o n =
    filter (λ x. is_end_of_use o x && is_run o n x) (range_with_len 0 (suc o.disc_end))

-- ---- the answer

-- of two starts the one whose run costs less, x among equals
abbrev pub cheaper_of : Occupancy → ℕ → ℕ → ℕ → ℕ
cheaper_of o n x y = if nat_lt (cost_of o n y) (cost_of o n x) then y else x

-- what no run costs less than
unfoldable pub floor_of : Occupancy → ℕ → ℕ
floor_of o n =
    if nat_le n (largest_size (free_by o)) then 0 else max (n - total_size (free_by o)) 1

-- how much cheaper than c a run may be that was not tried
abbrev pub bound_of : Occupancy → ℕ → ℕ → ℕ → ℕ
bound_of o n budget c = if nat_le (length (candidates o n)) budget then 0 else c - floor_of o n

-- the answer where the cheapest run tried starts at x
abbrev pub answer_at : Occupancy → ℕ → ℕ → ℕ → CheapestRun
answer_at o n budget x = record {
  tried = min budget (length (candidates o n));
  offset = x;
  cost = cost_of o n x;
  bound = bound_of o n budget (cost_of o n x);
}

-- of those tried: none where none was
abbrev pub cheapest_of : Occupancy → ℕ → ℕ → List ℕ → Option CheapestRun
cheapest_of o n budget [] = None
cheapest_of o n budget (x ∷ xs) = Some (answer_at o n budget (fold (cheaper_of o n) x xs))

-- as many candidates are tried as the budget allows, the first ones
unfoldable pub cheapest_run : Occupancy → ℕ → ℕ → Result (Option CheapestRun) Refusal
cheapest_run o n budget =
    if n == 0 || length (candidates o n) == 0 then Err NotEnoughSpace
    else Ok (cheapest_of o n budget (take budget (candidates o n)))

unfoldable pub clear_answer : List ℕ → ℕ → ℕ → ℕ → Result (Option CheapestRun) Refusal
clear_answer image words n budget =
    answer_behind (opening image words) Err (cheapest_run (occupancy_of image) n budget)
