-- What an answer says of every run, wherever it starts (RULES, A run to clear). Proved in
-- proofs/Laws: `no-run`, `none-tried`, `run-found`, `as-cheap-as-any`, `each-candidate`,
-- `floor-of-all` and `in-the-way`.
-- Assumes nothing: these are definitions.
use Rattle.std.specs.Prelude.{Some, None, Ok, Err}
use Rattle.std.specs.Prelude.{ℕ, ◌+◌, ◌-◌, ◌<◌, ◌≤◌, min, max, ◌≡◌, ◌⊎◌, ◌↔◌, true, false, List, ◌∷◌, length, take, filter, Contains}
use Rattle.std.specs.List.Sorted.{IsStrictlyIncreasing}
use Rattle.endian.specs.Bytes.{AllBytes}
use Rattle.refusal.specs.declared.Refusal.TheVariants.{NotEnoughSpace}
use Rattle.header.specs.Verdicts.{disc_end, table_end}
use Rattle.space.specs.declared.region.DiscRegion.{DiscRegion}
use Rattle.space.specs.Used.{end_of, is_inside, is_used, used_regions, total_size, used_total}
use Rattle.space.specs.Layout.{are_disjoint}
use Rattle.executable.specs.Program.{program_behind}
use Rattle.opened.specs.Opening.{opening, used_in, used_of}
use Rattle.clearing.specs.declared.clear.CheapestRun.{CheapestRun}
use Rattle.clearing.specs.Clearing.{Occupancy, occupancy_of, bytes_from, files_touched, cost_of, candidates, floor_of, clear_answer}

-- a run, byte by byte: it may start anywhere
pub record IsRun (image : List ℕ) (n x : ℕ) : Type 0 where
  pub behind_table : table_end image ≤ x
  pub on_disc : x + n ≤ disc_end image
  pub spares_program : (i : ℕ) → x ≤ i → i < x + n → is_inside (program_behind image) i ≡ false

-- THEOREM: refused for room exactly if no byte is asked for or no start at all gives a run,
-- whatever the budget
abbrev pub NoRun : Type 0
NoRun =
    (image : List ℕ) (words n budget : ℕ) → AllBytes image → opening image words ≡ Ok tt →
    (clear_answer image words n budget ≡ Err NotEnoughSpace)
    ↔ ((n ≡ 0) ⊎ ((x : ℕ) → IsRun image n x → ⊥))

-- THEOREM: none is tried exactly if the budget is 0 and there is a run
abbrev pub NoneTried : Type 0
NoneTried =
    (image : List ℕ) (words n budget : ℕ) → AllBytes image → opening image words ≡ Ok tt →
    (clear_answer image words n budget ≡ Ok None)
    ↔ ((budget ≡ 0) × (0 < n) × ((x : ℕ) × IsRun image n x))

-- THEOREM: with any other budget a run is told exactly if there is one
abbrev pub RunFound : Type 0
RunFound =
    (image : List ℕ) (words n budget : ℕ) → AllBytes image → opening image words ≡ Ok tt →
    ((found : CheapestRun) × (clear_answer image words n budget ≡ Ok (Some found)))
    ↔ ((0 < budget) × (0 < n) × ((x : ℕ) × IsRun image n x))

-- what is told of a run of n bytes, found with this budget
pub record IsCheapestRun (image : List ℕ) (n budget : ℕ) (found : CheapestRun) : Type 0 where
  -- it is a run, and its cost is its own
  pub run : IsRun image n found.offset
  pub own : found.cost ≡ cost_of (occupancy_of image) n found.offset
  -- of those tried the cheapest, and the first of equals
  pub count : found.tried ≡ min budget (length (candidates (occupancy_of image) n))
  pub tried : Contains (take budget (candidates (occupancy_of image) n)) found.offset
  pub cheapest : (x : ℕ) → Contains (take budget (candidates (occupancy_of image) n)) x →
      found.cost ≤ cost_of (occupancy_of image) n x
  pub first : (x : ℕ) → Contains (take budget (candidates (occupancy_of image) n)) x →
      x < found.offset → found.cost < cost_of (occupancy_of image) n x
  -- no run is cheaper by more than the bound
  pub near : (x : ℕ) → IsRun image n x → found.cost ≤ cost_of (occupancy_of image) n x + found.bound
  -- so none is cheaper where all candidates were tried; else it costs so much more than the floor
  pub all : length (candidates (occupancy_of image) n) ≤ budget → found.bound ≡ 0
  pub part : budget < length (candidates (occupancy_of image) n) →
      found.bound + floor_of (occupancy_of image) n ≡ found.cost

-- THEOREM: a run that is told is as cheap as any, wherever that starts, but for the bound
abbrev pub AsCheapAsAny : Type 0
AsCheapAsAny =
    (image : List ℕ) (words n budget : ℕ) (found : CheapestRun) →
    AllBytes image → opening image words ≡ Ok tt →
    clear_answer image words n budget ≡ Ok (Some found) → IsCheapestRun image n budget found

-- THEOREM: the candidates are the runs that start where a used region ends, rising
abbrev pub EachCandidate : Type 0
EachCandidate =
    (image : List ℕ) (n : ℕ) → IsStrictlyIncreasing (candidates (occupancy_of image) n)
    × ((x : ℕ) → Contains (candidates (occupancy_of image) n) x
    ↔ (IsRun image n x × ((r : DiscRegion) × Contains (used_in image) r × (end_of r ≡ x))))

-- n free bytes in a row, from x on
pub record IsFreeRow (image : List ℕ) (n x : ℕ) : Type 0 where
  pub ends : x + n ≤ disc_end image
  pub free : (i : ℕ) → x ≤ i → i < x + n → is_used (used_in image) i ≡ false

-- the floor: 0 where so many free bytes stand in a row; else what is wanted beyond all free bytes
pub record IsFloor (image : List ℕ) (n : ℕ) : Type 0 where
  pub row : (x : ℕ) → IsFreeRow image n x → floor_of (occupancy_of image) n ≡ 0
  pub no_row : ((x : ℕ) → IsFreeRow image n x → ⊥) →
      floor_of (occupancy_of image) n ≡ max (n - (disc_end image - used_of image)) 1
  -- no run costs less, wherever it starts
  pub least : (x : ℕ) → IsRun image n x →
      floor_of (occupancy_of image) n ≤ cost_of (occupancy_of image) n x

-- THEOREM: the floor is that of every size
abbrev pub FloorOfAll : Type 0
FloorOfAll =
    (image : List ℕ) (words n : ℕ) → AllBytes image → opening image words ≡ Ok tt →
    IsFloor image n

-- the files that a run does not touch
abbrev pub files_left : Occupancy → ℕ → ℕ → List DiscRegion
files_left o n x = filter (λ f. are_disjoint (bytes_from x n) f) o.files

-- of a run of n bytes at x
pub record IsInTheWay (image : List ℕ) (n x : ℕ) : Type 0 where
  -- it costs the sizes of the files that it touches
  pub sizes :
      cost_of (occupancy_of image) n x ≡ total_size (files_touched (occupancy_of image) n x)
  -- with the touched files gone all its bytes are free
  pub cleared : (i : ℕ) → x ≤ i → i < x + n →
      is_used (used_regions (table_end image)
      (program_behind image ∷ files_left (occupancy_of image) n x)) i ≡ false
  -- and so many bytes fewer are used as it costs
  pub freed :
      used_total (table_end image)
      (program_behind image ∷ files_left (occupancy_of image) n x)
      + cost_of (occupancy_of image) n x
      ≡ used_of image
  -- and each of them has a byte of it
  pub needed : (f : DiscRegion) → Contains (files_touched (occupancy_of image) n x) f →
      (i : ℕ) × (x ≤ i) × (i < x + n) × (is_inside f i ≡ true)

-- THEOREM: the files that a run costs are those in its way: all of them, and no other
abbrev pub InTheWay : Type 0
InTheWay = (image : List ℕ) (n x : ℕ) → IsRun image n x → IsInTheWay image n x
