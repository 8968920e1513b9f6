-- The answers of the calls on the disc and its space: after opening, 9 where a result list is short; of an allocation 22, then 21.
-- Assumes nothing: these are definitions.
use Rattle.std.specs.Prelude.{Result, Ok, Err}
use Rattle.opened.specs.declared.summary.Summary.{Summary}
use Rattle.disc.specs.declared.answers.DiscTotals.{DiscTotals}
use Rattle.std.specs.Prelude.{ℕ, List}
use Rattle.refusal.specs.declared.Refusal.{Refusal}
use Rattle.header.specs.Verdicts.{disc_end}
use Rattle.space.specs.declared.region.DiscRegion.{DiscRegion}
use Rattle.space.specs.Free.{largest_size}
use Rattle.space.specs.Listing.{region_row, cluster_row, listing_of, list_after}
use Rattle.space.specs.Allocate.{allocation_of}
use Rattle.totals.specs.declared.team.Team.{Team}
use Rattle.totals.specs.declared.Totals.{Totals}
use Rattle.totals.specs.Totals.{new_teams}
use Rattle.executable.specs.Program.{Program, program_of}
use Rattle.opened.specs.Opening.{opening, free_space_of, used_of}
use Rattle.opened.specs.Answers.{answer_behind, summary_of}

-- ---- the answer of `open`

unfoldable pub open_answer : List ℕ → ℕ → Result Summary Refusal
open_answer image words = answer_behind (opening image words) Err (Ok (summary_of image))

-- ---- space

unfoldable pub totals_answer : List ℕ → ℕ → Result DiscTotals Refusal
totals_answer image words =
    answer_behind (opening image words) Err (Ok (record { disc_end = disc_end image; used = used_of image }))

-- an image's own record, with these teams
abbrev pub totals_of : List ℕ → List Team → Totals
totals_of image teams = record { used = used_of image; largest = largest_size (free_space_of image); teams = teams }

-- RULES, The totals record: in a record made of an image no team has taken anything
unfoldable pub record_answer : List ℕ → ℕ → List ℕ → List ℕ → Result Totals Refusal
record_answer image words limits shares = answer_behind (opening image words) Err (Ok (totals_of image (new_teams limits shares)))

-- wherever the program lies
unfoldable pub program_answer : List ℕ → ℕ → Program
program_answer image words = answer_behind (opening image words) Err (program_of image)

-- the free regions in a result list, with the words of each as `row` has them
unfoldable pub free_answer : (DiscRegion → List ℕ) → List ℕ → ℕ → ℕ → Result ℕ Refusal
free_answer row image words room = answer_behind (opening image words) Err (listing_of row (free_space_of image) room)

-- the list afterwards: a refusal leaves it as it is
unfoldable pub free_list : (DiscRegion → List ℕ) → List ℕ → ℕ → List ℕ → List ℕ
free_list row image words list = answer_behind (opening image words) (λ c. list) (list_after row (free_space_of image) list)

abbrev pub free_regions_answer : List ℕ → ℕ → ℕ → Result ℕ Refusal
free_regions_answer image words room = free_answer region_row image words room

abbrev pub free_regions_list : List ℕ → ℕ → List ℕ → List ℕ
free_regions_list image words list = free_list region_row image words list

-- the free regions in clusters
abbrev pub free_clusters_answer : List ℕ → ℕ → ℕ → Result ℕ Refusal
free_clusters_answer image words room = free_answer cluster_row image words room

abbrev pub free_clusters_list : List ℕ → ℕ → List ℕ → List ℕ
free_clusters_list image words list = free_list cluster_row image words list

unfoldable pub allocate_answer : List ℕ → ℕ → ℕ → ℕ → Result DiscRegion Refusal
allocate_answer image words n align = answer_behind (opening image words) Err (allocation_of align n (free_space_of image))
