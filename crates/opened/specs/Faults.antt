-- What a refusal of opening is about (RULES, What a refusal is about), by the tests in their order: header, table, program, used regions.
use Rattle.std.specs.Prelude.{ℕ, zero, suc, not, ◌&&◌, List, [], ◌∷◌, ◌++◌, length, Option, None, Some, unwrap_or, is_err, if◌then◌else◌, nat_lt}
use Rattle.std.specs.List.{position_from}
use Rattle.std.specs.Option.{option_map, option_map_or, option_or}
use Rattle.refusal.specs.Refusal.{first}
use Rattle.header.specs.Verdicts.{header_verdict, bounds_verdict, dol_offset, disc_end, table_end}
use Rattle.tree.specs.Table.{check}
use Rattle.tree.specs.Faults.{refused_entry}
use Rattle.space.specs.declared.region.DiscRegion.{DiscRegion}
use Rattle.space.specs.Used.{end_of}
use Rattle.space.specs.Layout.{are_disjoint}
use Rattle.executable.specs.Program.{program_of}
use Rattle.executable.specs.Sections.{refused_section}
use Rattle.opened.specs.Opening.{table_of, regions_behind_table, opening}
use Rattle.opened.specs.Answers.{answer_behind}
use Rattle.opened.specs.declared.faults.Owner.{Owner}
use Rattle.opened.specs.declared.faults.Owner.TheVariants as owner
use Rattle.opened.specs.declared.faults.About.{About}
use Rattle.opened.specs.declared.faults.About.TheVariants as about
use Rattle.opened.specs.declared.faults.Fault.{Fault}

-- whose regions these are, and the regions, of which those that are not empty are the used ones
abbrev pub owner_at : ℕ → Owner
owner_at zero = owner.Table
owner_at (suc zero) = owner.Program
owner_at (suc (suc k)) = owner.Entry k

abbrev pub owned_regions : List ℕ → List DiscRegion
owned_regions image = record { offset = 0; size = table_end image } ∷ regions_behind_table image

-- region r behind others, where the disc ends at e: it passes the end, or else shares a byte with the first of them that it does with
unfoldable pub conflict_with : ℕ → List DiscRegion → DiscRegion → Option About
conflict_with e before r =
    if nat_lt 0 r.size && nat_lt e (end_of r) then Some (about.PastEnd (owner_at (length before)))
    else option_map (λ j. about.Shared (owner_at j) (owner_at (length before))) (position_from (λ x. not (are_disjoint x r)) 0 before)

-- the first such region of rs, which stand behind others
unfoldable pub first_conflict : ℕ → List DiscRegion → List DiscRegion → Option About
first_conflict e before [] = None
first_conflict e before (r ∷ rs) = option_or (conflict_with e before r) (first_conflict e (before ++ (r ∷ [])) rs)

unfoldable pub about_of : List ℕ → ℕ → About
about_of image words =
    if is_err (first (header_verdict image) (bounds_verdict image)) then about.Image
    else if is_err (check (table_of image) words) then option_map_or about.Entry (refused_entry (table_of image) words) about.Image
    else if is_err (program_of image) then option_map_or about.Section (refused_section image (dol_offset image)) about.Image
    else unwrap_or (first_conflict (disc_end image) [] (owned_regions image)) about.Image

-- none where the image opens
unfoldable pub fault_of : List ℕ → ℕ → Option Fault
fault_of image words = answer_behind (opening image words) (λ c. Some (record { cause = c; about = about_of image words })) None
