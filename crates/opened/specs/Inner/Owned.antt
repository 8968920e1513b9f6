-- The regions that the used ones are of, by a table, where it ends, and the program's own region. Assumes nothing: these are definitions.
use Rattle.std.specs.Prelude.{ℕ, not, List, ◌∷◌, map, take, Option, slice_index_or}
use Rattle.std.specs.List.{position_from}
use Rattle.tree.specs.Table.{nodes_of}
use Rattle.space.specs.declared.region.DiscRegion.{DiscRegion}
use Rattle.space.specs.Used.{no_region}
use Rattle.space.specs.Layout.{are_disjoint}
use Rattle.opened.specs.Opening.{region_of}
use Rattle.opened.specs.declared.conflicts.Layout.{Layout}

unfoldable pub owned_in : List ℕ → ℕ → DiscRegion → List DiscRegion
owned_in tab t own = record { offset = 0; size = t } ∷ own ∷ map region_of (nodes_of tab)

abbrev pub layout_regions : Layout → List DiscRegion
layout_regions l = owned_in l.table l.table_end l.own

-- region i, and those before it
abbrev pub region_numbered : Layout → ℕ → DiscRegion
region_numbered l i = slice_index_or (layout_regions l) i no_region

abbrev pub regions_before : Layout → ℕ → List DiscRegion
regions_before l i = take i (layout_regions l)

-- the first of those before region i that shares a byte with it
abbrev pub shared_with : Layout → ℕ → Option ℕ
shared_with l i = position_from (λ x. not (are_disjoint x (region_numbered l i))) 0 (regions_before l i)
