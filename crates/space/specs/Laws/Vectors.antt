-- The small master: its used total and free regions, P1 to P3, P5; and the cases in which a search or a count
-- goes wrong most easily. Assumes nothing.
use Rattle.std.specs.Prelude.{ℕ, ◌≡◌, refl, List, [], ◌∷◌, Ok, Err}
use Rattle.space.specs.declared.region.DiscRegion.{DiscRegion}
use Rattle.refusal.specs.declared.Refusal.TheVariants.{OverlappingRegions, NotEnoughSpace, InvalidAlignment}
use Rattle.space.specs.Used.{is_used, nonempty_regions, used_regions, total_size, used_total}
use Rattle.space.specs.Layout.{are_disjoint, is_disjoint_from_all, are_pairwise_disjoint, are_below, are_disjoint_below, regions_verdict}
use Rattle.space.specs.Free.{runs, free_regions}
use Rattle.space.specs.Clusters.{bytes_before, whole_clusters, exact_rest}
use Rattle.endian.specs.Bytes.{put}
use Rattle.space.specs.MaxRegionSize.{size_beside_free, max_size_from, max_region_size}
use Rattle.space.specs.Align.{align_up}
use Rattle.space.specs.Allocate.{better_of, largest_rest, is_power_among, allocation_of}
use Rattle.space.specs.Listing.{region_row, cluster_row, rows_of, list_after}

abbrev at : ℕ → ℕ → DiscRegion
at o n = record { offset = o; size = n }

-- the table ends at 0x45A; the root has no bytes, and `a` has 0x100 at 0x500
abbrev files : List DiscRegion
files = at 0 0 ∷ at 0x500 0x100 ∷ []

abbrev master : List DiscRegion
master = used_regions 0x45A files

passed : regions_verdict 0x2000 master ≡ Ok tt
unfolding are_disjoint_below are_pairwise_disjoint is_disjoint_from_all are_disjoint are_below nonempty_regions
passed = refl

total : used_total 0x45A files ≡ 1370
unfolding total_size
total = refl

free : free_regions 0x2000 master ≡ at 1114 166 ∷ at 1536 6656 ∷ []
unfolding free_regions runs is_used nonempty_regions
free = refl

list_written : list_after region_row (free_regions 0x2000 master) (1 ∷ 2 ∷ 3 ∷ 4 ∷ 5 ∷ []) ≡ 1114 ∷ 166 ∷ 1536 ∷ 6656 ∷ 5 ∷ []
unfolding rows_of put
list_written = rw free

short : list_after region_row (free_regions 0x2000 master) (1 ∷ 2 ∷ 3 ∷ []) ≡ 1 ∷ 2 ∷ 3 ∷ []
unfolding rows_of
short = rw free

-- ---- clusters: before, clusters, rest

in-clusters : rows_of cluster_row (free_regions 0x2000 master) ≡ 166 ∷ 0 ∷ 0 ∷ 6656 ∷ 0 ∷ 0 ∷ []
unfolding rows_of bytes_before whole_clusters exact_rest align_up
in-clusters = rw free

begins-on-a-multiple : cluster_row (at 0x8000 0x9000) ≡ 0 ∷ 1 ∷ 0x1000 ∷ []
unfolding bytes_before whole_clusters exact_rest align_up
begins-on-a-multiple = refl

ends-on-a-multiple : cluster_row (at 0x7F00 0x10100) ≡ 0x100 ∷ 2 ∷ 0 ∷ []
unfolding bytes_before whole_clusters exact_rest align_up
ends-on-a-multiple = refl

one-cluster : cluster_row (at 0x10000 0x8000) ≡ 0 ∷ 1 ∷ 0 ∷ []
unfolding bytes_before whole_clusters exact_rest align_up
one-cluster = refl

-- its first multiple is exactly its end, and one byte behind it
multiple-at-its-end : cluster_row (at 0x7F00 0x100) ≡ 0x100 ∷ 0 ∷ 0 ∷ []
unfolding bytes_before whole_clusters exact_rest align_up
multiple-at-its-end = refl

byte-behind-the-multiple : cluster_row (at 0x7F00 0x101) ≡ 0x100 ∷ 0 ∷ 1 ∷ []
unfolding bytes_before whole_clusters exact_rest align_up
byte-behind-the-multiple = refl

-- one byte short of a cluster, at both ends
byte-short : cluster_row (at 0x8000 0x7FFF) ≡ 0 ∷ 0 ∷ 0x7FFF ∷ []
unfolding bytes_before whole_clusters exact_rest align_up
byte-short = refl

byte-late : cluster_row (at 0x8001 0xFFFE) ≡ 0x7FFF ∷ 0 ∷ 0x7FFF ∷ []
unfolding bytes_before whole_clusters exact_rest align_up
byte-late = refl

-- ---- max_region_size

P1 : max_region_size 0x500 0x100 (free_regions 0x2000 master) ≡ 0x1B00
unfolding max_size_from size_beside_free
P1 = rw free

-- at the start of a free region it is the region's size, even if more is asked
at-the-start : max_region_size 1114 1000 (free_regions 0x2000 master) ≡ 166
unfolding max_size_from size_beside_free
at-the-start = rw free

-- inside a free region up to its end; one that ends right there, and one that starts in used bytes, stays as it is
inside_one : max_region_size 1200 10 (free_regions 0x2000 master) ≡ 80
unfolding max_size_from size_beside_free
inside_one = rw free

up-to-its-end : max_region_size 1200 80 (free_regions 0x2000 master) ≡ 80
unfolding max_size_from size_beside_free
up-to-its-end = rw free

over-a-start : max_region_size 1100 20 (free_regions 0x2000 master) ≡ 20
unfolding max_size_from size_beside_free
over-a-start = rw free

-- the table of 0x1A bytes at 0x440
table-grows : max_region_size 0x440 0x1A (free_regions 0x2000 master) ≡ 192
unfolding max_size_from size_beside_free
table-grows = rw free

-- ---- allocation

P2 : allocation_of 0x100 0x100 (free_regions 0x2000 master) ≡ Ok (at 0x600 0x1A00)
unfolding allocation_of is_power_among largest_rest better_of align_up
P2 = rw free

P3 : allocation_of 1 0x1A01 (free_regions 0x2000 master) ≡ Err NotEnoughSpace
unfolding allocation_of is_power_among largest_rest better_of align_up
P3 = rw free

last-of-equals : allocation_of 0x100 0x10 (at 0x100 0x20 ∷ at 0x200 0x40 ∷ at 0x300 0x40 ∷ []) ≡ Ok (at 0x300 0x40)
unfolding allocation_of is_power_among largest_rest better_of align_up
last-of-equals = refl

-- nothing is asked for, and still a free multiple is wanted
nothing-asked : allocation_of 0x100 0 (at 0x101 0xFF ∷ []) ≡ Err NotEnoughSpace
unfolding allocation_of is_power_among largest_rest better_of align_up
nothing-asked = refl

no_power : allocation_of 0x300 1 (at 0 0x1000 ∷ []) ≡ Err InvalidAlignment
unfolding allocation_of is_power_among
no_power = refl

zero-alignment : allocation_of 0 1 (at 0 0x1000 ∷ []) ≡ Err InvalidAlignment
unfolding allocation_of is_power_among
zero-alignment = refl

-- ---- 14

-- P5: `a` moved to 0x600
moved : free_regions 0x2000 (used_regions 0x45A (at 0 0 ∷ at 0x600 0x100 ∷ [])) ≡ at 0x45A 0x1A6 ∷ at 0x700 0x1900 ∷ []
unfolding free_regions runs is_used nonempty_regions
moved = refl

-- not between neighbours of the table's order only: the first and the third share a byte
third-overlaps : regions_verdict 0x2000 (used_regions 0x45A (at 0x500 0x100 ∷ at 0x800 1 ∷ at 0x5FF 1 ∷ [])) ≡ Err OverlappingRegions
unfolding are_disjoint_below are_pairwise_disjoint is_disjoint_from_all are_disjoint are_below nonempty_regions
third-overlaps = refl

past_the_end : regions_verdict 0x2000 (used_regions 0x45A (at 0x1FFF 2 ∷ [])) ≡ Err OverlappingRegions
unfolding are_disjoint_below are_pairwise_disjoint is_disjoint_from_all are_disjoint are_below nonempty_regions
past_the_end = refl

-- an empty file may lie anywhere
empty-anywhere : regions_verdict 0x2000 (used_regions 0x45A (at 3 0 ∷ at 0xFFFFFFFF 0 ∷ [])) ≡ Ok tt
unfolding are_disjoint_below are_pairwise_disjoint is_disjoint_from_all are_disjoint are_below nonempty_regions
empty-anywhere = refl
