-- The lines of a listing, each ended by a line feed, all numbers in base ten (RULES, The listing). Assumes
-- nothing: these are definitions.
use Rattle.std.specs.Prelude.{ℕ, zero, suc, List, [], ◌∷◌, ◌++◌, if◌then◌else◌, ◌==◌, slice_index_or}
use Rattle.tree.specs.Table.{Node, file, directory, name_of, empty_root, parent_of}
use Rattle.space.specs.declared.region.DiscRegion.{DiscRegion}
use Rattle.listing.specs.Decimal.{number_field}

abbrev pub line_feed : List ℕ
line_feed = 0x0A ∷ []

-- ---- the first line: disc end and used total

abbrev pub totals_line : ℕ → ℕ → List ℕ
totals_line end used =
    (0x74 ∷ 0x6F ∷ 0x74 ∷ 0x61 ∷ 0x6C ∷ []) ++ (number_field end ++ ((0x20 ∷ 0x75 ∷ 0x73 ∷ 0x65 ∷ 0x64 ∷ []) ++ (number_field used ++ line_feed)))

-- ---- a line for each entry

-- a directory's path ends in `/`
abbrev pub ending : Node → List ℕ
ending (file nm offset size) = []
ending (directory nm next) = 0x2F ∷ []

-- the path of entry k: that of the directory it is nested in, and its name; the root's is `/`. It is nested f deep at most
unfoldable pub path_within : ℕ → List Node → ℕ → List ℕ
path_within zero nodes k = 0x2F ∷ []
path_within (suc f) nodes k =
    if k == 0 then 0x2F ∷ [] else path_within f nodes (parent_of nodes k) ++ (name_of (slice_index_or nodes k empty_root) ++ ending (slice_index_or nodes k empty_root))

-- an entry is nested in entries before it
abbrev pub path_of : List Node → ℕ → List ℕ
path_of nodes k = path_within k nodes k

-- `d`, number, the parent it is nested in, next; `f`, number, offset, size
abbrev pub entry_fields : ℕ → ℕ → Node → List ℕ
entry_fields k parent (file nm offset size) = 0x66 ∷ (number_field k ++ (number_field offset ++ number_field size))
entry_fields k parent (directory nm next) = 0x64 ∷ (number_field k ++ (number_field parent ++ number_field next))

unfoldable pub entry_line : List Node → ℕ → List ℕ
entry_line nodes k = entry_fields k (parent_of nodes k) (slice_index_or nodes k empty_root) ++ (0x20 ∷ (path_of nodes k ++ line_feed))

-- the lines of the entries below k
unfoldable pub lines_below : List Node → ℕ → List ℕ
lines_below nodes zero = []
lines_below nodes (suc k) = lines_below nodes k ++ entry_line nodes k

-- ---- a line for each free region: `r`, offset, size

abbrev pub region_line : DiscRegion → List ℕ
region_line r = 0x72 ∷ (number_field r.offset ++ (number_field r.size ++ line_feed))

unfoldable pub lines_of_regions : List DiscRegion → List ℕ
lines_of_regions [] = []
lines_of_regions (r ∷ rs) = region_line r ++ lines_of_regions rs
