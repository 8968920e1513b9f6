-- Where the files of a new master lie (RULES, A new master): the file whose last cluster has the largest unused rest lies last, the
-- others from the first cluster behind the table on, in list order, each in clusters of its own; an empty file has offset 0. (Of
-- equal rests the first file is taken.) Assumes nothing: these are definitions.
use Rattle.std.specs.Prelude.{ℕ, zero, suc, ◌+◌, ◌-◌, max, Bool, List, [], ◌∷◌, if◌then◌else◌, ◌==◌, nat_le}
use Rattle.std.specs.List.{list_all}
use Rattle.space.specs.Align.{align_up}

-- a size rounded up to whole clusters, and what of the last one is not used
abbrev pub whole_size : ℕ → ℕ
whole_size size = align_up 0x8000 size

abbrev pub unused_rest : ℕ → ℕ
unused_rest size = whole_size size - size

unfoldable pub whole_total : List ℕ → ℕ
whole_total [] = 0
whole_total (size ∷ sizes) = whole_size size + whole_total sizes

unfoldable pub largest_rest : List ℕ → ℕ
largest_rest [] = 0
largest_rest (size ∷ sizes) = max (unused_rest size) (largest_rest sizes)

unfoldable pub are_all_empty : List ℕ → Bool
are_all_empty sizes = list_all (λ size. size == 0) sizes

-- the least disc end: where no file has a byte, the end t of the table
unfoldable pub least_end : ℕ → List ℕ → ℕ
least_end t sizes = if are_all_empty sizes then t else whole_size t + whole_total sizes - largest_rest sizes

-- table and files are placed below the disc end
unfoldable pub is_placeable : ℕ → ℕ → List ℕ → Bool
is_placeable t end sizes = nat_le (least_end t sizes) end

-- ---- the placement

-- p, and of an empty file 0
abbrev pub offset_at : ℕ → ℕ → ℕ
offset_at p size = if size == 0 then 0 else p

-- from p on, in list order
unfoldable pub offsets_in_order : ℕ → List ℕ → List ℕ
offsets_in_order p [] = []
offsets_in_order p (size ∷ sizes) = offset_at p size ∷ offsets_in_order (p + whole_size size) sizes

-- the same, but file k lies behind all others
unfoldable pub offsets_with_last : ℕ → ℕ → List ℕ → List ℕ
offsets_with_last k p [] = []
offsets_with_last zero p (size ∷ sizes) = offset_at (p + whole_total sizes) size ∷ offsets_in_order p sizes
offsets_with_last (suc k) p (size ∷ sizes) = offset_at p size ∷ offsets_with_last k (p + whole_size size) sizes

-- the first file with the largest unused rest
unfoldable pub last_file : List ℕ → ℕ
last_file [] = 0
last_file (size ∷ sizes) = if nat_le (largest_rest sizes) (unused_rest size) then 0 else suc (last_file sizes)

-- the offset of each file behind a table that ends at t
unfoldable pub offsets_of : ℕ → List ℕ → List ℕ
offsets_of t sizes = offsets_with_last (last_file sizes) (whole_size t) sizes
