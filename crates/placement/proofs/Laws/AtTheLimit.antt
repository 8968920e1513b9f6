-- Worked by computing: the least disc end, one byte less, and where the files lie. Assumes nothing.
use Rattle.std.specs.Prelude.{◌+◌, ◌-◌, ◌*◌, ◌^◌, ◌≡◌, refl, true, false, [], ◌∷◌}
use Rattle.space.specs.Align.{align_up}
use Rattle.placement.specs.Placement.{whole_total, largest_rest, are_all_empty, least_end, is_placeable, offsets_in_order, offsets_with_last, last_file, offsets_of}

-- sizes 1 and 0x8000 behind a table that ends in the first cluster: the least disc end is 0x10001, and the first file lies last
pub two-files : (is_placeable 0x464 0x10001 (1 ∷ 0x8000 ∷ []) ≡ true) × (is_placeable 0x464 0x10000 (1 ∷ 0x8000 ∷ []) ≡ false) × (offsets_of 0x464 (1 ∷ 0x8000 ∷ []) ≡ 0x10000 ∷ 0x8000 ∷ [])
unfolding is_placeable least_end are_all_empty whole_total largest_rest offsets_of last_file offsets_with_last offsets_in_order align_up
two-files = (refl, refl, refl)

-- no file, or none with a byte: the table's end
pub no-file : (is_placeable 0x44C 0x44C [] ≡ true) × (is_placeable 0x44C 0x44B [] ≡ false) × (is_placeable 0x464 0x464 (0 ∷ 0 ∷ []) ≡ true) × (is_placeable 0x464 0x463 (0 ∷ 0 ∷ []) ≡ false) × (offsets_of 0x464 (0 ∷ 0 ∷ []) ≡ 0 ∷ 0 ∷ [])
unfolding is_placeable least_end are_all_empty whole_total largest_rest offsets_of last_file offsets_with_last offsets_in_order align_up
no-file = (refl, refl, refl, refl, refl)

-- a table that ends with the first cluster, and one that passes it by a byte
pub table-ends : (offsets_of 0x8000 (1 ∷ []) ≡ 0x8000 ∷ []) × (least_end 0x8000 (1 ∷ []) ≡ 0x8001) × (offsets_of 0x8001 (1 ∷ []) ≡ 0x10000 ∷ []) × (least_end 0x8001 (1 ∷ []) ≡ 0x10001)
unfolding least_end are_all_empty whole_total largest_rest offsets_of last_file offsets_with_last offsets_in_order align_up
table-ends = (refl, refl, refl, refl)

-- empty files between others; of equal rests the first lies last
pub mixed : (offsets_of 0x464 (0 ∷ 0x8001 ∷ 0 ∷ 5 ∷ []) ≡ 0 ∷ 0x10000 ∷ 0 ∷ 0x8000 ∷ []) × (least_end 0x464 (0 ∷ 0x8001 ∷ 0 ∷ 5 ∷ []) ≡ 0x18001) × (offsets_of 0x464 (1 ∷ 1 ∷ []) ≡ 0x10000 ∷ 0x8000 ∷ [])
unfolding least_end are_all_empty whole_total largest_rest offsets_of last_file offsets_with_last offsets_in_order align_up
mixed = (refl, refl, refl)

-- two files of 2^32 - 1 bytes: sums do not wrap
pub large : least_end 0x464 ((2 ^ 32 - 1) ∷ (2 ^ 32 - 1) ∷ []) ≡ 0x8000 + 2 * 2 ^ 32 - 1
unfolding least_end are_all_empty whole_total largest_rest align_up
large = refl
