-- The image behind the parts that were read: the one that is seen, or, of files whose bytes no contract knows, one that has
-- these parts. And what was read of it, part by part. Assumes nothing: these are definitions.
use Rattle.std.specs.Prelude.{Ok, ℕ, ◌+◌, ◌-◌, ◌<◌, ◌≤◌, ◌≡◌, Bool, ◌&&◌, nat_lt, nat_le, if◌then◌else◌, List, length, map, min, take, slice_index}
use Rattle.std.specs.List.{range_with_len}
use Rattle.endian.specs.Bytes.{span}
use Rattle.refusal.specs.Refusal.{first}
use Rattle.header.specs.Verdicts.{header_verdict, fst_offset, fst_size, dol_offset}
use Rattle.header.specs.Inner.Bounds.{bounds_within}
use Rattle.opened.specs.declared.parts.Parts.{Parts}
use Rattle.journal.specs.Disk.{State, Known, NoMore, LeavesOnly}

-- ---- the image

-- the byte that the header or the table has at k, or else the one that was read there
abbrev pub byte_in : List ℕ → List ℕ → ℕ → ℕ → ℕ
byte_in header table k read =
    if nat_lt k (length header) then slice_index header k
    else if nat_le (fst_offset header) k && nat_lt (k - fst_offset header) (length table) then slice_index table (k - fst_offset header)
    else read

-- the byte that the executable's header has at k, where it lies at d; 0 elsewhere
abbrev pub program_byte : ℕ → List ℕ → ℕ → ℕ
program_byte d program k = if nat_le d k then slice_index program (k - d) else 0

-- at each place the byte of the first part that has it
unfoldable pub backing_image : Parts → List ℕ
backing_image parts =
    map (λ k. byte_in parts.header.now parts.table.now k (program_byte (dol_offset parts.header.now) parts.program.now k)) (range_with_len 0 parts.length)

abbrev pub image_behind : Bool → List ℕ → Parts → List ℕ
image_behind known seen parts = if known then seen else backing_image parts

-- ---- its parts, where `seen` is what a read returns

-- the first 0x440 bytes, or all
pub record IsHeader (known : Bool) (seen header : List ℕ) : Type 0 where
  pub long : length header ≡ min (length seen) 0x440
  pub is : Known known (header ≡ take 0x440 seen)

-- the bytes at the table's place: the whole table, where the header passes its tests
pub record IsTable (known : Bool) (seen header table : List ℕ) : Type 0 where
  pub long : first (header_verdict header) (bounds_within header (length seen)) ≡ Ok tt → length table ≡ fst_size header
  pub is : Known known (table ≡ span seen (fst_offset header) (length table))

-- the executable's header, where the image has it: of one image with the header and the table
pub record IsProgram (known : Bool) (seen header table program : List ℕ) : Type 0 where
  pub long : dol_offset header + 0xE4 ≤ length seen → length program ≡ 0xE4
  pub is : Known known (dol_offset header + 0xE4 ≤ length seen → program ≡ span seen (dol_offset header) 0xE4)
  pub held : (i : ℕ) → i < length program → slice_index program i ≡ byte_in header table (dol_offset header + i) (slice_index program i)

-- ---- reads

-- reads one after the other: nothing is changed, and a crash at any moment leaves what one at the start might have left
pub record IsRead (old new : State) : Type 0 where
  pub seen : new.seen ≡ old.seen
  pub clip : new.clip ≡ old.clip
  pub no_more : NoMore old.may_leave new.may_leave
  pub any_moment : LeavesOnly old new old.may_leave
