-- The program, before the table or behind it (RULES, The program).
use Rattle.refusal.specs.declared.Refusal.{Refusal}
use Rattle.refusal.specs.Refusal.{Verdict}
use Rattle.std.specs.Prelude.{ℕ, ◌+◌, max, Bool, ◌&&◌, List, Option, None, Some, Result, Ok, Err, unwrap_or, if◌then◌else◌, ◌==◌, nat_le}
use Rattle.std.specs.Result.{result_and}
use Rattle.header.specs.Verdicts.{dol_offset, fst_offset}
use Rattle.space.specs.declared.region.DiscRegion.{DiscRegion}
use Rattle.space.specs.Used.{no_region}
use Rattle.executable.specs.Dol.{dol_header_of, file_size_of, dol_verdict_of}

-- the region of a program, none where there is no program, or the cause for which its header is refused
abbrev pub Program : Type 0
Program = Result (Option DiscRegion) Refusal

-- from there on, as long as the executable's file, and at least its header
abbrev pub program_from : List ℕ → ℕ → DiscRegion
program_from image at = record { offset = at; size = max (file_size_of (dol_header_of image at)) 0xE4 }

-- none where the DOL offset is 0; the header may be refused, 24
unfoldable pub program_of : List ℕ → Program
program_of image = if dol_offset image == 0 then Ok None else result_and (dol_verdict_of image (dol_offset image)) (Ok (Some (program_from image (dol_offset image))))

abbrev pub program_verdict : Program → Verdict
program_verdict p = result_and p (Ok tt)

-- ---- where it lies

abbrev pub place_of : Program → DiscRegion
place_of (Ok region) = unwrap_or region no_region
place_of (Err c) = no_region

unfoldable pub program_in : List ℕ → DiscRegion
program_in image = place_of (program_of image)

-- wholly between the header and the table: among the used bytes from 0 up to the table's end
abbrev pub is_before_table : ℕ → DiscRegion → Bool
is_before_table fst r = nat_le 0x440 r.offset && nat_le (r.offset + r.size) fst

-- wherever else it lies, a used region of its own: one that begins before the table's end overlaps the bytes before it
unfoldable pub own_region : ℕ → DiscRegion → DiscRegion
own_region fst r = if is_before_table fst r then no_region else r

abbrev pub program_behind : List ℕ → DiscRegion
program_behind image = own_region (fst_offset image) (program_in image)
