-- The program by its offset, and by bytes that hold its header. Assumes nothing: this is a definition.
use Rattle.std.specs.Prelude.{ℕ, List, max, None, Ok, if◌then◌else◌, ◌==◌, Some}
use Rattle.executable.specs.Dol.{dol_header_of, file_size_of, dol_verdict_of}
use Rattle.executable.specs.Program.{Program}
use Rattle.std.specs.Result.{result_and}

-- its header stands at `at` in the bytes; of a whole image, with its DOL offset twice, this is `program_of`
unfoldable pub program_at : ℕ → List ℕ → ℕ → Program
program_at offset bytes at =
    if offset == 0 then Ok None else result_and (dol_verdict_of bytes at) (Ok (Some (record { offset = offset; size = max (file_size_of (dol_header_of bytes at)) 0xE4 })))
