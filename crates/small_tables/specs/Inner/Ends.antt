-- Where an entry ends. Assumes nothing: these are definitions.
use Rattle.std.specs.Prelude.{ℕ}
use Rattle.small_tables.specs.declared.shape.Entry.{Entry}
use Rattle.small_tables.specs.declared.shape.Entry.TheVariants.{File, Directory}

-- the entry after all those in a directory, 0 of a file
abbrev pub next_in : Entry → ℕ
next_in File = 0
next_in (Directory next) = next
