-- What an entry is: the number that a table stores for it, and whether it is a directory. Assumes nothing: these are definitions.
use Rattle.std.specs.Prelude.{ℕ, Bool, true, false}
use Rattle.table_writing.specs.declared.kind.Kind.{Kind}
use Rattle.table_writing.specs.declared.kind.Kind.TheVariants.{File, Directory}

abbrev pub kind_number : Kind → ℕ
kind_number File = 0
kind_number Directory = 1

abbrev pub kind_is_directory : Kind → Bool
kind_is_directory File = false
kind_is_directory Directory = true
