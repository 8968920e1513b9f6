-- How often a file in memory has failed. Assumes nothing: this is a definition.
use Rattle.std.specs.Prelude.{ℕ, Bool, if◌then◌else◌}

-- once at most
abbrev pub faults : Bool → ℕ
faults failed = if failed then 1 else 0
