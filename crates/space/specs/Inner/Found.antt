-- What an allocation found, as an option.
-- Assumes nothing: these are definitions.
use Rattle.std.specs.Prelude.{Option, Some, None, if◌then◌else◌, ◌==◌}
use Rattle.space.specs.declared.region.DiscRegion.{DiscRegion}

-- a region that was found has a byte, so size 0 means that there is none
abbrev pub rest_or_none : DiscRegion → Option DiscRegion
rest_or_none b = if b.size == 0 then None else Some b
