-- What an edit leaves to be zeroed, as a region. Assumes nothing: these are definitions.
use Rattle.std.specs.Prelude.{ℕ, ◌+◌, ◌<◌, ◌≤◌, ◌^◌, List, length, nat_lt, if◌then◌else◌}
use Rattle.space.specs.declared.region.DiscRegion.{DiscRegion}
use Rattle.space.specs.Used.{no_region}
use Rattle.edit.specs.declared.decision.Span.{Span}

-- offset and size 0 where it has no byte
abbrev pub span_region : Span → DiscRegion
span_region s = if nat_lt 0 s.size then record { offset = s.offset; size = s.size } else no_region

-- it ends in the image, where it has a byte
abbrev pub IsInImage : List ℕ → DiscRegion → Type 0
IsInImage image r = 0 < r.size → r.offset + r.size ≤ length image

-- its end has 32 bits, where it has a byte
abbrev pub IsOnDisc : Span → Type 0
IsOnDisc s = 0 < s.size → s.offset + s.size < 2 ^ 32
