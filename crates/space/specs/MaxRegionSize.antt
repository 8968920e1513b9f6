-- `max_region_size`: what unplug answers for n bytes at o, by the free regions. For a file's own place, and for a place of
-- no bytes, it is the largest size that it can grow to in free bytes (Laws/GrowthLaws).
use Rattle.std.specs.Prelude.{ℕ, ◌+◌, ◌-◌, List, [], ◌∷◌, if◌then◌else◌, ◌==◌, nat_lt}
use Rattle.space.specs.declared.region.DiscRegion.{DiscRegion}
use Rattle.space.specs.Used.{end_of}

-- inside the free region that ends at prev_end and starts before o: up to its end
abbrev pub size_inside_free : ℕ → ℕ → ℕ → ℕ → ℕ
size_inside_free o n prev_end other = if nat_lt (o + n) prev_end then prev_end - o else other

-- r is the first free region that starts at o or later: at o it is r's size, and right behind the region r's size is added
unfoldable pub size_beside_free : ℕ → ℕ → ℕ → DiscRegion → ℕ
size_beside_free o n prev_end r = if r.offset == o then r.size else size_inside_free o n prev_end (if r.offset == (o + n) then n + r.size else n)

-- the search, over free regions that rise; prev_end is the end of the last one before o, 0 where there is none
unfoldable pub max_size_from : ℕ → ℕ → ℕ → List DiscRegion → ℕ
max_size_from o n prev_end [] = size_inside_free o n prev_end n
max_size_from o n prev_end (r ∷ rs) = if nat_lt r.offset o then max_size_from o n (end_of r) rs else size_beside_free o n prev_end r

abbrev pub max_region_size : ℕ → ℕ → List DiscRegion → ℕ
max_region_size o n rs = max_size_from o n 0 rs
