-- Free regions in a result list, some words for each. Nothing is written to a list that is too short.
use Rattle.refusal.specs.declared.Refusal.{Refusal}
use Rattle.std.specs.Prelude.{ℕ, List, [], ◌∷◌, length, Result, Ok, Err, if◌then◌else◌, nat_lt}
use Rattle.refusal.specs.declared.Refusal.TheVariants.{LimitOrMemory}
use Rattle.std.specs.List.{flat_map}
use Rattle.endian.specs.Bytes.{put}
use Rattle.space.specs.declared.region.DiscRegion.{DiscRegion}
use Rattle.space.specs.Clusters.{bytes_before, whole_clusters, exact_rest}

-- a region's offset and size
abbrev pub region_row : DiscRegion → List ℕ
region_row r = r.offset ∷ r.size ∷ []

-- a region in clusters
abbrev pub cluster_row : DiscRegion → List ℕ
cluster_row r = bytes_before r ∷ whole_clusters r ∷ exact_rest r ∷ []

-- the words of each region, one after the other
unfoldable pub rows_of : (DiscRegion → List ℕ) → List DiscRegion → List ℕ
rows_of row rs = flat_map row rs

-- how many regions are listed, in a list of n words
abbrev pub listing_of : (DiscRegion → List ℕ) → List DiscRegion → ℕ → Result ℕ Refusal
listing_of row rs n = if nat_lt n (length (rows_of row rs)) then Err LimitOrMemory else Ok (length rs)

-- the result list afterwards
abbrev pub list_after : (DiscRegion → List ℕ) → List DiscRegion → List ℕ → List ℕ
list_after row rs list = if nat_lt (length list) (length (rows_of row rs)) then list else put list 0 (rows_of row rs)
