-- A pair at a place of a text, as the functions look for one. Assumes nothing: these are definitions.
use Rattle.std.specs.Prelude.{ℕ, suc, Bool, ◌&&◌, List, slice_index}
use Rattle.tree.specs.Units.{is_lead_byte, is_trail_byte}

abbrev pub is_pair_at : List ℕ → ℕ → Bool
is_pair_at s i = is_lead_byte (slice_index s i) && is_trail_byte (slice_index s (suc i))
