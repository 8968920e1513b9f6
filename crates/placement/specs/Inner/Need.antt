-- What one pass over the sizes of the files finds. Assumes nothing: these are definitions.
use Rattle.std.specs.Prelude.{ℕ, ◌≡◌, List}
use Rattle.placement.specs.declared.need.Need.{Need}
use Rattle.placement.specs.Placement.{whole_total, largest_rest, last_file}

-- this is what a pass over these sizes finds
pub record IsNeedOf (sizes : List ℕ) (need : Need) : Type 0 where
  pub whole : need.whole ≡ whole_total sizes
  pub rest : need.rest ≡ largest_rest sizes
  pub last : need.last ≡ last_file sizes
