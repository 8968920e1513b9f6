-- The size of the table of some paths. Assumes nothing: this is a definition.
use Rattle.std.specs.Prelude.{ℕ, suc, ◌≡◌, true, List, []}
use Rattle.new_table.specs.declared.size.Size.{Size}
use Rattle.new_table.specs.Inner.Steps.{entries_behind, texts_behind, is_small}

-- within the limits
pub record IsSizeOf (size : Size) (paths : List (List ℕ)) : Type 0 where
  pub small : is_small paths ≡ true
  pub entries : size.entries ≡ suc (entries_behind [] paths)
  pub texts : size.texts ≡ texts_behind [] paths
