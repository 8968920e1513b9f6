-- What is known of the bytes of an accepted table that is held as a value. Assumes nothing: this is a definition.
use Rattle.std.specs.Prelude.{ℕ, List}
use Rattle.endian.specs.Bytes.{AllBytes}
use Rattle.tree.specs.Table.{count}
use Rattle.table.specs.Inner.Reading.{IsInside, Opens}

-- it is accepted, so that its entries stand in it
pub record IsTable (tab : List ℕ) : Type 0 where
  pub bytes : AllBytes tab
  pub opens : Opens tab
  pub inside : IsInside tab (count tab)
