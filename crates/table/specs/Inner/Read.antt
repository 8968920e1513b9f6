-- A unit as the functions hold it. Assumes nothing: this is a definition.
use Rattle.tree.specs.Units.{TextUnit, single, pair}
use Rattle.table.specs.declared.units.Unit.{Unit}
use Rattle.table.specs.declared.units.Unit.TheVariants.{Single, Pair}

abbrev pub unit_of : Unit → TextUnit
unit_of (Single b) = single b
unit_of (Pair a b) = pair a b
