-- The answers of the calls on a text alone, with no image (RULES, Names; Lookup): its first unit, and the first component
-- of a path. A name is judged by `units_verdict` of the table. Assumes nothing: these are definitions.
use Rattle.std.specs.Prelude.{Ok, ℕ, not, List, [], ◌∷◌, length, slice_index_or}
use Rattle.refusal.specs.declared.Refusal.TheVariants.{InvalidNameByte, UnsafeName}
use Rattle.refusal.specs.Refusal.{Verdict, refuse}
use Rattle.tree.specs.Units.{TextUnit, unit_bytes, units}
use Rattle.tree.specs.Table.{is_plain_unit, is_safe_unit}
use Rattle.tree.specs.Lookup.{components}
use Rattle.disc.specs.declared.answers.FirstUnit.{FirstUnit}

-- what a unit is refused for in a name
abbrev pub unit_judged : TextUnit → Verdict
unit_judged u = refuse (not (is_plain_unit u)) InvalidNameByte (refuse (not (is_safe_unit u)) UnsafeName (Ok tt))

-- how many bytes it has, and that
abbrev pub unit_told : TextUnit → FirstUnit
unit_told u = record { len = length (unit_bytes u); verdict = unit_judged u }

-- an empty text has no unit, and nothing in it is refused
abbrev pub first_told : List TextUnit → FirstUnit
first_told [] = record { len = 0; verdict = Ok tt }
first_told (u ∷ us) = unit_told u

unfoldable pub first_unit : List ℕ → FirstUnit
first_unit text = first_told (units text)

-- up to the first separator that is a unit of its own, or to the end
unfoldable pub component_length : List ℕ → ℕ
component_length path = length (slice_index_or (components path) 0 [])
