-- A field by its number, and what its test asks of its place. Assumes nothing: these are definitions.
use Rattle.std.specs.Prelude.{ℕ, ◌+◌, ◌≤◌, ◌≡◌, List, slice_index_or}
use Rattle.header.specs.declared.fields.Field.{Field}
use Rattle.header.specs.Fields.{place, fields, wii_magic_field, gcn_magic_field}

-- the field with number k, counted from 0
abbrev pub nth : List Field → ℕ → Field
nth fs k = slice_index_or fs k (place 0 0)

abbrev pub field_at : ℕ → Field
field_at k = nth fields k

-- what the tests of a field ask of its place: inside the header, and a magic has 4 bytes
pub record IsJudged (f : Field) : Type 0 where
  pub inside : f.at + f.len ≤ 0x440
  pub wii : f.at ≡ wii_magic_field.at → f.len ≡ 4
  pub gcn : f.at ≡ gcn_magic_field.at → f.len ≡ 4
