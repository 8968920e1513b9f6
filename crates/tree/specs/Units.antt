-- The units of a text, by which names are judged and paths are cut: pairs of a lead and a trail byte, and single bytes.
use Rattle.std.specs.Prelude.{ℕ, Bool, ◌&&◌, ◌||◌, List, [], ◌∷◌, if◌then◌else◌, nat_le}

abbrev pub is_within : ℕ → ℕ → ℕ → Bool
is_within low high b = nat_le low b && nat_le b high

abbrev pub is_lead_byte : ℕ → Bool
is_lead_byte b = is_within 0x81 0x9F b || is_within 0xE0 0xFC b

abbrev pub is_trail_byte : ℕ → Bool
is_trail_byte b = is_within 0x40 0x7E b || is_within 0x80 0xFC b

pub data TextUnit : Type 0 where
  single : ℕ → TextUnit
  pair : ℕ → ℕ → TextUnit

abbrev pub unit_bytes : TextUnit → List ℕ
unit_bytes (single b) = b ∷ []
unit_bytes (pair a b) = a ∷ b ∷ []

-- a text cut into units from its start; a lead byte without its trail is a single byte, and the byte after it is looked at afresh
unfoldable pub units : List ℕ → List TextUnit
units [] = []
units (a ∷ []) = single a ∷ []
units (a ∷ b ∷ s) = if is_lead_byte a && is_trail_byte b then pair a b ∷ units s else single a ∷ units (b ∷ s)
