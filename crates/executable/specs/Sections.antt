-- Which section an executable's header is refused for (RULES, What a refusal is about).
use Rattle.std.specs.Prelude.{ℕ, ◌+◌, ◌-◌, ◌^◌, Bool, List, ◌++◌, length, Option, None, if◌then◌else◌, nat_lt}
use Rattle.std.specs.List.{position_from, zip}
use Rattle.executable.specs.declared.dol.DolHeader.{DolHeader}
use Rattle.executable.specs.Dol.{dol_header_of}

-- the offset and size of each section: 7 of text and then 11 of data
abbrev pub sections_of : DolHeader → List (ℕ × ℕ)
sections_of h = zip (h.text_offsets ++ h.data_offsets) (h.text_sizes ++ h.data_sizes)

-- a sum above 2^32 - 1
abbrev pub is_above : ℕ × ℕ → Bool
is_above section = nat_lt (2 ^ 32 - 1) (section.0 + section.1)

-- the first that ends above 2^32 - 1, of the header at `at`; none where the header passes the image
unfoldable pub refused_section : List ℕ → ℕ → Option ℕ
refused_section s at = if nat_lt (length s) (at + 0xE4) then None else position_from is_above 0 (sections_of (dol_header_of s at))
