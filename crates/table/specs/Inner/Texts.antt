-- The texts of a table and the units that a name may have, as the functions look at them. Assumes nothing: these are definitions.
use Rattle.std.specs.Prelude.{ℕ, ◌<◌, ◌≤◌, ◌≡◌, Bool, true, false, ◌&&◌, ◌||◌, List, [], ◌∷◌, length, drop, ◌==◌, slice_index}
use Rattle.tree.specs.Units.{is_lead_byte, TextUnit, single, pair, units}
use Rattle.tree.specs.Table.{is_plain_byte, is_safe_byte, is_dots, first_text}
use Rattle.std.specs.List.{list_all}

-- the text that starts at byte `at` of a table
abbrev pub text_at : List ℕ → ℕ → List ℕ
text_at tab at = first_text (drop at tab)

-- empty, `.` or `..`
abbrev pub is_nameless : List ℕ → Bool
is_nameless [] = true
is_nameless (x ∷ xs) = is_dots (x ∷ xs)

-- a byte that no name is refused for where it is a unit: the end of a text, or plain and safe
abbrev pub is_clean_byte : ℕ → Bool
is_clean_byte b = b == 0 || (is_plain_byte b && is_safe_byte b)

abbrev pub is_clean_unit : TextUnit → Bool
is_clean_unit (single b) = is_clean_byte b
is_clean_unit (pair a b) = true

-- all bytes from `from` on, zero bytes too, cut into units from there
unfoldable pub is_clean_from : List ℕ → ℕ → Bool
is_clean_from tab from = list_all is_clean_unit (units (drop from tab))

-- no lead byte stands from `from` up to `end`
pub record HasNoLead (tab : List ℕ) (from end : ℕ) : Type 0 where
  pub before : from ≤ end
  pub none : (i : ℕ) → from ≤ i → i < end → is_lead_byte (slice_index tab i) ≡ false

-- clean bytes from `from` up to `end`, which is the table's end or a byte that is not clean
abbrev pub CleanTo : List ℕ → ℕ → ℕ → Type 0
CleanTo tab from end = HasNoLead tab from end × (is_clean_from tab from ≡ is_clean_from tab end) × ((end < length tab) → is_clean_byte (slice_index tab end) ≡ false)
