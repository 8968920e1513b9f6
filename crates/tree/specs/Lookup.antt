-- Entries by number and by path.
use Rattle.std.specs.Prelude.{Result, Ok, Err, if◌then◌else◌, ◌==◌, nat_lt, slice_index_or}
use Rattle.refusal.specs.declared.Refusal.{Refusal}
use Rattle.std.specs.Prelude.{ℕ, zero, suc, ◌-◌, Bool, true, false, ◌&&◌, ◌||◌, List, [], ◌∷◌, ◌++◌, length}
use Rattle.endian.specs.Bytes.{are_same_bytes}
use Rattle.refusal.specs.declared.Refusal.TheVariants.{NoSuchEntry, ExpectedDirectory, NotFound}
use Rattle.tree.specs.declared.Entry.{Entry}
use Rattle.tree.specs.declared.Entry.TheVariants.{File, Directory}
use Rattle.tree.specs.declared.Found.{Found}
use Rattle.tree.specs.declared.Found.TheVariants as found
use Rattle.tree.specs.Units.{TextUnit, single, pair, unit_bytes, units}
use Rattle.tree.specs.Table.{Node, file, directory, name_of, empty_root, parent_of}

-- ---- an entry's value

abbrev pub entry_with : ℕ → Node → Entry
entry_with parent (file nm offset size) = File (record { offset = offset; size = size })
entry_with parent (directory nm next) = Directory (record { parent = parent; next = next })

-- the parent in an answer is the directory that the entry is nested in, never the stored one
abbrev pub entry_of : List Node → ℕ → Entry
entry_of nodes k = entry_with (parent_of nodes k) (slice_index_or nodes k empty_root)

abbrev pub is_directory : Node → Bool
is_directory (file nm offset size) = false
is_directory (directory nm next) = true

abbrev pub next_of : Node → ℕ
next_of (file nm offset size) = 0
next_of (directory nm next) = next

-- ---- a path is cut at `/` and `\`, where they are units of their own

abbrev pub is_separator : ℕ → Bool
is_separator b = b == 0x2F || b == 0x5C

abbrev pub is_separator_unit : TextUnit → Bool
is_separator_unit (single b) = is_separator b
is_separator_unit (pair a b) = false

abbrev pub components_with : TextUnit → List (List ℕ) → List (List ℕ)
components_with u [] = unit_bytes u ∷ []
components_with u (c ∷ cs) = (unit_bytes u ++ c) ∷ cs

-- an empty path has one empty component
unfoldable pub components_of : List TextUnit → List (List ℕ)
components_of [] = [] ∷ []
components_of (u ∷ us) = if is_separator_unit u then [] ∷ components_of us else components_with u (components_of us)

unfoldable pub components : List ℕ → List (List ℕ)
components path = components_of (units path)

-- ---- the first child with the same bytes

abbrev pub is_child_named : List Node → ℕ → List ℕ → ℕ → Bool
is_child_named nodes d nm k = parent_of nodes k == d && are_same_bytes (name_of (slice_index_or nodes k empty_root)) nm

-- among the n entries from k on
unfoldable pub first_child : List Node → ℕ → List ℕ → ℕ → ℕ → Result ℕ Refusal
first_child nodes d nm k zero = Err NotFound
first_child nodes d nm k (suc n) = if is_child_named nodes d nm k then Ok k else first_child nodes d nm (suc k) n

-- the first child of directory d with that name: among the entries after d and before its next
unfoldable pub child_of : List Node → ℕ → List ℕ → Result ℕ Refusal
child_of nodes d nm = first_child nodes d nm (suc d) (next_of (slice_index_or nodes d empty_root) - suc d)

-- ---- a component is looked for in a directory; empty and `.` stay, `..` undoes the last named step

abbrev pub is_staying : List ℕ → Bool
is_staying [] = true
is_staying (a ∷ []) = a == 0x2E
is_staying (a ∷ b ∷ c) = false

abbrev pub is_going_back : List ℕ → Bool
is_going_back [] = false
is_going_back (a ∷ []) = false
is_going_back (a ∷ b ∷ []) = a == 0x2E && b == 0x2E
is_going_back (a ∷ b ∷ c ∷ d) = false

abbrev pub and_then : Result ℕ Refusal → (ℕ → Result ℕ Refusal) → Result ℕ Refusal
and_then (Ok k) f = f k
and_then (Err c) f = Err c

-- the entry before the last named step
abbrev pub step_back : List ℕ → (ℕ → List ℕ → Result ℕ Refusal) → Result ℕ Refusal
step_back [] f = Err NotFound
step_back (k ∷ trail) f = f k trail

-- from entry k along the components; `trail` has the entries that were left by a named step, the last first
unfoldable pub follow : List Node → List ℕ → ℕ → List (List ℕ) → Result ℕ Refusal
follow nodes trail k [] = Ok k
follow nodes trail k (c ∷ cs) =
    if is_directory (slice_index_or nodes k empty_root)
    then (if is_staying c then follow nodes trail k cs
    else if is_going_back c then step_back trail (λ j rest. follow nodes rest j cs)
    else and_then (child_of nodes k c) (λ j. follow nodes (k ∷ trail) j cs))
    else Err ExpectedDirectory

unfoldable pub lookup : List Node → ℕ → List ℕ → Result ℕ Refusal
lookup nodes start path = if nat_lt start (length nodes) then follow nodes [] start (components path) else Err NoSuchEntry

-- ---- the answers with the entry

abbrev pub found_of : List Node → Result ℕ Refusal → Found
found_of nodes (Ok k) = found.At k (entry_of nodes k)
found_of nodes (Err c) = found.Refused c

abbrev pub entry_found : List Node → ℕ → Found
entry_found nodes k = found_of nodes (if nat_lt k (length nodes) then Ok k else Err NoSuchEntry)
