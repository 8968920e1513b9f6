-- What a line of a sheet comes to on a tree: an edit of a list of edits, or a refusal by its path
-- (RULES, The edit sheet). Assumes nothing: these are definitions.
use Rattle.std.specs.Prelude.{Result, Ok, Err, if◌then◌else◌, ◌==◌, nat_lt}
use Rattle.std.specs.Prelude.{ℕ, ◌-◌, Bool, List, [], ◌∷◌, length, take}
use Rattle.std.specs.List.{list_any}
use Rattle.refusal.specs.declared.Refusal.{Refusal}
use Rattle.refusal.specs.declared.Refusal.TheVariants.{LimitOrMemory}
use Rattle.tree.specs.Table.{Node}
use Rattle.tree.specs.Lookup.{lookup}
use Rattle.edit_rules.specs.Edits.{Edit, insert_file, insert_directory, move_file, resize_file}
use Rattle.sheet.specs.Layout.{Line, make_directory, make_file, move, resize, path_of}

-- ---- the path of a new entry is cut at its last `/`

abbrev pub is_slash : ℕ → Bool
is_slash b = b == 0x2F

-- the name, which is behind it; the whole path where there is none
unfoldable pub name_in : List ℕ → List ℕ
name_in [] = []
name_in (b ∷ path) = if list_any is_slash (b ∷ path) then name_in path else b ∷ path

-- the parent's path, which is before it; where there is none it is empty, as the root's is
abbrev pub parent_path : List ℕ → List ℕ
parent_path path = take (length path - length (name_in path) - 1) path

-- ---- the edit

abbrev pub edit_on : Result ℕ Refusal → (ℕ → Edit) → Result Edit Refusal
edit_on (Ok k) f = Ok (f k)
edit_on (Err c) f = Err c

-- paths lead from the root, as in a lookup
abbrev pub edit_by_path : List Node → Line → Result Edit Refusal
edit_by_path nodes (make_directory path) =
    edit_on (lookup nodes 0 (parent_path path)) (λ p. insert_directory p (name_in path))
edit_by_path nodes (make_file path) =
    edit_on (lookup nodes 0 (parent_path path)) (λ p. insert_file p (name_in path))
edit_by_path nodes (move path offset) = edit_on (lookup nodes 0 path) (λ k. move_file k offset)
edit_by_path nodes (resize path size) = edit_on (lookup nodes 0 path) (λ k. resize_file k size)

-- 9 for a path over 1,024 bytes, whatever it leads to
unfoldable pub line_edit : List Node → Line → Result Edit Refusal
line_edit nodes line =
    if nat_lt 1024 (length (path_of line)) then Err LimitOrMemory else edit_by_path nodes line
