-- A file of the first image followed through a list of calls, and that no accepted edit named it. Files are numbered among the files, in the
-- order of the entries: only an inserted file shifts such a number. Assumes nothing: these are definitions.
use Rattle.std.specs.Prelude.{ℕ, ◌≡◌, Bool, true, false, List, [], ◌∷◌, if◌then◌else◌, ◌==◌}
use Rattle.tree.specs.Insert.{number_after_insert}
use Rattle.edit_rules.specs.Edits.{Edit, insert_file, insert_directory, make_directories, move_file, resize_file, fill_file, rewrite, new_number}
use Rattle.ledger.specs.Ledger.{Ledger, files_before, ledger_with, Report}

-- f is the file that an edit moves, resizes or fills: an accepted one names it
abbrev pub is_file_of_edit : Edit → Ledger → ℕ → Bool
is_file_of_edit (insert_file p nm) l f = false
is_file_of_edit (insert_directory p nm) l f = false
is_file_of_edit (make_directories start path) l f = false
is_file_of_edit (move_file k to) l f = f == files_before k l.nodes
is_file_of_edit (resize_file k n) l f = f == files_before k l.nodes
is_file_of_edit (fill_file k clip) l f = f == files_before k l.nodes
is_file_of_edit rewrite l f = false

-- the number that file f has after an accepted edit
abbrev pub number_after_edit : Edit → Ledger → ℕ → ℕ
number_after_edit (insert_file p nm) l f = number_after_insert (files_before (new_number l.nodes p) l.nodes) f
number_after_edit (insert_directory p nm) l f = f
number_after_edit (make_directories start path) l f = f
number_after_edit (move_file k to) l f = f
number_after_edit (resize_file k n) l f = f
number_after_edit (fill_file k clip) l f = f
number_after_edit rewrite l f = f

abbrev pub ledger_next : Report → Ledger → Ledger
ledger_next r l = if r.accepted then ledger_with r.edit l else l

abbrev pub number_next : Report → Ledger → ℕ → ℕ
number_next r l f = if r.accepted then number_after_edit r.edit l f else f

unfoldable pub number_after : List Report → Ledger → ℕ → ℕ
number_after [] l f = f
number_after (r ∷ reports) l f = number_after reports (ledger_next r l) (number_next r l f)

-- no accepted edit of the list names file f
abbrev pub IsSpared : List Report → Ledger → ℕ → Type 0
IsSpared [] l f = Unit {0}
IsSpared (r ∷ reports) l f = (r.accepted ≡ true → is_file_of_edit r.edit l f ≡ false) × IsSpared reports (ledger_next r l) (number_next r l f)
