-- What a list of reports tells of one file: whether an accepted edit named it, and the sizes and clips that accepted edits gave it. The file is
-- followed by its number among the files, as in Spared. Assumes nothing: these are definitions.
use Rattle.std.specs.Prelude.{ℕ, min, ◌≡◌, Bool, true, false, ◌&&◌, ◌||◌, List, [], ◌∷◌, ◌++◌, length, if◌then◌else◌, ◌==◌, slice_index_or}
use Rattle.space.specs.Used.{no_region}
use Rattle.tree.specs.Table.{empty_root}
use Rattle.tree.specs.Lookup.{is_directory}
use Rattle.edit_rules.specs.Edits.{Edit, insert_file, insert_directory, make_directories, move_file, resize_file, fill_file, rewrite}
use Rattle.ledger.specs.Ledger.{History, Ledger, files_before, new_history, Report}
use Rattle.ledger.specs.Inner.Files.{files_of, file_names}
use Rattle.ledger.specs.Spared.{is_file_of_edit, ledger_next, number_next}

-- an accepted move, resize or fill of the list named file f
unfoldable pub is_named_in : List Report → Ledger → ℕ → Bool
is_named_in [] l f = false
is_named_in (r ∷ reports) l f = (r.accepted && is_file_of_edit r.edit l f) || is_named_in reports (ledger_next r l) (number_next r l f)

-- what an accepted edit gives a file: a size, or a clip
pub data Given : Type 0 where
  sized : ℕ → Given
  clipped : List ℕ → Given

-- what it gives file f, if it gives it anything
abbrev pub given_by_edit : Edit → Ledger → ℕ → List Given
given_by_edit (insert_file p nm) l f = []
given_by_edit (insert_directory p nm) l f = []
given_by_edit (make_directories start path) l f = []
given_by_edit (move_file k to) l f = []
given_by_edit (resize_file k n) l f = if f == files_before k l.nodes then sized n ∷ [] else []
given_by_edit (fill_file k clip) l f = if f == files_before k l.nodes then clipped clip ∷ [] else []
given_by_edit rewrite l f = []

-- what the accepted resizes and fills of the list gave file f, in their order
unfoldable pub given_in : List Report → Ledger → ℕ → List Given
given_in [] l f = []
given_in (r ∷ reports) l f = (if r.accepted then given_by_edit r.edit l f else []) ++ given_in reports (ledger_next r l) (number_next r l f)

-- m, after these: the least of the sizes since the last clip, and of its length, or where there was none of the first m
unfoldable pub least_of : ℕ → List Given → ℕ
least_of m [] = m
least_of m (sized n ∷ gs) = least_of (min m n) gs
least_of m (clipped clip ∷ gs) = least_of (length clip) gs

-- the size: the last size or clip's length, or n where there was none
unfoldable pub final_size : ℕ → List Given → ℕ
final_size n [] = n
final_size n (sized x ∷ gs) = final_size x gs
final_size n (clipped clip ∷ gs) = final_size (length clip) gs

-- the starting bytes: the last clip, or bs where there was none
unfoldable pub start_of : List ℕ → List Given → List ℕ
start_of bs [] = bs
start_of bs (sized n ∷ gs) = start_of bs gs
start_of bs (clipped clip ∷ gs) = start_of clip gs

-- file f of a ledger: its history, name and size
abbrev pub history_at : Ledger → ℕ → History
history_at l f = slice_index_or l.histories f new_history

abbrev pub file_name_at : Ledger → ℕ → List ℕ
file_name_at l f = slice_index_or (file_names l.nodes) f []

abbrev pub size_at : Ledger → ℕ → ℕ
size_at l f = (slice_index_or (files_of l.nodes) f no_region).size

-- the accepted moves, resizes and fills of the list have the numbers of files, as 16 makes sure
abbrev pub IsOfFile : Edit → Ledger → Type 0
IsOfFile (insert_file p nm) l = Unit {0}
IsOfFile (insert_directory p nm) l = Unit {0}
IsOfFile (make_directories start path) l = Unit {0}
IsOfFile (move_file k to) l = is_directory (slice_index_or l.nodes k empty_root) ≡ false
IsOfFile (resize_file k n) l = is_directory (slice_index_or l.nodes k empty_root) ≡ false
IsOfFile (fill_file k clip) l = is_directory (slice_index_or l.nodes k empty_root) ≡ false
IsOfFile rewrite l = Unit {0}

abbrev pub OfFiles : List Report → Ledger → Type 0
OfFiles [] l = Unit {0}
OfFiles (r ∷ reports) l = (r.accepted ≡ true → IsOfFile r.edit l) × OfFiles reports (ledger_next r l)
