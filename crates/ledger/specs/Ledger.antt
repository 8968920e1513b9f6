-- RULES, The ledger: it is told of each call its kind, its numbers, its name, path or clip, and whether it
-- was accepted. Assumes nothing: these are definitions.
use Rattle.std.specs.Prelude.{ℕ, zero, suc, min, Bool, true, false, List, [], ◌∷◌, map, length, set, if◌then◌else◌, slice_index_or}
use Rattle.endian.specs.Bytes.{span}
use Rattle.tree.specs.Table.{Node, file, directory}
use Rattle.tree.specs.Lookup.{components}
use Rattle.tree.specs.Insert.{insert_at, set_place, empty_file, empty_directory}
use Rattle.opened.specs.Opening.{nodes_in}
use Rattle.edit_rules.specs.Edits.{Edit, insert_file, insert_directory, make_directories, move_file, resize_file, fill_file, rewrite, new_number, Made, stopped, made, make}

-- of a file: its starting place and bytes; m, how many of them it still begins with; whether an edit named it
pub record History : Type 0 where
  pub place : ℕ
  pub bytes : List ℕ
  pub m : ℕ
  pub named : Bool

pub record Ledger : Type 0 where
  -- the entries, without a place (it is 0)
  pub nodes : List Node
  -- one history for each file, in the order of the entries
  pub histories : List History

-- an entry without its place
abbrev pub node_without_place : Node → Node
node_without_place (file nm offset size) = file nm 0 size
node_without_place (directory nm next) = directory nm next

-- how many files there are among the first k entries
unfoldable pub files_before : ℕ → List Node → ℕ
files_before zero xs = 0
files_before (suc k) [] = 0
files_before (suc k) (file nm offset size ∷ xs) = suc (files_before k xs)
files_before (suc k) (directory nm next ∷ xs) = files_before k xs

-- a file that was inserted
abbrev pub new_history : History
new_history = record { place = 0; bytes = []; m = 0; named = false }

-- of the file with entry number k: the files are counted among the ledger's own entries
abbrev pub history_of : Ledger → ℕ → History
history_of l k = slice_index_or l.histories (files_before k l.nodes) new_history

-- ---- at first: the tree of the first image, every byte of a file its start, none named

unfoldable pub first_histories : List ℕ → List Node → List History
first_histories image [] = []
first_histories image (file nm offset size ∷ xs) =
    record { place = offset; bytes = span image offset size; m = size; named = false } ∷ first_histories image xs
first_histories image (directory nm next ∷ xs) = first_histories image xs

abbrev pub first_ledger : List ℕ → Ledger
first_ledger image = record { nodes = map node_without_place (nodes_in image); histories = first_histories image (nodes_in image) }

-- ---- what an accepted call does to it

-- x put in after j of the list
unfoldable pub put_in : {A : Type 0} → ℕ → A → List A → List A
put_in zero x xs = x ∷ xs
put_in (suc j) x [] = x ∷ []
put_in (suc j) x (y ∷ xs) = y ∷ put_in j x xs

-- by a move
abbrev pub named_history : History → History
named_history h = record { place = h.place; bytes = h.bytes; m = h.m; named = true }

-- by a resize to n bytes
abbrev pub lowered_history : ℕ → History → History
lowered_history n h = record { place = h.place; bytes = h.bytes; m = min h.m n; named = true }

-- by a fill: the clip is what the file starts with
abbrev pub refilled_history : List ℕ → History → History
refilled_history clip h = record { place = h.place; bytes = clip; m = length clip; named = true }

-- the histories with that of file k put through f
abbrev pub histories_with : ℕ → (History → History) → Ledger → List History
histories_with k f l = set l.histories (files_before k l.nodes) (f (history_of l k))

-- the tree with the directories of the path, where the walk came to its end
abbrev pub made_nodes : List Node → Made → List Node
made_nodes nodes (stopped c) = nodes
made_nodes nodes (made new k bad) = new

abbrev pub ledger_with : Edit → Ledger → Ledger
-- the entry becomes the last child
ledger_with (insert_file p nm) l = record {
  nodes = insert_at p (empty_file nm) l.nodes;
  histories = put_in (files_before (new_number l.nodes p) l.nodes) new_history l.histories;
}
ledger_with (insert_directory p nm) l = record {
  nodes = insert_at p (empty_directory nm (new_number l.nodes p)) l.nodes;
  histories = l.histories;
}
-- a lookup's walk, which adds each directory that is missing as the last child
ledger_with (make_directories start path) l = record {
  nodes = made_nodes l.nodes (make l.nodes [] start false (components path));
  histories = l.histories;
}
-- both name the file; a resize changes its size
ledger_with (move_file k to) l = record { nodes = l.nodes; histories = histories_with k named_history l }
ledger_with (resize_file k n) l = record { nodes = set_place k 0 n l.nodes; histories = histories_with k (lowered_history n) l }
-- a fill names it too, and gives it the clip's size
ledger_with (fill_file k clip) l = record { nodes = set_place k 0 (length clip) l.nodes; histories = histories_with k (refilled_history clip) l }
-- nothing that the ledger holds
ledger_with rewrite l = l

-- what the ledger is told of a call
pub record Report : Type 0 where
  pub edit : Edit
  pub accepted : Bool

unfoldable pub ledger_after : List Report → Ledger → Ledger
ledger_after [] l = l
ledger_after (r ∷ reports) l = ledger_after reports (if r.accepted then ledger_with r.edit l else l)
