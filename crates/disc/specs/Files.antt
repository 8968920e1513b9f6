-- The answers of the calls on entries, files and the executable, and the order of their refusals (RULES,
-- Calls). Assumes nothing: these are definitions.
use Rattle.std.specs.Prelude.{Result, Ok, Err, nat_lt}
use Rattle.refusal.specs.Refusal.{Verdict}
use Rattle.refusal.specs.declared.Refusal.{Refusal}
use Rattle.opened.specs.declared.summary.Summary.{Summary}
use Rattle.window.specs.declared.Window.{Window}
use Rattle.std.specs.Prelude.{ℕ, List, length}
use Rattle.std.specs.Result.{result_and}
use Rattle.refusal.specs.declared.Refusal.TheVariants.{LimitOrMemory, ExpectedFile}
use Rattle.refusal.specs.Refusal.{refuse, first}
use Rattle.header.specs.Verdicts.{dol_offset, fst_offset}
use Rattle.window.specs.Window.{new_window}
use Rattle.executable.specs.Dol.{dol_header_of, file_size_of, dol_verdict_of}
use Rattle.tree.specs.Lookup.{lookup, found_of, entry_found}
use Rattle.tree.specs.declared.Entry.TheVariants.{File, Directory}
use Rattle.tree.specs.Table.{Node}
use Rattle.tree.specs.declared.FileEntry.{FileEntry}
use Rattle.tree.specs.declared.Found.{Found}
use Rattle.tree.specs.declared.Found.TheVariants as found
use Rattle.table.specs.Rows.{list_verdict, list_with_rows}
use Rattle.disc.specs.declared.answers.DolFile.{DolFile}
use Rattle.opened.specs.Opening.{opening, table_of, nodes_in}
use Rattle.opened.specs.Answers.{answer_behind, summary_of, max_region_size_answer}

unfoldable pub entry_answer : List ℕ → ℕ → ℕ → Found
entry_answer image words k = answer_behind (opening image words) found.Refused (entry_found (nodes_in image) k)

-- the entry of a tree that a path leads to; a path of more than 1,024 bytes is 9
abbrev pub path_found : List Node → ℕ → List ℕ → Found
path_found nodes start path =
    answer_behind (refuse (nat_lt 1024 (length path)) LimitOrMemory (Ok tt)) found.Refused (found_of nodes (lookup nodes start path))

unfoldable pub lookup_answer : List ℕ → ℕ → ℕ → List ℕ → Found
lookup_answer image words start path = answer_behind (opening image words) found.Refused (path_found (nodes_in image) start path)

-- all entries at once, into a list of so many words: six an entry (`entry_row`), with the place of its name in the image
unfoldable pub entries_answer : List ℕ → ℕ → ℕ → Result Summary Refusal
entries_answer image words room =
    answer_behind (opening image words) Err
    (answer_behind (list_verdict (table_of image) room) Err
    (Ok (summary_of image)))

unfoldable pub entries_list : List ℕ → ℕ → List ℕ → List ℕ
entries_list image words list = answer_behind (opening image words) (λ c. list) (list_with_rows (fst_offset image) (table_of image) list)

-- an answer from a file's place, by its answer as an entry
abbrev pub file_answer : {A : Type 0} → (FileEntry → Result A Refusal) → Found → Result A Refusal
file_answer f (found.At k (File file)) = f file
file_answer f (found.At k (Directory d)) = Err ExpectedFile
file_answer f (found.Refused c) = Err c

unfoldable pub open_file_answer : List ℕ → ℕ → ℕ → Result Window Refusal
open_file_answer image words k = file_answer (λ file. Ok (new_window file.offset file.size)) (entry_answer image words k)

-- `max_file_size` is `max_region_size` of the file's offset and size
unfoldable pub max_file_size_answer : List ℕ → ℕ → ℕ → Result ℕ Refusal
max_file_size_answer image words k =
    file_answer (λ file. max_region_size_answer image words file.offset file.size) (entry_answer image words k)

unfoldable pub dol_verdict : List ℕ → ℕ → Verdict
dol_verdict image words = first (opening image words) (dol_verdict_of image (dol_offset image))

-- the header and the window
abbrev pub dol_file_of : List ℕ → DolFile
dol_file_of image = record {
  header = dol_header_of image (dol_offset image);
  window = new_window (dol_offset image) (file_size_of (dol_header_of image (dol_offset image)));
}

unfoldable pub open_dol_answer : List ℕ → ℕ → Result DolFile Refusal
open_dol_answer image words = result_and (dol_verdict image words) (Ok (dol_file_of image))
