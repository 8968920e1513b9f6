-- The words of each request, and the edit that one asks for. Assumes nothing: these are definitions.
use Rattle.std.specs.Prelude.{ℕ, List, [], ◌∷◌, map, codes, Option, None, Some, String, string_bytes}
use Rattle.std.specs.List.{flat_map}
use Rattle.std.specs.Borrow.{Bor}
use Rattle.std.specs.Fmt.{decimal}
use Rattle.std.specs.declared.alloc.Global.{Global}
use Rattle.hex.specs.Hex.{encode_lower}
use Rattle.totals.specs.declared.team.Team.{Team}
use Rattle.totals.specs.declared.Totals.{Totals}
use Rattle.table_writing.specs.declared.kind.Kind.{Kind}
use Rattle.table_writing.specs.declared.kind.Kind.TheVariants as kind
use Rattle.edit_rules.specs.Edits as edits
use Rattle.edit.specs.Asked.{insertion}
use Rattle.conversation.specs.declared.asked.Asked.{Asked}
use Rattle.conversation.specs.declared.asked.Asked.TheVariants as asked
use Rattle.conversation.specs.declared.asked.What.{What}
use Rattle.conversation.specs.declared.asked.What.TheVariants as what

-- bytes as pairs of digits; none as a dash
abbrev pub hex_word : List ℕ → List ℕ
hex_word [] = codes "-"
hex_word (b ∷ rest) = encode_lower (b ∷ rest)

abbrev pub path_word : Option (String Global) → List ℕ
path_word None = codes "-"
path_word (Some path) = hex_word (string_bytes path)

abbrev pub insert_word : Kind → List ℕ
insert_word kind.File = codes "insert-file"
insert_word kind.Directory = codes "insert-directory"

abbrev pub what_words : What → List (List ℕ)
what_words what.Rewrite = codes "rewrite" ∷ []
what_words (what.Move file offset) = codes "move" ∷ decimal file ∷ decimal offset ∷ []
what_words (what.Resize file size) = codes "resize" ∷ decimal file ∷ decimal size ∷ []
what_words (what.Fill file) = codes "fill" ∷ decimal file ∷ []
what_words (what.Insert kind parent name) = insert_word kind ∷ decimal parent ∷ hex_word name.items ∷ []
what_words (what.MakeDirectories path) = codes "make-directories" ∷ hex_word path.items ∷ []

-- as in C
abbrev pub team_numbers : Team → List ℕ
team_numbers t = t.limit ∷ t.share ∷ t.taken ∷ t.edits ∷ []

abbrev pub totals_numbers : Totals → List ℕ
totals_numbers t = t.used ∷ t.largest ∷ flat_map team_numbers t.teams

-- the words of the line
abbrev pub request_words : Asked → List (List ℕ)
request_words (asked.Note note) = codes "note" ∷ hex_word note.items ∷ []
request_words (asked.Record path) = codes "record" ∷ path_word path ∷ []
request_words (asked.Listed team) = codes "listed" ∷ decimal team.number ∷ hex_word team.name.items ∷ []
request_words (asked.Totals totals) = codes "totals" ∷ map decimal (totals_numbers totals)
request_words (asked.Clip start len path) = codes "clip" ∷ decimal start ∷ decimal len ∷ hex_word (string_bytes path) ∷ []
request_words (asked.Edit team what) = codes "edit" ∷ decimal team ∷ what_words what
request_words (asked.Maximum maximum) = codes "maximum" ∷ decimal maximum ∷ []
request_words asked.Go = codes "go" ∷ []
request_words asked.Stop = codes "stop" ∷ []

abbrev pub texts : List (Bor (List ℕ)) → List (List ℕ)
texts words = map (λ w. w.now) words

-- the edit, where that is the clip
abbrev pub edit_wanted : What → List ℕ → edits.Edit
edit_wanted what.Rewrite clip = edits.rewrite
edit_wanted (what.Move file offset) clip = edits.move_file file offset
edit_wanted (what.Resize file size) clip = edits.resize_file file size
edit_wanted (what.Fill file) clip = edits.fill_file file clip
edit_wanted (what.Insert kind parent name) clip = insertion kind parent name.items
edit_wanted (what.MakeDirectories path) clip = edits.make_directories 0 path.items
