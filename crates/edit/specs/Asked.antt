-- The edit that a value of `edit::Edit` or `edit::PlaceEdit` asks for, and the turn that a value of `edit::Turn` is. Assumes nothing: these are
-- definitions.
use Rattle.std.specs.Prelude.{ℕ, ◌^◌, ◌<◌, List}
use Rattle.edit_rules.specs.Edits as edits
use Rattle.edit_rules.specs.Edits.{insert_file, insert_directory, make_directories, move_file, resize_file, fill_file, rewrite}
use Rattle.table_writing.specs.declared.kind.Kind.{Kind}
use Rattle.table_writing.specs.declared.kind.Kind.TheVariants as kind
use Rattle.edit.specs.declared.pipeline.Edit.{Edit}
use Rattle.edit.specs.declared.pipeline.Edit.TheVariants as edit
use Rattle.edit.specs.declared.place_edit.PlaceEdit.{PlaceEdit}
use Rattle.edit.specs.declared.place_edit.PlaceEdit.TheVariants as place
use Rattle.edit.specs.declared.list.Turn as declared
use Rattle.ledger.specs.Lists.{Turn}

-- the two inserts as one: the edit that inserts an entry of the kind
abbrev pub insertion : Kind → ℕ → List ℕ → edits.Edit
insertion kind.Directory p nm = edits.insert_directory p nm
insertion kind.File p nm = edits.insert_file p nm

-- by its cases, with its name, path or clip
abbrev pub edit_of : Edit → edits.Edit
edit_of edit.Rewrite = edits.rewrite
edit_of (edit.Move file offset) = edits.move_file file offset
edit_of (edit.Resize file size) = edits.resize_file file size
edit_of (edit.Fill file clip) = edits.fill_file file clip.now
edit_of (edit.Insert new) = insertion new.kind new.parent new.name.now
edit_of (edit.MakeDirectories start path) = edits.make_directories start path.now

abbrev pub turn_of : declared.Turn → Turn
turn_of x = record { team = x.team; edit = edit_of x.edit }

abbrev pub place_edit_of : PlaceEdit → edits.Edit
place_edit_of (place.Move file offset) = edits.move_file file offset
place_edit_of (place.Resize file size) = edits.resize_file file size

-- a move or a resize, with numbers of 32 bits
abbrev pub IsPlaceEdit : edits.Edit → Type 0
IsPlaceEdit (insert_file p nm) = ⊥
IsPlaceEdit (insert_directory p nm) = ⊥
IsPlaceEdit (make_directories start path) = ⊥
IsPlaceEdit (move_file k to) = to < 2 ^ 32
IsPlaceEdit (resize_file k n) = n < 2 ^ 32
IsPlaceEdit (fill_file k clip) = ⊥
IsPlaceEdit rewrite = ⊥
