-- The edit that a value of `edit::Edit` asks for, or why there is none. Assumes nothing: these are
-- definitions.
use Rattle.std.specs.Prelude.{Result, Ok, Err}
use Rattle.refusal.specs.declared.Refusal.{Refusal}
use Rattle.edit_rules.specs.Edits as edits
use Rattle.edit.specs.declared.pipeline.Edit.{Edit}
use Rattle.edit.specs.Asked.{edit_of}

abbrev pub edit_told : Result Edit Refusal → Result edits.Edit Refusal
edit_told (Ok ed) = Ok (edit_of ed)
edit_told (Err c) = Err c
