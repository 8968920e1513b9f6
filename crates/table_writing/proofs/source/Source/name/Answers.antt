-- `Source::name` meets its contract: the text at the name offset is ended within the table.
use native.Mathlib.Omega.{arith}
use Rattle.table_writing.proofs.Sources.{held, name-held, name-read}
use Rattle.table_writing.proofs.source.Source.name.Goals as goal

pub name_offset-requires : goal.name_offset-requires
name_offset-requires c = omega (arith, held _ _ _ c.args.k c.self.invariant c.self.view_is c.requires.within)

pub text_length-len-requires : goal.text_length-len-requires
text_length-len-requires c = name-held _ _ _ c.args.k c.self.invariant c.self.view_is c.requires.further c.requires.within _ c.name_offset.ensures.value

pub overflow_add-result : goal.overflow_add-result
overflow_add-result c = omega (arith, name-held _ _ _ c.args.k c.self.invariant c.self.view_is c.requires.further c.requires.within _ c.name_offset.ensures.value, c.text_length-len.ensures)

pub slice_bounds-result-end : goal.slice_bounds-result-end
slice_bounds-result-end c = omega (arith, name-held _ _ _ c.args.k c.self.invariant c.self.view_is c.requires.further c.requires.within _ c.name_offset.ensures.value, c.text_length-len.ensures)

pub returns : goal.returns
returns c = name-read _ _ _ c.args.k c.self.invariant c.self.view_is c.requires.further c.requires.within _ c.name_offset.ensures.value _ c.text_length-len.ensures
