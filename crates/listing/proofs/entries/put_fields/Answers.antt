-- `listing::entries::put_fields` meets its contract, by the entry's kind.
use mathlib.Core.Path.{sym, ◌∙◌}
use Rattle.listing.proofs.LineParts.{file-written, directory-written}
use Rattle.listing.proofs.entries.put_fields.Goals as goal

pub returns-then-is_directory : goal.returns-then-is_directory
returns-then-is_directory c =
    directory-written _ _ _ _ _ _ _ (sym c.is_directory.ensures ∙ c.if-is_directory.true) c.last-last.ensures.last c.put_pair.ensures c.push_field.ensures

pub returns : goal.returns
returns c =
    file-written _ _ _ _ _ _ _ (sym c.is_directory.ensures ∙ c.if-is_directory.false) c.last-last.ensures.last _ c.offset-offset.ensures c.put_pair-2.ensures c.push_field-2.ensures
