-- `listing::entries::put_name` meets its contract: the name, and `/` behind a directory's.
use mathlib.Core.Path.{sym, ◌∙◌}
use Rattle.listing.proofs.LineParts.{directory-named, file-named}
use Rattle.listing.proofs.entries.put_name.Goals as goal

pub returns-then-is_directory : goal.returns-then-is_directory
returns-then-is_directory c =
    directory-named _ c.args.k _ _ c.name.ensures c.push_bytes.ensures _ (sym c.is_directory.ensures ∙ c.if-is_directory.true) c.push.ensures

pub returns-else-is_directory : goal.returns-else-is_directory
returns-else-is_directory c =
    file-named _ c.args.k _ _ c.name.ensures c.push_bytes.ensures (sym c.is_directory.ensures ∙ c.if-is_directory.false)
