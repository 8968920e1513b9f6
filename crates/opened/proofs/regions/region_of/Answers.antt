-- `regions::region_of` meets its contract: a directory's kind is not 0, and a file's fields are its offset and its size.
use Rattle.std.proofs.Common.{◌∙◌}
use Rattle.opened.proofs.ByKind.{of-directory, of-file, file-offset}
use Rattle.opened.proofs.regions.region_of.Goals as goal

pub returns-then-is_directory : goal.returns-then-is_directory
returns-then-is_directory c = of-directory _ c.last.ensures.held c.args.k c.requires _ c.is_directory.ensures c.if-is_directory.true

pub returns-else-is_directory : goal.returns-else-is_directory
returns-else-is_directory c =
    let e = c.if-is_directory.false in
    (of-file _ c.last.ensures.held c.args.k c.requires _ c.is_directory.ensures e, rw (c.offset.ensures ∙ file-offset _ c.last.ensures.held c.args.k c.requires _ c.is_directory.ensures e, c.last.ensures.stored))
