-- `edit::directories::check_path` meets its contract: the troubles along the path are what make-directories would meet.
use Rattle.std.proofs.Common.{arith, ◌∙◌}
use Rattle.edit.proofs.BuiltTable.{well-disc}
use Rattle.edit.proofs.Plans.{path-short}
use Rattle.edit.proofs.directories.check_path.Goals as goal

pub returns-then-path-gt-PATH_LIMIT-clause-well_formed : goal.returns-then-path-gt-PATH_LIMIT-clause-well_formed
returns-then-path-gt-PATH_LIMIT-clause-well_formed c = well-disc c.args.disc.now _ c.table.ensures.of_image

pub returns-clause-answer : goal.returns-clause-answer
returns-clause-answer c =
    let t = c.table.ensures in
    (rw (c.new-table.ensures, t.nodes) at c.trouble.ensures) ∙ path-short c.args.disc.now c.args.start c.args.path.now (well-disc c.args.disc.now _ t.of_image) (omega arith)

pub returns-clause-well_formed : goal.returns-clause-well_formed
returns-clause-well_formed c = well-disc c.args.disc.now _ c.table.ensures.of_image
