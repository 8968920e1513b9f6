-- `table_writing::raising::patch_before` meets its contract: a record changes in its next or not at all, and what is written back is what stood there.
use mathlib.Core.Path.{sym, ◌∙◌}
use native.Mathlib.Omega.{arith}
use Rattle.table_writing.proofs.Patches.{directory-one, file-not-one, raised, file-stays, ended-stays}
use borrow.Author.Rules.{rules}
use Rattle.table_writing.proofs.raising.patch_before.Goals as goal

pub returns-then-p-next : goal.returns-then-p-next
returns-then-p-next c =
    let s = c in
    cc (c.size_or_next-next.ensures, c.set_size_or_next.ensures, raised s.args.table.now s.args.p s.args.k (search rules) s.requires.within s.requires.raisable.kinds (directory-one _ _ c.of.ensures (sym c.is_directory.ensures ∙ c.if-is_directory.true)) s.requires.before (omega (arith, c.size_or_next-next.ensures, c.if-p-next.true)))

pub returns-else-p-next : goal.returns-else-p-next
returns-else-p-next c =
    let s = c in
    sym (ended-stays s.args.table.now s.args.p s.args.k (search rules) s.requires.within s.requires.raisable.kinds (omega (arith, c.size_or_next-next.ensures, c.if-p-next.false)))

pub returns-else-is_directory : goal.returns-else-is_directory
returns-else-is_directory c =
    let s = c in
    sym (file-stays s.args.table.now s.args.p s.args.k (search rules) s.requires.within s.requires.raisable.kinds (file-not-one _ _ c.of.ensures (sym c.is_directory.ensures ∙ c.if-is_directory.false)))
