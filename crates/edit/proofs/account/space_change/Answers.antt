-- `edit::account::space_change` meets its contract: the words hold the used regions of each image that means the disc, in order, as the largest free region asks.
use native.Mathlib.Omega.{arith}
use Rattle.opened.proofs.Discs.{open_backed, lent_is, sorted_backed}
use Rattle.space.proofs.Behind.{behind-first}
use Rattle.edit.proofs.Entering.{changed-as}
use Rattle.edit.proofs.account.space_change.Goals as goal

pub new-used-requires : goal.new-used-requires
new-used-requires c = sorted_backed _ _ _ _ _ c.disc.invariant _ c.disc.view_is _ c.end-disc_end.ensures

pub returns-clause-change : goal.returns-clause-change
returns-clause-change c = record {
  words = c.disc.inside.words.now;
  count = c.disc.inside.used;
  long = lent_is _ _ _ _ _ c.disc.invariant _ c.disc.view_is;
  held = λ image m. open_backed _ _ _ _ _ c.disc.invariant _ c.disc.view_is image m;
  is = λ image m.
      let largest = rw (c.new-used.ensures, behind-first c.disc.inside.words.now c.disc.inside.used, c.end-disc_end.ensures, c.start.ensures) at c.largest_after.ensures in
      changed-as image c.args.disc.now m _ c.args.size c.args.old c.args.new _ _ _ _ (omega arith) (omega arith) (omega arith) largest;
}
