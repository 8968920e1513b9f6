-- `master::write_blank` meets its contract: all bytes below the disc end are filled, and then the header is written.
use Rattle.std.specs.Prelude.{length}
use Rattle.std.proofs.Common.{arith, le-ltb}
use Rattle.master.specs.Master.{header_with}
use Rattle.master.proofs.Writing.{filled-to}
use Rattle.master.proofs.write_blank.Goals as goal

pub returns-clause-image_after : goal.returns-clause-image_after
unfolding header_with
returns-clause-image_after c =
    rw (c.write_to.ensures.image_after, le-ltb (length c.fill.new.s) 0x440 (omega arith), c.fill.ensures, c.new.ensures) (filled-to _ c.args.image.now _ c.args.disc_end (omega arith))
