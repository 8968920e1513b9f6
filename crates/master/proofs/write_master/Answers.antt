-- `master::write_master` meets its contract. Assumes nothing.
use Rattle.master.specs.Asked.{master_of}
use Rattle.master.proofs.Writing.{refused-image, granted-image}
use Rattle.master.proofs.write_master.Goals as goal

pub returns-in_err-table-clause-image_after : goal.returns-in_err-table-clause-image_after
returns-in_err-table-clause-image_after c =
    refused-image (master_of c.args.master) c.args.image.now _ _ _ (rw (c.new-words.ensures.memory, c.new-bytes.ensures.memory) at c.in_err-table.ensures.refused)

pub returns-clause-image_after : goal.returns-clause-image_after
returns-clause-image_after c =
    rw (c.write_granted.ensures.image_after, c.in_ok-table.ensures.paths, c.in_ok-table.ensures.sizes)
    (granted-image (master_of c.args.master) c.args.image.now _ _ (rw (c.new-words.ensures.memory, c.new-bytes.ensures.memory) at c.in_ok-table.ensures.granted))
