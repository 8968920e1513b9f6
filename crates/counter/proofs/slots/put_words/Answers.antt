-- `counter::slots::put_words` meets its contract: the part of the slots holds the words afterwards.
use Rattle.std.proofs.Common.{refl, length}
use Rattle.endian.proofs.Parts.{part-put}
use Rattle.counter.proofs.slots.put_words.Goals as goal

pub returns : goal.returns
returns c = part-put c.args.slots.now _ _ c.args.at (length c.args.source.now) c.copy_from_slice.ensures.after refl
