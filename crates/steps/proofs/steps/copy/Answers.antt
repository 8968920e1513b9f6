-- `steps::copy` meets its contract: what is copied is what the plan copies.
use Rattle.std.proofs.Common.{rules}
use Rattle.steps.proofs.Called.{made-copy, only-copied}
use Rattle.steps.proofs.steps.copy.Goals as goal

pub returns-clause-copied : goal.returns-clause-copied
returns-clause-copied c =
    made-copy _ c.copy_part.ensures.place_edit _ _ _ _ _ _ c.new-words.ensures.memory c.new-bytes.ensures.memory _ c.of_bytes.ensures _ _ c.copy_part.ensures.copied
    _ _ (search rules) (search rules)

pub returns-clause-own_part : goal.returns-clause-own_part
returns-clause-own_part c =
    only-copied _ c.copy_part.ensures.place_edit _ _ _ _ _ _ c.new-words.ensures.memory c.new-bytes.ensures.memory _ c.of_bytes.ensures _ _ c.copy_part.ensures.copied
