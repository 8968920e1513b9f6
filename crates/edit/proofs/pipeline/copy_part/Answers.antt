-- `pipeline::copy_part` meets its contract: what is judged can be copied.
use Rattle.edit.proofs.Parts.{can-copy}
use Rattle.edit.proofs.pipeline.copy_part.Goals as goal

pub finish_copy-requires : goal.finish_copy-requires
finish_copy-requires c = can-copy _ _ _ _ _ _ c.judge_image-decided.ensures.foreseen.accounted.decided

pub returns-clause-copied : goal.returns-clause-copied
returns-clause-copied c = record { decision = _; foreseen = c.judge_image-decided.ensures.foreseen; after = c.finish_copy.ensures.image_after; answer = c.finish_copy.ensures.answer }
