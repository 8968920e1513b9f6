-- `pipeline::run` meets its contract: what is decided on is carried out, and the working memory is zeroed where it is given back.
use Rattle.std.proofs.Common.{rules}
use Rattle.edit.proofs.Edited.{edited}
use Rattle.edit.proofs.pipeline.run.Goals as goal

pub returns-clause-edited : goal.returns-clause-edited
returns-clause-edited c =
    let f = rw (c.new-words.ensures.memory, c.new-bytes.ensures.memory) at c.decide_image-decided.ensures in
    edited _ _ _ _ _ _ _ _ _ _ _ _ _ _ f c.clip.ensures c.finish.ensures.image_after (search rules) (search rules) _ c.finish.ensures.answer
