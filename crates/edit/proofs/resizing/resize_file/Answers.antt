-- `edit::resizing::resize_file` meets its contract: what was judged is decided on with the table that was drafted.
use Rattle.edit.proofs.resizing.resize_file.Goals as goal

pub draft-requires : goal.draft-requires
draft-requires c = c.judge_resize-judged.ensures.draftable

pub returns : goal.returns
returns c = rw c.draft.ensures.same (c.judge_resize-judged.ensures.decides _ c.draft.ensures.drafted)
