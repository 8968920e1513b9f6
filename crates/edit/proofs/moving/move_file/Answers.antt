-- `edit::moving::move_file` meets its contract: what was judged is decided on with the table that was drafted.
use Rattle.edit.proofs.moving.move_file.Goals as goal

pub draft-requires : goal.draft-requires
draft-requires c = c.judge_move-judged.ensures.draftable

pub returns : goal.returns
returns c = rw c.draft.ensures.same (c.judge_move-judged.ensures.decides _ c.draft.ensures.drafted)
