-- `edit::resizing::resize` meets its contract: what was judged is decided on with the table that was drafted.
use Rattle.edit.proofs.resizing.resize.Goals as goal

pub draft-requires : goal.draft-requires
draft-requires c = c.judge-judged.ensures.draftable

pub returns : goal.returns
returns c = rw c.draft.ensures.same (c.judge-judged.ensures.decides _ c.draft.ensures.drafted)
