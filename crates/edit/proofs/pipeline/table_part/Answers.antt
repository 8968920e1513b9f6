-- `pipeline::table_part` meets its contract: what is decided on has its table written. A move or a resize brings no clip.
use Rattle.edit.proofs.Parts.{can-table}
use Rattle.edit.proofs.pipeline.table_part.Goals as goal

pub finish_table-requires : goal.finish_table-requires
finish_table-requires c =
    let e = rw c.whole-edit.ensures.no_clip at c.decide_image-decided.ensures in
    rw c.decide_image-decided.auto.bytes (can-table _ _ _ _ _ _ e.decided)

pub returns-clause-written : goal.returns-clause-written
returns-clause-written c =
    let e = rw (c.whole-edit.ensures.no_clip, c.whole-edit.ensures.same) at c.decide_image-decided.ensures in
    record { decision = _; accounted = e; after = c.finish_table.ensures.image_after; answer = c.finish_table.ensures.answer }
