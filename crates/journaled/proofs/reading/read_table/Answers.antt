-- `reading::read_table` meets its contract: the place that the header gives lies in the image.
use Rattle.std.proofs.Common.{sym, ◌∙◌, arith, length-take}
use Rattle.journaled.proofs.Behind.{passed-verdict, bounds-within, too-long}
use Rattle.journaled.proofs.reading.read_table.Goals as goal

pub returns-then-table-size-clause-long : goal.returns-then-table-size-clause-long
returns-then-table-size-clause-long g c = λ known.
    too-long _ _ _ _ _ c.image_len-len.ensures.len c.requires known (sym c.check_bounds_within.ensures ∙ passed-verdict _ (sym c.is_err.ensures.value ∙ c.if-is_err.false))
    (omega (arith, c.if-table-size.true, c.fst_size-size.ensures))

pub read_image-requires : goal.read_image-requires
read_image-requires g c =
    let b = bounds-within _ _ (sym c.check_bounds_within.ensures ∙ passed-verdict _ (sym c.is_err.ensures.value ∙ c.if-is_err.false)) in
    omega (arith, b.inside, c.fst_size-size.ensures, c.fst_offset.ensures, c.image_len-len.ensures.len, length-take c.fst_size-size.result c.args.table.now)
