-- `endian::copy` meets its contract: what the part of the slice holds afterwards is the span.
use Rattle.std.proofs.Common.{◌∙◌}
use Rattle.endian.specs.Laws.Stored.{length-span}
use Rattle.endian.proofs.Parts.{part-put, part-span}
use Rattle.endian.proofs.copy.Goals as goal

pub returns : goal.returns
returns c =
    let a = c.args in
    part-put a.s.now _ _ a.to a.n (c.copy_from_slice.ensures.after ∙ part-span a.source.now a.from a.n) (length-span a.source.now a.from a.n c.requires.source)
