-- So far the offsets are written, and the next file lies behind the others so far.
use Rattle.std.specs.Prelude.{◌≡◌}
use Rattle.placement.specs.Placement.{whole_size, last_file, offsets_of}
use Rattle.placement.proofs.Laws.Offsets.{first_written, IsNext}
use Rattle.placement.proofs.placing.place.Given as goal

abbrev pub invariant-loop-i : goal.invariant-loop-i
invariant-loop-i l =
    (l.offsets ≡ first_written l.fn.offsets (offsets_of l.fn.table_end l.sizes) l.i)
    × IsNext (last_file l.sizes) (whole_size l.fn.table_end) l.sizes l.i l.next
