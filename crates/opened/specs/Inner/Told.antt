-- What an open disc tells of itself. Assumes nothing: this is a definition.
use Rattle.std.specs.Prelude.{length}
use Rattle.space.specs.Used.{total_size}
use Rattle.opened.specs.Opening as opened
use Rattle.opened.specs.declared.summary.Summary.{Summary}

-- `summary_of`, of the disc that an image means
abbrev pub told_of : opened.Disc → Summary
told_of d = record {
  fst_offset = d.start;
  fst_size = d.table_size;
  disc_end = d.end;
  entries = length d.nodes;
  used = total_size d.used;
}
