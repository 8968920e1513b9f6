-- Tables measured, by computing: 12 bytes for the root, and for each further entry 13 and its name; and at
-- the limit of the texts. Assumes nothing.
use Rattle.std.specs.Prelude.{Ok, Err, ◌+◌, ◌*◌, ◌<◌, ◌^◌, ◌≡◌, refl, length, set, take}
use mathlib.Core.List.{List, tail}
use Rattle.std.proofs.Common.{arith}
use borrow.Author.Tests.{lt-ltb, le-ltb}
use Rattle.endian.specs.Bytes.{be24, be32}
use Rattle.tree.specs.Table.{Node, count, name_at, node_at, nodes_from, nodes_of, parent_below, parent_of, entries_bytes, texts_of, encode}
use Rattle.tree.specs.Inner.WellFormed.{IsWellFormed}
use Rattle.tree.proofs.Laws.RoundTrip.{round_trip}
use Rattle.tree.proofs.Laws.Vectors.{master, shared, deep_bytes}
use Rattle.tree.proofs.Laws.WrittenEntries.{length-encode}
use Rattle.refusal.specs.declared.Refusal.TheVariants.{LimitOrMemory}
use Rattle.table_writing.specs.Inner.Measure.{measure_of}

-- the root alone; the small master's table, 0x1A, where the root's name offset is that of `a`, which is counted once; three names and two
-- texts; directories inside directories, which count as files do
sizes :
    (measure_of (take 12 (set master 11 1)) ≡ Ok 12) ×
    (measure_of master ≡ Ok (12 + (12 + 1 + 1))) ×
    (measure_of shared ≡ Ok (12 + 3 * (12 + 1 + 1))) ×
    (length shared ≡ 4 * 12 + 2 * (1 + 1)) ×
    (measure_of deep_bytes ≡ Ok (12 + 6 * (12 + 1 + 1)))
unfolding measure_of nodes_of nodes_from node_at name_at count be24 be32 encode entries_bytes texts_of parent_of parent_below
sizes = (refl, refl, refl, refl, refl)

-- so many bytes of texts are measured, and one byte more is past the limit
module _ (nodes : List Node) (w : IsWellFormed nodes) (few : length nodes < 2 ^ 32) where
  at-limit : length (texts_of (tail nodes)) ≡ 1048576 → measure_of (encode nodes) ≡ Ok (12 * length nodes + 1048576)
  unfolding measure_of
  at-limit e = rw (round_trip nodes w few (omega arith), le-ltb 1048576 (length (texts_of (tail nodes))) (omega arith), length-encode nodes, e)

  past-limit : length (texts_of (tail nodes)) ≡ 1048577 → measure_of (encode nodes) ≡ Err LimitOrMemory
  unfolding measure_of
  past-limit e = rw (round_trip nodes w few (omega arith), lt-ltb 1048576 (length (texts_of (tail nodes))) (omega arith))
