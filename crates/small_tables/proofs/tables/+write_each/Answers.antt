-- `write_each` meets its contract: with no entry left it writes the table of the one shape, else those with a file
-- and then with each next.
use Rattle.std.proofs.Common.{◌+◌, ◌<◌, ◌≡◌, length, ℕ, arith}
use Rattle.std.proofs.lemmas.List.{length-set, length-take, length-drop}
use Rattle.endian.specs.Bytes.{put}
use Rattle.small_tables.specs.declared.shape.Entry.TheVariants.{Directory}
use Rattle.small_tables.proofs.Writing.{all, table-long, all-long, part-written, most-bounds, most-is}
use Rattle.small_tables.proofs.Writing.{file-enters, underway-begins, directory-enters, underway-more, underway-ends}
use Rattle.small_tables.proofs.tables.+write_each.Goals as goal

-- ---- with no entry left

pub slice_bounds-write_table-end : goal.slice_bounds-write_table-end
slice_bounds-write_table-end t c =
    let l = all-long c.args.shape.now c.args.k c.requires.begun c.if-k-shape.true _ c.table_size.ensures in
    omega (arith, l, c.requires.room)

pub write_table-requires-clause-room : goal.write_table-requires-clause-room
write_table-requires-clause-room t c =
    let table = table-long c.args.shape.now c.args.k c.requires.begun c.if-k-shape.true _ c.table_size.ensures in
    let l = all-long c.args.shape.now c.args.k c.requires.begun c.if-k-shape.true _ c.table_size.ensures in
    simp (length-take, length-drop) (omega (arith, table, l, c.requires.room))

pub returns-then-k-shape-clause-end : goal.returns-then-k-shape-clause-end
returns-then-k-shape-clause-end t c =
    let l = all-long c.args.shape.now c.args.k c.requires.begun c.if-k-shape.true _ c.table_size.ensures in
    omega (arith, l)

pub returns-then-k-shape-clause-list : goal.returns-then-k-shape-clause-list
returns-then-k-shape-clause-list t c =
    part-written c.args.shape.now c.args.k c.requires.begun c.if-k-shape.true _ c.table_size.ensures c.args.list.now c.args.at _ c.write_table.ensures

-- ---- with an entry more

pub write_each-at-requires : goal.write_each-at-requires
write_each-at-requires t c =
    let within : c.args.k < length c.args.shape.now = omega arith in
    let m = file-enters _ _ _ _ c.requires.begun within c.requires.room in
    (simp length-set (omega (arith, c.decreases)), (m.begun, (simp length-set (omega arith), (simp length-set (omega arith), m.room))))

pub overflow_add-next-end : goal.overflow_add-next-end
overflow_add-next-end t c =
    let within : c.args.k < length c.args.shape.now = omega arith in
    let r = c.requires in
    let most = most-is _ _ _ _ r.begun within r.room _ c.write_each-at.ensures.first _ c.largest_next-next-end.ensures in
    omega (arith, most, most-bounds _ _ _ _ r.begun within r.room)

pub loop-next-init : goal.loop-next-init
loop-next-init t c =
    let within : c.args.k < length c.args.shape.now = omega arith in
    let e = c.write_each-at.ensures in
    underway-begins _ _ _ _ c.requires.begun within c.requires.room _ e.first _ _ e.end e.list c.write_each-at.auto.shape

pub write_each-at-requires-in-loop-next : goal.write_each-at-requires-in-loop-next
write_each-at-requires-in-loop-next t c =
    let within : c.args.k < length c.args.shape.now = omega arith in
    let r = c.requires in
    let most = most-is _ _ _ _ r.begun within r.room _ c.write_each-at.ensures.first _ c.largest_next-next-end.ensures in
    let m = directory-enters _ _ _ _ r.begun within r.room _ _ _ _ c.loop-next.invariant (omega arith) (omega (arith, most)) in
    let l = length-set c.loop-next.shape c.args.k (Directory c.loop-next.next) in
    (omega (arith, l, c.decreases), (m.begun, (omega (arith, l), (omega (arith, l), m.room))))

pub loop-next-preserved : goal.loop-next-preserved
loop-next-preserved t c =
    let within : c.args.k < length c.args.shape.now = omega arith in
    let r = c.requires in
    let most = most-is _ _ _ _ r.begun within r.room _ c.write_each-at.ensures.first _ c.largest_next-next-end.ensures in
    let e = c.write_each-at-in-loop-next.ensures in
    underway-more _ _ _ _ r.begun within r.room _ _ _ _ c.loop-next.invariant (omega arith) (omega (arith, most)) _ _ _ e.end e.list e.first c.write_each-at-in-loop-next.auto.shape

ends : (t : ℕ) (c : goal.After-loop-next t) →
    (c.loop-next.at ≡ c.args.at + length (all c.args.shape.now c.args.k))
    × (c.loop-next.list ≡ put c.args.list.now c.args.at (all c.args.shape.now c.args.k))
ends t c =
    let within : c.args.k < length c.args.shape.now = omega arith in
    let r = c.requires in
    let most = most-is _ _ _ _ r.begun within r.room _ c.write_each-at.ensures.first _ c.largest_next-next-end.ensures in
    let bounds = most-bounds _ _ _ _ r.begun within r.room in
    underway-ends _ _ _ _ r.begun within r.room _ _ _ _ c.loop-next.invariant (omega (arith, most, bounds))

pub returns-clause-end : goal.returns-clause-end
returns-clause-end t c = (ends t c).0

pub returns-clause-list : goal.returns-clause-list
returns-clause-list t c = (ends t c).1
