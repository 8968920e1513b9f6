-- `write_directory` and `write_entry` meet their contracts: what a turn of a directory's loop asks and gives is in `Turn`, and an entry is its own
-- record and name and then what is in it.
use native.Mathlib.Omega.{arith}
use mathlib.Core.Path.{refl, sym, ◌∙◌}
use lib.ListN.{length}
use Rattle.tree.specs.Table.{count}
use Rattle.table_writing.proofs.Turn.{start, turn, room-one, room_in, texts-in, written_in}
use Rattle.table_writing.proofs.writer.Writer.+write_directory_write_entry.Goals as goal

pub write_directory-loop-c-init : goal.write_directory-loop-c-init
write_directory-loop-c-init t c =
    let tab = c.args.source.now in
    let p = c.requires in
    let w = c.args.self.now in
    record { written = start tab (count tab) c.args.k w.text c.next-stop.ensures.valid p.within p.directory w.out.now; same_reference = refl }

pub write_directory-write_entry-c-requires : goal.write_directory-write_entry-c-requires
write_directory-write_entry-c-requires t c =
    let tab = c.args.source.now in
    let p = c.requires in
    let w = c.args.self.now in
    let l = c.loop-c in
    let u = turn tab (count tab) c.args.k w.text c.next-stop.ensures.valid p.within p.directory w.out.now l.self.out.now l.self.text l.c l.invariant.written (rw c.next-stop.ensures.value at c.loop-c-test.true) in rw c.reborrow-source.ensures (
      omega (arith, c.decreases, l.invariant.written.low, u.inside),
      (omega (arith, l.invariant.written.low), (u.inside, (u.parent, u.room c.requires.room))),
    )

pub write_directory-loop-c-preserved : goal.write_directory-loop-c-preserved
write_directory-loop-c-preserved t c =
    let tab = c.args.source.now in
    let p = c.requires in
    let w = c.args.self.now in
    let l = c.loop-c in
    let e = rw c.reborrow-source.ensures at c.write_entry-c.ensures in
    let u = turn tab (count tab) c.args.k w.text c.next-stop.ensures.valid p.within p.directory w.out.now l.self.out.now l.self.text l.c l.invariant.written (rw c.next-stop.ensures.value at c.loop-c-test.true) in
    record { written = u.again _ _ _ e.text e.out e.length e.next; same_reference = e.same_reference ∙ l.invariant.same_reference }

pub write_entry-write_one-requires-clause-room : goal.write_entry-write_one-requires-clause-room
write_entry-write_one-requires-clause-room t c =
    let tab = c.args.source.now in
    let w = c.args.self.now in
    room-one tab (count tab) c.args.k w.text c.kind-kind.ensures.valid c.requires.within (length w.out.now) c.requires.room

pub write_entry-write_directory-requires : goal.write_entry-write_directory-requires
write_entry-write_directory-requires t c =
    let tab = c.args.source.now in
    let w = c.args.self.now in
    let e = c.write_one.ensures in
    let d = sym c.in-Directory.ensures.value in (
      omega (arith, c.decreases),
      (
        c.requires.within,
        (d, room_in tab (count tab) c.args.k w.text c.kind-kind.ensures.valid c.requires.within (length w.out.now) c.requires.room d _ _ e.text e.length),
      ),
    )

pub write_entry-returns-in-Directory-clause-text : goal.write_entry-returns-in-Directory-clause-text
write_entry-returns-in-Directory-clause-text t c =
    let tab = c.args.source.now in
    let w = c.args.self.now in
    cc (texts-in tab (count tab) c.args.k w.text c.kind-kind.ensures.valid c.requires.within (length w.out.now) c.requires.room (sym c.in-Directory.ensures.value))

pub write_entry-returns-in-Directory-clause-out : goal.write_entry-returns-in-Directory-clause-out
write_entry-returns-in-Directory-clause-out t c =
    let tab = c.args.source.now in
    let w = c.args.self.now in
    cc (written_in tab (count tab) c.args.k w.text c.kind-kind.ensures.valid c.requires.within (length w.out.now) c.requires.room (sym c.in-Directory.ensures.value) w.out.now)
