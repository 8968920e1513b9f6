-- `Writer::write_one` meets its contract: a record and then a name are what one step of `write_flat` writes.
use mathlib.Core.Path.{refl}
use native.Mathlib.Omega.{arith}
use Rattle.tree.specs.Table.{count}
use Rattle.table_writing.proofs.Sources.{held}
use Rattle.table_writing.proofs.Split.{text-one, write-one}
use Rattle.table_writing.proofs.writer.Writer.write_one.Goals as goal

pub write_record-requires-clause-within : goal.write_record-requires-clause-within
write_record-requires-clause-within c = rw c.bytes.ensures.bytes (held _ _ _ c.args.k c.bytes.ensures.valid refl c.requires.within).whole

pub write_record-requires-clause-known : goal.write_record-requires-clause-known
write_record-requires-clause-known c = rw c.bytes.ensures.bytes (held _ _ _ c.args.k c.bytes.ensures.valid refl c.requires.within).known

pub write_record-requires-clause-room : goal.write_record-requires-clause-room
write_record-requires-clause-room c =
    let tab = c.args.source.now in
    let e = text-one tab (count tab) c.args.k c.args.self.now.text in
    omega (arith, c.requires)

pub write_record-requires-clause-past : goal.write_record-requires-clause-past
write_record-requires-clause-past c = rw c.count.ensures.value c.requires.room.past

pub write_record-requires-clause-small : goal.write_record-requires-clause-small
write_record-requires-clause-small c =
    let tab = c.args.source.now in
    let e = text-one tab (count tab) c.args.k c.args.self.now.text in
    omega (arith, c.requires)

pub write_name-self-requires-clause-room : goal.write_name-self-requires-clause-room
write_name-self-requires-clause-room c =
    let tab = c.args.source.now in
    let e = text-one tab (count tab) c.args.k c.args.self.now.text in
    omega (arith, c.requires, c.write_record.auto.out)

pub returns-clause-text : goal.returns-clause-text
returns-clause-text c =
    let tab = c.args.source.now in
    cc (text-one tab (count tab) c.args.k c.args.self.now.text)

pub returns-clause-out : goal.returns-clause-out
returns-clause-out c =
    let tab = c.args.source.now in
    let r = rw (c.count.ensures.value, c.bytes.ensures.bytes) at c.write_record.ensures in
    cc (write-one tab (count tab) c.args.k c.args.self.now.text c.args.self.now.out.now)
