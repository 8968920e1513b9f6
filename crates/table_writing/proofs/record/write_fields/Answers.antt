-- `table_writing::record::write_fields` meets its contract: its four stores, one right behind the other, put the entry's 12 bytes.
use Prim.Native.Nat.{◌*◌}
use Rattle.table_writing.proofs.Puts.{put-fields}
use Rattle.table_writing.proofs.record.write_fields.Goals as goal

pub returns : goal.returns
returns c =
    cc (put-fields c.args.out.now (12 * c.args.k) _ c.args.name c.args.place c.args.next c.requires.within)
