-- `table_writing::record::write_name` meets its contract: the name and its zero byte stand one right behind the other.
use native.Mathlib.Omega.{arith}
use Rattle.table_writing.proofs.Records.{name_size_lem, text-is}
use Rattle.table_writing.proofs.record.write_name.Goals as goal

pub copy-requires : goal.copy-requires
copy-requires c =
    let e = name_size_lem _ _ _ c.args.text c.args.out.now _ c.name-name.ensures c.requires.room in
    record { source = omega arith; target = omega (arith, e, c.requires.room) }

pub overflow_add-text : goal.overflow_add-text
overflow_add-text c =
    let e = name_size_lem _ _ _ c.args.text c.args.out.now _ c.name-name.ensures c.requires.room in
    omega (arith, e, c.requires.room)

pub write_u8-requires : goal.write_u8-requires
write_u8-requires c =
    let e = name_size_lem _ _ _ c.args.text c.args.out.now _ c.name-name.ensures c.requires.room in
    omega (arith, e, c.requires.room)

pub overflow_add-result-2 : goal.overflow_add-result-2
overflow_add-result-2 c =
    let e = name_size_lem _ _ _ c.args.text c.args.out.now _ c.name-name.ensures c.requires.room in
    omega (arith, e, c.requires.room)

pub returns : goal.returns
returns c =
    let e = name_size_lem _ _ _ c.args.text c.args.out.now _ c.name-name.ensures c.requires.room in
    record { value = omega (arith, e); out_after = cc (text-is _ _ _ c.args.text c.args.out.now _ c.name-name.ensures c.requires.room) }
