-- `counter::headers::counter_header` meets its contract, by the cases of the verdict.
use Rattle.std.proofs.Common.{rules, arith}
use Rattle.counter.proofs.HeaderBytes.{header-written, header_refused}
use Rattle.counter.proofs.headers.counter_header.Goals as goal

pub returns-in-Ok : goal.returns-in-Ok
returns-in-Ok c =
    rw (c.give.ensures.number, c.write_to.ensures.value, c.write_to.ensures.image_after) (header-written c.args.image.now c.args.fields.now _ c.in-Ok.ensures (λ i. omega (arith, c.type_inv.image i)) (search rules))

pub returns-in-Err : goal.returns-in-Err
returns-in-Err c = rw c.into.ensures (header_refused c.args.image.now c.args.fields.now _ c.in-Err.ensures)
