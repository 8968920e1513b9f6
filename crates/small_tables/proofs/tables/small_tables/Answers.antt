-- `small_tables` meets its contract: it refuses what the answer refuses, and else starts with the root alone.
use Rattle.std.proofs.Common.{◌≡◌, ◌∙◌, false, refl, sym, arith}
use Rattle.std.proofs.lemmas.Bool.{false≢true, false_from_ne_true}
use Rattle.small_tables.specs.Tables.{is_small}
use Rattle.small_tables.proofs.Answering.{small-bounds, answer-not_small, answer-short, answer-accepted}
use Rattle.small_tables.proofs.Answering.{list-refused, list-accepted, tables-long, start-begun, start-tables}
use Rattle.small_tables.proofs.tables.small_tables.Goals as goal

not_small : (c : goal.In_default) → is_small c.args.entries ≡ false
not_small c = false_from_ne_true (is_small c.args.entries) (λ small. false≢true (c.in_default.ensures.small.1 small))

pub returns-in_default-clause-answer : goal.returns-in_default-clause-answer
returns-in_default-clause-answer c = sym (answer-not_small c.args.entries c.args.list.now (not_small c))

pub returns-in_default-clause-list_after : goal.returns-in_default-clause-list_after
returns-in_default-clause-list_after c =
    sym (list-refused _ _ (answer-not_small c.args.entries c.args.list.now (not_small c)))

pub returns-then-list-number-clause-answer : goal.returns-then-list-number-clause-answer
returns-then-list-number-clause-answer c =
    let e = c.in-Some.ensures in
    sym (answer-short c.args.entries c.args.list.now (e.small.0 refl) _ _ e.number c.table_size.ensures c.if-list-number.true)

pub returns-then-list-number-clause-list_after : goal.returns-then-list-number-clause-list_after
returns-then-list-number-clause-list_after c =
    let e = c.in-Some.ensures in
    sym (list-refused _ _ (answer-short c.args.entries c.args.list.now (e.small.0 refl) _ _ e.number c.table_size.ensures c.if-list-number.true))

pub write_each-requires-clause-begun : goal.write_each-requires-clause-begun
write_each-requires-clause-begun c =
    let b = small-bounds c.args.entries (c.in-Some.ensures.small.0 refl) in
    start-begun c.args.entries _ b.0 b.1

pub write_each-requires-clause-room : goal.write_each-requires-clause-room
write_each-requires-clause-room c =
    let e = c.in-Some.ensures in
    let b = small-bounds c.args.entries (e.small.0 refl) in
    let l = tables-long c.args.entries c.args.list.now (e.small.0 refl) _ _ e.number c.table_size.ensures in
    rw (start-tables c.args.entries _ b.0 b.1) (omega (arith, l, c.if-list-number.false))

pub returns-clause-answer : goal.returns-clause-answer
returns-clause-answer c =
    let e = c.in-Some.ensures in
    sym (answer-accepted c.args.entries c.args.list.now (e.small.0 refl) _ _ e.number c.table_size.ensures c.if-list-number.false)

pub returns-clause-list_after : goal.returns-clause-list_after
returns-clause-list_after c =
    let e = c.in-Some.ensures in
    let b = small-bounds c.args.entries (e.small.0 refl) in
    c.write_each.ensures.list
    ∙ rw (start-tables c.args.entries _ b.0 b.1) (sym (list-accepted c.args.entries c.args.list.now (e.small.0 refl) _ _ e.number c.table_size.ensures c.if-list-number.false))
