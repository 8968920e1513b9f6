-- `faults::subject` meets its contract: each return by the tests that led there, and what they leave for the next.
use Rattle.std.proofs.Common.{Some, None, sym, ◌∙◌, arith}
use Rattle.opened.proofs.Stages.{about-header, about-table, opens_then, bounded, about-program, about-regions, owned-same}
use Rattle.opened.proofs.Tests.{end_fits, table-end-fits}
use Rattle.opened.proofs.faults.subject.Goals as goal

pub returns-then-is_err : goal.returns-then-is_err
returns-then-is_err c = about-header _ _ (rw (← c.check_bounds.ensures) (sym c.is_err.ensures.value ∙ c.if-is_err.true))

pub returns-in-Some : goal.returns-in-Some
returns-in-Some c =
    about-table c.args.image.now c.args.words c.check_bounds.result c.check_bounds.ensures (sym c.is_err.ensures.value ∙ c.if-is_err.false) c.table_of-table.result.now c.table_of-table.ensures c.check.result c.check.ensures
    (sym c.is_err-2.ensures.value ∙ c.if-is_err-2.true) (Some c.in-Some.k) c.in-Some.ensures

pub returns-in-None : goal.returns-in-None
returns-in-None c =
    about-table c.args.image.now c.args.words c.check_bounds.result c.check_bounds.ensures (sym c.is_err.ensures.value ∙ c.if-is_err.false) c.table_of-table.result.now c.table_of-table.ensures c.check.result c.check.ensures
    (sym c.is_err-2.ensures.value ∙ c.if-is_err-2.true) None c.in-None.ensures

pub returns-in-Some-refused_section : goal.returns-in-Some-refused_section
returns-in-Some-refused_section c =
    about-program c.args.image.now c.args.words c.check_bounds.result c.check_bounds.ensures (sym c.is_err.ensures.value ∙ c.if-is_err.false) c.table_of-table.result.now c.table_of-table.ensures c.check.result c.check.ensures (sym c.is_err-2.ensures.value ∙ c.if-is_err-2.false)
    c.read-program.result c.read-program.ensures (sym c.is_err-3.ensures.value ∙ c.if-is_err-3.true) (Some c.in-Some-refused_section.i) (rw c.dol_offset.ensures at c.in-Some-refused_section.ensures)

pub returns-in-None-refused_section : goal.returns-in-None-refused_section
returns-in-None-refused_section c =
    about-program c.args.image.now c.args.words c.check_bounds.result c.check_bounds.ensures (sym c.is_err.ensures.value ∙ c.if-is_err.false) c.table_of-table.result.now c.table_of-table.ensures c.check.result c.check.ensures (sym c.is_err-2.ensures.value ∙ c.if-is_err-2.false)
    c.read-program.result c.read-program.ensures (sym c.is_err-3.ensures.value ∙ c.if-is_err-3.true) None (rw c.dol_offset.ensures at c.in-None-refused_section.ensures)

pub overflow_cast-layout : goal.overflow_cast-layout
overflow_cast-layout c =
    let b = bounded c.args.image.now c.args.words c.check_bounds.result c.check_bounds.ensures (sym c.is_err.ensures.value ∙ c.if-is_err.false) c.table_of-table.result.now c.table_of-table.ensures c.check.result c.check.ensures (sym c.is_err-2.ensures.value ∙ c.if-is_err-2.false) (λ i. omega (arith, c.type_inv.image i)) in
    omega (arith, table-end-fits _ _ b c.table_end.ensures)

pub new-requires : goal.new-requires
new-requires c = opens_then c.args.image.now c.args.words c.check_bounds.result c.check_bounds.ensures (sym c.is_err.ensures.value ∙ c.if-is_err.false) c.table_of-table.result.now c.table_of-table.ensures c.check.result c.check.ensures (sym c.is_err-2.ensures.value ∙ c.if-is_err-2.false)

pub overflow_cast-disc_end : goal.overflow_cast-disc_end
overflow_cast-disc_end c =
    let b = bounded c.args.image.now c.args.words c.check_bounds.result c.check_bounds.ensures (sym c.is_err.ensures.value ∙ c.if-is_err.false) c.table_of-table.result.now c.table_of-table.ensures c.check.result c.check.ensures (sym c.is_err-2.ensures.value ∙ c.if-is_err-2.false) (λ i. omega (arith, c.type_inv.image i)) in
    omega (arith, end_fits _ _ b c.disc_end.ensures)

pub returns : goal.returns
returns c =
    let all = owned-same c.args.image.now _ _ _ _ _ (c.new.ensures ∙ c.table_of-table.ensures) c.table_end.ensures c.read-program.ensures c.fst_offset.ensures c.own_region.ensures in
    c.unwrap_or.ensures ∙ about-regions c.args.image.now c.args.words c.check_bounds.result c.check_bounds.ensures (sym c.is_err.ensures.value ∙ c.if-is_err.false) c.table_of-table.result.now c.table_of-table.ensures c.check.result c.check.ensures (sym c.is_err-2.ensures.value ∙ c.if-is_err-2.false)
    c.read-program.result c.read-program.ensures (sym c.is_err-3.ensures.value ∙ c.if-is_err-3.false) c.first_conflict.result (rw (all, c.disc_end.ensures) at c.first_conflict.ensures)
