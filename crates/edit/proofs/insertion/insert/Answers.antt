-- `edit::insertion::insert` meets its contract: refused by the tests of the entry, or as what the table with the entry comes to.
use Rattle.std.proofs.Common.{length, arith, refl, ap, ◌∙◌}
use Rattle.std.proofs.lemmas.Result.{err_from_is_err_and}
use Rattle.edit.proofs.BuiltTable.{well-disc}
use Rattle.edit.proofs.InsertionLaws.{allowed, not-started, not-grown, number-small}
use Rattle.edit.proofs.insertion.insert.Goals as goal

pub returns-in_err-size : goal.returns-in_err-size
returns-in_err-size c =
    let e = c.from_residual-in_err-size in
    let p = err_from_is_err_and e.result e.ensures.1 in
    let d = c.args.disc.now in
    let judged = rw (c.new.ensures, c.table.ensures.nodes) at c.check.ensures in
    rw (p.1, p.2)
    (not-started c.args.new.kind d c.args.new.parent c.args.new.name.now _ judged c.in_ok-check.was (well-disc d _ c.table.ensures.of_image) _ _ _ refl _ (rw c.in_err-size.was at c.start_table.ensures.built))

pub grow-requires : goal.grow-requires
grow-requires c =
    let d = c.args.disc.now in
    let judged = rw (c.new.ensures, c.table.ensures.nodes) at c.check.ensures in
    let a = allowed c.args.new.kind d c.args.new.parent c.args.new.name.now _ judged c.in_ok-check.was in
    let tree = c.new-table.ensures.tree ∙ c.in_ok-size.ensures.tree in
    record { directory = rw tree a.0; name = a.1 }

pub returns-in_err-number : goal.returns-in_err-number
returns-in_err-number c =
    let e = c.from_residual-in_err-number in
    let p = err_from_is_err_and e.result e.ensures.1 in
    let d = c.args.disc.now in
    let judged = rw (c.new.ensures, c.table.ensures.nodes) at c.check.ensures in
    let tree = c.new-table.ensures.tree ∙ c.in_ok-size.ensures.tree in
    let words = c.new-table.ensures.words ∙ c.lent_words.ensures in
    let held = ap length c.new-table.ensures.bytes ∙ c.start_table.auto.bytes in
    rw (p.1, p.2)
    (not-grown c.args.new.kind d c.args.new.parent c.args.new.name.now _ judged c.in_ok-check.was (well-disc d _ c.table.ensures.of_image) _ _ _ held _ _ _ tree words
    (rw c.in_err-number.was at c.grow.ensures.built))

pub overflow_cast-number : goal.overflow_cast-number
overflow_cast-number c =
    let d = c.args.disc.now in
    let judged = rw (c.new.ensures, c.table.ensures.nodes) at c.check.ensures in
    let a = allowed c.args.new.kind d c.args.new.parent c.args.new.name.now _ judged c.in_ok-check.was in
    let tree = c.new-table.ensures.tree ∙ c.in_ok-size.ensures.tree in
    let number = rw tree at c.in_ok-number.ensures.number in
    record { fits = omega (arith, number, number-small d.disc.nodes d.words c.args.new.parent (well-disc d _ c.table.ensures.of_image) c.in_ok-size.ensures.built.0 a.0) }
