-- `make_directories` meets its contract: refused by the tests that need no memory, or what the table comes to.
use Rattle.std.proofs.Common.{rules, length, refl, sym, ap, ◌∙◌}
use Rattle.std.proofs.lemmas.Result.{err_from_is_err_and}
use Rattle.edit.proofs.Plans.{path-refused, starts-inside, makes-all, start-refused, made-refused, made-small, made-placed}
use Rattle.edit.proofs.directories.make_directories.Goals as goal

pub returns-in_err-check_path : goal.returns-in_err-check_path
returns-in_err-check_path c =
    let p = err_from_is_err_and c.from_residual.result c.from_residual.ensures.1 in
    rw (p.1, p.2) (path-refused c.args.disc.now c.args.start c.args.path.now _ _ _ (sym c.check_path.ensures.answer ∙ c.in_err-check_path.was))

pub returns-in_err-size : goal.returns-in_err-size
returns-in_err-size c =
    let e = c.from_residual-in_err-size in
    let p = err_from_is_err_and e.result e.ensures.1 in
    let passed = sym c.check_path.ensures.answer ∙ c.in_ok-check_path.was in
    rw (p.1, p.2)
    (start-refused c.args.disc.now c.args.start c.args.path.now passed c.check_path.ensures.well_formed _ _ _ refl _ (rw c.in_err-size.was at c.start_table.ensures.built))

pub make_along-requires : goal.make_along-requires
make_along-requires c =
    let passed = sym c.check_path.ensures.answer ∙ c.in_ok-check_path.was in
    let tree = c.new-table.ensures.tree ∙ c.in_ok-size.ensures.tree in
    record {
      start_inside = rw tree (starts-inside c.args.disc.now c.args.start c.args.path.now passed);
      untroubled = rw tree (makes-all c.args.disc.now c.args.start c.args.path.now passed);
    }

pub returns-in_err-entry : goal.returns-in_err-entry
returns-in_err-entry c =
    let e = c.from_residual-in_err-entry in
    let p = err_from_is_err_and e.result e.ensures.1 in
    let passed = sym c.check_path.ensures.answer ∙ c.in_ok-check_path.was in
    let tree = c.new-table.ensures.tree ∙ c.in_ok-size.ensures.tree in
    let words = c.make_along.ensures.same_words ∙ c.new-table.ensures.words ∙ c.lent_words.ensures in
    let long = ap length c.new-table.ensures.bytes ∙ c.start_table.auto.bytes in
    rw (p.1, p.2)
    (made-refused c.args.disc.now c.args.start c.args.path.now passed c.check_path.ensures.well_formed _ _ _ tree _ long c.make_along.new.table words c.args.bytes.now refl _ (rw c.in_err-entry.was at c.make_along.ensures.reaches))

pub overflow_cast-entry : goal.overflow_cast-entry
overflow_cast-entry c =
    let passed = sym c.check_path.ensures.answer ∙ c.in_ok-check_path.was in
    let tree = c.new-table.ensures.tree ∙ c.in_ok-size.ensures.tree in
    let words = c.make_along.ensures.same_words ∙ c.new-table.ensures.words ∙ c.lent_words.ensures in
    record { fits = made-small c.args.disc.now c.args.start c.args.path.now passed c.check_path.ensures.well_formed (length c.new-table.result.bytes.now) c.args.bytes.now _ tree _ refl c.make_along.new.table words _ (rw c.in_ok-entry.was at c.make_along.ensures.reaches) }

pub returns : goal.returns
returns c =
    let passed = sym c.check_path.ensures.answer ∙ c.in_ok-check_path.was in
    let tree = c.new-table.ensures.tree ∙ c.in_ok-size.ensures.tree in
    let words = c.make_along.ensures.same_words ∙ c.new-table.ensures.words ∙ c.lent_words.ensures in
    let long = ap length c.new-table.ensures.bytes ∙ c.start_table.auto.bytes in
    let done = made-placed c.args.disc.now c.args.start c.args.path.now passed c.check_path.ensures.well_formed _ _ _ tree _ long c.make_along.new.table words _ (rw c.in_ok-entry.was at c.make_along.ensures.reaches) _ _ (c.make_along.ensures.same_length ∙ long) c.place_table.ensures in
    search (done, rules)
