-- `new_table::measured::NewTable::measure` meets its contract: all limits have one cause.
use Rattle.std.proofs.Common.{◌+◌, ◌*◌, arith, length, [], sym, ◌∙◌}
use Rattle.wish_list.specs.Paths.{paths_in}
use Rattle.new_table.specs.Inner.Sizes.{IsSizeOf}
use Rattle.new_table.proofs.Lists.{ended, is-ok}
use Rattle.new_table.proofs.Limits.{small-entries, small-texts, tree-entries, tree-size, limits-small, limits-few_words, limits-large}
use Rattle.new_table.proofs.measured.NewTable.measure.Goals as goal
use Rattle.new_table.proofs.measured.NewTable.measure.Goals.{in_default-via-in-Some+else-size-words, in_default-via-in_default}

pub of-requires : goal.of-requires
of-requires c = record { ended = ended c.args.list.now.paths.now (length c.args.list.now.sizes.now) c.args.list.now.accepted }

pub overflow_add-size : goal.overflow_add-size
overflow_add-size c =
    let s : IsSizeOf c.in-Some.size (paths_in c.args.list.now.paths.now) = c.in-Some.ensures.some in
    omega (arith, small-entries (paths_in c.args.list.now.paths.now) s.small)

pub overflow_mul-result : goal.overflow_mul-result
overflow_mul-result c =
    let s : IsSizeOf c.in-Some.size (paths_in c.args.list.now.paths.now) = c.in-Some.ensures.some in
    omega (arith, small-entries (paths_in c.args.list.now.paths.now) s.small)

pub overflow_add-result : goal.overflow_add-result
overflow_add-result c =
    let s : IsSizeOf c.in-Some.size (paths_in c.args.list.now.paths.now) = c.in-Some.ensures.some in
    omega (arith, small-entries (paths_in c.args.list.now.paths.now) s.small, small-texts (paths_in c.args.list.now.paths.now) s.small)

pub invariant_of-result : goal.invariant_of-result
invariant_of-result c =
    let list = c.args.list.now in
    let ps = paths_in list.paths.now in
    let s : IsSizeOf c.in-Some.size ps = c.in-Some.ensures.some in
    record {
      accepted = list.accepted;
      counted = s.entries ∙ sym (tree-entries ps list.sizes.now []);
      measured = omega (arith, s.entries, s.texts, tree-size ps list.sizes.now []);
      within = is-ok _ (limits-small ps list.sizes.now [] (4 * (c.in-Some.size.entries + 2)) s.small (omega (arith, s.entries)));
    }

pub returns-in-Some-clause-ok : goal.returns-in-Some-clause-ok
returns-in-Some-clause-ok c =
    let list = c.args.list.now in
    let ps = paths_in list.paths.now in
    let s : IsSizeOf c.in-Some.size ps = c.in-Some.ensures.some in
    limits-small ps list.sizes.now [] c.args.words s.small (omega (arith, s.entries, c.if-size-words.true))

pub returns-in_default-clause-err : goal.returns-in_default-clause-err
returns-in_default-clause-err c =
    let list = c.args.list.now in
    let ps = paths_in list.paths.now in
    elim c.in_default.branch [
      | in_default-via-in-Some+else-size-words w ↦
          let s : IsSizeOf w.in-Some.size ps = w.in-Some.ensures.some in
          limits-few_words ps list.sizes.now [] c.args.words (omega (arith, s.entries, w.if-size-words.false))
      | in_default-via-in_default w ↦ limits-large ps list.sizes.now [] c.args.words w.in_default.ensures.none
    ]
