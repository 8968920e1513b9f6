-- `table::acceptance::refused_entry` meets its contract: each return by the tests that led there. Entries that pass stand in the table.
use Rattle.std.proofs.Common.{◌≡◌, sym, ◌∙◌, arith, ◌-◌, is_err, true, false}
use borrow.Author.Tests.{lt-ltb, le-ltb, ne_eqb, eq-eqb}
use lib.ListN.{length}
use Rattle.refusal.specs.Laws.Chains.{not-refused}
use Rattle.tree.specs.Table.{kind, count, entries_verdict}
use Rattle.tree.specs.Faults.{is_refused_before_entries, is_refused_behind_entries}
use Rattle.table.proofs.Walking.{entries-inside, count-some, root-passed, entry-of-root, entry-of-entries, entry-of-texts, entry-of-walk}
use Rattle.table.proofs.acceptance.refused_entry.Goals as goal

pub returns-then-table-lt12 : goal.returns-then-table-lt12
returns-then-table-lt12 c =
    let T = c.args.table.now in
    let r : is_refused_before_entries T ≡ true = rw (lt-ltb (length T) 12 c.if-table-lt12.true) in
    entry-of-root T c.args.words r

pub returns-then-table-ne1 : goal.returns-then-table-ne1
returns-then-table-ne1 c =
    let T = c.args.table.now in
    let r : is_refused_before_entries T ≡ true = rw (le-ltb (length T) 12 c.if-table-lt12.false, ne_eqb (kind T 0) 1 c.if-table-ne1.true) in
    entry-of-root T c.args.words r

pub returns-then-count-gt-ENTRIES_LIMIT : goal.returns-then-count-gt-ENTRIES_LIMIT
returns-then-count-gt-ENTRIES_LIMIT c =
    let T = c.args.table.now in
    let r : is_refused_before_entries T ≡ true =
    rw (le-ltb (length T) 12 c.if-table-lt12.false, eq-eqb (kind T 0) 1 c.if-table-ne1.false, lt-ltb 16384 (count T) (omega arith)) in
    entry-of-root T c.args.words r

pub entries_verdict-requires-clause-root : goal.entries_verdict-requires-clause-root
entries_verdict-requires-clause-root c = omega (arith, count-some c.args.table.now)

pub first_refused-requires-clause-root : goal.first_refused-requires-clause-root
first_refused-requires-clause-root c = omega (arith, count-some c.args.table.now)

pub returns-then-is_err : goal.returns-then-is_err
returns-then-is_err c =
    let T = c.args.table.now in
    let root : is_refused_before_entries T ≡ false = root-passed T (omega arith) c.if-table-ne1.false (omega arith) in
    let e : is_err (entries_verdict T 1 (count T - 1)) ≡ true =
    rw (← c.count-count.ensures, ← c.entries_verdict.ensures) (sym c.is_err.ensures.value ∙ c.if-is_err.true) in
    sym (entry-of-entries T c.args.words root e ∙ rw (← c.count-count.ensures) (sym c.first_refused.ensures))

pub invariant_of-entries : goal.invariant_of-entries
invariant_of-entries c =
    let p = not-refused c.entries_verdict.result (sym c.is_err.ensures.value ∙ c.if-is_err.false) in
    record {
      inside = entries-inside c.args.table.now c.count-count.result (omega arith) (omega (arith, count-some c.args.table.now)) (omega arith) (sym (sym p ∙ c.entries_verdict.ensures));
    }

pub returns-then-is_refused_behind_entries : goal.returns-then-is_refused_behind_entries
returns-then-is_refused_behind_entries c =
    let T = c.args.table.now in
    let root : is_refused_before_entries T ≡ false = root-passed T (omega arith) c.if-table-ne1.false (omega arith) in
    let e : is_err (entries_verdict T 1 (count T - 1)) ≡ false =
    rw (← c.count-count.ensures, ← c.entries_verdict.ensures) (sym c.is_err.ensures.value ∙ c.if-is_err.false) in
    let t : is_refused_behind_entries T (count T) c.args.words ≡ true = rw (← c.count-count.ensures) (sym c.is_refused_behind_entries.ensures ∙ c.if-is_refused_behind_entries.true) in
    entry-of-texts T c.args.words root e t

pub returns : goal.returns
returns c =
    let T = c.args.table.now in
    let root : is_refused_before_entries T ≡ false = root-passed T (omega arith) c.if-table-ne1.false (omega arith) in
    let e : is_err (entries_verdict T 1 (count T - 1)) ≡ false =
    rw (← c.count-count.ensures, ← c.entries_verdict.ensures) (sym c.is_err.ensures.value ∙ c.if-is_err.false) in
    let t : is_refused_behind_entries T (count T) c.args.words ≡ false = rw (← c.count-count.ensures) (sym c.is_refused_behind_entries.ensures ∙ c.if-is_refused_behind_entries.false) in
    sym (entry-of-walk T c.args.words root e t ∙ rw (← c.count-count.ensures) (sym c.walk_refused.ensures))
