-- `new_table::size::Size::of` meets its contract: each path adds its own part, and the first limit that is passed ends it.
use Rattle.std.proofs.Common.{◌≡◌, ◌-◌, length, take, drop, arith, ap, ◌∙◌}
use Rattle.new_table.specs.Inner.Steps.{slashes, own_part}
use Rattle.new_table.proofs.Measuring.{own-is, text-ends, too_deep, too_many, too_long, measured-more, measured-all}
use Rattle.new_table.proofs.size.Size.of.Goals as goal
use Rattle.new_table.proofs.size.Size.of.Goals.{then-entries-gt-ENTRIES_LIMIT-via-then-entries-gt-ENTRIES_LIMIT, then-entries-gt-ENTRIES_LIMIT-via-else-entries-gt-ENTRIES_LIMIT+then-texts-gt-TEXTS_LIMIT}

pub path_at-path-requires : goal.path_at-path-requires
path_at-path-requires c = text-ends c.args.paths.now c.loop-at.at c.loop-at-test.true c.requires.ended

pub returns-then-slashes-gt-DEPTH_LIMIT-clause-none : goal.returns-then-slashes-gt-DEPTH_LIMIT-clause-none
returns-then-slashes-gt-DEPTH_LIMIT-clause-none c =
    too_deep c.args.paths.now c.loop-at.before.now c.path_at-path.result.now c.loop-at.at c.loop-at.entries c.loop-at.texts c.loop-at.invariant c.loop-at-test.true c.requires.ended c.path_at-path.ensures
    (omega (arith, c.slashes.ensures, c.if-slashes-gt-DEPTH_LIMIT.true))

pub returns-then-entries-gt-ENTRIES_LIMIT-clause-none : goal.returns-then-entries-gt-ENTRIES_LIMIT-clause-none
returns-then-entries-gt-ENTRIES_LIMIT-clause-none c =
    let q = c.loop-at.before.now in
    let p = c.path_at-path.result.now in
    let o : take (length p - c.shared_bytes.result) (drop c.shared_bytes.result p) ≡ own_part q p = own-is q p c.shared_bytes.result c.shared_bytes.ensures.value in
    let n : c.slashes-in-loop-at.result ≡ slashes (own_part q p) = c.slashes-in-loop-at.ensures ∙ ap slashes o in
    let l : length (take (length p - c.shared_bytes.result) (drop c.shared_bytes.result p)) ≡ length (own_part q p) = ap length o in
    elim c.then-entries-gt-ENTRIES_LIMIT.branch [
      | then-entries-gt-ENTRIES_LIMIT-via-then-entries-gt-ENTRIES_LIMIT w ↦
          too_many c.args.paths.now q p c.loop-at.at c.loop-at.entries c.loop-at.texts c.loop-at.invariant c.loop-at-test.true c.requires.ended c.path_at-path.ensures (omega (arith, w.if-entries-gt-ENTRIES_LIMIT.true))
      | then-entries-gt-ENTRIES_LIMIT-via-else-entries-gt-ENTRIES_LIMIT+then-texts-gt-TEXTS_LIMIT w ↦
          too_long c.args.paths.now q p c.loop-at.at c.loop-at.entries c.loop-at.texts c.loop-at.invariant c.loop-at-test.true c.requires.ended c.path_at-path.ensures (omega (arith, w.if-texts-gt-TEXTS_LIMIT.true))
    ]

pub loop-at-preserved : goal.loop-at-preserved
loop-at-preserved c =
    let q = c.loop-at.before.now in
    let p = c.path_at-path.result.now in
    let o : take (length p - c.shared_bytes.result) (drop c.shared_bytes.result p) ≡ own_part q p = own-is q p c.shared_bytes.result c.shared_bytes.ensures.value in
    let n : c.slashes-in-loop-at.result ≡ slashes (own_part q p) = c.slashes-in-loop-at.ensures ∙ ap slashes o in
    let l : length (take (length p - c.shared_bytes.result) (drop c.shared_bytes.result p)) ≡ length (own_part q p) = ap length o in
    measured-more c.args.paths.now q p c.loop-at.at c.loop-at.entries c.loop-at.texts c.loop-at.invariant c.loop-at-test.true c.requires.ended c.path_at-path.ensures _ _ _
    (omega arith) (omega arith) (omega arith) (omega (arith, c.slashes.ensures)) (omega arith) (omega arith)

pub returns-clause-some : goal.returns-clause-some
returns-clause-some c =
    let m = measured-all c.args.paths.now c.loop-at.before.now c.loop-at.at c.loop-at.entries c.loop-at.texts c.loop-at.invariant c.loop-at-test.false in
    record { small = m.0; entries = m.1; texts = m.2 }
