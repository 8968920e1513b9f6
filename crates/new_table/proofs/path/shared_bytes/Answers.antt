-- `new_table::path::shared_bytes` meets its contract, byte by byte.
use Rattle.std.proofs.Common.{◌+◌, ◌<◌, ◌≤◌, length, arith, sym, ⊎_elim}
use Rattle.refusal.specs.Laws.Tests.{lt-or-le}
use Rattle.new_table.proofs.Sharing.{sharing-differ, sharing-slash, sharing-more, sharing-all, sharing-all_path}
use Rattle.new_table.proofs.path.shared_bytes.Goals as goal
use Rattle.new_table.proofs.path.shared_bytes.Goals.{then-path-i-eq47, else-path-i-eq47}

pub returns-then-before-i-clause-value : goal.returns-then-before-i-clause-value
returns-then-before-i-clause-value c =
    let b = c.args.before.now in
    let p = c.args.path.now in
    sym (sharing-differ b p c.loop-i.i c.loop-i.shared c.loop-i.invariant (omega (arith, c.min-i-end.ensures, c.loop-i-test.true)) (omega (arith, c.min-i-end.ensures, c.loop-i-test.true)) c.if-before-i.true)

pub loop-i-preserved : goal.loop-i-preserved
loop-i-preserved c =
    let b = c.args.before.now in
    let p = c.args.path.now in
    let in_b : c.loop-i.i < length b = omega (arith, c.min-i-end.ensures, c.loop-i-test.true) in
    let in_p : c.loop-i.i < length p = omega (arith, c.min-i-end.ensures, c.loop-i-test.true) in
    elim c.if-path-i-eq47.branch [
      | then-path-i-eq47 w ↦ sharing-slash b p c.loop-i.i c.loop-i.shared c.loop-i.invariant in_b in_p (c.loop-i.i + 1) c.if-path-i-eq47.shared (omega arith) (omega (arith, w.shared-is)) c.if-before-i.false w.if-path-i-eq47.true
      | else-path-i-eq47 w ↦ rw w.shared-is (sharing-more b p c.loop-i.i c.loop-i.shared c.loop-i.invariant in_b in_p (c.loop-i.i + 1) (omega arith) c.if-before-i.false w.if-path-i-eq47.false)
    ]

pub returns-clause-value : goal.returns-clause-value
returns-clause-value c =
    let b = c.args.before.now in
    let p = c.args.path.now in
    ⊎_elim (λ (h : c.loop-i.i < length b). sym (sharing-all_path b p c.loop-i.i c.loop-i.shared c.loop-i.invariant (omega (arith, c.min-i-end.ensures, c.loop-i-test.false))))
    (λ (h : length b ≤ c.loop-i.i). sym (sharing-all b p c.loop-i.i c.loop-i.shared c.loop-i.invariant h))
    (lt-or-le c.loop-i.i (length b))
