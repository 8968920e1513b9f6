-- `run::run_lines` meets its contract: each step of its loop is one line more.
use Rattle.std.proofs.Common.{rules, arith, add-one, suc, length, ◌+◌, ◌≤◌}
use Rattle.sheet_run.proofs.Underway.{turn, stop, done}
use Rattle.sheet_run.proofs.run.run_lines.Goals as goal

pub returns-in-Err : goal.returns-in-Err
returns-in-Err c =
    let k = rw c.in-Some.ensures.steps at c.loop-line.invariant in
    rw add-one (stop _ _ _ _ _ _ _ _ _ _ _ _ _ _ _ _ _ k.underway k.words k.bytes _ (rw c.in-Err.is at c.run_line.ensures))

pub loop-line-preserved : goal.loop-line-preserved
loop-line-preserved c =
    let k = rw c.in-Some.ensures.steps at c.loop-line.invariant in
    let few : c.loop-line.number + suc (length c.next.new.self) ≤ 1024 = k.few in
    record {
      next = tt;
      ends = tt;
      underway = rw add-one (turn _ _ _ _ _ _ _ _ _ _ _ _ _ _ _ _ _ k.underway k.words k.bytes (rw c.in_default.is at c.run_line.ensures));
      few = omega arith;
      words = search rules;
      bytes = search rules;
    }

pub returns : goal.returns
returns c =
    let k = rw c.in-None.ensures.steps.0 at c.loop-line.invariant in
    done _ _ _ _ _ _ _ _ _ k.underway
