-- `allocation::better` meets its contract: one law for each answer.
use Rattle.std.proofs.Common.{sym, arith}
use Rattle.space.proofs.Choice.{better-none, better-less, better-takes}
use Rattle.space.proofs.allocation.better.Goals as goal

pub returns-in_default-clause-better : goal.returns-in_default-clause-better
returns-in_default-clause-better c = better-none _ _ _ _ (sym c.in_default.ensures)

pub returns-in-Some-best-clause-better : goal.returns-in-Some-best-clause-better
returns-in-Some-best-clause-better c = rw c.in-Some-best.is (better-less _ _ _ _ _ (sym c.in-Some.ensures) c.if-rest-best.true)

pub returns-in_default-best-clause-better : goal.returns-in_default-best-clause-better
returns-in_default-best-clause-better c = rw c.in-Some-best.is (better-takes _ _ _ _ _ (sym c.in-Some.ensures) c.if-rest-best.false)

pub returns-in_default-best-2-clause-better : goal.returns-in_default-best-2-clause-better
returns-in_default-best-2-clause-better c = rw c.in_default-best.is (better-takes _ _ _ _ _ (sym c.in-Some.ensures) (omega arith))
