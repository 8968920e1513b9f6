-- How many shapes there are is in proofs/Laws/Numbers.
use Rattle.std.proofs.Common.{sym}
use Rattle.small_tables.proofs.Laws.Numbers.{numbers}
use Rattle.small_tables.proofs.tables.number_of_shapes.Goals as goal

pub returns-in-1-clause-number : goal.returns-in-1-clause-number
returns-in-1-clause-number c = rw c.in-1.is (sym numbers.0)

pub returns-in-2-clause-number : goal.returns-in-2-clause-number
returns-in-2-clause-number c = rw c.in-2.is (sym numbers.2)

pub returns-in-3-clause-number : goal.returns-in-3-clause-number
returns-in-3-clause-number c = rw c.in-3.is (sym numbers.3)

pub returns-in-4-clause-number : goal.returns-in-4-clause-number
returns-in-4-clause-number c = rw c.in-4.is (sym numbers.4)

pub returns-in-5-clause-number : goal.returns-in-5-clause-number
returns-in-5-clause-number c = rw c.in-5.is (sym numbers.5)

pub returns-in-6-clause-number : goal.returns-in-6-clause-number
returns-in-6-clause-number c = rw c.in-6.is (sym numbers.6)

pub returns-in-7-clause-number : goal.returns-in-7-clause-number
returns-in-7-clause-number c = rw c.in-7.is (sym numbers.7)

pub returns-in-8-clause-number : goal.returns-in-8-clause-number
returns-in-8-clause-number c = rw c.in-8.is (sym numbers.8)
