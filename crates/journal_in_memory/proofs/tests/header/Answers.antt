use Rattle.std.proofs.Common.{sym, arith, length-take-le}
use Rattle.journal_in_memory.proofs.tests.header.Goals as goal

pub slice_bounds-result-end : goal.slice_bounds-result-end
slice_bounds-result-end c = sym (length-take-le 1088 c.args.image.now (omega arith))

pub returns-clause-long : goal.returns-clause-long
returns-clause-long c = length-take-le 1088 c.args.image.now (omega arith)
