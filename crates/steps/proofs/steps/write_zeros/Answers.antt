-- `steps::write_zeros` meets its contract: no byte put changes nothing, and otherwise it is the fill.
use Rattle.std.proofs.Common.{sym, arith}
use Rattle.steps.proofs.Laws.Parting.{zeroed-empty}
use Rattle.steps.proofs.steps.write_zeros.Goals as goal

pub returns-then-span-eq0 : goal.returns-then-span-eq0
returns-then-span-eq0 c = sym (zeroed-empty _ _ (omega arith))
