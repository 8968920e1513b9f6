-- `clearing::as_cheap_as_any` meets its contract: the theorem is proved in proofs/Laws/AsCheapAsAny.
use Rattle.clearing.proofs.Laws.AsCheapAsAny.{as-cheap-as-any}
use Rattle.clearing.proofs.theorems.as_cheap_as_any.Goals as goal

pub returns : goal.returns
returns c = as-cheap-as-any
