-- `clearing::each_candidate` meets its contract: the theorem is proved in proofs/Laws/EachCandidate.
use Rattle.clearing.proofs.Laws.EachCandidate.{each-candidate}
use Rattle.clearing.proofs.theorems.each_candidate.Goals as goal

pub returns : goal.returns
returns c = each-candidate
