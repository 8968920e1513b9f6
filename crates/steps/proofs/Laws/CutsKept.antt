-- What holds after any list of calls holds of an image that was cut off between two of the three, after the list. Assumes nothing.
use Rattle.std.specs.Prelude.{ℕ, List}
use Rattle.ledger.specs.Ledger.{Ledger, first_ledger, ledger_after}
use Rattle.ledger.specs.Runs.{image_after_all, reports_of}
use Rattle.ledger.proofs.Laws.Kept.{Kept}
use Rattle.ledger.proofs.Laws.Sequence.{start, along}
use Rattle.ledger.proofs.Laws.ProgramKept.{ProgramKept, kept_trans}
use Rattle.ledger.proofs.Laws.ProgramAfter.{program-along}
use Rattle.ledger.proofs.Laws.AfterAnyList.{kept-holds}
use Rattle.steps.specs.Theorem.{CutsKept}
use Rattle.steps.proofs.Laws.ThreeCalls.{kept-through, program-through}

-- THEOREM
pub cuts-kept : CutsKept
cuts-kept first w₀ w calls b e h within ed a words bytes place lent v =
    let image : List ℕ = image_after_all calls first in
    let l : Ledger = ledger_after (reports_of calls first) (first_ledger first) in
    let k₀ : Kept w first (first_ledger first) = start first w₀ w h b e in
    let k : Kept w image l = along w calls first (first_ledger first) within k₀ in
    let p : ProgramKept first image = program-along w calls first (first_ledger first) within k₀ in
    let kept = kept-through ed a image words bytes place k.bytes v w lent l k in
    let program = program-through ed a image words bytes place k.bytes v in
    (kept-holds first w₀ w b e _ _ kept.0 (kept_trans first image _ p program.0), kept-holds first w₀ w b e _ _ kept.1 (kept_trans first image _ p program.1))
