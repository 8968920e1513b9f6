-- `steps::check_span` meets its contract: opening's refusal, or 29 by what the open disc tells.
use Rattle.std.proofs.Common.{arith}
use Rattle.std.proofs.lemmas.Result.{err_from_is_err_and}
use Rattle.steps.proofs.Zeroing.{unopened, not-free, free}
use Rattle.steps.proofs.steps.check_span.Goals as goal

pub returns-in_err-disc : goal.returns-in_err-disc
returns-in_err-disc c =
    let p = err_from_is_err_and c.from_residual.result c.from_residual.ensures.1 in
    rw (p.1, p.2) (unopened _ _ _ _ (rw c.in_err-disc.was at c.of_image.ensures))

pub returns-then-max_region_size-span : goal.returns-then-max_region_size-span
returns-then-max_region_size-span c = not-free _ _ _ c.in_ok-disc.ensures _ _ c.max_region_size.ensures (omega arith)

pub returns : goal.returns
returns c = free _ _ _ c.in_ok-disc.ensures _ _ c.max_region_size.ensures (omega arith)
