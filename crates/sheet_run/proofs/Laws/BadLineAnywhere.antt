-- One bad line anywhere, and none is run. Assumes nothing.
use Rattle.sheet.proofs.Laws.CheckedWhole.{checked-whole}
use Rattle.sheet_run.specs.Run.{sheet_run}
use Rattle.sheet_run.specs.Theorem.{BadLineAnywhere}

pub bad-line-anywhere : BadLineAnywhere
unfolding sheet_run
bad-line-anywhere sheet team l i c h e = rw ((checked-whole sheet).bad i c h e)
