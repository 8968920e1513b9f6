-- `program::read_at` meets its contract: by the DOL offset, then by the file size that its header says. Assumes nothing.
use Rattle.std.proofs.lemmas.Result.{err_from_is_err_and}
use Rattle.executable.proofs.Reading.{no_program, a_program, no_header}
use Rattle.executable.proofs.program.read_at.Goals as goal

pub returns-then-dol_offset-eq0 : goal.returns-then-dol_offset-eq0
returns-then-dol_offset-eq0 c = no_program _ _ _ c.if-dol_offset-eq0.true

pub returns-in_err-size : goal.returns-in_err-size
returns-in_err-size c =
    let p = err_from_is_err_and c.from_residual.result c.from_residual.ensures.1 in
    rw (p.1, p.2) (no_header _ _ _ c.if-dol_offset-eq0.false _ c.in_err-size.ensures)

pub returns : goal.returns
returns c = a_program _ _ _ c.if-dol_offset-eq0.false _ _ c.in_ok-size.ensures c.max-size.ensures
