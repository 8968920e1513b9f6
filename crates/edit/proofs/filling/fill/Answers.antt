-- `edit::filling::fill` meets its contract: 15 and 16, a clip that is too long, then the resize of the file that was found.
use Rattle.std.proofs.Common.{arith, sym, ◌∙◌}
use Rattle.std.proofs.lemmas.Result.{err_from_is_err_and}
use Rattle.edit.proofs.FillOutcomes.{no-file-to-fill, clip-too-long, not-resized, filled-by}
use Rattle.edit.proofs.filling.fill.Goals as goal

pub returns-in_err-file : goal.returns-in_err-file
returns-in_err-file c =
    let a = c.args in
    let p = err_from_is_err_and c.from_residual.result c.from_residual.ensures.1 in
    rw (p.1, p.2) (λ clip b l image m. no-file-to-fill image a.disc.now m a.bytes.now _ clip a.number _ c.file_on_disc.ensures.answer _ c.in_err-file.was)

pub returns-in_default : goal.returns-in_default
returns-in_default c =
    let a = c.args in
    λ clip b l image m. clip-too-long image a.disc.now m a.bytes.now _ clip a.number _ c.file_on_disc.ensures.answer _ c.in_ok-file.was (omega (arith, l, c.in_default.ensures))

pub returns-in_err-decision : goal.returns-in_err-decision
returns-in_err-decision c =
    let a = c.args in
    let e = c.from_residual-in_err-decision in
    let p = err_from_is_err_and e.result e.ensures.1 in
    let n = c.in-Ok.ensures in
    rw (p.1, p.2)
    (λ clip b l image m. not-resized image a.disc.now m a.bytes.now _ clip a.number _ c.file_on_disc.ensures.answer _ c.in_ok-file.was c.resize.auto.bytes _ (omega (arith, n.0, l)) (n.1 ∙ sym l) _ (search c.in_err-decision.ensures))

pub returns : goal.returns
returns c =
    let a = c.args in
    let n = c.in-Ok.ensures in
    λ clip b l image m. filled-by image a.disc.now m a.bytes.now _ clip a.number _ c.file_on_disc.ensures.answer _ c.in_ok-file.was c.resize.auto.bytes _ (omega (arith, n.0, l)) (n.1 ∙ sym l) _ _ (search c.in_ok-decision.ensures) c.with_clip.ensures
