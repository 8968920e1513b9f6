use Rattle.journal.proofs.Brought.{step_none}
use Rattle.journal.proofs.pieces.write_step.Goals as goal

pub returns-then-step-eq0-clause-done : goal.returns-then-step-eq0-clause-done
returns-then-step-eq0-clause-done g c = λ k. step_none _ c.args.step c.requires.fits c.if-step-eq0.true
