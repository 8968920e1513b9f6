-- `table::text::clean_to` meets its contract. The invariant of its loop: no byte passed is a lead byte, and the rest has the answer of the whole.
use native.Mathlib.Omega.{arith}
use mathlib.Core.Path.{refl, sym, ◌∙◌}
use Rattle.table.proofs.Texts.{clean-next}
use Rattle.table.proofs.text.clean_to.Goals as goal

pub loop-end-preserved : goal.loop-end-preserved
loop-end-preserved c =
    (clean-next _ _ _ _ c.loop-end-test.true (sym c.is_clean.ensures ∙ c.if-not-is_clean.false) refl c.loop-end.invariant.0, omega (arith, c.loop-end-test.true))
