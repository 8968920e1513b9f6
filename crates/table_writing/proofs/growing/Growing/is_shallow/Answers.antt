-- `Growing::is_shallow` meets its contract. The invariant of its loop: so many directories around p were passed, and those around the one where
-- it stands are left.
use mathlib.Core.Path.{sym, ◌∙◌}
use native.Mathlib.Omega.{arith}
use Rattle.table_writing.proofs.StandingTable.{counted-none, depth-turn, shallow, deep}
use Rattle.table_writing.proofs.growing.Growing.is_shallow.Goals as goal

pub loop-init : goal.loop-init
loop-init c = search counted-none

pub returns-then-around-eq0 : goal.returns-then-around-eq0
returns-then-around-eq0 c = search shallow

pub parent-around-requires : goal.parent-around-requires
parent-around-requires c = c.loop.invariant.is

pub loop-preserved : goal.loop-preserved
loop-preserved c =
    depth-turn _ _ _ _ _ _ _ c.args.self.now.stands c.loop.invariant (omega (arith, c.if-around-eq0.false)) c.parent-around.ensures

pub returns : goal.returns
returns c = search (deep, sym c.is_directory.ensures ∙ c.if-not-is_directory.false)
