-- `dol::refused_section` meets its contract. The invariant of its loop: what is left has the answer of the whole.
use Rattle.std.proofs.Common.{◌≡◌}
use Rattle.std.specs.List.{position_from}
use Rattle.executable.specs.Sections.{is_above}
use Rattle.executable.proofs.Turns.{sections_from}
use Rattle.executable.proofs.dol.refused_section.Given as goal

abbrev pub invariant-loop-i : goal.invariant-loop-i
invariant-loop-i l = position_from is_above 0 (sections_from l.image l.at 0) ≡ position_from is_above l.i (sections_from l.image l.at l.i)
