-- `space::overlaps::check` meets its contract: the test of the sorted regions is the test of the regions as they came.
use Rattle.std.proofs.Common.{rules, ◌∙◌, sym, arith}
use Rattle.space.proofs.Checking.{checked}
use Rattle.space.proofs.overlaps.check.Goals as goal

pub returns-then-is_in_sequence : goal.returns-then-is_in_sequence
returns-then-is_in_sequence c =
    let s = c.sort in
    let l = s.auto.words in
    checked _ _ _ _ _ _ c.requires.nonempty (search rules) (omega arith) s.ensures.sorted s.ensures.same_beside (rw c.new.ensures at (sym c.is_in_sequence.ensures ∙ c.if-is_in_sequence.true))

pub returns-else-is_in_sequence : goal.returns-else-is_in_sequence
returns-else-is_in_sequence c =
    let s = c.sort in
    let l = s.auto.words in
    checked _ _ _ _ _ _ c.requires.nonempty (search rules) (omega arith) s.ensures.sorted s.ensures.same_beside (rw c.new.ensures at (sym c.is_in_sequence.ensures ∙ c.if-is_in_sequence.false))
