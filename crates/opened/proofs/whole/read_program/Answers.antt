-- `whole::read_program` meets its contract: the image holds the program's header, or does not. Assumes nothing.
use Rattle.std.proofs.Common.{◌+◌, ◌<◌, ◌≤◌, length, ◌∙◌, arith}
use Rattle.opened.proofs.Heads.{dol_is, program_held, program_past}
use Rattle.opened.proofs.whole.read_program.Goals as goal

pub returns-then-from-parts : goal.returns-then-from-parts
returns-then-from-parts g c =
    let at = c.dol_offset-offset.ensures ∙ dol_is _ _ _ c.requires.head in
    let h : c.dol_offset-offset.result + 0xE4 ≤ length g.image = omega (arith, c.requires.head.long_is) in
    c.read_at.ensures ∙ program_held g.image _ _ at h (c.requires.program_is (rw (← at) h))

pub returns-else-from-parts : goal.returns-else-from-parts
returns-else-from-parts g c =
    let at = c.dol_offset-offset.ensures ∙ dol_is _ _ _ c.requires.head in
    let h : length g.image < c.dol_offset-offset.result + 0xE4 = omega (arith, c.requires.head.long_is) in
    c.read_at-else-from-parts.ensures ∙ program_past g.image _ at h
