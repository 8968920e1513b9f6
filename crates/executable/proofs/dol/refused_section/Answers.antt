-- `dol::refused_section` meets its contract. The invariant of its loop: what is left has the answer of the whole.
use Rattle.std.proofs.Common.{arith}
use Rattle.executable.proofs.Turns.{section-here, section-later, section_none, header-past}
use Rattle.executable.proofs.dol.refused_section.Goals.{then-image-lt-DOL_HEADER_LEN-via-then-image-lt-DOL_HEADER_LEN, then-image-lt-DOL_HEADER_LEN-via-else-image-lt-DOL_HEADER_LEN+then-image-at}
use Rattle.executable.proofs.dol.refused_section.Goals as goal

pub returns-then-image-lt-DOL_HEADER_LEN : goal.returns-then-image-lt-DOL_HEADER_LEN
returns-then-image-lt-DOL_HEADER_LEN c = header-past c.args.image.now c.args.at (elim c.then-image-lt-DOL_HEADER_LEN.branch [
  | then-image-lt-DOL_HEADER_LEN-via-then-image-lt-DOL_HEADER_LEN w ↦ omega arith
  | then-image-lt-DOL_HEADER_LEN-via-else-image-lt-DOL_HEADER_LEN+then-image-at w ↦ omega arith
])

pub returns-then-from : goal.returns-then-from
returns-then-from c =
    section-here c.args.image.now c.args.at (omega arith) c.loop-i.i c.loop-i.invariant c.loop-i-test.true (omega (arith, c.read_u32-offset.ensures, c.read_u32-size.ensures))

pub loop-i-preserved : goal.loop-i-preserved
loop-i-preserved c =
    section-later c.args.image.now c.args.at (omega arith) c.loop-i.i c.loop-i.invariant c.loop-i-test.true (omega (arith, c.read_u32-offset.ensures, c.read_u32-size.ensures))

pub returns : goal.returns
returns c = section_none c.args.image.now c.args.at (omega arith) c.loop-i.i c.loop-i.invariant c.loop-i-test.false
