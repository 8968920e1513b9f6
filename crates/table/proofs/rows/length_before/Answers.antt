-- `table::rows::length_before` meets its contract: behind what is passed the first zero byte is before the text behind, or it is that text's.
use native.Mathlib.Omega.{arith}
use Prim.Native.Nat.{◌+◌, ◌-◌, ◌<◌}
use mathlib.Core.Path.{◌≡◌, ◌∙◌}
use lib.ListN.{length, drop, length-drop}
use lib.Seq.{take_all}
use Rattle.table.specs.Inner.Texts.{text_at}
use Rattle.table.proofs.Lengths.{before-or-with}
use Rattle.table.proofs.rows.length_before.Goals as goal

pub returns : goal.returns
returns c =
    let a = c.args in
    let T = a.table.now in
    let near = c.pass_text-near.result in
    let passed = c.pass_text-near.ensures in
    let inside : near + length (text_at T near) < length T = omega (arith, c.requires.inside, passed.passed, passed.further) in
    let behind : c.unwrap_or.result ≡ length (text_at T near) =
    c.unwrap_or.ensures
    ∙ rw (c.zero_within.ensures, take_all (length T - near) (drop near T) (omega (arith, length-drop near T))) (before-or-with T near a.stop a.end inside (omega (arith, passed.before)) c.requires.ends) in
    omega (arith, behind, passed.passed)
