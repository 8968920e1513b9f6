-- `dol::words_at` meets its contract. The invariant of its loop: the first i places hold the first i words, and the others what they held.
use Rattle.std.proofs.Common.{ℕ, refl, ap, ◌∙◌, arith}
use Rattle.std.proofs.Math.ListN.{set, length-replicate}
use Rattle.executable.specs.Dol.{words_at}
use Rattle.executable.proofs.Turns.{words-turn}
use Rattle.executable.proofs.dol.words_at.Goals as goal

pub loop-i-init : goal.loop-i-init
unfolding words_at
loop-i-init g c = record { in_range = omega arith; filled = refl }

pub loop-i-preserved : goal.loop-i-preserved
loop-i-preserved g c =
    let l = c.loop-i in
    let m = length-replicate {A = ℕ} g.row.N 0 in
    record {
      in_range = omega (arith, m);
      filled = ap (λ (v : ℕ). set l.word-items l.i v) c.read_u32.ensures ∙ words-turn _ _ _ _ _ l.invariant.filled (omega (arith, m));
    }
