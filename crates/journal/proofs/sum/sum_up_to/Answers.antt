-- `sum::sum_up_to` meets its contract: one piece more at each turn.
use Rattle.std.proofs.Common.{◌≡◌, ℕ, ◌+◌, ◌-◌, ◌≤◌, List, ◌++◌, length, take, refl, sym, ◌∙◌, ap, arith, length-take}
use Rattle.endian.specs.Bytes.{span}
use Rattle.endian.proofs.Parts.{span-add}
use Rattle.journal.specs.Disk.{Disk}
use Rattle.journal.specs.Journal.{sum_from}
use Rattle.journal.proofs.Carried.{looks_none, looks_on}
use Rattle.journal.proofs.Sums.{sum_from-append}
use Rattle.journal.proofs.sum.sum_up_to.Goals as goal

-- one piece more
sum-more : (journal now piece : List ℕ) (at n next sum sum' : ℕ) → 2 ≤ at → next ≡ at + n → now ≡ journal → piece ≡ span now at n
    → sum ≡ sum_from 0 (span journal 2 (at - 2)) → sum' ≡ sum_from sum piece → sum' ≡ sum_from 0 (span journal 2 (next - 2))
sum-more journal now piece at n next sum sum' le is same read so_far summed =
    let there : 2 + (at - 2) ≡ at = omega arith in
    let more : at - 2 + n ≡ next - 2 = omega arith in
    let joined : span journal 2 (next - 2) ≡ span journal 2 (at - 2) ++ span journal at n = rw there at (rw more at (span-add journal 2 (at - 2) n)) in
    summed ∙ (λ i. sum_from (so_far i) ((read ∙ ap (λ (l : List ℕ). span l at n) same) i))
    ∙ sym (sum_from-append 0 (span journal 2 (at - 2)) (span journal at n)) ∙ ap (sum_from 0) (sym joined)

pub loop-at-init : goal.loop-at-init
unfolding sum_from
loop-at-init g c = record { from = omega arith; within = omega arith; inside = c.requires.inside; summed = λ known. refl; looks = looks_none _; faults = omega arith }

pub loop-at-preserved : goal.loop-at-preserved
loop-at-preserved g c =
    let n : ℕ = c.min-n.result in
    let told : length (take n c.loop-at.desk) ≡ n = omega (arith, length-take n c.loop-at.desk) in
    let same = c.read_journal.ensures.looks.seen in
    record {
      from = omega arith;
      within = omega arith;
      inside = omega (arith, ap (λ (d : Disk). length d.journal) same);
      summed = λ known.
          sum-more _ _ _ c.loop-at.at (length (take n c.loop-at.desk)) (c.loop-at.at + n) _ _ c.loop-at.invariant.from (omega (arith, told))
          (ap (λ (d : Disk). d.journal) c.loop-at.invariant.looks.seen) (c.in_ok-read_journal.ensures.bytes known) (c.loop-at.invariant.summed known) c.sum_on-sum.ensures;
      looks = looks_on _ _ _ c.loop-at.invariant.looks c.read_journal.ensures.looks;
      faults = omega arith;
    }
