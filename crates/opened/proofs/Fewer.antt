-- The first of the regions that stand in words in order: they stand in order too. Assumes nothing.
use Prim.Native.Nat.{ℕ, zero, suc, ◌≤◌}
use Rattle.std.specs.Prelude.{◌≡◌, true, List, leb}
use Rattle.std.proofs.Common.{arith}
use borrow.Author.Tests.{le-leb}
use Rattle.refusal.specs.Laws.Tests.{and_left, and_right}
use Rattle.space.specs.declared.region.DiscRegion.{DiscRegion}
use Rattle.space.specs.Used.{end_of}
use Rattle.space.specs.Inner.Sort.{region_at, regions_in}
use Rattle.space.specs.Inner.Words.{AllNonempty, is_in_sequence, IsSortedDisjoint}
use Rattle.space.specs.Laws.LongestLaws.{sequence-le}

full-first : (w : List ℕ) (k m n : ℕ) → n ≤ m → AllNonempty (regions_in w k m) → AllNonempty (regions_in w k n)
unfolding regions_in
full-first w k m zero h f = tt
full-first w k zero (suc n) h f = absurd (omega arith)
full-first w k (suc m) (suc n) h f = (f.0, full-first w (suc k) m n (omega arith) f.1)

sequence-first : (w : List ℕ) (k m n at e : ℕ) → n ≤ m → is_in_sequence at e (regions_in w k m) ≡ true → is_in_sequence at e (regions_in w k n) ≡ true
unfolding regions_in is_in_sequence
sequence-first w k m zero at e h q = le-leb at e (sequence-le at e (regions_in w k m) q)
sequence-first w k zero (suc n) at e h q = absurd (omega arith)
sequence-first w k (suc m) (suc n) at e h q =
    let x : DiscRegion = region_at w k in
    let here : leb at x.offset ≡ true = and_left (leb at x.offset) (is_in_sequence (end_of x) e (regions_in w (suc k) m)) q in
    let rest : is_in_sequence (end_of x) e (regions_in w (suc k) n) ≡ true =
    sequence-first w (suc k) m n (end_of x) e (omega arith) (and_right (leb at x.offset) (is_in_sequence (end_of x) e (regions_in w (suc k) m)) q) in
    rw (here, rest)

pub sorted-first : (w : List ℕ) (m n e : ℕ) → n ≤ m → IsSortedDisjoint w m e → IsSortedDisjoint w n e
sorted-first w m n e h s = record {
  held = omega (arith, s.held);
  full = full-first w 0 m n h s.full;
  sequence = sequence-first w 0 m n 0 e h s.sequence;
}
