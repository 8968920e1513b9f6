-- LAW: the floor is 0 where so many free bytes stand in a row, else what is wanted beyond all free bytes, 1
-- at least, and no run costs less. Assumes nothing.
use Rattle.std.specs.Prelude.{ℕ, ◌+◌, ◌-◌, ◌<◌, ◌≡◌, false, List, Ok}
use Rattle.endian.specs.Bytes.{AllBytes}
use Rattle.std.proofs.Common.{⊎_elim, arith, le-leb}
use Rattle.std.proofs.lemmas.Bool.{lt-leb, not-true}
use Rattle.refusal.specs.Laws.Tests.{lt-or-le}
use Rattle.header.specs.Verdicts.{disc_end}
use Rattle.space.specs.Used.{is_used, total_size}
use Rattle.space.specs.Free.{largest_size}
use Rattle.opened.specs.Opening.{opening, used_of}
use Rattle.opened.proofs.Laws.OpeningLaws.{disc-filled}
use Rattle.clearing.specs.Clearing.{occupancy_of, used_by, free_by, floor_of}
use Rattle.clearing.specs.Theorem.{IsFreeRow, IsFloor, FloorOfAll}
use Rattle.clearing.proofs.Laws.Floors.{IsRowOn, row-large, large-row, floor-least}
use Rattle.clearing.proofs.Laws.Opened.{used-told, sound, run-on}

module _ (image : List ℕ) (n x : ℕ) where
  row-on : IsFreeRow image n x → IsRowOn (occupancy_of image) n x
  row-on r = record { ends = r.ends; free = λ j h. let f : is_used (used_by (occupancy_of image)) (x + j) ≡ false = rw (used-told image) at (r.free (x + j) (omega arith) (omega arith)) in rw f }

  row-of : IsRowOn (occupancy_of image) n x → IsFreeRow image n x
  row-of r = record {
    ends = r.ends;
    free = λ i a b. let z : x + (i - x) ≡ i = omega arith in
        rw (used-told image) (not-true (is_used (used_by (occupancy_of image)) i) (rw z at (r.free (i - x) (omega arith))));
  }

module _ (image : List ℕ) (words n : ℕ) (bytes : AllBytes image) (passed : opening image words ≡ Ok tt) where
  total : used_of image + total_size (free_by (occupancy_of image)) ≡ disc_end image
  total = rw (used-told image) at (disc-filled image words bytes passed)

  -- a row of no bytes stands anywhere, and no free region is too small for it
  of-none : n ≡ 0 → IsFloor image n
  unfolding floor_of
  of-none z = record {
    row = λ x r. rw (le-leb n (largest_size (free_by (occupancy_of image))) (omega arith));
    no_row = λ h. absurd (h 0 (record { ends = omega arith; free = λ i a b. absurd (omega arith) }));
    least = λ x r. rw (le-leb n (largest_size (free_by (occupancy_of image))) (omega arith)) (omega arith);
  }

  of-some : 0 < n → IsFloor image n
  unfolding floor_of
  of-some some = record {
    row = λ x r. rw (le-leb n (largest_size (free_by (occupancy_of image))) (row-large (occupancy_of image) n some x (row-on image n x r)));
    no_row = λ h. ⊎_elim (λ l. rw (lt-leb n (largest_size (free_by (occupancy_of image))) l) (omega (arith, total)))
        (λ l. absurd (let w = large-row (occupancy_of image) n some l in h w.0 (row-of image n w.0 w.1))) (lt-or-le (largest_size (free_by (occupancy_of image))) n);
    least = λ x r. floor-least (occupancy_of image) (sound image words bytes passed) n x some (run-on image n x r);
  }

pub floor-of-all : FloorOfAll
floor-of-all image words n bytes passed =
    ⊎_elim (λ h. of-some image words n bytes passed h) (λ h. of-none image words n bytes passed (omega arith)) (lt-or-le 0 n)
