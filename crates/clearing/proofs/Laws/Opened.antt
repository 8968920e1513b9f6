-- What opening an image tells of its occupancy, of its runs and of the answer. Assumes nothing.
use Rattle.std.specs.Prelude.{ℕ, ◌≡◌, refl, List, Ok}
use Rattle.std.proofs.Common.{arith}
use Rattle.endian.specs.Bytes.{AllBytes}
use Rattle.refusal.specs.Laws.Tests.{is_false}
use Rattle.space.specs.Used.{is_inside}
use Rattle.space.specs.Laws.LayoutLaws.{is_inside-from, is_inside-to, are_disjoint-is_inside, is_inside-are_disjoint}
use Rattle.space.specs.Laws.UsedLaws.{is_inside-in}
use Rattle.executable.specs.Program.{program_behind}
use Rattle.opened.specs.Opening.{used_in, regions_behind_table, opening}
use Rattle.opened.specs.Inner.Prepared.{IsOpenImage}
use Rattle.opened.proofs.Laws.OpeningLaws.{opens}
use Rattle.clearing.specs.Clearing.{occupancy_of, used_by, bytes_from, cheapest_run, clear_answer}
use Rattle.clearing.specs.Theorem.{IsRun}
use Rattle.clearing.proofs.Laws.Sound.{IsSound, IsRunOn}
use Rattle.refusal.specs.Laws.Tests.{never_both}

-- the used regions of the image are those of its occupancy
pub used-told : (image : List ℕ) → used_in image ≡ used_by (occupancy_of image)
unfolding used_in regions_behind_table
used-told image = refl

pub open-sound : (image : List ℕ) (words : ℕ) → IsOpenImage image words → IsSound (occupancy_of image)
unfolding used_in regions_behind_table
open-sound image words o = record { table = omega (arith, o.reads.bounds.after-header); apart = o.layout }

module _ (image : List ℕ) (words : ℕ) (bytes : AllBytes image) (passed : opening image words ≡ Ok tt) where
  pub sound : IsSound (occupancy_of image)
  sound = open-sound image words (opens image words bytes passed)

  pub clear-told : (n budget : ℕ) → clear_answer image words n budget ≡ cheapest_run (occupancy_of image) n budget
  unfolding clear_answer
  clear-told n budget = rw passed

-- ---- a run of the image is one of its occupancy

module _ (image : List ℕ) (n x : ℕ) where
  pub run-on : IsRun image n x → IsRunOn (occupancy_of image) n x
  run-on r = record {
    after = r.behind_table;
    before = r.on_disc;
    spares = is_inside-are_disjoint (bytes_from x n) (program_behind image)
        (λ i u v. never_both (is_inside (program_behind image) i) v (r.spares_program i (is_inside-from (bytes_from x n) i u) (is_inside-to (bytes_from x n) i u)));
  }

  pub run-of : IsRunOn (occupancy_of image) n x → IsRun image n x
  run-of r = record {
    behind_table = r.after;
    on_disc = r.before;
    spares_program = λ i h k. is_false (is_inside (program_behind image) i) (λ v. are_disjoint-is_inside (bytes_from x n) (program_behind image) i r.spares (is_inside-in (bytes_from x n) i h k) v);
  }
