-- LAW: the files that a run costs are those in its way. Assumes nothing.
use Rattle.std.specs.Prelude.{ℕ, ◌+◌, ◌<◌, ◌≤◌, max, ◌≡◌, refl, true, false, not, List, ◌∷◌, Contains}
use Rattle.std.proofs.Common.{◌∙◌, arith, le-ltb}
use Rattle.std.proofs.lemmas.Bool.{not-true}
use Rattle.std.proofs.lemmas.List.Elements.{All-contains, filter_passes}
use Rattle.header.specs.Verdicts.{table_end}
use Rattle.space.specs.declared.region.DiscRegion.{DiscRegion}
use Rattle.space.specs.Used.{is_inside, is_used, used_regions, total_size, used_total}
use Rattle.space.specs.Layout.{are_disjoint}
use Rattle.space.specs.Laws.UsedLaws.{is_inside-in, used-is}
use Rattle.space.specs.Laws.LayoutLaws.{from-all-free}
use Rattle.space.specs.Laws.SizeLaws.{total_size-cons}
use Rattle.executable.specs.Program.{program_behind}
use Rattle.opened.specs.Opening.{used_of, regions_behind_table}
use Rattle.clearing.specs.Clearing.{occupancy_of, bytes_from, files_touched, cost_of}
use Rattle.clearing.specs.Theorem.{IsRun, files_left, InTheWay}
use Rattle.clearing.proofs.Laws.Touched.{first-shared}
use Rattle.clearing.proofs.Laws.Floors.{touched-and-others, others-apart}

module _ (image : List ℕ) (n x : ℕ) (r : IsRun image n x) where
  sizes : cost_of (occupancy_of image) n x ≡ total_size (files_touched (occupancy_of image) n x)
  unfolding cost_of
  sizes = refl

  cleared : (i : ℕ) → x ≤ i → i < x + n → is_used (used_regions (table_end image) (program_behind image ∷ files_left (occupancy_of image) n x)) i ≡ false
  unfolding is_used
  cleared i h k =
      let f : is_used (files_left (occupancy_of image) n x) i ≡ false = from-all-free (bytes_from x n) (files_left (occupancy_of image) n x) i (others-apart (bytes_from x n) (occupancy_of image).files) (is_inside-in (bytes_from x n) i h k) in
      used-is (table_end image) (program_behind image ∷ files_left (occupancy_of image) n x) i ∙ rw (le-ltb i (table_end image) (omega (arith, r.behind_table)), r.spares_program i h k, f)

  freed : used_total (table_end image) (program_behind image ∷ files_left (occupancy_of image) n x) + cost_of (occupancy_of image) n x ≡ used_of image
  unfolding used_of regions_behind_table cost_of
  freed =
      omega (
        arith,
        touched-and-others (bytes_from x n) (occupancy_of image).files,
        total_size-cons (program_behind image) (files_left (occupancy_of image) n x),
        total_size-cons (program_behind image) (occupancy_of image).files,
      )

  needed : (f : DiscRegion) → Contains (files_touched (occupancy_of image) n x) f → (i : ℕ) × (x ≤ i) × (i < x + n) × (is_inside f i ≡ true)
  needed f c =
      let p = λ (g : DiscRegion). not (are_disjoint (bytes_from x n) g) in
      let t : not (are_disjoint (bytes_from x n) f) ≡ true = All-contains (λ g. not (are_disjoint (bytes_from x n) g) ≡ true) (files_touched (occupancy_of image) n x) f (filter_passes (λ g. not (are_disjoint (bytes_from x n) g)) (occupancy_of image).files) c in
      let w = first-shared n x f (not-true (are_disjoint (bytes_from x n) f) t) in
      (max x f.offset, w.0, w.1, w.2)

pub in-the-way : InTheWay
in-the-way image n x r = record { sizes = sizes image n x r; cleared = cleared image n x r; freed = freed image n x r; needed = needed image n x r }
