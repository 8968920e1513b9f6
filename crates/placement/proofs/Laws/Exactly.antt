-- Exactly: the files do not fit if and only if there are no offsets at all at which they can be placed; and the least disc end is the least.
-- Assumes nothing.
use Rattle.std.specs.Prelude.{ℕ, ◌≤◌, ◌≡◌, true, false, List}
use Rattle.std.proofs.Common.{arith}
use borrow.Author.Tests.{leb-true, le-leb}
use Rattle.refusal.specs.Laws.Tests.{is_false, never_both}
use Rattle.placement.specs.Places.{IsPlaced}
use Rattle.placement.specs.Placement.{least_end, is_placeable, offsets_of}
use Rattle.placement.proofs.Laws.Complete.{complete}
use Rattle.placement.proofs.Laws.Sound.{sound}

module _ (t d : ℕ) (sizes : List ℕ) where
  -- LAW: not fitting means that no offsets will do
  pub no-placement : is_placeable t d sizes ≡ false → (offsets : List ℕ) → IsPlaced t d sizes offsets → ⊥
  no-placement h offsets p = never_both (is_placeable t d sizes) (complete t d sizes offsets p) h

  -- LAW: where no offsets will do, they do not fit
  pub none-fits : ((offsets : List ℕ) → IsPlaced t d sizes offsets → ⊥) → is_placeable t d sizes ≡ false
  none-fits h = is_false (is_placeable t d sizes) (λ f. h (offsets_of t sizes) (sound t d sizes f))

  -- LAW: what fits needs no more than the disc end, and what needs no more fits
  pub is_placeable-least_end : is_placeable t d sizes ≡ true → least_end t sizes ≤ d
  unfolding is_placeable
  is_placeable-least_end h = leb-true (least_end t sizes) d h

  pub least_end-is_placeable : least_end t sizes ≤ d → is_placeable t d sizes ≡ true
  unfolding is_placeable
  least_end-is_placeable h = le-leb (least_end t sizes) d h

  -- LAW: no placement ends before the least disc end
  pub ends-late : (offsets : List ℕ) → IsPlaced t d sizes offsets → least_end t sizes ≤ d
  ends-late offsets p = is_placeable-least_end (complete t d sizes offsets p)

-- LAW: and one ends there
pub ends_there : (t : ℕ) (sizes : List ℕ) → IsPlaced t (least_end t sizes) sizes (offsets_of t sizes)
ends_there t sizes = sound t (least_end t sizes) sizes (least_end-is_placeable t (least_end t sizes) sizes (omega arith))
