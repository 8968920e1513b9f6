-- The lines of the free regions, one region at a time. Assumes nothing.
use mathlib.Core.Path.{◌≡◌, refl, sym, ◌∙◌}
use mathlib.Core.List.{List, [], ◌∷◌, ◌++◌, append-nil, append_assoc}
use Prim.Native.Nat.{ℕ}
use Rattle.space.specs.declared.region.DiscRegion.{DiscRegion}
use Rattle.listing.specs.Lines.{region_line, lines_of_regions}
use Rattle.listing.specs.declared.buffer.TextBuffer.{TextBuffer}
use Rattle.listing.specs.Inner.Writing.{Appends}
use Rattle.listing.proofs.Joining.{appends-none, appends-join, appends-as}

-- the lines of `rest` are left
pub record Listing (all : List DiscRegion) (t u : TextBuffer) (rest : List DiscRegion) : Type 0 where
  pub done : List ℕ
  pub appends : Appends t u done
  pub left : done ++ lines_of_regions rest ≡ lines_of_regions all

pub regions-start : (all : List DiscRegion) (t : TextBuffer) → Listing all t t all
regions-start all t = record { done = []; appends = appends-none t; left = refl }

lines_more : (r : DiscRegion) (rs : List DiscRegion) → lines_of_regions (r ∷ rs) ≡ region_line r ++ lines_of_regions rs
unfolding lines_of_regions
lines_more r rs = refl

lines-none : lines_of_regions [] ≡ []
unfolding lines_of_regions
lines-none = refl

module _ (all : List DiscRegion) (t u : TextBuffer) where
  pub regions-more : (r : DiscRegion) (rs : List DiscRegion) → Listing all t u (r ∷ rs) → (v : TextBuffer) → Appends u v (region_line r) → Listing all t v rs
  regions-more r rs s v w =
      record {
        done = s.done ++ region_line r;
        appends = appends-join s.appends w;
        left = append_assoc s.done (region_line r) (lines_of_regions rs) ∙ (rw (lines_more r rs) at s.left);
      }

  pub regions-end : Listing all t u [] → Appends t u (lines_of_regions all)
  regions-end s = appends-as s.appends (sym (append-nil s.done) ∙ (rw lines-none at s.left))
