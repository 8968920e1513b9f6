-- What a disc is, of an image that means it: its nodes, what is free of it, and its table as it is once that was judged. Assumes nothing.
use Rattle.std.specs.Prelude.{Result, Ok, ℕ, ◌≡◌, List}
use Rattle.std.proofs.Common.{ap}
use Rattle.refusal.specs.declared.Refusal.{Refusal}
use Rattle.space.specs.declared.region.DiscRegion.{DiscRegion}
use Rattle.opened.specs.Opening.{nodes_in, free_space_of, Disc, free_of}
use Rattle.opened.specs.Inner.Disc.{Opened, Means}
use Rattle.edit.specs.Inner.Decision.{judged_size}
use Rattle.edit.proofs.Images.{NewTable, new-table}

module _ (image : List ℕ) (d : Opened) (m : Means image d) where
  pub nodes_are : nodes_in image ≡ d.disc.nodes
  nodes_are = ap (λ (x : Disc). x.nodes) m.is

  pub free_is : free_space_of image ≡ free_of d.disc
  free_is = ap free_of m.is

  -- the table as it is, judged
  pub new_table : (room : ℕ) (place : DiscRegion) (r : Result ℕ Refusal) → r ≡ judged_size d room place → (size : ℕ) → r ≡ Ok size → NewTable d.disc.nodes place image d.disc d.words room size
  new_table room place r judged size e = new-table d.disc.nodes place image d.disc d.words room size r m.known m.is judged e
