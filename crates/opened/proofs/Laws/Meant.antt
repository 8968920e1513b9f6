-- What an image says is what the disc says that it means. Assumes nothing.
use Rattle.std.specs.Prelude.{ℕ, ◌≡◌, List, length}
use Rattle.std.proofs.Common.{sym, ap, ◌∙◌}
use Rattle.header.specs.Verdicts.{fst_offset, fst_size, fst_max_size, disc_end, table_end}
use Rattle.tree.specs.Table.{count}
use Rattle.tree.proofs.Laws.Accepted.{length-nodes_of}
use Rattle.space.specs.Used.{total_size}
use Rattle.space.specs.Laws.TotalLaws.{total-used}
use Rattle.opened.specs.Opening.{table_of, nodes_in, regions_behind_table, used_in, free_space_of, used_of, Disc, free_of}
use Rattle.opened.specs.Inner.Disc.{Opened, Means}

total-shown : (image : List ℕ) → used_of image ≡ total_size (used_in image)
unfolding used_in used_of
total-shown image = sym (total-used (table_end image) (regions_behind_table image))

module _ (image : List ℕ) (d : Opened) (m : Means image d) where
  pub start_meant : fst_offset image ≡ d.disc.start
  start_meant = ap (λ (x : Disc). x.start) m.is

  pub room_meant : fst_size image ≡ d.disc.table_size
  room_meant = ap (λ (x : Disc). x.table_size) m.is

  pub maximum_meant : fst_max_size image ≡ d.disc.maximum
  maximum_meant = ap (λ (x : Disc). x.maximum) m.is

  pub end_meant : disc_end image ≡ d.disc.end
  end_meant = ap (λ (x : Disc). x.end) m.is

  pub nodes_meant : nodes_in image ≡ d.disc.nodes
  nodes_meant = ap (λ (x : Disc). x.nodes) m.is

  pub entries_meant : count (table_of image) ≡ length d.disc.nodes
  unfolding nodes_in
  entries_meant = sym (length-nodes_of (table_of image)) ∙ ap (λ (x : Disc). length x.nodes) m.is

  pub used_meant : used_in image ≡ d.disc.used
  used_meant = ap (λ (x : Disc). x.used) m.is

  pub total_meant : used_of image ≡ total_size d.disc.used
  total_meant = total-shown image ∙ ap total_size used_meant

  pub free_meant : free_space_of image ≡ free_of d.disc
  free_meant = ap free_of m.is
