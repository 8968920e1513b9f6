-- Two images of one tree whose tables end at different places: a growth is accepted on both, gives the file another place on each, and so leaves other
-- tables. So of an edit that gives a file more bytes the tree does not fix the table. Assumes nothing.
use Rattle.std.specs.Prelude.{Ok}
use Rattle.std.specs.Prelude.{ℕ, ◌≡◌, refl, List, [], ◌∷◌, map, length, replicate}
use Rattle.std.proofs.Common.{sym, ap, ◌∙◌, arith}
use Rattle.endian.specs.Bytes.{be24, be32, be32_bytes, put, AllBytes}
use Rattle.header.specs.Fields.{fields, gcn_magic_field, fst_offset_field, fst_size_field, user_size_field}
use Rattle.header.specs.Verdicts.{gcn_magic, field_verdict, all_fields_verdict, header_verdict, bounds_verdict}
use Rattle.tree.specs.Units.{units}
use Rattle.tree.specs.Table.{Node, is_plain, is_safe, count, name_at, node_at, nodes_from, nodes_of, entry_verdict, entries_verdict, is_unended, dirs_open_at, name_verdict, next_verdict, walk, check, parent_of}
use Rattle.space.specs.Used.{nonempty_regions}
use Rattle.space.specs.Layout.{are_disjoint, is_disjoint_from_all, are_pairwise_disjoint, are_below, are_disjoint_below}
use Rattle.totals.specs.Totals.{remainders}
use Rattle.executable.specs.Program.{program_of, program_in, own_region}
use Rattle.opened.specs.Opening.{table_of, nodes_in, opening, regions_behind_table, used_in, layout_verdict, Disc, disc_of}
use Rattle.edit_rules.specs.Edits.{Edit, Account, resize_file, fill_file, plan_of, plan_verdict, plan_tree, verdict_of, image_after}
use Rattle.ledger.specs.Runs.{IsPassable}
use Rattle.ledger.proofs.Laws.TreeAfter.{tree-after}
use Rattle.ledger.proofs.Laws.Unbounded.{IsUnbounded, own-record}
use Rattle.same_table.specs.Trees.{entry_alone, IsSameTree, HaveSameTable, IsFixedByTree}
use Rattle.same_table.proofs.Laws.GrowthApart.{entries, near, far, GrowsApart, resized-apart, filled-apart}
use Rattle.worked.specs.Laws.Handed.{own}
use Rattle.worked.specs.Laws.Applied.{bytes_only, bytes-only}

-- ---- the images, and the discs that they mean

-- the root, `a` of 0x10 bytes at 0x10020, and behind that `b` with as many
abbrev table : List ℕ
table =
    1 ∷ 0 ∷ 0 ∷ 0 ∷ 0 ∷ 0 ∷ 0 ∷ 0 ∷ 0 ∷ 0 ∷ 0 ∷ 3 ∷
    0 ∷ 0 ∷ 0 ∷ 0 ∷ 0 ∷ 1 ∷ 0 ∷ 0x20 ∷ 0 ∷ 0 ∷ 0 ∷ 0x10 ∷
    0 ∷ 0 ∷ 0 ∷ 2 ∷ 0 ∷ 1 ∷ 0 ∷ 0x30 ∷ 0 ∷ 0 ∷ 0 ∷ 0x10 ∷
    0x61 ∷ 0 ∷ 0x62 ∷ 0 ∷ []

-- 0x10040 bytes, 0 where nothing is put, with the table at o
abbrev with_table_at : ℕ → List ℕ
with_table_at o =
    put (put (put (put (put (replicate 0x10040 0) gcn_magic_field.at (be32_bytes gcn_magic)) fst_offset_field.at (be32_bytes o)) fst_size_field.at (be32_bytes 0x28)) user_size_field.at (be32_bytes 0x10040)) o table

-- it ends at 0x7000 here, and there at 0x9000
unfoldable pub near_image : List ℕ
near_image = with_table_at 0x6FD8

unfoldable pub far_image : List ℕ
far_image = with_table_at 0x8FD8

-- the image is of bytes, opens with 20 words, and means that disc
pub record Means (d : Disc) (image : List ℕ) : Type 0 where
  pub bytes : AllBytes image
  pub opens : opening image 20 ≡ Ok tt
  pub disc : disc_of image ≡ d

pub near-means : Means near near_image
unfolding near_image put opening layout_verdict header_verdict all_fields_verdict field_verdict fields bounds_verdict table_of check nodes_in nodes_of nodes_from node_at name_at count entries_verdict entry_verdict is_unended walk name_verdict next_verdict dirs_open_at is_plain is_safe be24 be32 used_in regions_behind_table program_of program_in own_region nonempty_regions are_disjoint_below are_pairwise_disjoint is_disjoint_from_all are_disjoint are_below units bytes_only
near-means = record { bytes = bytes-only near_image refl; opens = refl; disc = refl }

pub far-means : Means far far_image
unfolding far_image put opening layout_verdict header_verdict all_fields_verdict field_verdict fields bounds_verdict table_of check nodes_in nodes_of nodes_from node_at name_at count entries_verdict entry_verdict is_unended walk name_verdict next_verdict dirs_open_at is_plain is_safe be24 be32 used_in regions_behind_table program_of program_in own_region nonempty_regions are_disjoint_below are_pairwise_disjoint is_disjoint_from_all are_disjoint are_below units bytes_only
far-means = record { bytes = bytes-only far_image refl; opens = refl; disc = refl }

near-nodes : nodes_in near_image ≡ entries 0x10020 0x10
near-nodes = ap (λ (d : Disc). d.nodes) near-means.disc

far-nodes : nodes_in far_image ≡ entries 0x10020 0x10
far-nodes = ap (λ (d : Disc). d.nodes) far-means.disc

-- LAW: their trees are the same
pub one-tree : IsSameTree (nodes_in near_image) (nodes_in far_image)
one-tree =
    let e = near-nodes ∙ sym far-nodes in
    record { entries = ap (λ (n : List Node). map entry_alone n) e; nesting = λ k h. ap (λ (n : List Node). parent_of n k) e }

-- ---- an edit of each, with a record made of it, that is lent 20 words and 40 bytes

abbrev pub after : Edit → List ℕ → List ℕ
after ed image = image_after ed (own image) image 20 40

-- it is none of those that the tree fixes; it is accepted on both; `a` has 0x20 bytes then, but at two places, and the tables are not the same
pub record GrownApart (ed : Edit) : Type 0 where
  pub not-fixed : ¬ IsFixedByTree (nodes_in near_image) ed
  pub near-accepted : verdict_of ed (own near_image) near_image 20 40 ≡ Ok tt
  pub far-accepted : verdict_of ed (own far_image) far_image 20 40 ≡ Ok tt
  pub near-tree : nodes_in (after ed near_image) ≡ entries 0x8000 0x20
  pub far-tree : nodes_in (after ed far_image) ≡ entries 0x10000 0x20
  pub apart : ¬ HaveSameTable (after ed near_image) (after ed far_image)

unbounded : (image : List ℕ) → IsUnbounded image (own image)
unfolding remainders
unbounded image = record { used = refl; team = omega arith; taken = omega arith; limit = refl; count = omega arith; others = refl }

module _ {d : Disc} {image : List ℕ} (m : Means d image) (ed : Edit) (p : IsPassable ed) (passes : plan_verdict (plan_of ed d) d 20 40 ≡ Ok tt) where
  accepted : verdict_of ed (own image) image 20 40 ≡ Ok tt
  accepted =
      own-record image 20 40 m.bytes m.opens ed p (own image) (unbounded image)
      ∙ ap (λ (e : Disc). plan_verdict (plan_of ed e) e 20 40) m.disc ∙ passes

  tree-then : nodes_in (after ed image) ≡ plan_tree (plan_of ed d) d.nodes
  tree-then = tree-after ed (own image) image 20 40 m.bytes p accepted ∙ ap (λ (e : Disc). plan_tree (plan_of ed e) e.nodes) m.disc

grown-apart : (ed : Edit) → IsPassable ed → GrowsApart ed → ¬ IsFixedByTree (nodes_in near_image) ed → GrownApart ed
unfolding nodes_in
grown-apart ed p g free =
    let near-then = tree-then near-means ed p g.near-passes in
    let far-then = tree-then far-means ed p g.far-passes in
    record {
      not-fixed = free;
      near-accepted = accepted near-means ed p g.near-passes;
      far-accepted = accepted far-means ed p g.far-passes;
      near-tree = near-then ∙ g.near-tree;
      far-tree = far-then ∙ g.far-tree;
      apart = λ s. g.apart (sym near-then ∙ ap nodes_of s.table ∙ far-then);
    }

-- LAW: so it is with a resize
pub resized : GrownApart (resize_file 1 0x20)
resized = grown-apart (resize_file 1 0x20) (omega arith) resized-apart (λ h. let l = rw near-nodes at h in omega arith)

-- LAW: and with a fill with as long a clip, whatever it holds
pub filled : (clip : List ℕ) → AllBytes clip → length clip ≡ 0x20 → GrownApart (fill_file 1 clip)
filled clip bytes long = grown-apart (fill_file 1 clip) bytes (filled-apart clip long) (λ h. let l = rw (near-nodes, long) at h in omega arith)

-- ---- so the theorem of one table needs that the tree fixes the edit

-- without that
abbrev pub SameTableOfAny : Type 0
SameTableOfAny =
    (ed : Edit) (a a' : Account) (image image' : List ℕ) (words words' bytes bytes' : ℕ) →
    IsPassable ed → AllBytes image → AllBytes image' → IsSameTree (nodes_in image) (nodes_in image') →
    verdict_of ed a image words bytes ≡ Ok tt → verdict_of ed a' image' words' bytes' ≡ Ok tt →
    HaveSameTable (image_after ed a image words bytes) (image_after ed a' image' words' bytes')

-- LAW
pub not-of-any : ¬ SameTableOfAny
not-of-any same =
    resized.apart (same (resize_file 1 0x20) (own near_image) (own far_image) near_image far_image 20 20 40 40
    (omega arith) near-means.bytes far-means.bytes one-tree resized.near-accepted resized.far-accepted)
