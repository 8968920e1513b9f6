-- A draft is a valid table, and reads as the tree. Assumes nothing.
use Rattle.std.specs.Prelude.{Ok, IsTrue, is_ok, ℕ, ◌≡◌, refl, List, [], ◌∷◌, length}
use Rattle.std.proofs.Common.{◌∙◌, arith}
use Rattle.tree.specs.Table.{Node, encode, limits, check, count, nodes_of}
use Rattle.tree.specs.Inner.WellFormed.{IsWellFormed}
use Rattle.tree.proofs.Laws.RoundTrip.{Within, within-limits, encode_with, nodes_of-encode_with, check-encode_with}
use Rattle.table_writing.specs.Inner.Valid.{IsValid}
use Rattle.table_writing.specs.Laws.Accepted.{accepted-valid}
use Rattle.wish_list.specs.Paths.{paths_in, list_verdict}
use Rattle.wish_list.proofs.Laws.NameTexts.{encode-length-placed, limits-placed}
use Rattle.wish_list.proofs.Laws.AcceptedPaths.{AllWords, accepted-sound}
use Rattle.wish_list.specs.Tree.{tree_of}
use Rattle.new_table.specs.Inner.Drafts.{draft_bytes}
use Rattle.new_table.proofs.Lists.{ok-is}

draft-encode_with : (nodes : List Node) → draft_bytes nodes ≡ encode_with [] nodes
unfolding draft_bytes encode_with
draft-encode_with [] = refl
draft-encode_with (root ∷ xs) = refl

module _
    (paths sizes offsets : List ℕ) (accepted : IsTrue (is_ok (list_verdict paths (length sizes)))) (words : ℕ) (within : IsTrue (is_ok (limits (tree_of paths sizes []) words))) (all_sizes : AllWords sizes)
    (all_offsets : AllWords offsets) (draft : List ℕ) (written : draft ≡ draft_bytes (tree_of paths sizes offsets)) where
  abbrev nodes : List Node
  nodes = tree_of paths sizes offsets

  sound : IsWellFormed nodes
  sound = accepted-sound paths sizes offsets (ok-is (list_verdict paths (length sizes)) accepted) all_sizes all_offsets

  passed : limits nodes words ≡ Ok tt
  passed = limits-placed (paths_in paths) sizes offsets sizes [] words ∙ ok-is (limits (tree_of paths sizes []) words) within

  small : Within nodes words
  small = within-limits nodes words passed

  draft-is : draft ≡ encode_with [] nodes
  draft-is = written ∙ draft-encode_with nodes

  checked : check draft words ≡ Ok tt
  checked = rw draft-is (check-encode_with [] nodes words sound (omega (arith, small.few)) ∙ passed)

  pub draft-valid : IsValid draft (count draft)
  draft-valid = accepted-valid draft words checked

  pub draft-reads : nodes_of draft ≡ nodes
  draft-reads = rw draft-is (nodes_of-encode_with [] nodes sound (omega (arith, small.few)) (omega (arith, small.texts)))

  pub size-placed : length (encode nodes) ≡ length (encode (tree_of paths sizes []))
  size-placed = encode-length-placed (paths_in paths) sizes offsets sizes []
