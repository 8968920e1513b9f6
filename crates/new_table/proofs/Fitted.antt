-- What a measured table gives its writer. Assumes nothing.
use Rattle.std.specs.Prelude.{IsTrue, is_ok, ℕ, ◌+◌, ◌*◌, ◌≤◌, ◌≡◌, List, [], length}
use Rattle.std.proofs.Common.{sym, ◌∙◌, arith}
use Rattle.tree.specs.Table.{encode, limits}
use Rattle.tree.proofs.Laws.RoundTrip.{Within, within-limits}
use Rattle.wish_list.specs.Paths.{paths_in}
use Rattle.wish_list.specs.Tree.{wishes}
use Rattle.wish_list.proofs.Laws.Below.{below-files, length-tree}
use Rattle.wish_list.proofs.Laws.NameTexts.{length-wishes, wishes-named}
use Rattle.wish_list.specs.Tree.{tree_of}
use Rattle.new_table.proofs.Lists.{ok-is}
use Rattle.new_table.proofs.Limits.{tree-entries, tree-texts, tree-size, tree-depth}
use Rattle.new_table.proofs.Going.{Fitting}

module _
    (paths sizes : List ℕ) (count size : ℕ)
    (counted : count ≡ length (tree_of paths sizes [])) (measured : size ≡ length (encode (tree_of paths sizes []))) (within : IsTrue (is_ok (limits (tree_of paths sizes []) (4 * (count + 2))))) where
  small : Within (tree_of paths sizes []) (4 * (count + 2))
  small = within-limits (tree_of paths sizes []) (4 * (count + 2)) (ok-is (limits (tree_of paths sizes []) (4 * (count + 2))) within)

  pub few : count ≤ 16384
  few = omega (arith, small.few)

  pub few_paths : length (paths_in paths) ≤ 16384
  few_paths =
      let ws = wishes (paths_in paths) sizes [] in
      omega (arith, length-wishes (paths_in paths) sizes [], below-files [] ws (wishes-named (paths_in paths) sizes []), length-tree ws, small.few)

  pub fitting : Fitting paths count size
  fitting = record {
    counted = counted ∙ tree-entries (paths_in paths) sizes [];
    sized = omega (arith, tree-size (paths_in paths) sizes [], tree-entries (paths_in paths) sizes []);
    shallow = sym (tree-depth (paths_in paths) sizes []) ∙ small.depth;
    small = omega (arith, tree-size (paths_in paths) sizes [], tree-texts (paths_in paths) sizes [], tree-entries (paths_in paths) sizes [], small.few, small.texts);
  }
