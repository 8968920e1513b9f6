-- Tables written anew tell whether trees are the same: of the same tree they are equal, and only of the same tree. Assumes nothing.
use Rattle.std.specs.Prelude.{Ok, ℕ, ◌≡◌, List, map}
use Rattle.std.proofs.Common.{sym, ap, ◌∙◌}
use Rattle.endian.specs.Bytes.{AllBytes}
use Rattle.refusal.specs.Laws.Chains.{first-passed}
use Rattle.tree.specs.Table.{Node, nodes_of, parent_of, encode, limits}
use Rattle.tree.proofs.Laws.RoundTrip.{written-reads}
use Rattle.opened.specs.Opening.{nodes_in, opening}
use Rattle.ledger.proofs.Laws.Opened.{opened}
use Rattle.edit.specs.TableAnew.{table_anew, anew_verdict}
use Rattle.same_table.specs.Trees.{entry_alone, IsSameTree}
use Rattle.same_table.specs.Theorem.{SameTree}
use Rattle.same_table.proofs.Laws.WholeTree.{whole-tree}

pub same-is : (a b : List Node) → a ≡ b → IsSameTree a b
same-is a b e = record { entries = ap (map entry_alone) e; nesting = λ k h. ap (λ (ns : List Node). parent_of ns k) e }

anew-same : (image image' : List ℕ) → nodes_in image ≡ nodes_in image' → table_anew image ≡ table_anew image'
unfolding table_anew
anew-same image image' e = ap encode e

module _ (image : List ℕ) (words room : ℕ) (b : AllBytes image) (v : anew_verdict image words room ≡ Ok tt) where
  anew-opens : opening image words ≡ Ok tt
  unfolding anew_verdict
  anew-opens = (first-passed (opening image words) _ v).0

  anew-within : limits (nodes_in image) words ≡ Ok tt
  unfolding anew_verdict
  anew-within = (first-passed (limits (nodes_in image) words) _ (first-passed (opening image words) _ v).1).0

  -- LAW: it reads back as the tree
  pub anew-reads : nodes_of (table_anew image) ≡ nodes_in image
  unfolding table_anew
  anew-reads = written-reads (nodes_in image) words (opened image words anew-opens b).well anew-within

-- THEOREM
pub same-tree : SameTree
same-tree image image' words words' room room' b b' v v' =
    let o : opening image words ≡ Ok tt = anew-opens image words room b v in
    let o' : opening image' words' ≡ Ok tt = anew-opens image' words' room' b' v' in
    let reads : nodes_of (table_anew image) ≡ nodes_in image = anew-reads image words room b v in
    let reads' : nodes_of (table_anew image') ≡ nodes_in image' = anew-reads image' words' room' b' v' in (
      λ s. anew-same image image' (whole-tree image image' words words' b b' o o' s),
      λ e. same-is (nodes_in image) (nodes_in image') (sym reads ∙ ap nodes_of e ∙ reads'),
    )
