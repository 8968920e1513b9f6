-- What the functions that read a table compute on the way to the definitions of the file table. Assumes nothing: these are definitions.
use Rattle.std.specs.Prelude.{Ok, nat_lt, nat_le, slice_index}
use Rattle.refusal.specs.Refusal.{Verdict}
use Rattle.std.specs.Prelude.{ℕ, zero, suc, ◌+◌, ◌-◌, ◌*◌, ◌<◌, ◌≤◌, ◌≡◌, List, [], ◌∷◌, length}
use Rattle.refusal.specs.declared.Refusal.TheVariants.{MissingNullTerminator, LimitOrMemory, InvalidNextIndex}
use Rattle.refusal.specs.Refusal.{refuse, first}
use Rattle.tree.specs.Table.{name_offset, size_or_next, name_at, node_at, nodes_from, is_unended, name_verdict, next_verdict, walk, check}

-- the table is accepted, where some number of working words is lent
pub record Opens (tab : List ℕ) : Type 0 where
  pub words : ℕ
  pub passed : check tab words ≡ Ok tt

-- c entries stand in the table, the root at least, and no more than the limit
pub record IsInside (tab : List ℕ) (c : ℕ) : Type 0 where
  pub held : 12 * c ≤ length tab
  pub some : 0 < c
  pub small : c ≤ 16384

-- the numbers of a stack, which stand in words, the top one last
unfoldable pub open_in : List ℕ → ℕ → List ℕ
open_in words zero = []
open_in words (suc d) = slice_index words d ∷ open_in words d

pub record IsStacked (words : List ℕ) (depth : ℕ) : Type 0 where
  pub long : length words ≡ 65
  pub fits : depth ≤ 65

-- the tests of a table of c entries after those of its entries: 8, texts and working words, then the walk
unfoldable pub texts_verdict : List ℕ → ℕ → ℕ → Verdict
texts_verdict tab c words =
    refuse (is_unended tab c) MissingNullTerminator
    (refuse (nat_lt 1048576 (length tab - 12 * c)) LimitOrMemory
    (refuse (nat_lt words (4 * (c + 2))) LimitOrMemory
    (refuse (nat_le (size_or_next tab 0) 0) InvalidNextIndex
    (walk tab c (c ∷ []) 1 (nodes_from tab c 1 (c - 1))))))

-- the walk's tests of entry k, where the directories `dirs` are open
abbrev pub node_verdict : List ℕ → ℕ → List ℕ → ℕ → Verdict
node_verdict tab c dirs k = first (name_verdict tab c k (name_at tab c (name_offset tab k))) (next_verdict c dirs k (node_at tab c k))
