-- The paths that came before, as they are kept: the last one, and how many of its bytes are one of them. Assumes nothing: these are
-- definitions.
use Rattle.std.specs.Prelude.{Ok, ℕ, ◌≤◌, ◌≡◌, Bool, false, not, List, [], ◌∷◌, length, take, nat_eq, nat_lt, slice_index_or}
use Rattle.std.specs.List.{list_all, list_any, common_prefix_len}
use Rattle.endian.specs.Bytes.{are_same_bytes}
use Rattle.refusal.specs.declared.Refusal.TheVariants.{LimitOrMemory, InvalidNameByte, UnsafeName, AlreadyExists}
use Rattle.refusal.specs.Refusal.{Verdict, refuse}
use Rattle.tree.specs.Table.{is_plain, is_safe}
use Rattle.wish_list.specs.Paths.{names_of, is_below, is_used_by, is_in_order}

-- ---- the tests of a path in two parts

-- by itself
unfoldable pub form_verdict : List ℕ → Verdict
form_verdict path =
    refuse (nat_lt 1024 (length path)) LimitOrMemory
    (refuse (not (list_all is_safe (names_of path))) UnsafeName
    (refuse (not (list_all is_plain (names_of path))) InvalidNameByte
    (Ok tt)))

-- behind the paths before it
unfoldable pub order_verdict : List (List ℕ) → List ℕ → Verdict
order_verdict before path =
    refuse (not (is_in_order before path)) AlreadyExists
    (refuse (list_any (λ file. is_used_by file path) before) AlreadyExists
    (Ok tt))

-- ---- the paths before

-- how many bytes two paths have in common, up to the first that differs
abbrev pub common_length : List ℕ → List ℕ → ℕ
common_length a b = common_prefix_len nat_eq a b

abbrev pub last_of : List (List ℕ) → List ℕ
last_of [] = []
last_of (last ∷ paths) = last

abbrev pub is_one_of : List (List ℕ) → List ℕ → Bool
is_one_of paths path = list_any (λ file. are_same_bytes file path) paths

-- the last of them, which none is behind and none is a directory around, and marks: whether its first n bytes are one of them
pub record IsKept (before : List (List ℕ)) (last : List ℕ) (marks : List Bool) : Type 0 where
  pub is_last : last ≡ last_of before
  pub none_behind : list_any (λ file. is_below last file) before ≡ false
  pub none_around : list_any (λ file. is_used_by file last) before ≡ false
  pub marked : (n : ℕ) → n ≤ length last → slice_index_or marks n false ≡ is_one_of before (take n last)
