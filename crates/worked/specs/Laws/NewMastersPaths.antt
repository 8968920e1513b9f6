-- Worked paths of a wish list, by computing: which are accepted, and how the others are refused. Assumes nothing.
use Rattle.std.specs.Prelude.{Ok, Err, ℕ, zero, suc, ◌+◌, ◌*◌, ◌≡◌, refl, List, [], ◌∷◌, ◌++◌, replicate}
use Rattle.refusal.specs.Refusal.{Verdict, number_of}
use Rattle.refusal.specs.declared.Refusal.TheVariants.{MissingNullTerminator, LimitOrMemory, InvalidNameByte, UnsafeName, AlreadyExists}
use Rattle.endian.specs.Bytes.{are_same_bytes}
use Rattle.tree.specs.Units.{units}
use Rattle.tree.specs.Table.{is_plain, is_safe, dirs_open_at, texts_of, is_shallow_from, is_shallow, limits, encode, entries_bytes, parent_of, parent_below}
use Rattle.wish_list.specs.Paths.{paths_in, path_verdict, paths_verdict, list_verdict}
use Rattle.placement.specs.Placement.{are_all_empty, least_end, is_placeable}
use Rattle.master.specs.Master.{before_place, master_verdict}
use Rattle.worked.specs.Laws.NewMasters.{wished}
use Rattle.wish_list.specs.Tree.{wishes, common, below, entries_from, tree_from, tree}

-- one path, by itself
abbrev alone : List ℕ → Verdict
alone path = list_verdict (path ++ (0 ∷ [])) 1

-- ---- each zero byte ends a path, and there is one for each size

pub record Ends : Type 0 where
  -- `a` and `b` for two sizes; none for none
  pub as-many : (list_verdict (0x61 ∷ 0 ∷ 0x62 ∷ 0 ∷ []) 2 ≡ Ok tt) × (list_verdict [] 0 ≡ Ok tt)
  pub too-few : (list_verdict (0x61 ∷ 0 ∷ []) 2 ≡ Err MissingNullTerminator) × (list_verdict [] 1 ≡ Err MissingNullTerminator)
  pub too-many : (list_verdict (0x61 ∷ 0 ∷ 0x62 ∷ 0 ∷ []) 1 ≡ Err MissingNullTerminator) × (list_verdict (0x61 ∷ 0 ∷ []) 0 ≡ Err MissingNullTerminator)
  -- `a`, and `b` with no zero byte behind it: for one size and for two
  pub rest : (list_verdict (0x61 ∷ 0 ∷ 0x62 ∷ []) 1 ≡ Err MissingNullTerminator) × (list_verdict (0x61 ∷ 0 ∷ 0x62 ∷ []) 2 ≡ Err MissingNullTerminator)
  -- a zero byte more is an empty path
  pub one-more : (list_verdict (0x61 ∷ 0 ∷ 0 ∷ []) 1 ≡ Err MissingNullTerminator) × (list_verdict (0x61 ∷ 0 ∷ 0 ∷ []) 2 ≡ Err UnsafeName)
  pub number : number_of MissingNullTerminator ≡ 8

pub ends : Ends
unfolding paths_in path_verdict paths_verdict list_verdict is_plain is_safe units
ends = record { as-many = (refl, refl); too-few = (refl, refl); too-many = (refl, refl); rest = (refl, refl); one-more = (refl, refl); number = refl }

-- ---- the names in a path

pub record Names : Type 0 where
  -- an empty path; `/a`, `a/` and `a//b` have an empty name
  pub empty : alone [] ≡ Err UnsafeName
  pub slashes : (alone (0x2F ∷ 0x61 ∷ []) ≡ Err UnsafeName) × (alone (0x61 ∷ 0x2F ∷ []) ≡ Err UnsafeName) × (alone (0x61 ∷ 0x2F ∷ 0x2F ∷ 0x62 ∷ []) ≡ Err UnsafeName)
  -- `a/..`, `./a`, and `...`, which is a name like others
  pub dots : (alone (0x61 ∷ 0x2F ∷ 0x2E ∷ 0x2E ∷ []) ≡ Err UnsafeName) × (alone (0x2E ∷ 0x2F ∷ 0x61 ∷ []) ≡ Err UnsafeName) × (alone (0x2E ∷ 0x2E ∷ 0x2E ∷ []) ≡ Ok tt)
  -- the byte 1; before it 13 is due: that byte and `/.`
  pub unplain : alone (1 ∷ []) ≡ Err InvalidNameByte
  pub unsafe-first : alone (1 ∷ 0x2F ∷ 0x2E ∷ []) ≡ Err UnsafeName
  -- `\` by itself, and as the second byte of a pair
  pub backslash : alone (0x5C ∷ []) ≡ Err UnsafeName
  pub in-a-pair : alone (0x83 ∷ 0x5C ∷ []) ≡ Ok tt
  pub numbers : (number_of UnsafeName ≡ 13) × (number_of InvalidNameByte ≡ 12)

pub names : Names
unfolding paths_in path_verdict paths_verdict list_verdict is_plain is_safe units
names = record {
  empty = refl;
  slashes = (refl, refl, refl);
  dots = (refl, refl, refl);
  unplain = refl;
  unsafe-first = refl;
  backslash = refl;
  in-a-pair = refl;
  numbers = (refl, refl);
}

-- ---- the length of a path

pub record Lengths : Type 0 where
  -- `:`, 1,024 times and 1,025 times
  pub at-most : alone (replicate 1024 0x3A) ≡ Err UnsafeName
  pub longer : alone (replicate 1025 0x3A) ≡ Err LimitOrMemory
  -- `a`, 1,024 times
  pub accepted : alone (replicate 1024 0x61) ≡ Ok tt
  pub number : number_of LimitOrMemory ≡ 9

pub lengths : Lengths
unfolding paths_in path_verdict paths_verdict list_verdict is_plain is_safe units
lengths = record { at-most = refl; longer = refl; accepted = refl; number = refl }

-- ---- their order

pub record Ordered : Type 0 where
  -- `a` twice; `b`, `a`
  pub twice : list_verdict (0x61 ∷ 0 ∷ 0x61 ∷ 0 ∷ []) 2 ≡ Err AlreadyExists
  pub backwards : list_verdict (0x62 ∷ 0 ∷ 0x61 ∷ 0 ∷ []) 2 ≡ Err AlreadyExists
  -- `a`, `ab`: a path before those that go on behind it
  pub longer : list_verdict (0x61 ∷ 0 ∷ 0x61 ∷ 0x62 ∷ 0 ∷ []) 2 ≡ Ok tt
  -- `a`, `a/c`: a file as a directory; and with `a-b` between them
  pub used : list_verdict (0x61 ∷ 0 ∷ 0x61 ∷ 0x2F ∷ 0x63 ∷ 0 ∷ []) 2 ≡ Err AlreadyExists
  pub used-later : list_verdict (0x61 ∷ 0 ∷ 0x61 ∷ 0x2D ∷ 0x62 ∷ 0 ∷ 0x61 ∷ 0x2F ∷ 0x63 ∷ 0 ∷ []) 3 ≡ Err AlreadyExists
  -- `-` is before `/`: `a/c`, `a-b`, and the other way round
  pub by-bytes : (list_verdict (0x61 ∷ 0x2F ∷ 0x63 ∷ 0 ∷ 0x61 ∷ 0x2D ∷ 0x62 ∷ 0 ∷ []) 2 ≡ Err AlreadyExists) × (list_verdict (0x61 ∷ 0x2D ∷ 0x62 ∷ 0 ∷ 0x61 ∷ 0x2F ∷ 0x63 ∷ 0 ∷ []) 2 ≡ Ok tt)
  -- bytes have no sign: `z`, and a half-width letter
  pub high : (list_verdict (0x7A ∷ 0 ∷ 0xB1 ∷ 0 ∷ []) 2 ≡ Ok tt) × (list_verdict (0xB1 ∷ 0 ∷ 0x7A ∷ 0 ∷ []) 2 ≡ Err AlreadyExists)
  -- `A`, `a`: case counts
  pub case : list_verdict (0x41 ∷ 0 ∷ 0x61 ∷ 0 ∷ []) 2 ≡ Ok tt
  -- path by path: `a`, `a`, `\` is 19, and `\`, `a`, `a` is 13
  pub path-by-path : (list_verdict (0x61 ∷ 0 ∷ 0x61 ∷ 0 ∷ 0x5C ∷ 0 ∷ []) 3 ≡ Err AlreadyExists) × (list_verdict (0x5C ∷ 0 ∷ 0x61 ∷ 0 ∷ 0x61 ∷ 0 ∷ []) 3 ≡ Err UnsafeName)
  -- within a path 12 and 9 come before 19: `b`, 0x01; `b`, `a` 1,025 times
  pub within-a-path : (list_verdict (0x62 ∷ 0 ∷ 0x01 ∷ 0 ∷ []) 2 ≡ Err InvalidNameByte) × (list_verdict (0x62 ∷ 0 ∷ (replicate 1025 0x61 ++ (0 ∷ []))) 2 ≡ Err LimitOrMemory)
  pub number : number_of AlreadyExists ≡ 19

pub ordered : Ordered
unfolding paths_in path_verdict paths_verdict list_verdict is_plain is_safe units
ordered = record {
  twice = refl;
  backwards = refl;
  longer = refl;
  used = refl;
  used-later = refl;
  by-bytes = (refl, refl);
  high = (refl, refl);
  case = refl;
  path-by-path = (refl, refl);
  within-a-path = (refl, refl);
  number = refl;
}

-- ---- the depth of a path: `a/a/../a`

-- n directories around a file
pub chain : ℕ → List ℕ
chain zero = 0x61 ∷ []
chain (suc n) = 0x61 ∷ 0x2F ∷ chain n

-- the file is empty, and the disc ends with the table, of 14 bytes for each entry but the root, which has 12; memory and buffer are just enough
abbrev deep : ℕ → Verdict
deep n = master_verdict (wished (0x440 + (12 + 14 * (n + 1))) (chain n ++ (0 ∷ [])) (0 ∷ [])) (0x440 + (12 + 14 * (n + 1))) (4 * (n + 4)) (12 + 14 * (n + 1))

pub record Depths : Type 0 where
  -- 65 names: the deepest directory is 64 below the root
  pub deepest : deep 64 ≡ Ok tt
  -- 66 names
  pub deeper : deep 65 ≡ Err LimitOrMemory
  -- the path itself passes
  pub path : alone (chain 65) ≡ Ok tt

pub depths : Depths
unfolding chain paths_in path_verdict paths_verdict list_verdict is_plain is_safe units wishes common below entries_from tree_from tree are_same_bytes limits is_shallow is_shallow_from dirs_open_at texts_of encode entries_bytes parent_of parent_below least_end is_placeable are_all_empty before_place master_verdict
depths = record { deepest = refl; deeper = refl; path = refl }
