-- The paths of a wish list and their tests in order (RULES, A new master). Assumes nothing: these are definitions.
use Rattle.std.specs.Prelude.{Ok, ℕ, Bool, not, ◌&&◌, ◌||◌, List, [], ◌∷◌, ◌++◌, length, if◌then◌else◌, ◌==◌, nat_eq, nat_lt, true, slice_index, ◌-◌}
use Rattle.std.specs.List.{list_all, list_any, count_by, slice_split, starts_with}
use Rattle.std.specs.Cmp.Lexicographic.{slice_cmp}
use Rattle.std.specs.Ordering.{nat_cmp, is_lt}
use Rattle.refusal.specs.declared.Refusal.TheVariants.{MissingNullTerminator, LimitOrMemory, InvalidNameByte, UnsafeName, AlreadyExists}
use Rattle.refusal.specs.Refusal.{Verdict, refuse, first}
use Rattle.tree.specs.Table.{is_plain, is_safe}

-- ---- each path is ended by a zero byte

abbrev pub is_zero : ℕ → Bool
is_zero b = b == 0

abbrev pub onto_path : ℕ → List (List ℕ) → List (List ℕ)
onto_path b [] = []
onto_path b (path ∷ paths) = (b ∷ path) ∷ paths

-- the paths in some bytes; what is behind the last zero byte is none
unfoldable pub paths_in : List ℕ → List (List ℕ)
paths_in [] = []
paths_in (b ∷ s) = if is_zero b then [] ∷ paths_in s else onto_path b (paths_in s)

-- bytes behind the last zero byte
abbrev pub has_rest : List ℕ → Bool
has_rest bytes = nat_lt 0 (length bytes) && not (is_zero (slice_index bytes (length bytes - 1)))

-- one path for each of n sizes, and nothing behind the last
abbrev pub ends_verdict : List ℕ → ℕ → Verdict
ends_verdict bytes n = refuse (has_rest bytes || not (count_by is_zero bytes == n)) MissingNullTerminator (Ok tt)

-- ---- a path

abbrev pub is_slash : ℕ → Bool
is_slash b = b == 0x2F

-- a path is cut at `/` and nowhere else: the directories around the file, and its name
abbrev pub names_of : List ℕ → List (List ℕ)
names_of path = slice_split is_slash path

-- in the order of their bytes, a path before those that go on behind it
abbrev pub is_below : List ℕ → List ℕ → Bool
is_below a b = is_lt (slice_cmp nat_cmp a b)

-- the file `a` is used as a directory by path b
abbrev pub is_used_by : List ℕ → List ℕ → Bool
is_used_by a b = starts_with nat_eq b (a ++ (0x2F ∷ []))

-- behind the last of the paths before it; those are listed from the last to the first
abbrev pub is_in_order : List (List ℕ) → List ℕ → Bool
is_in_order [] path = true
is_in_order (last ∷ paths) path = is_below last path

unfoldable pub path_verdict : List (List ℕ) → List ℕ → Verdict
path_verdict before path =
    refuse (nat_lt 1024 (length path)) LimitOrMemory
    (refuse (not (list_all is_safe (names_of path))) UnsafeName
    (refuse (not (list_all is_plain (names_of path))) InvalidNameByte
    (refuse (not (is_in_order before path)) AlreadyExists
    (refuse (list_any (λ file. is_used_by file path) before) AlreadyExists
    (Ok tt)))))

-- path by path, each with those before it
unfoldable pub paths_verdict : List (List ℕ) → List (List ℕ) → Verdict
paths_verdict before [] = Ok tt
paths_verdict before (path ∷ paths) = first (path_verdict before path) (paths_verdict (path ∷ before) paths)

-- the paths of n sizes
unfoldable pub list_verdict : List ℕ → ℕ → Verdict
list_verdict bytes n = first (ends_verdict bytes n) (paths_verdict [] (paths_in bytes))
