-- What each path adds to the table behind the path before it, counted in bytes. Assumes nothing: these are definitions.
use Rattle.std.specs.Prelude.{ℕ, zero, suc, ◌+◌, Bool, ◌&&◌, List, [], ◌∷◌, length, drop, if◌then◌else◌, ◌==◌, nat_le}
use Rattle.std.specs.List.{count_by, list_all}
use Rattle.wish_list.specs.Paths.{is_slash}

abbrev pub slashes : List ℕ → ℕ
slashes path = count_by is_slash path

abbrev pub shared_from : ℕ → ℕ → ℕ
shared_from b zero = if is_slash b then 1 else 0
shared_from b (suc n) = suc (suc n)

-- how many bytes of a path are the directories that the path before it is in too, each with its `/`
unfoldable pub shared_bytes : List ℕ → List ℕ → ℕ
shared_bytes [] path = 0
shared_bytes (a ∷ before) [] = 0
shared_bytes (a ∷ before) (b ∷ path) = if a == b then shared_from b (shared_bytes before path) else 0

-- the rest of it
abbrev pub own_part : List ℕ → List ℕ → List ℕ
own_part before path = drop (shared_bytes before path) path

-- how many entries the paths bring behind the path `before`, and how many bytes of texts
unfoldable pub entries_behind : List ℕ → List (List ℕ) → ℕ
entries_behind before [] = 0
entries_behind before (path ∷ paths) = suc (slashes (own_part before path)) + entries_behind path paths

unfoldable pub texts_behind : List ℕ → List (List ℕ) → ℕ
texts_behind before [] = 0
texts_behind before (path ∷ paths) = suc (length (own_part before path)) + texts_behind path paths

-- no directory of the path is deeper than 64
abbrev pub is_shallow_path : List ℕ → Bool
is_shallow_path path = nat_le (slashes path) 64

-- the paths are within the limits
unfoldable pub is_small : List (List ℕ) → Bool
is_small paths = nat_le (suc (entries_behind [] paths)) 16384 && (nat_le (texts_behind [] paths) 1048576 && list_all is_shallow_path paths)
