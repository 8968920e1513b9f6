-- Which entry a table is refused for: none for the root (a count of 0 too), too many entries, the texts as a whole, or too few working words.
use Rattle.std.specs.Prelude.{ℕ, zero, suc, ◌+◌, ◌-◌, ◌*◌, Bool, not, ◌||◌, List, [], ◌∷◌, length, Option, None, Some, is_err, if◌then◌else◌, ◌==◌, nat_lt}
use Rattle.refusal.specs.Refusal.{first}
use Rattle.tree.specs.Table.{Node, name_of, kind, size_or_next, count, nodes_from, entry_verdict, entries_verdict, is_unended, dirs_open_at, dirs_with, name_verdict, next_verdict}

-- the first of n entries from k on that is refused for its place or its kind
unfoldable pub first_refused : List ℕ → ℕ → ℕ → Option ℕ
first_refused tab k zero = None
first_refused tab k (suc n) = if is_err (entry_verdict tab k) then Some k else first_refused tab (suc k) n

-- the first of entries k and on, which read as xs, that the walk refuses
unfoldable pub walk_refused : List ℕ → ℕ → List ℕ → ℕ → List Node → Option ℕ
walk_refused tab c dirs k [] = None
walk_refused tab c dirs k (x ∷ xs) =
    if is_err (first (name_verdict tab c k (name_of x)) (next_verdict c (dirs_open_at k dirs) k x)) then Some k
    else walk_refused tab c (dirs_with (dirs_open_at k dirs) x) (suc k) xs

-- the root is refused, or there are too many entries
abbrev pub is_refused_before_entries : List ℕ → Bool
is_refused_before_entries tab = nat_lt (length tab) 12 || (not (kind tab 0 == 1) || nat_lt 16384 (count tab))

-- a table of c entries is refused for its texts as a whole, for too few working words or for a count of 0
abbrev pub is_refused_behind_entries : List ℕ → ℕ → ℕ → Bool
is_refused_behind_entries tab c words = is_unended tab c || (nat_lt 1048576 (length tab - 12 * c) || (nat_lt words (4 * (c + 2)) || size_or_next tab 0 == 0))

-- the entry that `check` refuses the table for, if it is one
unfoldable pub refused_entry : List ℕ → ℕ → Option ℕ
refused_entry tab words =
    let c = count tab in
    if is_refused_before_entries tab then None
    else if is_err (entries_verdict tab 1 (c - 1)) then first_refused tab 1 (c - 1)
    else if is_refused_behind_entries tab c words then None
    else walk_refused tab c (c ∷ []) 1 (nodes_from tab c 1 (c - 1))
