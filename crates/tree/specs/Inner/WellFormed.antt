-- What a list of entries must be, to be a tree: what acceptance gives, and what a written table needs. Assumes nothing: these are definitions.
use Rattle.std.specs.Prelude.{ℕ, suc, ◌^◌, ◌<◌, ◌≤◌, ◌≡◌, true, length}
use mathlib.Core.List.{List, [], ◌∷◌, tail}
use Rattle.tree.specs.Table.{Node, file, directory, name_of, is_plain, is_safe, top, dirs_open_at, dirs_with}

abbrev pub IsGoodName : List ℕ → Type 0
IsGoodName nm = (is_plain nm ≡ true) × (is_safe nm ≡ true)

-- entry k of c, where the directories `dirs` are open
abbrev pub IsGoodEntry : ℕ → List ℕ → ℕ → Node → Type 0
IsGoodEntry c dirs k (file nm offset size) = (offset < 2 ^ 32) × (size < 2 ^ 32)
IsGoodEntry c dirs k (directory nm next) = (k < next) × (next ≤ c) × (next ≤ top dirs)

-- entries k and on are xs
abbrev pub IsSound : ℕ → List ℕ → ℕ → List Node → Type 0
IsSound c dirs k [] = Unit {0}
IsSound c dirs k (x ∷ xs) = IsGoodName (name_of x) × IsGoodEntry c (dirs_open_at k dirs) k x × IsSound c (dirs_with (dirs_open_at k dirs) x) (suc k) xs

pub record IsWellFormed (nodes : List Node) : Type 0 where
  pub root : nodes ≡ directory [] (length nodes) ∷ tail nodes
  pub sound : IsSound (length nodes) (length nodes ∷ []) 1 (tail nodes)
