-- That a table stands in some bytes has one proof at most, so that a type can keep it as an invariant. Assumes nothing.
use Rattle.std.specs.Prelude.{ℕ, suc}
use mathlib.Core.List.{List, [], ◌∷◌}
use Rattle.std.specs.Coded.{Unit-prop}
use Rattle.std.proofs.Props.{props}
use Rattle.tree.specs.Table.{Node, file, directory, dirs_open_at, dirs_with}
use Rattle.tree.specs.Inner.WellFormed.{IsGoodEntry, IsSound}

-- so has each part of it
good-prop : (c : ℕ) (dirs : List ℕ) (k : ℕ) (x : Node) → IsProp (IsGoodEntry c dirs k x)
good-prop c dirs k (file nm offset size) = hlevel props
good-prop c dirs k (directory nm next) = hlevel props

-- the entries from k on
pub sound-prop : (c : ℕ) (dirs : List ℕ) (k : ℕ) (xs : List Node) → IsProp (IsSound c dirs k xs)
sound-prop c dirs k [] = Unit-prop
sound-prop c dirs k (x ∷ xs) = hlevel (props, good-prop c (dirs_open_at k dirs) k x, sound-prop c (dirs_with (dirs_open_at k dirs) x) (suc k) xs)
