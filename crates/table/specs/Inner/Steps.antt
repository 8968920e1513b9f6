-- What is left of a path, and where a lookup is on the way along it. Assumes nothing: these are definitions.
use Rattle.std.specs.Prelude.{Result, Ok, Err, Option, Some, None, if◌then◌else◌, nat_lt}
use Rattle.std.specs.Borrow.{Bor}
use Rattle.refusal.specs.declared.Refusal.{Refusal}
use Rattle.std.specs.Prelude.{ℕ, ◌+◌, ◌<◌, ◌≤◌, List, [], ◌∷◌, length, drop}
use Rattle.tree.specs.Table.{Node}
use Rattle.tree.specs.Inner.Depths.{depth_of}
use Rattle.tree.specs.Lookup.{components, follow}

-- the components of a path behind the one that ends at e
abbrev pub components_after : List ℕ → ℕ → List (List ℕ)
components_after path e = if nat_lt e (length path) then components (drop (e + 1) path) else []

-- the components of the rest of a path, if any is left
abbrev pub left_of : Option (Bor (List ℕ)) → List (List ℕ)
left_of None = []
left_of (Some path) = components path.now

-- what is left of a lookup after a step
abbrev pub lookup_onward : List Node → List ℕ → List (List ℕ) → Result ℕ Refusal → Result ℕ Refusal
lookup_onward nodes trail cs (Ok j) = follow nodes trail j cs
lookup_onward nodes trail cs (Err c) = Err c

-- entries that named steps left, the last first: each stands deeper than those before it are many
abbrev pub IsBehind : List Node → List ℕ → Type 0
IsBehind nodes [] = Unit {0}
IsBehind nodes (j ∷ trail) = (j < length nodes) × (length trail ≤ depth_of nodes j) × IsBehind nodes trail

-- named steps led to entry k, each one deeper than the last
pub record IsTrail (nodes : List Node) (trail : List ℕ) (k : ℕ) : Type 0 where
  pub inside : k < length nodes
  pub deep : length trail ≤ depth_of nodes k
  pub behind : IsBehind nodes trail
