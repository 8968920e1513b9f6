-- The bytes of a text's units are the text. Assumes nothing.
use Prim.Native.Nat.{ℕ}
use mathlib.Core.Path.{◌≡◌, refl}
use mathlib.Core.List.{List, [], ◌∷◌, ◌++◌}
use Rattle.tree.specs.Units.{TextUnit, unit_bytes, units}
use Rattle.tree.proofs.Laws.UnitLaws.{by_units}

-- ---- the bytes of units

abbrev pub bytes_of : List TextUnit → List ℕ
bytes_of [] = []
bytes_of (u ∷ us) = unit_bytes u ++ bytes_of us

pub bytes-units : (s : List ℕ) → bytes_of (units s) ≡ s
unfolding units
bytes-units s = by_units Whole refl (λ a b s l t u e. rw (u, e) refl) (λ a s u e. rw (u, e) refl) s
  where
    Whole : List ℕ → Type 0
    Whole s = bytes_of (units s) ≡ s
