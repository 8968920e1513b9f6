-- A path has at most one component more than bytes. Assumes nothing.
use Prim.Native.Nat.{ℕ, ◌+◌, ◌≤◌}
use mathlib.Core.Path.{◌≡◌}
use mathlib.Core.Bool.{Bool, true, false, cond}
use mathlib.Core.List.{List, [], ◌∷◌}
use native.Mathlib.Omega.{arith}
use lib.ListN.{length}
use Rattle.tree.specs.Units.{TextUnit, single, pair, is_lead_byte, is_trail_byte, units}
use Rattle.tree.specs.Lookup.{is_separator_unit, components_with, components_of, components}
use Rattle.tree.proofs.Laws.UnitLaws.{by_units}

one-more : (u : TextUnit) (us : List TextUnit) → length (components_of (u ∷ us)) ≤ length (components_of us) + 1
unfolding components_of
one-more u us = go (is_separator_unit u) (components_of us)
  where
    go : (t : Bool) (cs : List (List ℕ)) → length (cond t ([] ∷ cs) (components_with u cs)) ≤ length cs + 1
    go true cs = omega arith
    go false [] = omega arith
    go false (c ∷ cs) = omega arith

pub components-few : (path : List ℕ) → length (components path) ≤ length path + 1
unfolding components components_of units
components-few = by_units Few (few-none) of_pair of-single
  where
    Few : List ℕ → Type 0
    Few s = length (components_of (units s)) ≤ length s + 1

    few-none : Few []
    few-none = omega arith

    of_pair : (a b : ℕ) (s : List ℕ) → is_lead_byte a ≡ true → is_trail_byte b ≡ true → units (a ∷ b ∷ s) ≡ pair a b ∷ units s → Few s → Few (a ∷ b ∷ s)
    of_pair a b s l t u few = let m = one-more (pair a b) (units s) in rw u (omega (arith, m, few))

    of-single : (a : ℕ) (s : List ℕ) → units (a ∷ s) ≡ single a ∷ units s → Few s → Few (a ∷ s)
    of-single a s u few = let m = one-more (single a) (units s) in rw u (omega (arith, m, few))
