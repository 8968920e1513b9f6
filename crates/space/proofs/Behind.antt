-- The used regions behind the first, in words, and one step along them. Assumes nothing.
use Rattle.std.specs.Prelude.{ℕ, zero, suc, ◌-◌, max, ◌≡◌, ◌≢◌, refl, List, ◌∷◌, drop}
use Rattle.std.proofs.Common.{arith, eq-eqb, ne_eqb}
use Rattle.space.specs.declared.region.DiscRegion.{DiscRegion}
use Rattle.space.specs.Used.{end_of}
use Rattle.space.specs.Inner.Sort.{regions_in}
use Rattle.space.specs.Inner.Scan.{longest_beside, longest_from}

pub behind-first : (w : List ℕ) (m : ℕ) → drop 1 (regions_in w 0 m) ≡ regions_in w 1 (m - 1)
unfolding regions_in
behind-first w zero = refl
behind-first w (suc m) = let n : suc m - 1 ≡ m = omega arith in rw n

module _ (e gone : ℕ) (new : DiscRegion) (at best : ℕ) (x : DiscRegion) (xs : List DiscRegion) where
  -- the place that the file leaves is passed over
  pub past-gone : x.offset ≡ gone → longest_from e gone new at best (x ∷ xs) ≡ longest_from e gone new at best xs
  unfolding longest_from
  past-gone is = rw (eq-eqb x.offset gone is)

  -- any other region ends the run before it
  pub past-used : x.offset ≢ gone →
      longest_from e gone new at best (x ∷ xs) ≡ longest_from e gone new (end_of x) (max best (longest_beside at x.offset new)) xs
  unfolding longest_from
  past-used other = rw (ne_eqb x.offset gone other)
