-- What the invariant of `UsedRegions` says of its value. Assumes nothing.
use Rattle.std.specs.Prelude.{ℕ, suc, ◌+◌, ◌≤◌, ◌≡◌, refl, Bool, true, false, cond, ltb, List, [], ◌∷◌, length}
use Rattle.std.proofs.Common.{sym, ap, arith}
use Rattle.space.specs.declared.region.DiscRegion.{DiscRegion}
use Rattle.space.specs.Used.{end_of, nonempty_regions, total_size}
use Rattle.space.specs.Inner.Sort.{regions_in}
use Rattle.space.specs.Inner.Words.{IsSortedDisjoint, gaps}
use Rattle.space.proofs.Pairs.{length-regions}
use Rattle.space.proofs.Gaps.{gaps-free}
use Rattle.space.specs.Inner.UsedSpace.{UsedSpace, used_space_in, free_space_in}
use Rattle.space.proofs.Listed.{total-gaps}

few-more : (t : Bool) (x : DiscRegion) (xs : List DiscRegion) (n : ℕ) → length xs ≤ n → length (cond t (x ∷ xs) xs) ≤ suc n
few-more true x xs n h = omega arith
few-more false x xs n h = omega arith

nonempty_regions-few : (xs : List DiscRegion) → length (nonempty_regions xs) ≤ length xs
unfolding nonempty_regions
nonempty_regions-few [] = omega arith
nonempty_regions-few (x ∷ xs) = few-more (ltb 0 x.size) x (nonempty_regions xs) (length xs) (nonempty_regions-few xs)

length-gaps : (at e : ℕ) (xs : List DiscRegion) → length (gaps at e xs) ≡ suc (length xs)
unfolding gaps
length-gaps at e [] = refl
length-gaps at e (x ∷ xs) = ap suc (length-gaps (end_of x) e xs)

module _ (w : List ℕ) (m e : ℕ) (s : IsSortedDisjoint w m e) (u : UsedSpace) (is : used_space_in w m e ≡ u) where
  -- the used regions end by the disc's end
  pub used-fits : total_size u.regions ≤ e
  used-fits = rw (← is) (omega (arith, total-gaps 0 e (regions_in w 0 m) s.sequence))

  -- there is at most one more free region than there are used ones
  pub free-few : length (free_space_in u) ≤ m + 1
  free-few =
      rw (← is)
      (omega (arith, ap length (sym (gaps-free e (regions_in w 0 m) s.full s.sequence)), nonempty_regions-few (gaps 0 e (regions_in w 0 m)), length-gaps 0 e (regions_in w 0 m), length-regions w 0 m))
