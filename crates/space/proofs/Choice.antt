-- What allocation and growth choose, one gap at a time.
-- Assumes nothing.
use Rattle.std.specs.Prelude.{Ok, Err, Option, Some, None, unwrap_or, if◌then◌else◌}
use Rattle.std.specs.Option.{ForSome, ok_or}
use Prim.Native.Nat.{ℕ, ◌+◌, ◌<◌, ◌≤◌}
use mathlib.Core.Path.{◌≡◌, refl, sym, ap}
use mathlib.Core.Bool.{Bool, true, false, cond, ◌&&◌}
use mathlib.Core.List.{List, ◌∷◌}
use native.Mathlib.Omega.{arith}
use borrow.Author.Tests.{le-leb, lt-leb, lt-ltb, le-ltb, eq-eqb, ne_eqb}
use lib.Dec.{leb, eqb}
use Rattle.space.specs.declared.region.DiscRegion.{DiscRegion}
use Rattle.refusal.specs.declared.Refusal.TheVariants.{NotEnoughSpace, InvalidAlignment}
use Rattle.space.specs.Used.{end_of, no_region}
use Rattle.space.specs.MaxRegionSize.{size_inside_free, size_beside_free, max_size_from}
use Rattle.space.specs.Allocate.{rest, is_large_enough, better_of, largest_rest, is_power_among, allocation_of}
use Rattle.space.specs.Inner.Found.{rest_or_none}

-- ---- the better of two

-- what a free region has for the wish, if anything
abbrev pub rest_in : ℕ → ℕ → DiscRegion → Option DiscRegion
rest_in align wish r = if is_large_enough align wish r then Some (rest align r) else None

module _ (align wish : ℕ) (best r : DiscRegion) where
  pub better-none : rest_in align wish r ≡ None → best ≡ better_of align wish best r
  unfolding better_of
  better-none = go (is_large_enough align wish r)
    where
      go : (t : Bool) → (if t then Some (rest align r) else None) ≡ None → best ≡ cond (t && leb best.size (rest align r).size) (rest align r) best
      go true h = absurd (let z : ◌≡◌ {A = ℕ} 0 1 = cc in omega arith)
      go false h = refl

  module _ (x : DiscRegion) (is : rest_in align wish r ≡ Some x) where
    some-rest : (t : Bool) → (if t then Some (rest align r) else None) ≡ Some x → (t ≡ true) × (rest align r ≡ x)
    some-rest true h = (refl, cc)
    some-rest false h = absurd (let z : ◌≡◌ {A = ℕ} 0 1 = cc in omega arith)

    pub better-less : x.size < best.size → best ≡ better_of align wish best r
    unfolding better_of
    better-less h = let s = some-rest (is_large_enough align wish r) is in let z : (rest align r).size ≡ x.size = ap (λ (d : DiscRegion). d.size) s.1 in rw (s.0, z, lt-leb best.size x.size h)

    pub better-takes : best.size ≤ x.size → x ≡ better_of align wish best r
    unfolding better_of
    better-takes h = let s = some-rest (is_large_enough align wish r) is in let z : (rest align r).size ≡ x.size = ap (λ (d : DiscRegion). d.size) s.1 in rw (s.0, le-leb best.size (rest align r).size (omega arith)) (sym s.1)

-- the largest, where it has a byte or is none
pub found-is : (o : Option DiscRegion) (b : DiscRegion) → ForSome o (λ (x : DiscRegion). 0 < x.size) → unwrap_or o no_region ≡ b → o ≡ rest_or_none b
found-is None b h e = rw (← e)
found-is (Some x) b h e = rw (← e, ne_eqb x.size 0 (λ z. omega (arith, h x refl)))

-- ---- the answer of an allocation

module _ (align wish : ℕ) (rs : List DiscRegion) where
  pub no_power : is_power_among 32 0 align ≡ false → Err InvalidAlignment ≡ allocation_of align wish rs
  unfolding allocation_of
  no_power h = rw h

  pub place-is : (o : Option DiscRegion) → is_power_among 32 0 align ≡ true → o ≡ rest_or_none (largest_rest align wish no_region rs) → ok_or o NotEnoughSpace ≡ allocation_of align wish rs
  unfolding allocation_of
  place-is o h e = rw (h, e) (go (eqb (largest_rest align wish no_region rs).size 0))
    where
      go : (t : Bool) → ok_or (cond t None (Some (largest_rest align wish no_region rs))) NotEnoughSpace ≡ cond t (Err NotEnoughSpace) (Ok (largest_rest align wish no_region rs))
      go true = refl
      go false = refl

-- ---- growth

module _ (o n prev_end : ℕ) (r : DiscRegion) where
  pub beside_at : r.offset ≡ o → r.size ≡ size_beside_free o n prev_end r
  unfolding size_beside_free
  beside_at h = rw (eq-eqb r.offset o h)

  pub beside-next : (r.offset ≡ o → ⊥) → r.offset ≡ o + n → size_inside_free o n prev_end (n + r.size) ≡ size_beside_free o n prev_end r
  unfolding size_beside_free
  beside-next h k = rw (ne_eqb r.offset o h, eq-eqb r.offset (o + n) k)

  pub beside-far : (r.offset ≡ o → ⊥) → (r.offset ≡ o + n → ⊥) → size_inside_free o n prev_end n ≡ size_beside_free o n prev_end r
  unfolding size_beside_free
  beside-far h k = rw (ne_eqb r.offset o h, ne_eqb r.offset (o + n) k)

-- a region before o is passed, and the first one from o on settles it
module _ (o n prev_end : ℕ) (r : DiscRegion) (rs : List DiscRegion) where
  pub grown-more : r.offset < o → max_size_from o n (end_of r) rs ≡ max_size_from o n prev_end (r ∷ rs)
  unfolding max_size_from
  grown-more h = rw (lt-ltb r.offset o h)

  pub grown-found : o ≤ r.offset → size_beside_free o n prev_end r ≡ max_size_from o n prev_end (r ∷ rs)
  unfolding max_size_from
  grown-found h = rw (le-ltb r.offset o h)
