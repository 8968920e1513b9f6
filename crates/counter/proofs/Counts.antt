-- There are fewer than 2^32 free regions: each has a byte of its own below the disc end. Assumes nothing.
use Prim.Native.Nat.{ℕ, zero, suc, ◌^◌, ◌<◌, ◌≤◌}
use mathlib.Core.Path.{◌≡◌, refl, sym, ◌∙◌}
use mathlib.Core.Bool.{Bool, true, false, cond}
use mathlib.Core.List.{List, [], ◌∷◌}
use native.Mathlib.Omega.{arith}
use lib.Dec.{eqb, ltb}
use lib.ListN.{length}
use Rattle.std.specs.Prelude.{Result, Ok, Err}
use Rattle.refusal.specs.Refusal.{Verdict}
use Rattle.refusal.specs.declared.Refusal.{Refusal}
use Rattle.refusal.specs.declared.Refusal.TheVariants.{LimitOrMemory}
use Rattle.refusal.specs.Laws.Chains.{first-passed}
use Rattle.header.specs.Verdicts.{header_verdict, bounds_verdict, disc_end}
use Rattle.header.specs.Laws.FieldTests.{bounds-passed}
use Rattle.space.specs.declared.region.DiscRegion.{DiscRegion}
use Rattle.space.specs.Free.{join, runs, free_regions}
use Rattle.space.specs.Listing.{rows_of, listing_of}
use Rattle.opened.specs.Opening.{opening, free_space_of}
use Rattle.opened.specs.Answers.{answer_behind}
use Rattle.disc.specs.Calls.{free_answer}

join-count : (i : ℕ) (rs : List DiscRegion) → length (join i rs) ≤ suc (length rs)
join-count i [] = omega arith
join-count i (r ∷ rs) = go (eqb r.offset (suc i))
  where
    go : (t : Bool) → length (cond t (record { offset = i; size = suc r.size } ∷ rs) (record { offset = i; size = 1 } ∷ r ∷ rs)) ≤ suc (suc (length rs))
    go true = omega arith
    go false = omega arith

-- among n bytes there are at most n runs
runs-count : (p : ℕ → Bool) (i n : ℕ) → length (runs p i n) ≤ n
unfolding runs
runs-count p i zero = omega arith
runs-count p i (suc n) = go (p i) (runs-count p (suc i) n)
  where
    go : (t : Bool) → length (runs p (suc i) n) ≤ n → length (cond t (join i (runs p (suc i) n)) (runs p (suc i) n)) ≤ suc n
    go true h = omega (arith, join-count i (runs p (suc i) n))
    go false h = omega arith

free-count : (image : List ℕ) → length (free_space_of image) ≤ disc_end image
unfolding free_regions
free-count image = runs-count _ 0 (disc_end image)

module _ (row : DiscRegion → List ℕ) (image : List ℕ) (words room n : ℕ) where
  small-end : opening image words ≡ Ok tt → disc_end image < 2 ^ 32
  unfolding opening
  small-end e =
      let b = bounds-passed image (first-passed (bounds_verdict image) _ (first-passed (header_verdict image) _ e).1).0 in
      omega (arith, b.small)

  counted : (t : Bool) (m : ℕ) → cond t (Err LimitOrMemory) (Ok m) ≡ Ok n → m ≡ n
  counted true m e = cc
  counted false m e = cc

  go : (v : Verdict) → opening image words ≡ v → answer_behind v Err (listing_of row (free_space_of image) room) ≡ Ok n → n < 2 ^ 32
  go (Ok tt) o e =
      let m = counted (ltb room (length (rows_of row (free_space_of image)))) (length (free_space_of image)) e in
      omega (arith, m, small-end o, free-count image)
  go (Err c) o e = cc

  pub listed_small : (a : Result ℕ Refusal) → a ≡ free_answer row image words room → a ≡ Ok n → n < 2 ^ 32
  unfolding free_answer
  listed_small a f e = go (opening image words) refl (sym f ∙ e)
