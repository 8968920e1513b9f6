-- One look along regions in order finds the longest run of bytes that are none of theirs and none of a given region's.
-- Assumes nothing.
use Rattle.std.specs.Prelude.{ℕ, ◌+◌, ◌-◌, ◌<◌, ◌≤◌, max, ◌≡◌, refl, Bool, true, false, cond, ◌||◌, leb, eqb}
use Rattle.std.proofs.Common.{sym, ◌∙◌, arith}
use Rattle.std.proofs.Math.Path.{ap}
use Rattle.std.proofs.Math.Bool.{not}
use mathlib.Core.List.{List, [], ◌∷◌}
use borrow.Author.Tests.{leb-true, le-leb}
use Rattle.space.specs.declared.region.DiscRegion.{DiscRegion}
use Rattle.space.specs.Used.{end_of, is_inside, is_used}
use Rattle.space.specs.Free.{runs, largest_size}
use Rattle.space.specs.Inner.Words.{AllNonempty, is_in_sequence}
use Rattle.space.specs.Laws.UsedLaws.{is_inside-low, is_inside-in, is_inside-high}
use Rattle.refusal.specs.Laws.Tests.{and_left, and_right, and_both, or_right}
use Rattle.space.specs.Inner.Scan.{longest_beside, longest_from}
use Rattle.space.specs.Laws.CutLaws.{largest-split, runs_past, longest-gap}

-- the regions that do not start at `gone`
unfoldable pub without : ℕ → List DiscRegion → List DiscRegion
without gone [] = []
without gone (x ∷ xs) = cond (eqb x.offset gone) (without gone xs) (x ∷ without gone xs)

or-none : (t : Bool) → (t || false) ≡ t
or-none true = refl
or-none false = refl

pub sequence-first : (a e : ℕ) (x : DiscRegion) (xs : List DiscRegion) → is_in_sequence a e (x ∷ xs) ≡ true → a ≤ x.offset
unfolding is_in_sequence
sequence-first a e x xs c = leb-true a x.offset (and_left (leb a x.offset) _ c)

pub sequence-rest : (a e : ℕ) (x : DiscRegion) (xs : List DiscRegion) → is_in_sequence a e (x ∷ xs) ≡ true → is_in_sequence (end_of x) e xs ≡ true
unfolding is_in_sequence
sequence-rest a e x xs c = and_right (leb a x.offset) _ c

pub sequence-le : (a e : ℕ) (xs : List DiscRegion) → is_in_sequence a e xs ≡ true → a ≤ e
sequence-le a e [] c = unfold is_in_sequence in leb-true a e c
sequence-le a e (x ∷ xs) c = omega (arith, sequence-first a e x xs c, sequence-le (end_of x) e xs (sequence-rest a e x xs c))

sequence-earlier : (a b e : ℕ) (xs : List DiscRegion) → a ≤ b → is_in_sequence b e xs ≡ true → is_in_sequence a e xs ≡ true
unfolding is_in_sequence
sequence-earlier a b e [] h c = le-leb a e (omega (arith, leb-true b e c))
sequence-earlier a b e (x ∷ xs) h c = and_both _ _ (le-leb a x.offset (omega (arith, sequence-first b e x xs c))) (sequence-rest b e x xs c)

-- no byte before the first of regions in order is used, whichever of them are left out
pub without-low : (gone a e : ℕ) (xs : List DiscRegion) (i : ℕ) → is_in_sequence a e xs ≡ true → i < a → is_used (without gone xs) i ≡ false
unfolding is_used without
without-low gone a e [] i c h = refl
without-low gone a e (x ∷ xs) i c h =
    go (eqb x.offset gone) (without-low gone (end_of x) e xs i (sequence-rest a e x xs c) (omega (arith, sequence-first a e x xs c)))
  where
    go : (t : Bool) → is_used (without gone xs) i ≡ false → is_used (cond t (without gone xs) (x ∷ without gone xs)) i ≡ false
    go true r = r
    go false r = rw (is_inside-low x i (omega (arith, sequence-first a e x xs c))) r

module _ (e gone : ℕ) (new : DiscRegion) (p : ℕ → Bool) where
  -- the gap before a region, and what is behind the region
  gap-and-rest : (at best : ℕ) (x : DiscRegion) (xs : List DiscRegion) → 0 < x.size → at ≤ x.offset → is_in_sequence (end_of x) e xs ≡ true →
      ((i : ℕ) → at ≤ i → p i ≡ not (is_inside new i || (is_inside x i || is_used (without gone xs) i))) →
      max (max best (longest_beside at x.offset new)) (largest_size (runs p (end_of x) (e - end_of x))) ≡ max best (largest_size (runs p at (e - at)))
  gap-and-rest at best x xs f a c h =
      let n : e - at ≡ (x.offset - at) + (x.size + (e - end_of x)) = omega (arith, sequence-le (end_of x) e xs c) in
      let m : at + (x.offset - at) ≡ x.offset = omega arith in
      let l = longest-gap p at x.offset new gap a in
      let s = largest-split p at (x.offset - at) (x.size + (e - end_of x)) (rw m (in-x x.offset (omega arith) (omega arith))) in
      let k = runs_past p x.offset x.size (e - end_of x) in-x in
      rw (n, s, m, k, l) (omega arith)
    where
      in-x : (j : ℕ) → x.offset ≤ j → j < end_of x → p j ≡ false
      in-x j u v = h j (omega arith) ∙ rw (is_inside-in x j u v) (ap not (or_right (is_inside new j) true refl))

      gap : (j : ℕ) → at ≤ j → j < x.offset → p j ≡ not (is_inside new j)
      gap j u v = h j u ∙ rw (is_inside-low x j v, without-low gone (end_of x) e xs j c (omega arith)) (ap not (or-none (is_inside new j)))

  longest-from : (at best : ℕ) (xs : List DiscRegion) → AllNonempty xs → is_in_sequence at e xs ≡ true →
      ((i : ℕ) → at ≤ i → p i ≡ not (is_inside new i || is_used (without gone xs) i)) → longest_from e gone new at best xs ≡ max best (largest_size (runs p at (e - at)))
  unfolding longest_from without is_used
  longest-from at best [] f c h = ap (max best) (sym (longest-gap p at e new (λ j u v. h j u ∙ ap not (or-none (is_inside new j))) (sequence-le at e [] c)))
  longest-from at best (x ∷ xs) f c h =
      go (eqb x.offset gone) h
      (longest-from at best xs f.1 (sequence-earlier at (end_of x) e xs (omega (arith, sequence-first at e x xs c)) (sequence-rest at e x xs c)))
      (longest-from (end_of x) (max best (longest_beside at x.offset new)) xs f.1 (sequence-rest at e x xs c))
    where
      from : at ≤ x.offset
      from = sequence-first at e x xs c

      go : (t : Bool) → ((i : ℕ) → at ≤ i → p i ≡ not (is_inside new i || is_used (cond t (without gone xs) (x ∷ without gone xs)) i)) →
          (((i : ℕ) → at ≤ i → p i ≡ not (is_inside new i || is_used (without gone xs) i)) → longest_from e gone new at best xs ≡ max best (largest_size (runs p at (e - at)))) →
          (((i : ℕ) → end_of x ≤ i → p i ≡ not (is_inside new i || is_used (without gone xs) i)) →
          longest_from e gone new (end_of x) (max best (longest_beside at x.offset new)) xs ≡ max (max best (longest_beside at x.offset new)) (largest_size (runs p (end_of x) (e - end_of x)))) →
          cond t (longest_from e gone new at best xs) (longest_from e gone new (end_of x) (max best (longest_beside at x.offset new)) xs) ≡ max best (largest_size (runs p at (e - at)))
      go true g past kept = past g
      go false g past kept = kept (λ i u. g i (omega (arith, from)) ∙ rw (is_inside-high x i u)) ∙ gap-and-rest at best x xs f.0 from (sequence-rest at e x xs c) g

-- LAW: one look along the regions finds the size of the largest run
pub longest-runs : (e t gone : ℕ) (new : DiscRegion) (xs : List DiscRegion) (p : ℕ → Bool) → AllNonempty xs → is_in_sequence t e xs ≡ true →
    ((i : ℕ) → i < t → p i ≡ false) → ((i : ℕ) → t ≤ i → p i ≡ not (is_inside new i || is_used (without gone xs) i)) →
    longest_from e gone new t 0 xs ≡ largest_size (runs p 0 e)
longest-runs e t gone new xs p f c low h =
    let n : e ≡ t + (e - t) = omega (arith, sequence-le t e xs c) in
    let z : 0 + t ≡ t = omega arith in
    let s : runs p 0 (t + (e - t)) ≡ runs p t (e - t) = rw z at (runs_past p 0 t (e - t) (λ j u v. low j (omega arith))) in
    longest-from e gone new p t 0 xs f c h ∙ omega (arith, ap largest_size (ap (runs p 0) n ∙ s))
