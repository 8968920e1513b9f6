-- The free regions from a gap on: what an iterator over them has left. Assumes nothing.
use Rattle.std.specs.Prelude.{ℕ, ◌-◌, ◌<◌, ◌≤◌, ◌≡◌, true, ◌&&◌, List, [], ◌∷◌}
use Rattle.std.proofs.Common.{refl, sym, ◌∙◌, arith}
use borrow.Author.Tests.{le-leb}
use lib.Dec.{leb}
use Rattle.refusal.specs.Laws.Tests.{and_right}
use Rattle.space.specs.declared.region.DiscRegion.{DiscRegion}
use Rattle.space.specs.Used.{end_of, nonempty_regions}
use Rattle.space.specs.Inner.Words.{is_in_sequence, gaps}
use Rattle.space.specs.Laws.UsedLaws.{nonempty_regions-cons, nonempty_regions-empty}
use Rattle.space.specs.Laws.LongestLaws.{sequence-le}

-- what is free from byte `at` on, beside the used regions xs
abbrev pub left : ℕ → ℕ → List DiscRegion → List DiscRegion
left e at xs = nonempty_regions (gaps at e xs)

-- used regions with no free byte before them were passed, from one place to another
pub record IsPassed (e : ℕ) (all : List DiscRegion) (at : ℕ) (xs : List DiscRegion) : Type 0 where
  pub in_order : is_in_sequence at e xs ≡ true
  pub same : left e at xs ≡ all

module _ (e : ℕ) (all : List DiscRegion) (at : ℕ) (xs : List DiscRegion) (p : IsPassed e all at xs) where
  -- x is the next used region
  module _ (x : DiscRegion) (ys : List DiscRegion) (is : xs ≡ x ∷ ys) where
    in_order-here : (leb at x.offset && is_in_sequence (end_of x) e ys) ≡ true
    in_order-here = unfold is_in_sequence in (rw is at p.in_order)

    same-here : nonempty_regions (record { offset = at; size = x.offset - at } ∷ gaps (end_of x) e ys) ≡ all
    same-here = unfold gaps in (rw is at p.same)

    pub passed-order : is_in_sequence (end_of x) e ys ≡ true
    passed-order = and_right (leb at x.offset) (is_in_sequence (end_of x) e ys) in_order-here

    pub passed-ends : end_of x ≤ e
    passed-ends = sequence-le (end_of x) e ys passed-order

    pub passed-skip : x.offset ≤ at → IsPassed e all (end_of x) ys
    passed-skip h = record {
      in_order = passed-order;
      same = sym (nonempty_regions-empty (record { offset = at; size = x.offset - at }) (gaps (end_of x) e ys) (omega arith)) ∙ same-here;
    }

    pub passed-one : at < x.offset → all ≡ record { offset = at; size = x.offset - at } ∷ left e (end_of x) ys
    passed-one h = sym same-here ∙ nonempty_regions-cons (record { offset = at; size = x.offset - at }) (gaps (end_of x) e ys) (omega arith)

  -- there is none: what is left is the gap up to the disc's end
  module _ (ys : List DiscRegion) (is : xs ≡ []) (after : ys ≡ []) where
    same-last : nonempty_regions (record { offset = at; size = e - at } ∷ []) ≡ all
    same-last = unfold gaps in (rw is at p.same)

    pub order-none : is_in_sequence e e ys ≡ true
    order-none = let l : e ≤ e = omega arith in rw after (unfold is_in_sequence in le-leb e e l)

    pub none-left : left e e ys ≡ []
    none-left = rw after (unfold gaps nonempty_regions in (let z : e - e ≡ 0 = omega arith in rw z))

    pub passed-last : at < e → all ≡ record { offset = at; size = e - at } ∷ left e e ys
    passed-last h = rw none-left (sym same-last ∙ nonempty_regions-cons (record { offset = at; size = e - at }) [] (omega arith) ∙ unfold nonempty_regions in refl)

    pub passed-end : e ≤ at → all ≡ []
    passed-end h = sym same-last ∙ nonempty_regions-empty (record { offset = at; size = e - at }) [] (omega arith) ∙ unfold nonempty_regions in refl
