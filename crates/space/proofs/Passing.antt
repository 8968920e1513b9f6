-- Free regions passed up to an offset, used region by used region. Assumes nothing.
use Rattle.std.specs.Prelude.{ℕ, ◌+◌, ◌-◌, ◌<◌, ◌≤◌, ◌≡◌, refl, Bool, true, false, cond, List, ◌∷◌, ltb}
use Rattle.std.proofs.Common.{sym, subst, ◌∙◌, arith, ltb-true, ltb-false}
use Rattle.space.specs.declared.region.DiscRegion.{DiscRegion}
use Rattle.space.specs.Used.{end_of}
use Rattle.space.specs.MaxRegionSize.{max_size_from}
use Rattle.space.specs.Inner.Words.{is_in_sequence}
use Rattle.space.specs.Inner.Before.{IsPassedBefore}
use Rattle.space.proofs.Choice.{grown-more}
use Rattle.space.proofs.Left.{left, IsPassed, passed-order, passed-ends, passed-skip, passed-one}

-- where the walk stands: x stands for an offset
pub record Standing (e x : ℕ) (all : List DiscRegion) (at : ℕ) (xs : List DiscRegion) (last : ℕ) : Type 0 where
  pub in_order : is_in_sequence at e xs ≡ true
  pub passed : IsPassedBefore x all (left e at xs) last

pub none-passed : (x : ℕ) (all : List DiscRegion) → IsPassedBefore x all all 0
none-passed x all = record { same = λ n. refl; ends = λ e h. (omega arith, h) }

module _ (e x : ℕ) (all : List DiscRegion) (at : ℕ) (xs : List DiscRegion) (last : ℕ) (s : Standing e x all at xs last) (r : DiscRegion) (ys : List DiscRegion) (is : xs ≡ r ∷ ys) where
  here : IsPassed e (left e at xs) at xs
  here = record { in_order = s.in_order; same = refl }

  -- no free byte before the used region r
  pub stand-on : r.offset ≤ at → Standing e x all (end_of r) ys last
  stand-on h = record {
    in_order = passed-order e _ at xs here r ys is;
    passed = subst (λ (rest : List DiscRegion). IsPassedBefore x all rest last) (sym (passed-skip e _ at xs here r ys is h).same) s.passed;
  }

  -- the free bytes before it
  past : at < x → at < r.offset → (n : ℕ) → max_size_from x n r.offset (left e (end_of r) ys) ≡ max_size_from x n last (record { offset = at; size = r.offset - at } ∷ left e (end_of r) ys)
  past h g n =
      let k : at + (r.offset - at) ≡ r.offset = omega arith in
      rw k at (grown-more x n last (record { offset = at; size = r.offset - at }) (left e (end_of r) ys) h)

  pub stand-past : at < x → at < r.offset → Standing e x all (end_of r) ys r.offset
  stand-past h g =
      let p : IsPassedBefore x all (record { offset = at; size = r.offset - at } ∷ left e (end_of r) ys) last =
      subst (λ (rest : List DiscRegion). IsPassedBefore x all rest last) (passed-one e _ at xs here r ys is g) s.passed in
      record {
        in_order = passed-order e _ at xs here r ys is;
        passed = record { same = λ n. past h g n ∙ p.same n; ends = λ d k. let q = (p.ends d k).1 in (omega (arith, q.0), q.1) };
      }

  pub stand-ends : end_of r ≤ e
  stand-ends = passed-ends e _ at xs here r ys is

  pub stand-next : at < x → (next : ℕ) → next ≡ cond (ltb at r.offset) r.offset last → Standing e x all (end_of r) ys next
  stand-next h next q = go (ltb at r.offset) refl q
    where
      go : (b : Bool) → ltb at r.offset ≡ b → next ≡ cond b r.offset last → Standing e x all (end_of r) ys next
      go true t p = rw p (stand-past h (ltb-true at r.offset t))
      go false t p = rw p (stand-on (ltb-false at r.offset t))
