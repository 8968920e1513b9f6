-- LAW: for a run at any x there is a candidate at or before x that costs no more: the last end of a used
-- region at or before x starts a run that touches nothing that the run at x does not. Assumes nothing.
use Rattle.std.specs.Prelude.{ℕ, ◌+◌, ◌<◌, ◌≤◌, ◌≡◌, refl, ◌⊎◌, ◌↔◌, Bool, true, false, ◌&&◌, List, [], ◌∷◌, ◌==◌, nat_le}
use Rattle.std.specs.List.{list_any}
use Rattle.std.proofs.Common.{inl, inr, ⊎_elim, arith, leb-true, le-leb, eqb-true, eq-eqb}
use Rattle.refusal.specs.Laws.Tests.{lt-or-le, and_left, and_right, and_both, or_right, never_both}
use Rattle.space.specs.declared.region.DiscRegion.{DiscRegion}
use Rattle.space.specs.Used.{end_of, nonempty_regions}
use Rattle.space.specs.Layout.{are_disjoint}
use Rattle.space.specs.Laws.UsedLaws.{nonempty_regions-cons, nonempty_regions-empty}
use Rattle.clearing.specs.Clearing.{Occupancy, used_by, bytes_from, is_run, cost_of, is_end_of_use}
use Rattle.clearing.proofs.Laws.Members.{In, any-in, in-any}
use Rattle.clearing.proofs.Laws.Sound.{IsSound, IsRunOn}
use Rattle.clearing.proofs.Laws.Touched.{touched_size, touched-apart, touched-shared, apart-before}

-- ---- the end of a used region

module _ (o : Occupancy) (x : ℕ) where
  -- LAW: exactly where one ends
  pub end-told : (is_end_of_use o x ≡ true) ↔ ((r : DiscRegion) × In r (used_by o) × (end_of r ≡ x))
  end-told = (
    λ e. let w = any-in (λ r. end_of r == x) (used_by o) e in (w.0, w.1, eqb-true (end_of w.0) x w.2),
    λ h. in-any (λ r. end_of r == x) (used_by o) h.0 h.1 (eq-eqb (end_of h.0) x h.2),
  )

-- ---- a run, by its parts

module _ (o : Occupancy) (n x : ℕ) where
  pub run-parts : is_run o n x ≡ true → IsRunOn o n x
  run-parts e =
      let q = and_left (nat_le o.table_end x && nat_le (x + n) o.disc_end) _ e in
      record {
        after = leb-true o.table_end x (and_left (nat_le o.table_end x) _ q);
        before = leb-true (x + n) o.disc_end (and_right (nat_le o.table_end x) _ q);
        spares = and_right (nat_le o.table_end x && nat_le (x + n) o.disc_end) _ e;
      }

  pub run-made : IsRunOn o n x → is_run o n x ≡ true
  run-made r = rw (le-leb o.table_end x r.after, le-leb (x + n) o.disc_end r.before, r.spares)

-- ---- the last end at or before x, from t on

-- no region that ends at or before x ends behind y
abbrev NoneBetween : ℕ → ℕ → List DiscRegion → Type 0
NoneBetween x y [] = Unit {0}
NoneBetween x y (r ∷ rs) = (0 < r.size → end_of r ≤ x → end_of r ≤ y) × NoneBetween x y rs

none-later : (x y z : ℕ) (rs : List DiscRegion) → y ≤ z → NoneBetween x y rs → NoneBetween x z rs
none-later x y z [] h s = tt
none-later x y z (r ∷ rs) h s = (λ a b. omega (arith, s.0 a b), none-later x y z rs h s.1)

-- some region that is not empty ends at y
abbrev ends_at : ℕ → List DiscRegion → Bool
ends_at y rs = list_any (λ r. end_of r == y) (nonempty_regions rs)

record IsLastEnd (t x : ℕ) (rs : List DiscRegion) (y : ℕ) : Type 0 where
  from : t ≤ y
  to : y ≤ x
  end : (t ≡ y) ⊎ (ends_at y rs ≡ true)
  last : NoneBetween x y rs

ends-later : (y : ℕ) (r : DiscRegion) (rs : List DiscRegion) → ends_at y rs ≡ true → ends_at y (r ∷ rs) ≡ true
ends-later y r rs e =
    ⊎_elim (λ some. rw (nonempty_regions-cons r rs some) (or_right (end_of r == y) _ e)) (λ none. rw (nonempty_regions-empty r rs (omega arith)) e) (lt-or-le 0 r.size)

last-end : (t x : ℕ) → t ≤ x → (rs : List DiscRegion) → (y : ℕ) × IsLastEnd t x rs y
last-end t x h [] = (t, record { from = omega arith; to = h; end = inl refl; last = tt })
last-end t x h (r ∷ rs) = go (last-end t x h rs)
  where
    kept : (y : ℕ) → IsLastEnd t x rs y → (0 < r.size → end_of r ≤ x → end_of r ≤ y) → (z : ℕ) × IsLastEnd t x (r ∷ rs) z
    kept y l s = (y, record { from = l.from; to = l.to; end = ⊎_elim (λ e. inl e) (λ e. inr (ends-later y r rs e)) l.end; last = (s, l.last) })

    here : (y : ℕ) → IsLastEnd t x rs y → 0 < r.size → end_of r ≤ x → y < end_of r → (z : ℕ) × IsLastEnd t x (r ∷ rs) z
    here y l some k g = (
      end_of r,
      record {
        from = omega (arith, l.from);
        to = k;
        end = inr (rw (nonempty_regions-cons r rs some, eq-eqb (end_of r) (end_of r) refl));
        last = (λ a b. omega arith, none-later x y (end_of r) rs (omega arith) l.last);
      },
    )

    go : (y : ℕ) × IsLastEnd t x rs y → (z : ℕ) × IsLastEnd t x (r ∷ rs) z
    go w =
        ⊎_elim (λ some. ⊎_elim (λ k. kept w.0 w.1 (λ a b. omega arith))
        (λ k. ⊎_elim (λ g. here w.0 w.1 some k g) (λ g. kept w.0 w.1 (λ a b. g)) (lt-or-le w.0 (end_of r))) (lt-or-le x (end_of r)))
        (λ none. kept w.0 w.1 (λ a b. omega arith)) (lt-or-le 0 r.size)

-- ---- what is touched

touched-before : (n x y : ℕ) (fs : List DiscRegion) → y ≤ x → NoneBetween x y fs → touched_size (bytes_from y n) fs ≤ touched_size (bytes_from x n) fs
touched-before n x y [] h s = omega arith
touched-before n x y (f ∷ fs) h s = go (are_disjoint (bytes_from x n) f) refl (are_disjoint (bytes_from y n) f) refl (touched-before n x y fs h s.1)
  where
    go : (a : Bool) → are_disjoint (bytes_from x n) f ≡ a → (b : Bool) → are_disjoint (bytes_from y n) f ≡ b → touched_size (bytes_from y n) fs ≤ touched_size (bytes_from x n) fs →
        touched_size (bytes_from y n) (f ∷ fs) ≤ touched_size (bytes_from x n) (f ∷ fs)
    go true p true q ih = omega (arith, touched-apart (bytes_from x n) f fs p, touched-apart (bytes_from y n) f fs q)
    go true p false q ih = absurd (never_both (are_disjoint (bytes_from y n) f) (apart-before n x f y h s.0 p) q)
    go false p true q ih = omega (arith, touched-shared (bytes_from x n) f fs p, touched-apart (bytes_from y n) f fs q)
    go false p false q ih = omega (arith, touched-shared (bytes_from x n) f fs p, touched-shared (bytes_from y n) f fs q)

-- ---- the candidate

module _ (o : Occupancy) (s : IsSound o) (n x : ℕ) (r : IsRunOn o n x) where
  -- the last end at or before x, the table's end among them
  before : (y : ℕ) × IsLastEnd o.table_end x (o.program ∷ o.files) y
  before = last-end o.table_end x r.after (o.program ∷ o.files)

  module _ (y : ℕ) (l : IsLastEnd o.table_end x (o.program ∷ o.files) y) where
    before-used : is_end_of_use o y ≡ true
    before-used = go l.end
      where
        table : DiscRegion
        table = record { offset = 0; size = o.table_end }

        go : (o.table_end ≡ y) ⊎ (ends_at y (o.program ∷ o.files) ≡ true) → ends_at y (table ∷ o.program ∷ o.files) ≡ true
        go (inl e) = let z : 0 + o.table_end ≡ o.table_end = omega arith in rw (nonempty_regions-cons table (o.program ∷ o.files) s.table, z, eq-eqb o.table_end y e)
        go (inr e) = ends-later y table (o.program ∷ o.files) e

    before-run : is_run o n y ≡ true
    before-run = run-made o n y (record { after = l.from; before = omega (arith, l.to, r.before); spares = apart-before n x o.program y l.to l.last.0 r.spares })

    before-cost : cost_of o n y ≤ cost_of o n x
    unfolding cost_of
    before-cost = touched-before n x y o.files l.to l.last.1

  -- LAW: a candidate at or before x costs no more
  pub candidate-before : (y : ℕ) × ((is_end_of_use o y && is_run o n y) ≡ true) × (y ≤ x) × (cost_of o n y ≤ cost_of o n x)
  candidate-before = (before.0, and_both (is_end_of_use o before.0) _ (before-used before.0 before.1) (before-run before.0 before.1), before.1.to, before-cost before.0 before.1)
