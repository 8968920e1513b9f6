-- What a run touches, file by file, and what it leaves alone. Assumes nothing.
use Rattle.std.specs.Prelude.{ℕ, ◌+◌, ◌<◌, ◌≤◌, max, ◌≡◌, ◌⊎◌, true, false, not, List, ◌∷◌, ◌==◌, filter}
use Rattle.std.proofs.Common.{inl, inr, ⊎_elim, arith, eq-eqb}
use Rattle.refusal.specs.Laws.Tests.{lt-or-le, or_left, or_right, is_false, never_both}
use Rattle.space.specs.declared.region.DiscRegion.{DiscRegion}
use Rattle.space.specs.Used.{end_of, is_inside, total_size}
use Rattle.space.specs.Layout.{are_disjoint}
use Rattle.space.specs.Laws.LayoutLaws.{is_inside-from, is_inside-to, are_disjoint-is_inside, is_inside-are_disjoint}
use Rattle.space.specs.Laws.SizeLaws.{total_size-cons}
use Rattle.space.specs.Laws.UsedLaws.{is_inside-in}
use Rattle.clearing.specs.Clearing.{bytes_from}

-- ---- their sizes

-- those of the regions that r touches
abbrev pub touched_size : DiscRegion → List DiscRegion → ℕ
touched_size r fs = total_size (filter (λ f. not (are_disjoint r f)) fs)

module _ (r f : DiscRegion) (fs : List DiscRegion) where
  pub touched-apart : are_disjoint r f ≡ true → touched_size r (f ∷ fs) ≡ touched_size r fs
  touched-apart e = rw e

  -- an empty one is touched by none
  pub touched-some : are_disjoint r f ≡ false → 0 < f.size
  unfolding are_disjoint
  touched-some e =
      ⊎_elim (λ h. h) (λ h. absurd (never_both (are_disjoint r f) (or_right (r.size == 0) _ (or_left (f.size == 0) _ (eq-eqb f.size 0 (omega arith)))) e)) (lt-or-le 0 f.size)

  pub touched-shared : are_disjoint r f ≡ false → touched_size r (f ∷ fs) ≡ f.size + touched_size r fs
  touched-shared e = rw e (total_size-cons f (filter (λ g. not (are_disjoint r g)) fs))

-- ---- a run and one region

module _ (n x : ℕ) (r : DiscRegion) where
  apart-unless : (x < end_of r → r.offset < x + n → 0 < r.size → 0 < n → ⊥) → are_disjoint (bytes_from x n) r ≡ true
  apart-unless h =
      is_inside-are_disjoint (bytes_from x n) r
      (λ i u v. let a : x ≤ i = is_inside-from (bytes_from x n) i u in
      let b : i < x + n = is_inside-to (bytes_from x n) i u in
      let c : r.offset ≤ i = is_inside-from r i v in
      let d : i < end_of r = is_inside-to r i v in
      h (omega arith) (omega arith) (omega arith) (omega arith))

  -- it ends before the region starts, or starts where the region ends or later
  pub apart-sides : (x + n ≤ r.offset) ⊎ (end_of r ≤ x) → are_disjoint (bytes_from x n) r ≡ true
  apart-sides (inl h) = apart-unless (λ a b c d. omega arith)
  apart-sides (inr h) = apart-unless (λ a b c d. omega arith)

  -- the first byte that it shares with the region
  pub first-shared : are_disjoint (bytes_from x n) r ≡ false → (x ≤ max x r.offset) × (max x r.offset < x + n) × (is_inside r (max x r.offset) ≡ true)
  first-shared e =
      ⊎_elim (λ a. ⊎_elim (λ b. ⊎_elim (λ c. ⊎_elim (λ d. (omega arith, omega arith, is_inside-in r (max x r.offset) (omega arith) (omega arith))) (λ d. none (λ p q s t. omega arith)) (lt-or-le 0 n))
      (λ c. none (λ p q s t. omega arith)) (lt-or-le 0 r.size)) (λ b. none (λ p q s t. omega arith)) (lt-or-le r.offset (x + n))) (λ a. none (λ p q s t. omega arith)) (lt-or-le x (end_of r))
    where
      none : {A : Type 0} → (x < end_of r → r.offset < x + n → 0 < r.size → 0 < n → ⊥) → A
      none h = absurd (never_both (are_disjoint (bytes_from x n) r) (apart-unless h) e)

  -- a region that ends behind its start, and starts before its end
  pub shared : x < end_of r → r.offset < x + n → 0 < r.size → 0 < n → are_disjoint (bytes_from x n) r ≡ false
  shared h k some long =
      is_false (are_disjoint (bytes_from x n) r)
      (λ e. are_disjoint-is_inside (bytes_from x n) r (max x r.offset) e (is_inside-in (bytes_from x n) (max x r.offset) (omega arith) (omega arith)) (is_inside-in r (max x r.offset) (omega arith) (omega arith)))

  -- a run that starts at or before x, but not before the end of the region if that is at or before x, leaves
  -- the region alone if a run at x does
  pub apart-before : (y : ℕ) → y ≤ x → (0 < r.size → end_of r ≤ x → end_of r ≤ y) → are_disjoint (bytes_from x n) r ≡ true → are_disjoint (bytes_from y n) r ≡ true
  apart-before y h s e =
      is_inside-are_disjoint (bytes_from y n) r
      (λ i u v. let a : y ≤ i = is_inside-from (bytes_from y n) i u in
      let b : i < y + n = is_inside-to (bytes_from y n) i u in
      let c : r.offset ≤ i = is_inside-from r i v in
      let d : i < end_of r = is_inside-to r i v in
      ⊎_elim (λ k. are_disjoint-is_inside (bytes_from x n) r (max x r.offset) e (is_inside-in (bytes_from x n) (max x r.offset) (omega arith) (omega arith)) (is_inside-in r (max x r.offset) (omega arith) (omega arith)))
      (λ k. omega (arith, s (omega arith) k)) (lt-or-le x (end_of r)))
