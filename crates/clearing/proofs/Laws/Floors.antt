-- LAW: no run costs less than the floor: its bytes are free or in files that it touches, and one that costs
-- nothing is so many free bytes in a row. Assumes nothing.
use Rattle.std.specs.Prelude.{ℕ, ◌+◌, ◌-◌, ◌<◌, ◌≤◌, ◌≡◌, refl, Bool, true, false, cond, not, ◌&&◌, ◌||◌, List, [], ◌∷◌, ◌==◌, nat_le, nat_lt, filter}
use Rattle.std.specs.List.{list_all}
use Rattle.std.proofs.Common.{sym, ◌∙◌, inl, inr, ⊎_elim, arith, ltb-false, le-leb, le-ltb}
use Rattle.std.proofs.lemmas.Bool.{not-true, lt-leb}
use Rattle.std.proofs.lemmas.List.Filters.{sum_by-filter_both}
use Rattle.refusal.specs.Laws.Tests.{lt-or-le, and_left, and_right, and_both, or_right, or-false}
use Rattle.space.specs.declared.region.DiscRegion.{DiscRegion}
use Rattle.space.specs.Used.{is_used, used_regions, total_size}
use Rattle.space.specs.Layout.{are_disjoint, is_disjoint_from_all, are_pairwise_disjoint, are_disjoint_below}
use Rattle.space.specs.Free.{is_free_in, largest_size}
use Rattle.space.specs.Laws.UsedLaws.{is_inside-in, lies_within, files_within, are_disjoint-below-used, used-is}
use Rattle.space.specs.Laws.LayoutLaws.{is_inside-from, is_inside-to, from-all-free, free-from-all}
use Rattle.space.specs.Laws.PassedLayout.{Passes, passes}
use Rattle.space.specs.Laws.SizeLaws.{total_size-cons}
use Rattle.space.specs.Laws.TotalLaws.{free_bytes, used-and-free}
use Rattle.space.specs.Laws.RunLaws.{Covers}
use Rattle.space.specs.Laws.FreeLaws as free
use Rattle.clearing.specs.Clearing.{Occupancy, used_by, free_by, bytes_from, cost_of, floor_of}
use Rattle.clearing.proofs.Laws.Sound.{IsSound, IsRunOn}
use Rattle.clearing.proofs.Laws.Touched.{touched_size, touched-apart, touched-some, touched-shared}

-- ---- the files that a region leaves alone

abbrev pub others : DiscRegion → List DiscRegion → List DiscRegion
others r fs = filter (λ f. are_disjoint r f) fs

-- those that it touches and those that it leaves alone are all
pub touched-and-others : (r : DiscRegion) (fs : List DiscRegion) → touched_size r fs + total_size (others r fs) ≡ total_size fs
unfolding total_size
touched-and-others r fs = sum_by-filter_both (λ f. not (are_disjoint r f)) (λ f. are_disjoint r f) (λ f. twice (are_disjoint r f)) (λ f. f.size) fs
  where
    twice : (t : Bool) → t ≡ not (not t)
    twice true = refl
    twice false = refl

-- what is told of each file is told of those left alone
module _ (p : DiscRegion → Bool) (r : DiscRegion) where
  kept-all : (fs : List DiscRegion) → list_all p fs ≡ true → list_all p (others r fs) ≡ true
  kept-all [] e = refl
  kept-all (f ∷ fs) e = go (are_disjoint r f) (kept-all fs (and_right (p f) _ e))
    where
      go : (t : Bool) → list_all p (others r fs) ≡ true → list_all p (cond t (f ∷ others r fs) (others r fs)) ≡ true
      go true h = and_both (p f) _ (and_left (p f) _ e) h
      go false h = h

pub others-apart : (r : DiscRegion) (fs : List DiscRegion) → is_disjoint_from_all r (others r fs) ≡ true
unfolding is_disjoint_from_all
others-apart r [] = refl
others-apart r (f ∷ fs) = go (are_disjoint r f) refl (others-apart r fs)
  where
    go : (t : Bool) → are_disjoint r f ≡ t → list_all (are_disjoint r) (others r fs) ≡ true → list_all (are_disjoint r) (cond t (f ∷ others r fs) (others r fs)) ≡ true
    go true e h = and_both (are_disjoint r f) _ e h
    go false e h = h

others-pairwise : (r : DiscRegion) (fs : List DiscRegion) → are_pairwise_disjoint fs ≡ true → are_pairwise_disjoint (others r fs) ≡ true
unfolding are_pairwise_disjoint is_disjoint_from_all
others-pairwise r [] e = refl
others-pairwise r (f ∷ fs) e = go (are_disjoint r f) (others-pairwise r fs (and_right (is_disjoint_from_all f fs) _ e))
  where
    go : (t : Bool) → are_pairwise_disjoint (others r fs) ≡ true → are_pairwise_disjoint (cond t (f ∷ others r fs) (others r fs)) ≡ true
    go true h = and_both (is_disjoint_from_all f (others r fs)) _ (kept-all (are_disjoint f) r fs (and_left (is_disjoint_from_all f fs) _ e)) h
    go false h = h

others-within : (t e : ℕ) (r : DiscRegion) (fs : List DiscRegion) → files_within t e fs ≡ true → files_within t e (others r fs) ≡ true
unfolding files_within
others-within t e r [] h = refl
others-within t e r (f ∷ fs) h = go (are_disjoint r f) (others-within t e r fs (and_right (lies_within t e f) _ h))
  where
    go : (b : Bool) → files_within t e (others r fs) ≡ true → files_within t e (cond b (f ∷ others r fs) (others r fs)) ≡ true
    go true g = and_both (lies_within t e f) _ (and_left (lies_within t e f) _ h) g
    go false g = g

-- ---- the bytes of a run are free or in touched files

module _ (o : Occupancy) (s : IsSound o) (n x : ℕ) (r : IsRunOn o n x) where
  -- the run in the place of the files that it touches
  placed : List DiscRegion
  placed = bytes_from x n ∷ o.program ∷ others (bytes_from x n) o.files

  placed-within : files_within o.table_end o.disc_end (o.program ∷ o.files) ≡ true → files_within o.table_end o.disc_end placed ≡ true
  unfolding placed files_within lies_within
  placed-within w =
      and_both (n == 0 || (nat_le o.table_end x && nat_le (x + n) o.disc_end)) _
      (or_right (n == 0) _ (and_both (nat_le o.table_end x) _ (le-leb o.table_end x r.after) (le-leb (x + n) o.disc_end r.before)))
      (and_both (lies_within o.table_end o.disc_end o.program) _ (and_left (lies_within o.table_end o.disc_end o.program) _ w)
      (others-within o.table_end o.disc_end (bytes_from x n) o.files (and_right (lies_within o.table_end o.disc_end o.program) _ w)))

  placed-apart : are_pairwise_disjoint (o.program ∷ o.files) ≡ true → are_pairwise_disjoint placed ≡ true
  unfolding placed are_pairwise_disjoint is_disjoint_from_all
  placed-apart d =
      and_both (is_disjoint_from_all (bytes_from x n) (o.program ∷ others (bytes_from x n) o.files)) _
      (and_both (are_disjoint (bytes_from x n) o.program) _ r.spares (others-apart (bytes_from x n) o.files))
      (and_both (is_disjoint_from_all o.program (others (bytes_from x n) o.files)) _ (kept-all (are_disjoint o.program) (bytes_from x n) o.files (and_left (is_disjoint_from_all o.program o.files) _ d))
      (others-pairwise (bytes_from x n) o.files (and_right (is_disjoint_from_all o.program o.files) _ d)))

  placed-sound : are_disjoint_below o.disc_end (used_regions o.table_end placed) ≡ true
  placed-sound =
      let p : Passes o.table_end o.disc_end (o.program ∷ o.files) = passes o.table_end o.disc_end (o.program ∷ o.files) s.table s.apart in
      are_disjoint-below-used o.table_end o.disc_end placed s.table
      ∙ and_both (nat_le o.table_end o.disc_end) _ (le-leb o.table_end o.disc_end p.table) (and_both (files_within o.table_end o.disc_end placed) _ (placed-within p.within) (placed-apart p.pairwise))

  -- LAW: cost and free bytes together are at least n
  cost-and-free : n ≤ cost_of o n x + free_bytes o.disc_end (used_by o)
  unfolding cost_of placed
  cost-and-free =
      omega (
        arith,
        used-and-free o.table_end o.disc_end (o.program ∷ o.files) s.apart,
        used-and-free o.table_end o.disc_end placed placed-sound,
        touched-and-others (bytes_from x n) o.files,
        total_size-cons o.program o.files,
        total_size-cons (bytes_from x n) (o.program ∷ others (bytes_from x n) o.files),
        total_size-cons o.program (others (bytes_from x n) o.files),
      )

-- ---- a run that costs nothing

no-cost-apart : (r : DiscRegion) (fs : List DiscRegion) → touched_size r fs ≡ 0 → is_disjoint_from_all r fs ≡ true
unfolding is_disjoint_from_all
no-cost-apart r [] e = refl
no-cost-apart r (f ∷ fs) e = go (are_disjoint r f) refl (no-cost-apart r fs)
  where
    go : (t : Bool) → are_disjoint r f ≡ t → (touched_size r fs ≡ 0 → list_all (are_disjoint r) fs ≡ true) → (t && list_all (are_disjoint r) fs) ≡ true
    go true q ih = ih (sym (touched-apart r f fs q) ∙ e)
    go false q ih = absurd (omega (arith, e, touched-shared r f fs q, touched-some r f fs q))

apart-no-cost : (r : DiscRegion) (fs : List DiscRegion) → is_disjoint_from_all r fs ≡ true → touched_size r fs ≡ 0
unfolding is_disjoint_from_all total_size
apart-no-cost r [] e = refl
apart-no-cost r (f ∷ fs) e = touched-apart r f fs (and_left (are_disjoint r f) _ e) ∙ apart-no-cost r fs (and_right (are_disjoint r f) _ e)

largest-least : (r : DiscRegion) (rs : List DiscRegion) → free.In r rs → r.size ≤ largest_size rs
unfolding largest_size
largest-least r [] i = absurd i
largest-least r (x ∷ rs) (inl e) = rw e (omega arith)
largest-least r (x ∷ rs) (inr i) = omega (arith, largest-least r rs i)

largest-one : (rs : List DiscRegion) → 0 < largest_size rs → (r : DiscRegion) × free.In r rs × (r.size ≡ largest_size rs)
unfolding largest_size
largest-one [] h = absurd (omega arith)
largest-one (x ∷ rs) h =
    ⊎_elim (λ p. let w = largest-one rs (omega arith) in (w.0, inr w.1, omega (arith, w.2))) (λ p. (x, inl refl, omega arith)) (lt-or-le x.size (largest_size rs))

-- ---- so many free bytes in a row

-- from x on
pub record IsRowOn (o : Occupancy) (n x : ℕ) : Type 0 where
  pub ends : x + n ≤ o.disc_end
  pub free : (j : ℕ) → j < n → is_free_in (used_by o) (x + j) ≡ true

module _ (o : Occupancy) (n : ℕ) (some : 0 < n) where
  -- LAW: they exist exactly where a free region is as large
  pub row-large : (x : ℕ) → IsRowOn o n x → n ≤ largest_size (free_by o)
  row-large x r =
      let c : Covers x n (free_by o) = free.free-cover o.disc_end (used_by o) x n some r.ends r.free in
      let w = free.covers-in x n (free_by o) c in
      omega (arith, w.2, w.3, largest-least w.0 (free_by o) w.1)

  pub large-row : n ≤ largest_size (free_by o) → (x : ℕ) × IsRowOn o n x
  large-row h =
      let w = largest-one (free_by o) (omega arith) in
      let m = free.free-maximal o.disc_end (used_by o) w.0 w.1 in
      (w.0.offset, record { ends = omega (arith, m.below, w.2); free = λ j k. m.pass j (omega (arith, w.2)) })

  -- LAW: a run that costs nothing is n free bytes in a row
  pub free-in-a-row : (x : ℕ) → IsRunOn o n x → cost_of o n x ≡ 0 → IsRowOn o n x
  unfolding is_disjoint_from_all cost_of
  free-in-a-row x r e = record { ends = r.before; free = bytes }
    where
      all : is_disjoint_from_all (bytes_from x n) (o.program ∷ o.files) ≡ true
      all = and_both (are_disjoint (bytes_from x n) o.program) _ r.spares (no-cost-apart (bytes_from x n) o.files e)

      bytes : (j : ℕ) → j < n → is_free_in (used_by o) (x + j) ≡ true
      bytes j h =
          let u : is_used (o.program ∷ o.files) (x + j) ≡ false = from-all-free (bytes_from x n) (o.program ∷ o.files) (x + j) all (is_inside-in (bytes_from x n) (x + j) (omega arith) (omega arith)) in
          rw (used-is o.table_end (o.program ∷ o.files) (x + j), le-ltb (x + j) o.table_end (omega (arith, r.after)), u)

  -- LAW: where n free bytes stand in a row, a run costs nothing
  pub row-free : (x : ℕ) → IsRowOn o n x → IsRunOn o n x × (cost_of o n x ≡ 0)
  unfolding is_disjoint_from_all cost_of
  row-free x r = (
    record { after = (clear x (omega arith) (omega arith)).0; before = r.ends; spares = and_left (are_disjoint (bytes_from x n) o.program) _ all },
    apart-no-cost (bytes_from x n) o.files (and_right (are_disjoint (bytes_from x n) o.program) _ all),
  )
    where
      clear : (i : ℕ) → x ≤ i → i < x + n → (o.table_end ≤ i) × (is_used (o.program ∷ o.files) i ≡ false)
      clear i a b =
          let z : x + (i - x) ≡ i = omega arith in
          let f : is_free_in (used_by o) i ≡ true = rw z at (r.free (i - x) (omega arith)) in
          let q = or-false (nat_lt i o.table_end) (is_used (o.program ∷ o.files) i) (sym (used-is o.table_end (o.program ∷ o.files) i) ∙ not-true (is_used (used_by o) i) f) in
          (ltb-false i o.table_end q.0, q.1)

      all : is_disjoint_from_all (bytes_from x n) (o.program ∷ o.files) ≡ true
      all = free-from-all (bytes_from x n) (o.program ∷ o.files) (λ i u. (clear i (is_inside-from (bytes_from x n) i u) (is_inside-to (bytes_from x n) i u)).1)

-- LAW: no run costs less than the floor
pub floor-least : (o : Occupancy) → IsSound o → (n x : ℕ) → 0 < n → IsRunOn o n x → floor_of o n ≤ cost_of o n x
unfolding floor_of
floor-least o s n x some r =
    ⊎_elim (λ h. rw (lt-leb n (largest_size (free_by o)) h) (⊎_elim (λ c. omega (arith, cost-and-free o s n x r)) (λ c. absurd (omega (arith, row-large o n some x (free-in-a-row o n some x r (omega arith))))) (lt-or-le 0 (cost_of o n x))))
    (λ h. rw (le-leb n (largest_size (free_by o)) h) (omega arith)) (lt-or-le (largest_size (free_by o)) n)
