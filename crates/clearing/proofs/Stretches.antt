-- The runs in a stretch. Assumes nothing.
use Rattle.std.specs.Prelude.{ℕ, zero, suc, ◌+◌, ◌-◌, ◌<◌, ◌≤◌, ◌≡◌, Bool, true, false, ◌||◌, List, [], ◌∷◌, ◌++◌, length, drop, if◌then◌else◌, ◌==◌, nat_le}
use Rattle.std.specs.List.{list_any}
use Rattle.std.proofs.Common.{refl, sym, ap, ◌∙◌, ⊎_elim, arith, eq-eqb, le-leb}
use Rattle.std.proofs.lemmas.Bool.{lt-leb}
use Rattle.refusal.specs.Laws.Tests.{lt-or-le, and_both, or_left, or_right}
use Rattle.space.specs.declared.region.DiscRegion.{DiscRegion}
use Rattle.space.specs.Used.{no_region, end_of, total_size}
use Rattle.space.specs.Inner.Sort.{region_at, regions_in}
use Rattle.space.specs.Inner.Words.{AllNonempty, is_in_sequence}
use Rattle.space.specs.Laws.LongestLaws.{sequence-first, sequence-rest, sequence-le}
use Rattle.space.specs.Laws.SizeLaws.{total_size-cons}
use Rattle.space.proofs.Listed.{total-gaps}
use Rattle.space.proofs.Pairs.{regions-none, regions-split, regions-snoc, regions-more}
use Rattle.space.specs.Layout.{are_disjoint}
use Rattle.clearing.specs.declared.stretch.Run.{Run}
use Rattle.clearing.specs.Clearing.{bytes_from}
use Rattle.clearing.specs.Inner.Marks.{Search, has_room, started_size, run_behind, runs_behind}
use Rattle.clearing.specs.Inner.Stretches.{AreHeld, by_limit}
use Rattle.clearing.proofs.Laws.InOrder.{started-more, started-less}
use Rattle.clearing.proofs.Marks.{none-fits, next-free}

-- ---- regions in order

pub sequence-zero : (a e : ℕ) (xs : List DiscRegion) → is_in_sequence a e xs ≡ true → is_in_sequence 0 e xs ≡ true
unfolding is_in_sequence
sequence-zero a e [] s = le-leb 0 e (omega arith)
sequence-zero a e (x ∷ xs) s = and_both _ _ (le-leb 0 x.offset (omega arith)) (sequence-rest a e x xs s)

sequence-before : (a e : ℕ) (xs ys : List DiscRegion) → is_in_sequence a e (xs ++ ys) ≡ true → is_in_sequence a e xs ≡ true
unfolding is_in_sequence
sequence-before a e [] ys s = le-leb a e (sequence-le a e ys s)
sequence-before a e (x ∷ xs) ys s =
    and_both _ _ (le-leb a x.offset (sequence-first a e x (xs ++ ys) s)) (sequence-before (end_of x) e xs ys (sequence-rest a e x (xs ++ ys) s))

sequence-last : (a e : ℕ) (xs : List DiscRegion) (r : DiscRegion) → is_in_sequence a e (xs ++ r ∷ []) ≡ true → a ≤ end_of r
sequence-last a e [] r s = omega (arith, sequence-first a e r [] s)
sequence-last a e (x ∷ xs) r s =
    omega (arith, sequence-first a e x (xs ++ r ∷ []) s, sequence-last (end_of x) e xs r (sequence-rest a e x (xs ++ r ∷ []) s))

-- no run touches a region without bytes
pub none-touched : (r a : DiscRegion) → a.size ≡ 0 → are_disjoint r a ≡ true
unfolding are_disjoint
none-touched r a e = or_right (r.size == 0) _ (or_left (a.size == 0) _ (eq-eqb a.size 0 e))

untouched : (r : DiscRegion) → are_disjoint r no_region ≡ true
untouched r = none-touched r no_region refl

module _ (n e : ℕ) where
  abbrev t : Search
  t = by_limit n e

  fits : (x : ℕ) → x + n ≤ e → has_room t x ≡ true
  fits x h = and_both _ _ (le-leb (x + n) e h) (untouched (bytes_from x n))

  -- ---- how many there are

  -- none behind a last region that ends too late
  length-late : (xs : List DiscRegion) (r : DiscRegion) → e < end_of r + n → length (runs_behind t (xs ++ r ∷ [])) ≡ length (runs_behind t xs)
  unfolding runs_behind
  length-late [] r h = rw (lt-leb (end_of r + n) e h) refl
  length-late (x ∷ xs) r h = go (has_room t (end_of x)) (length-late xs r h)
    where
      go : (b : Bool) → length (runs_behind t (xs ++ r ∷ [])) ≡ length (runs_behind t xs) →
          length (if b then run_behind t x (xs ++ r ∷ []) ∷ runs_behind t (xs ++ r ∷ []) else runs_behind t (xs ++ r ∷ [])) ≡ length (if b then run_behind t x xs ∷ runs_behind t xs else runs_behind t xs)
      go true ih = ap suc ih
      go false ih = ih

  -- one behind each where there is room behind the last
  length-all : (a d : ℕ) (xs : List DiscRegion) (r : DiscRegion) → is_in_sequence a d (xs ++ r ∷ []) ≡ true → end_of r + n ≤ e → length (runs_behind t (xs ++ r ∷ [])) ≡ length xs + 1
  unfolding runs_behind
  length-all a d [] r s h = rw (fits (end_of r) h) refl
  length-all a d (x ∷ xs) r s h =
      let rest = sequence-rest a d x (xs ++ r ∷ []) s in
      let l = sequence-last (end_of x) d xs r rest in
      rw (fits (end_of x) (omega (arith, l, h))) (omega (arith, length-all (end_of x) d xs r rest h))

  -- behind the first of some
  none-late : (a : ℕ) (r : DiscRegion) (rs : List DiscRegion) → is_in_sequence a e (r ∷ rs) ≡ true → e < end_of r + n → runs_behind t (r ∷ rs) ≡ []
  unfolding runs_behind
  none-late a r rs s h = rw (lt-leb (end_of r + n) e h) (none-fits t (end_of r) rs h (sequence-rest a e r rs s))

  pub one-first : (r : DiscRegion) (rs : List DiscRegion) → end_of r + n ≤ e → runs_behind t (r ∷ rs) ≡ run_behind t r rs ∷ runs_behind t rs
  unfolding runs_behind
  one-first r rs h = rw (fits (end_of r) h) refl

  pub runs-at-most : (xs : List DiscRegion) → length (runs_behind t xs) ≤ length xs
  unfolding runs_behind
  runs-at-most [] = omega arith
  runs-at-most (x ∷ xs) = go (has_room t (end_of x)) (runs-at-most xs)
    where
      go : (b : Bool) → length (runs_behind t xs) ≤ length xs → length (if b then run_behind t x xs ∷ runs_behind t xs else runs_behind t xs) ≤ suc (length xs)
      go true ih = omega (arith, ih)
      go false ih = omega (arith, ih)

length-total : (xs : List DiscRegion) → AllNonempty xs → length xs ≤ total_size xs
length-total [] f = omega arith
length-total (x ∷ xs) f = omega (arith, f.0, total_size-cons x xs, length-total xs f.1)

module _ (w : List ℕ) where
  pub length-regions : (k m : ℕ) → length (regions_in w k m) ≡ m
  unfolding regions_in
  length-regions k zero = refl
  length-regions k (suc m) = ap suc (length-regions (suc k) m)

  -- the last of the first regions
  module _ (n i m e : ℕ) (o : AreHeld w i m e) where
    pub runs-within : length (runs_behind (by_limit n e) (regions_in w i (m - i))) ≤ m - i
    runs-within = omega (arith, runs-at-most n e (regions_in w i (m - i)), length-regions i (m - i))

    -- no more than there are bytes
    pub runs-few : length (runs_behind (by_limit n e) (regions_in w i (m - i))) ≤ e
    runs-few = omega (arith, runs-at-most n e (regions_in w i (m - i)), length-total (regions_in w i (m - i)) o.full, total-gaps 0 e (regions_in w i (m - i)) o.order)

    module _ (count : ℕ) (some : 0 < count) (within : count ≤ m - i) (r : DiscRegion) (is : r ≡ region_at w (i + count - 1)) where
      last-of : regions_in w i count ≡ regions_in w i (count - 1) ++ (r ∷ [])
      last-of =
          let k : count ≡ count - 1 + 1 = omega (arith, some) in
          let q : i + count - 1 ≡ i + (count - 1) = omega (arith, some) in
          ap (regions_in w i) k ∙ regions-snoc w i (count - 1) ∙ ap (λ (x : DiscRegion). regions_in w i (count - 1) ++ (x ∷ [])) (ap (region_at w) (sym q) ∙ sym is)

      order-of : is_in_sequence 0 e (regions_in w i (count - 1) ++ (r ∷ [])) ≡ true
      order-of =
          let k : m - i ≡ count + (m - i - count) = omega (arith, within) in
          rw last-of at (sequence-before 0 e (regions_in w i count) (regions_in w (i + count) (m - i - count)) (rw (← regions-split w i count (m - i - count), ← k) o.order))

      pub one-less : e < end_of r + n → length (runs_behind (by_limit n e) (regions_in w i count)) ≡ length (runs_behind (by_limit n e) (regions_in w i (count - 1)))
      one-less h = ap (λ (rs : List DiscRegion). length (runs_behind (by_limit n e) rs)) last-of ∙ length-late n e (regions_in w i (count - 1)) r h

      pub all-fit : end_of r + n ≤ e → length (runs_behind (by_limit n e) (regions_in w i count)) ≡ count
      all-fit h =
          omega (arith, ap (λ (rs : List DiscRegion). length (runs_behind (by_limit n e) rs)) last-of, length-all n e 0 e (regions_in w i (count - 1)) r order-of h, length-regions i (count - 1), some)

pub none-of : (n e : ℕ) (w : List ℕ) (i : ℕ) → length (runs_behind (by_limit n e) (regions_in w i 0)) ≡ 0
unfolding runs_behind
none-of n e w i = rw (regions-none w i 0 refl) refl

-- ---- what they cost

-- each costs less than c
abbrev pub AllUnder : ℕ → List Run → Type 0
AllUnder c [] = Unit {0}
AllUnder c (run ∷ runs) = (run.cost < c) × AllUnder c runs

pub under-both : (c : ℕ) (xs ys : List Run) → AllUnder c xs → AllUnder c ys → AllUnder c (xs ++ ys)
under-both c [] ys u v = v
under-both c (x ∷ xs) ys u v = (u.0, under-both c xs ys u.1 v)

started-at-most : (y : ℕ) (rs : List DiscRegion) → started_size y rs ≤ total_size rs
started-at-most y [] = unfold started_size total_size in omega arith
started-at-most y (r ∷ rs) =
    ⊎_elim (λ h. omega (arith, started-more y r rs h, total_size-cons r rs, started-at-most y rs))
    (λ h. omega (arith, started-less y r rs h, total_size-cons r rs, started-at-most y rs)) (lt-or-le r.offset y)

-- no run costs as much as there is up to the end
pub runs-under : (n e d c a : ℕ) (rs : List DiscRegion) → d ≤ c → AllNonempty rs → is_in_sequence a d rs ≡ true → AllUnder c (runs_behind (by_limit n e) rs)
unfolding runs_behind
runs-under n e d c a [] h f s = tt
runs-under n e d c a (r ∷ rs) h f s = go (has_room (by_limit n e) (end_of r)) (runs-under n e d c (end_of r) rs h f.1 (sequence-rest a d r rs s))
  where
    less : started_size (end_of r + n) rs < c
    less = omega (arith, started-at-most (end_of r + n) rs, total-gaps (end_of r) d rs (sequence-rest a d r rs s), sequence-le (end_of r) d rs (sequence-rest a d r rs s), f.0, h)

    go : (b : Bool) → AllUnder c (runs_behind (by_limit n e) rs) → AllUnder c (if b then run_behind (by_limit n e) r rs ∷ runs_behind (by_limit n e) rs else runs_behind (by_limit n e) rs)
    go true u = (less, u)
    go false u = u

-- ---- one after the other

module _ (n e : ℕ) (w : List ℕ) (m : ℕ) where
  abbrev pub runs_from : ℕ → List Run
  runs_from k = runs_behind (by_limit n e) (regions_in w k (m - k))

  module _ (k : ℕ) (more : 0 < length (runs_from k)) where
    pub region-left : k < m
    unfolding runs_behind
    region-left =
        ⊎_elim (λ h. h) (λ h. let z : m - k ≡ 0 = omega arith in absurd (omega (arith, more, ap length (ap (runs_behind (by_limit n e)) (regions-none w k (m - k) z))))) (lt-or-le k m)

    abbrev r : DiscRegion
    r = region_at w k

    abbrev rest : List DiscRegion
    rest = regions_in w (k + 1) (m - (k + 1))

    -- there is room behind the next region where any run is left
    module _ (a : ℕ) (s : is_in_sequence a e (regions_in w k (m - k)) ≡ true) where
      order-here : is_in_sequence a e (r ∷ rest) ≡ true
      order-here = rw (regions-more w k m region-left) at s

      pub run-fits : end_of r + n ≤ e
      run-fits =
          ⊎_elim (λ h. absurd (omega (arith, more, ap length (ap (runs_behind (by_limit n e)) (regions-more w k m region-left) ∙ none-late n e a r rest order-here h)))) (λ h. h) (lt-or-le e (end_of r + n))

      pub run-here : runs_from k ≡ run_behind (by_limit n e) r rest ∷ runs_from (k + 1)
      run-here = ap (runs_behind (by_limit n e)) (regions-more w k m region-left) ∙ one-first n e r rest run-fits

  pub held-next : (k : ℕ) → AreHeld w k m e → k < m → AreHeld w (k + 1) m e
  held-next k o h =
      let is = regions-more w k m h in
      let full : AllNonempty (region_at w k ∷ regions_in w (k + 1) (m - (k + 1))) = rw is at o.full in
      let order : is_in_sequence 0 e (region_at w k ∷ regions_in w (k + 1) (m - (k + 1))) ≡ true = rw is at o.order in record {
        held = o.held;
        first = omega arith;
        small = o.small;
        full = full.1;
        order = sequence-zero (end_of (region_at w k)) e (regions_in w (k + 1) (m - (k + 1))) (sequence-rest 0 e (region_at w k) (regions_in w (k + 1) (m - (k + 1))) order);
      }

  pub held-from : (j k : ℕ) → AreHeld w k m e → k + j ≤ m → AreHeld w (k + j) m e
  held-from zero k o h =
      let z : k + 0 ≡ k = omega arith in
      rw z o
  held-from (suc j) k o h =
      let q : k + suc j ≡ k + 1 + j = omega arith in
      rw q (held-from j (k + 1) (held-next k o (omega (arith, h))) (omega (arith, h)))

  -- ---- whether one of them is free

  -- those from region k on are left to look at
  pub record IsLooking (end : ℕ) (told : Bool) (k : ℕ) : Type 0 where
    pub held : AreHeld w k m e
    pub ends : end ≡ k + length (runs_from k)
    pub any : list_any (λ (run : Run). run.cost == 0) (runs_from k) ≡ told

  pub looking-begin : (tried k : ℕ) → AreHeld w k m e → tried ≤ length (runs_from k) → IsLooking (k + length (runs_from k)) (list_any (λ (run : Run). run.cost == 0) (drop tried (runs_from k))) (k + tried)
  looking-begin zero k o h =
      let z : k + 0 ≡ k = omega arith in
      rw z record { held = o; ends = refl; any = refl }
  looking-begin (suc tried) k o h =
      let q : k + suc tried ≡ k + 1 + tried = omega arith in
      let is = run-here k (omega (arith, h)) 0 o.order in
      let e' : k + length (runs_from k) ≡ k + 1 + length (runs_from (k + 1)) = omega (arith, ap length is) in
      rw (q, e', is) (looking-begin tried (k + 1) (held-next k o (region-left k (omega (arith, h)))) (omega (arith, h, ap length is)))

  module _ (end : ℕ) (told : Bool) (k : ℕ) (i : IsLooking end told k) where
    pub looking-more : k < end → k < m
    looking-more more = region-left k (omega (arith, i.ends))

    -- the run behind the next region is free, and one is
    module _ (more : k < end) where
      left : 0 < length (runs_from k)
      left = omega (arith, i.ends)

      any-here : ((started_size (end_of (region_at w k) + n) (regions_in w (k + 1) (m - (k + 1))) == 0) || list_any (λ (run : Run). run.cost == 0) (runs_from (k + 1))) ≡ told
      any-here = sym (ap (list_any (λ (run : Run). run.cost == 0)) (run-here k left 0 i.held.order)) ∙ i.any

      free-at : (free : Bool) → free ≡ (started_size (end_of (region_at w k) + n) (regions_in w (k + 1) (m - (k + 1))) == 0) → (free ≡ true → true ≡ told) × (free ≡ false → IsLooking end told (k + 1))
      free-at free f = (
        λ h. sym (or_left _ _ (sym f ∙ h)) ∙ any-here,
        λ h. record {
          held = held-next k i.held (looking-more more);
          ends = omega (arith, i.ends, ap length (run-here k left 0 i.held.order));
          any = rw (← f, h) at any-here;
        },
      )

      -- no region is behind it
      pub looking-last : k + 1 ≡ m → true ≡ told
      unfolding started_size
      looking-last q =
          let z : m - (k + 1) ≡ 0 = omega arith in
          (free-at true (sym (eq-eqb (started_size (end_of (region_at w k) + n) (regions_in w (k + 1) (m - (k + 1)))) 0 (rw (regions-none w (k + 1) (m - (k + 1)) z) (unfold total_size in refl))))).0 refl

      -- the next one starts at its end or behind, or does not
      module _ (next : k + 1 < m) where
        next-tells : nat_le (end_of (region_at w k) + n) (region_at w (k + 1)).offset ≡ (started_size (end_of (region_at w k) + n) (regions_in w (k + 1) (m - (k + 1))) == 0)
        next-tells =
            let o = held-next k i.held (looking-more more) in
            let is = regions-more w (k + 1) m next in
            let full : AllNonempty (region_at w (k + 1) ∷ regions_in w (k + 1 + 1) (m - (k + 1 + 1))) = rw is at o.full in
            let order : is_in_sequence 0 e (region_at w (k + 1) ∷ regions_in w (k + 1 + 1) (m - (k + 1 + 1))) ≡ true = rw is at o.order in
            rw is (next-free (end_of (region_at w k) + n) 0 e (region_at w (k + 1)) (regions_in w (k + 1 + 1) (m - (k + 1 + 1))) full.0 order)

        pub looking-free : end_of (region_at w k) + n ≤ (region_at w (k + 1)).offset → true ≡ told
        looking-free h = (free-at _ next-tells).0 (le-leb _ _ h)

        pub looking-on : (region_at w (k + 1)).offset < end_of (region_at w k) + n → IsLooking end told (k + 1)
        looking-on h = (free-at _ next-tells).1 (lt-leb _ _ h)
