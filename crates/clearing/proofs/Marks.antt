-- The two marks, step by step. Assumes nothing.
use Rattle.std.specs.Prelude.{ℕ, ◌+◌, ◌-◌, ◌<◌, ◌≤◌, ◌≡◌, true, List, [], ◌∷◌, ◌++◌, ◌==◌, nat_le}
use Rattle.std.proofs.Common.{refl, sym, ap, ◌∙◌, ⊎_elim, arith, eq-eqb, ne_eqb, le-leb}
use Rattle.std.proofs.lemmas.Bool.{lt-leb}
use Rattle.refusal.specs.Laws.Tests.{lt-or-le}
use Rattle.space.specs.declared.region.DiscRegion.{DiscRegion}
use Rattle.space.specs.Used.{end_of, total_size}
use Rattle.space.specs.Inner.Sort.{region_at, regions_in}
use Rattle.space.specs.Inner.Words.{AllNonempty, is_in_sequence}
use Rattle.space.specs.Laws.LongestLaws.{sequence-first, sequence-rest}
use Rattle.space.specs.Laws.SizeLaws.{total_size-cons}
use Rattle.space.proofs.Listed.{total-gaps}
use Rattle.space.proofs.Pairs.{regions-none, regions-split, regions-snoc, regions-more}
use Rattle.clearing.specs.Inner.Marks.{Search, started_size, runs_behind, AllStartBefore, AreMarks}
use Rattle.clearing.specs.Inner.Stretches.{AreHeld}
use Rattle.clearing.proofs.Laws.InOrder.{started-more, started-less}

-- ---- lists of regions

total_size-append : (xs ys : List DiscRegion) → total_size (xs ++ ys) ≡ total_size xs + total_size ys
total_size-append [] ys = unfold total_size in omega arith
total_size-append (x ∷ xs) ys = omega (arith, total_size-cons x xs, total_size-cons x (xs ++ ys), total_size-append xs ys)

-- regions in order have no more bytes than there are up to the disc's end
sequence-total : (a e : ℕ) (xs : List DiscRegion) → is_in_sequence a e xs ≡ true → total_size xs ≤ e
sequence-total a e xs s = omega (arith, total-gaps a e xs s)

-- of regions in order those behind one begin at its end or behind
pub sequence-behind : (a e : ℕ) (ps : List DiscRegion) (r : DiscRegion) (rs : List DiscRegion) → is_in_sequence a e (ps ++ r ∷ rs) ≡ true → is_in_sequence (end_of r) e rs ≡ true
sequence-behind a e [] r rs s = sequence-rest a e r rs s
sequence-behind a e (p ∷ ps) r rs s = sequence-behind (end_of p) e ps r rs (sequence-rest a e p (ps ++ r ∷ rs) s)

starts-later : (a b : ℕ) (rs : List DiscRegion) → a ≤ b → AllStartBefore a rs → AllStartBefore b rs
starts-later a b [] h s = tt
starts-later a b (r ∷ rs) h s = (omega (arith, s.0), starts-later a b rs h s.1)

starts-more : (y : ℕ) (r : DiscRegion) (rs : List DiscRegion) → r.offset < y → AllStartBefore y rs → AllStartBefore y (rs ++ r ∷ [])
starts-more y r [] h s = (h, tt)
starts-more y r (q ∷ rs) h s = (s.0, starts-more y r rs h s.1)

-- all of some start before y, none of the others does
started-passed : (y : ℕ) (ps rs : List DiscRegion) → AllStartBefore y ps → started_size y (ps ++ rs) ≡ total_size ps + started_size y rs
started-passed y [] rs s = unfold total_size in omega arith
started-passed y (p ∷ ps) rs s = omega (arith, started-more y p (ps ++ rs) s.0, total_size-cons p ps, started-passed y ps rs s.1)

started-late : (y a e : ℕ) (rs : List DiscRegion) → y ≤ a → is_in_sequence a e rs ≡ true → started_size y rs ≡ 0
started-late y a e [] h s = unfold started_size total_size in refl
started-late y a e (r ∷ rs) h s =
    let o : a ≤ r.offset = sequence-first a e r rs s in
    started-less y r rs (omega arith) ∙ started-late y (end_of r) e rs (omega arith) (sequence-rest a e r rs s)

-- from a region that starts at y or behind
pub started-behind : (y e : ℕ) (r : DiscRegion) (rs : List DiscRegion) → y ≤ r.offset → is_in_sequence (end_of r) e rs ≡ true → started_size y (r ∷ rs) ≡ 0
started-behind y e r rs h s = started-less y r rs h ∙ started-late y (end_of r) e rs (omega arith) s

-- the run at x costs nothing exactly if it ends before the next region starts
pub next-free : (y a e : ℕ) (r : DiscRegion) (rs : List DiscRegion) → 0 < r.size → is_in_sequence a e (r ∷ rs) ≡ true → nat_le y r.offset ≡ (started_size y (r ∷ rs) == 0)
next-free y a e r rs full s =
    ⊎_elim (λ h. lt-leb y r.offset h ∙ sym (ne_eqb (started_size y (r ∷ rs)) 0 (λ q. omega (arith, started-more y r rs h, full))))
    (λ h. le-leb y r.offset h ∙ sym (eq-eqb (started_size y (r ∷ rs)) 0 (started-behind y e r rs h (sequence-rest a e r rs s)))) (lt-or-le r.offset y)

-- no run fits behind regions that end too late
pub none-fits : (t : Search) (a : ℕ) (rs : List DiscRegion) → t.disc_end < a + t.size → is_in_sequence a t.disc_end rs ≡ true → runs_behind t rs ≡ []
unfolding runs_behind
none-fits t a [] h s = refl
none-fits t a (r ∷ rs) h s =
    let o : a ≤ r.offset = sequence-first a t.disc_end r rs s in
    let l : t.disc_end < end_of r + t.size = omega arith in
    rw (lt-leb (end_of r + t.size) t.disc_end l, none-fits t (end_of r) rs l (sequence-rest a t.disc_end r rs s))

-- ---- both marks stand before all regions

pub marks-begin : (t : Search) (w : List ℕ) (i m : ℕ) → 0 < t.size → AreHeld w i m t.disc_end → AreMarks t 0 w m i i 0
marks-begin t w i m some o =
    let n : i - i ≡ 0 = omega arith in record {
      some = some;
      small = o.small;
      held = o.held;
      first = omega arith;
      second = o.first;
      full = o.full;
      order = o.order;
      sizes = rw (n, regions-none w i 0 refl) (unfold total_size in refl);
      started = rw (n, regions-none w i 0 refl) tt;
    }

-- ---- what the marks tell

module _ (t : Search) (x : ℕ) (w : List ℕ) (m i j between : ℕ) (a : AreMarks t x w m i j between) where
  -- the regions that are left, those between the marks and those behind the second
  abbrev rest : List DiscRegion
  rest = regions_in w i (m - i)

  abbrev passed : List DiscRegion
  passed = regions_in w i (j - i)

  abbrev behind : List DiscRegion
  behind = regions_in w j (m - j)

  split : rest ≡ passed ++ behind
  split =
      let n : m - i ≡ j - i + (m - j) = omega (arith, a.first, a.second) in
      let k : i + (j - i) ≡ j = omega (arith, a.first) in
      rw n (rw k at (regions-split w i (j - i) (m - j)))

  order-split : is_in_sequence x t.disc_end (passed ++ behind) ≡ true
  order-split = rw split at a.order

  -- ---- the first mark passes a region

  module _ (more : i < m) where
    abbrev r : DiscRegion
    r = region_at w i

    abbrev rest' : List DiscRegion
    rest' = regions_in w (i + 1) (m - (i + 1))

    is : rest ≡ r ∷ rest'
    is = regions-more w i m more

    order-here : is_in_sequence x t.disc_end (r ∷ rest') ≡ true
    order-here = rw is at a.order

    full-here : AllNonempty (r ∷ rest')
    full-here = rw is at a.full

    passed-first : i < j → passed ≡ r ∷ regions_in w (i + 1) (j - (i + 1))
    passed-first h = regions-more w i j h

    -- the second mark stands behind the first exactly if something is between them
    some-between : (between ≡ 0 → ⊥) → i < j
    some-between some =
        ⊎_elim (λ h. h)
        (λ h. let n : j - i ≡ 0 = omega (arith, a.first) in absurd (some (sym a.sizes ∙ rw (regions-none w i (j - i) n) (unfold total_size in refl)))) (lt-or-le i j)

    none-between : between ≡ 0 → j ≡ i
    none-between none =
        ⊎_elim (λ h. absurd (omega (arith, a.sizes, ap total_size (passed-first h), total_size-cons r (regions_in w (i + 1) (j - (i + 1))), full-here.0))) (λ h. omega (arith, a.first)) (lt-or-le i j)

    pub region-between : (between ≡ 0 → ⊥) → r.size ≤ between
    region-between some =
        omega (arith, a.sizes, ap total_size (passed-first (some-between some)), total_size-cons r (regions_in w (i + 1) (j - (i + 1))))

    -- it was between the marks
    pub left-behind : (between ≡ 0 → ⊥) → AreMarks t (end_of r) w m (i + 1) j (between - r.size)
    left-behind some =
        let h : i < j = some-between some in
        let o : x ≤ r.offset = sequence-first x t.disc_end r rest' order-here in
        let s : AllStartBefore (x + t.size) (r ∷ regions_in w (i + 1) (j - (i + 1))) = rw (passed-first h) at a.started in record {
          some = a.some;
          small = a.small;
          held = a.held;
          first = omega arith;
          second = a.second;
          full = full-here.1;
          order = sequence-rest x t.disc_end r rest' order-here;
          sizes = omega (arith, a.sizes, ap total_size (passed-first h), total_size-cons r (regions_in w (i + 1) (j - (i + 1))));
          started = starts-later (x + t.size) (end_of r + t.size) (regions_in w (i + 1) (j - (i + 1))) (omega arith) s.1;
        }

    -- nothing was between the marks: the second passes it too
    pub passed-with : between ≡ 0 → AreMarks t (end_of r) w m (i + 1) (i + 1) between
    passed-with none =
        let e : j ≡ i = none-between none in
        let n : i + 1 - (i + 1) ≡ 0 = omega arith in record {
          some = a.some;
          small = a.small;
          held = a.held;
          first = omega arith;
          second = omega arith;
          full = full-here.1;
          order = sequence-rest x t.disc_end r rest' order-here;
          sizes = rw (regions-none w (i + 1) (i + 1 - (i + 1)) n) (unfold total_size in (sym none));
          started = rw (regions-none w (i + 1) (i + 1 - (i + 1)) n) tt;
        }

  -- ---- the second mark passes a region

  cost-split : started_size (x + t.size) rest ≡ between + started_size (x + t.size) behind
  cost-split = rw split (started-passed (x + t.size) passed behind a.started ∙ ap (λ (n : ℕ). n + started_size (x + t.size) behind) a.sizes)

  pub costs-more : between ≤ started_size (x + t.size) rest
  costs-more = omega (arith, cost-split)

  pub costs-all : m ≤ j → started_size (x + t.size) rest ≡ between
  costs-all h =
      let n : m - j ≡ 0 = omega arith in
      cost-split ∙ rw (regions-none w j (m - j) n) (unfold started_size total_size in omega arith)

  module _ (more : j < m) where
    behind-is : behind ≡ region_at w j ∷ regions_in w (j + 1) (m - (j + 1))
    behind-is = regions-more w j m more

    order-there : is_in_sequence x t.disc_end (passed ++ region_at w j ∷ regions_in w (j + 1) (m - (j + 1))) ≡ true
    order-there = rw behind-is at order-split

    pub costs-this : x + t.size ≤ (region_at w j).offset → started_size (x + t.size) rest ≡ between
    costs-this h =
        let l = started-behind (x + t.size) t.disc_end (region_at w j) (regions_in w (j + 1) (m - (j + 1))) h (sequence-behind x t.disc_end passed (region_at w j) (regions_in w (j + 1) (m - (j + 1))) order-there) in
        omega (arith, cost-split, ap (started_size (x + t.size)) behind-is, l)

    pub sum-fits : between + (region_at w j).size ≤ t.disc_end
    sum-fits =
        omega (
          arith,
          sequence-total x t.disc_end (passed ++ region_at w j ∷ regions_in w (j + 1) (m - (j + 1))) order-there,
          total_size-append passed (region_at w j ∷ regions_in w (j + 1) (m - (j + 1))),
          total_size-cons (region_at w j) (regions_in w (j + 1) (m - (j + 1))),
          a.sizes,
        )

    pub passed-one : (region_at w j).offset < x + t.size → AreMarks t x w m i (j + 1) (between + (region_at w j).size)
    passed-one h =
        let n : j + 1 - i ≡ j - i + 1 = omega (arith, a.first) in
        let k : i + (j - i) ≡ j = omega (arith, a.first) in
        let s : regions_in w i (j + 1 - i) ≡ passed ++ (region_at w j ∷ []) = rw n (rw k at (regions-snoc w i (j - i))) in record {
          some = a.some;
          small = a.small;
          held = a.held;
          first = omega (arith, a.first);
          second = omega arith;
          full = a.full;
          order = a.order;
          sizes = omega (arith, ap total_size s, total_size-append passed (region_at w j ∷ []), total_size-cons (region_at w j) [], a.sizes, none);
          started = rw s (starts-more (x + t.size) (region_at w j) passed h a.started);
        }
      where
        none : total_size [] ≡ 0
        none = unfold total_size in refl
