-- A run lies wholly before the program or wholly behind it. Assumes nothing.
use Rattle.std.specs.Prelude.{ℕ, ◌+◌, ◌<◌, ◌≤◌, ◌≡◌, ◌-◌, ◌^◌, Bool, true, false, ◌&&◌, List, [], ◌∷◌, ◌++◌, nat_le}
use Rattle.std.proofs.Common.{refl, sym, ap, ◌∙◌, inl, inr, ⊎_elim, arith, le-leb}
use Rattle.std.proofs.lemmas.Bool.{lt-leb}
use Rattle.refusal.specs.Laws.Tests.{lt-or-le, and_both}
use Rattle.space.specs.declared.region.DiscRegion.{DiscRegion}
use Rattle.space.specs.Used.{no_region, end_of, total_size}
use Rattle.space.specs.Inner.Sort.{region_at, regions_in, is_among}
use Rattle.space.specs.Inner.Words.{AllNonempty, is_in_sequence, IsSortedDisjoint}
use Rattle.space.specs.Laws.HoldsLaws.{is_among-cases, is_among-none, is_among-from}
use Rattle.space.proofs.Pairs.{regions-none, regions-split, regions-more}
use Rattle.space.specs.Laws.LongestLaws.{sequence-first, sequence-rest, sequence-le}
use Rattle.space.specs.Layout.{are_disjoint}
use Rattle.clearing.specs.declared.stretch.Run.{Run}
use Rattle.clearing.specs.Clearing.{bytes_from}
use Rattle.clearing.specs.Inner.Marks.{Search, has_room, started_size, run_behind, runs_behind}
use Rattle.clearing.specs.Inner.Stretches.{AreHeld, by_limit}
use Rattle.clearing.proofs.Laws.InOrder.{started-more, started-less}
use Rattle.clearing.proofs.Laws.Touched.{apart-sides, shared}
use Rattle.clearing.proofs.Marks.{sequence-behind, started-behind}
use Rattle.clearing.proofs.Stretches.{none-touched, held-from}

never : (b : Bool) → (b && false) ≡ false
never true = refl
never false = refl

-- of regions in order those before one end by its start
pub sequence-to : (a e : ℕ) (pre : List DiscRegion) (p : DiscRegion) (post : List DiscRegion) → is_in_sequence a e (pre ++ p ∷ post) ≡ true → is_in_sequence a p.offset pre ≡ true
unfolding is_in_sequence
sequence-to a e [] p post s = le-leb a p.offset (sequence-first a e p post s)
sequence-to a e (r ∷ pre) p post s =
    and_both _ _ (le-leb a r.offset (sequence-first a e r (pre ++ p ∷ post) s)) (sequence-to (end_of r) e pre p post (sequence-rest a e r (pre ++ p ∷ post) s))

-- before a region from y on, the same start before y
started-before : (y a e : ℕ) (pre : List DiscRegion) (p : DiscRegion) (post : List DiscRegion) → y ≤ p.offset → is_in_sequence a e (pre ++ p ∷ post) ≡ true → started_size y (pre ++ p ∷ post) ≡ started_size y pre
started-before y a e [] p post h s = started-behind y e p post h (sequence-rest a e p post s) ∙ unfold started_size total_size in refl
started-before y a e (r ∷ pre) p post h s =
    let ih = started-before y (end_of r) e pre p post h (sequence-rest a e r (pre ++ p ∷ post) s) in
    ⊎_elim (λ l. omega (arith, started-more y r (pre ++ p ∷ post) l, started-more y r pre l, ih))
    (λ l. omega (arith, started-less y r (pre ++ p ∷ post) l, started-less y r pre l, ih)) (lt-or-le r.offset y)

module _ (n e : ℕ) (some : 0 < n) (p : DiscRegion) (full : 0 < p.size) where
  abbrev t : Search
  t = record { size = n; disc_end = e; program = p }

  -- no run behind the program touches it
  spared : (r : DiscRegion) → end_of p ≤ end_of r → are_disjoint (bytes_from (end_of r) n) p ≡ are_disjoint (bytes_from (end_of r) n) no_region
  spared r h = apart-sides n (end_of r) p (inr h) ∙ sym (none-touched (bytes_from (end_of r) n) no_region refl)

  runs-behind : (a : ℕ) (rs : List DiscRegion) → end_of p ≤ a → is_in_sequence a e rs ≡ true → runs_behind t rs ≡ runs_behind (by_limit n e) rs
  unfolding runs_behind
  runs-behind a [] h s = refl
  runs-behind a (r ∷ rs) h s =
      let l : end_of p ≤ end_of r = omega (arith, h, sequence-first a e r rs s) in
      rw (spared r l, runs-behind (end_of r) rs l (sequence-rest a e r rs s)) refl

  runs-from : (a : ℕ) (post : List DiscRegion) → is_in_sequence a e (p ∷ post) ≡ true → runs_behind t (p ∷ post) ≡ runs_behind (by_limit n e) (p ∷ post)
  unfolding runs_behind
  runs-from a post s = rw (spared p (omega arith), runs-behind (end_of p) post (omega arith) (sequence-rest a e p post s)) refl

  -- before the program
  module _ (r : DiscRegion) (pre : List DiscRegion) (post : List DiscRegion) (s : is_in_sequence (end_of r) e (pre ++ p ∷ post) ≡ true) where
    starts-by : end_of r ≤ p.offset
    starts-by = sequence-le (end_of r) p.offset pre (sequence-to (end_of r) e pre p post s)

    ends-by : end_of p ≤ e
    ends-by = sequence-le (end_of p) e post (sequence-behind (end_of r) e pre p post s)

    room-same : has_room t (end_of r) ≡ has_room (by_limit n p.offset) (end_of r)
    room-same =
        ⊎_elim (λ h. rw (lt-leb (end_of r + n) p.offset h, shared n (end_of r) p (omega (arith, starts-by, full)) h full some) (never (nat_le (end_of r + n) e)))
        (λ h. rw (le-leb (end_of r + n) p.offset h, le-leb (end_of r + n) e (omega (arith, h, ends-by)), apart-sides n (end_of r) p (inl h), none-touched (bytes_from (end_of r) n) no_region refl) refl) (lt-or-le p.offset (end_of r + n))

    run-same : has_room t (end_of r) ≡ true → run_behind t r (pre ++ p ∷ post) ≡ run_behind (by_limit n p.offset) r pre
    run-same room =
        ⊎_elim (λ h. absurd (never-both h))
        (λ h. rw (started-before (end_of r + n) (end_of r) e pre p post h s) refl) (lt-or-le p.offset (end_of r + n))
      where
        no : (b : Bool) → (b && false) ≡ true → ⊥
        no true q = cc
        no false q = cc

        never-both : p.offset < end_of r + n → ⊥
        never-both h = no (nat_le (end_of r + n) e) (rw (shared n (end_of r) p (omega (arith, starts-by, full)) h full some) at room)

  one-more : (r : DiscRegion) (xs ys : List DiscRegion) (u : Search) (runs : List Run) (b : Bool) → has_room t (end_of r) ≡ b → has_room u (end_of r) ≡ b → (b ≡ true → run_behind t r xs ≡ run_behind u r ys) →
      runs_behind t xs ≡ runs_behind u ys ++ runs → runs_behind t (r ∷ xs) ≡ runs_behind u (r ∷ ys) ++ runs
  unfolding runs_behind
  one-more r xs ys u runs true e f g ih = rw (e, f, g refl, ih) refl
  one-more r xs ys u runs false e f g ih = rw (e, f, ih) refl

  -- LAW: the runs before the program, and those behind it
  pub runs-split : (a : ℕ) (pre post : List DiscRegion) → is_in_sequence a e (pre ++ p ∷ post) ≡ true →
      runs_behind t (pre ++ p ∷ post) ≡ runs_behind (by_limit n p.offset) pre ++ runs_behind (by_limit n e) (p ∷ post)
  runs-split a [] post s = runs-from a post s ∙ unfold runs_behind in refl
  runs-split a (r ∷ pre) post s =
      let rest = sequence-rest a e r (pre ++ p ∷ post) s in
      one-more r (pre ++ p ∷ post) pre (by_limit n p.offset) (runs_behind (by_limit n e) (p ∷ post)) (has_room t (end_of r)) refl (sym (room-same r pre post rest)) (run-same r pre post rest) (runs-split (end_of r) pre post rest)

-- ---- the place of the program among the regions in words

module _ (p : DiscRegion) (w : List ℕ) (m : ℕ) where
  -- it is not before the next region that starts before it
  pub among-passed : (k : ℕ) → k < m → (region_at w k).offset < p.offset → is_among p (regions_in w k (m - k)) ≡ true → is_among p (regions_in w (k + 1) (m - (k + 1))) ≡ true
  among-passed k h l i =
      ⊎_elim (λ q. absurd (omega (arith, l, ap (λ (r : DiscRegion). r.offset) q))) (λ j. j)
      (is_among-cases p (region_at w k) (regions_in w (k + 1) (m - (k + 1))) (rw (regions-more w k m h) at i))

  pub among-more : (k : ℕ) → is_among p (regions_in w k (m - k)) ≡ true → k < m
  among-more k i =
      ⊎_elim (λ h. h) (λ h. let z : m - k ≡ 0 = omega arith in absurd (is_among-none p (rw (regions-none w k (m - k) z) at i))) (lt-or-le k m)

  -- and the next region that does not is the program
  pub among-here : (k e : ℕ) → AreHeld w k m e → p.offset ≤ (region_at w k).offset → is_among p (regions_in w k (m - k)) ≡ true → region_at w k ≡ p
  among-here k e o l i =
      let is = regions-more w k m (among-more k i) in
      let full : AllNonempty (region_at w k ∷ regions_in w (k + 1) (m - (k + 1))) = rw is at o.full in
      let order : is_in_sequence 0 e (region_at w k ∷ regions_in w (k + 1) (m - (k + 1))) ≡ true = rw is at o.order in
      ⊎_elim (λ q. q)
      (λ j. absurd (omega (arith, l, full.0, is_among-from p (end_of (region_at w k)) e (regions_in w (k + 1) (m - (k + 1))) (sequence-rest 0 e (region_at w k) (regions_in w (k + 1) (m - (k + 1))) order) j)))
      (is_among-cases p (region_at w k) (regions_in w (k + 1) (m - (k + 1))) (rw is at i))

all-before : (xs ys : List DiscRegion) → AllNonempty (xs ++ ys) → AllNonempty xs
all-before [] ys f = tt
all-before (x ∷ xs) ys f = (f.0, all-before xs ys f.1)

-- the regions in words in two: before `first`, and from there on
pub record IsSplit (p : DiscRegion) (w : List ℕ) (m e first : ℕ) : Type 0 where
  pub before : AreHeld w 0 first p.offset
  pub behind : AreHeld w first m e
  pub runs : (n : ℕ) → 0 < n → runs_behind (record { size = n; disc_end = e; program = p }) (regions_in w 0 m) ≡ runs_behind (by_limit n p.offset) (regions_in w 0 (first - 0)) ++ runs_behind (by_limit n e) (regions_in w first (m - first))

pub held-all : (w : List ℕ) (m e : ℕ) → e < 2 ^ 32 → IsSortedDisjoint w m e → AreHeld w 0 m e
held-all w m e small o =
    let z : m - 0 ≡ m = omega arith in
    record { held = o.held; first = omega arith; small = small; full = rw z o.full; order = rw z o.sequence }

pub held-on : (w : List ℕ) (m e k : ℕ) → AreHeld w 0 m e → k ≤ m → AreHeld w k m e
held-on w m e k o h = let q : 0 + k ≡ k = omega arith in rw q at (held-from 0 e w m k 0 o (omega (arith, h)))

module _ (p : DiscRegion) (w : List ℕ) (m e : ℕ) (o : AreHeld w 0 m e) where
  -- at the program
  module _ (full : 0 < p.size) (k : ℕ) (more : k < m) (is : region_at w k ≡ p) where
    from-program : regions_in w k (m - k) ≡ p ∷ regions_in w (k + 1) (m - (k + 1))
    from-program = regions-more w k m more ∙ ap (λ (r : DiscRegion). r ∷ regions_in w (k + 1) (m - (k + 1))) is

    whole : regions_in w 0 (m - 0) ≡ regions_in w 0 k ++ (p ∷ regions_in w (k + 1) (m - (k + 1)))
    whole =
        let n : m - 0 ≡ k + (m - k) = omega (arith, more) in
        let q : 0 + k ≡ k = omega arith in
        rw n (rw q at (regions-split w 0 k (m - k))) ∙ ap (λ (rs : List DiscRegion). regions_in w 0 k ++ rs) from-program

    order-whole : is_in_sequence 0 e (regions_in w 0 k ++ (p ∷ regions_in w (k + 1) (m - (k + 1)))) ≡ true
    order-whole = rw whole at o.order

    starts-on : p.offset ≤ e
    starts-on = omega (arith, sequence-le (end_of p) e (regions_in w (k + 1) (m - (k + 1))) (sequence-behind 0 e (regions_in w 0 k) p (regions_in w (k + 1) (m - (k + 1))) order-whole))

    pub split-at : IsSplit p w m e k
    split-at =
        let z : k - 0 ≡ k = omega arith in
        let all : m - 0 ≡ m = omega arith in
        record {
          before = record {
            held = omega (arith, o.held, more);
            first = omega arith;
            small = omega (arith, o.small, starts-on);
            full = rw z (all-before (regions_in w 0 k) (p ∷ regions_in w (k + 1) (m - (k + 1))) (rw whole at o.full));
            order = rw z (sequence-to 0 e (regions_in w 0 k) p (regions_in w (k + 1) (m - (k + 1))) order-whole);
          };
          behind = held-on w m e k o (omega (arith, more));
          runs = λ n some. rw (z, from-program, rw all at whole) (runs-split n e some p full 0 (regions_in w 0 k) (regions_in w (k + 1) (m - (k + 1))) order-whole);
        }

  -- without a program
  module _ (none : p.size ≡ 0) (small : p.offset < 2 ^ 32) where
    same : (n : ℕ) (rs : List DiscRegion) → runs_behind (record { size = n; disc_end = e; program = p }) rs ≡ runs_behind (by_limit n e) rs
    unfolding runs_behind
    same n [] = refl
    same n (r ∷ rs) =
        rw (none-touched (bytes_from (end_of r) n) p none, none-touched (bytes_from (end_of r) n) no_region refl, same n rs) refl

    nothing : regions_in w 0 (0 - 0) ≡ []
    nothing = regions-none w 0 (0 - 0) (omega arith)

    pub split-none : IsSplit p w m e 0
    split-none = record {
      before = record {
        held = omega arith;
        first = omega arith;
        small = small;
        full = rw nothing tt;
        order = rw nothing (sequence-none p.offset);
      };
      behind = o;
      runs = λ n some. let all : m - 0 ≡ m = omega arith in rw (nothing, all) (same n (regions_in w 0 m) ∙ sym (none-before n));
    }
      where
        sequence-none : (y : ℕ) → is_in_sequence 0 y [] ≡ true
        sequence-none y = unfold is_in_sequence in le-leb 0 y (omega arith)

        none-before : (n : ℕ) → runs_behind (by_limit n p.offset) [] ++ runs_behind (by_limit n e) (regions_in w 0 m) ≡ runs_behind (by_limit n e) (regions_in w 0 m)
        none-before n = unfold runs_behind in refl
