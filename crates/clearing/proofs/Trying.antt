-- The runs tried one by one. Assumes nothing.
use Rattle.std.specs.Prelude.{ℕ, suc, ◌+◌, ◌-◌, ◌<◌, ◌≤◌, ◌≡◌, List, [], ◌∷◌, length, take, if◌then◌else◌, nat_lt}
use Rattle.std.proofs.Common.{refl, sym, ap, ◌∙◌, ⊎_elim, arith, eq-eqb, ne_eqb, lt-ltb, le-ltb}
use Rattle.refusal.specs.Laws.Tests.{lt-or-le}
use Rattle.space.specs.declared.region.DiscRegion.{DiscRegion}
use Rattle.space.specs.Used.{end_of}
use Rattle.space.specs.Inner.Sort.{region_at, regions_in}
use Rattle.clearing.specs.declared.stretch.Run.{Run}
use Rattle.clearing.specs.declared.stretch.Marks.{Marks}
use Rattle.clearing.specs.Inner.Marks.{run_behind, started_size, AreMarks}
use Rattle.clearing.specs.Inner.Stretches.{AreHeld, by_limit, marks_past}
use Rattle.clearing.specs.Inner.Tried.{cheapest_from}
use Rattle.clearing.proofs.Marks.{marks-begin, region-between, left-behind, passed-with, costs-more}
use Rattle.clearing.proofs.Stretches.{runs_from, region-left, run-fits, run-here}

-- nothing is cheaper than what costs nothing
cheapest-free : (best : Run) → best.cost ≡ 0 → (runs : List Run) → cheapest_from best runs ≡ best
cheapest-free best z [] = refl
cheapest-free best z (run ∷ runs) = rw (le-ltb run.cost best.cost (omega arith)) (cheapest-free best z runs)

module _ (n e : ℕ) (w : List ℕ) (m : ℕ) where
  abbrev pub Stand : Marks → Type 0
  Stand marks = AreMarks (by_limit n e) marks.offset w m marks.to_end marks.to_start marks.between

  -- those behind the marks up to region `end` are left to try, and `best` is the cheapest so far
  pub record IsTrying (end : ℕ) (told : Run) (marks : Marks) (best : Run) : Type 0 where
    pub stand : Stand marks
    pub within : marks.to_end ≤ end
    pub enough : end ≤ marks.to_end + length (runs_from n e w m marks.to_end)
    pub cheapest : cheapest_from best (take (end - marks.to_end) (runs_from n e w m marks.to_end)) ≡ told

  pub trying-begin : (i tried : ℕ) → 0 < n → AreHeld w i m e → tried ≤ length (runs_from n e w m i) → (before : Run) →
      IsTrying (i + tried) (cheapest_from before (take tried (runs_from n e w m i))) (record { offset = 0; to_end = i; to_start = i; between = 0 }) before
  trying-begin i tried some o h before =
      let k : i + tried - i ≡ tried = omega arith in record {
        stand = marks-begin (by_limit n e) w i m some o;
        within = omega arith;
        enough = omega (arith, h);
        cheapest = rw k refl;
      }

  module _ (end : ℕ) (told : Run) (marks : Marks) (best : Run) (i : IsTrying end told marks best) where
    module _ (more : marks.to_end < end) where
      abbrev r : DiscRegion
      r = region_at w marks.to_end

      abbrev rest : List DiscRegion
      rest = regions_in w (marks.to_end + 1) (m - (marks.to_end + 1))

      left : 0 < length (runs_from n e w m marks.to_end)
      left = omega (arith, i.enough)

      pub trying-here : marks.to_end < m
      trying-here = region-left n e w m marks.to_end left

      pub trying-fits : end_of r + n ≤ e
      trying-fits = run-fits n e w m marks.to_end left marks.offset i.stand.order

      pub trying-ends : end_of r ≤ e
      trying-ends = omega (arith, trying-fits)

      pub trying-between : (marks.between ≡ 0 → ⊥) → r.size ≤ marks.between
      trying-between some = region-between _ _ _ _ _ _ _ i.stand trying-here some

      -- both marks go behind the next region
      record IsPast (q : Marks) : Type 0 where
        pub stand : Stand q
        pub offset : q.offset ≡ end_of r
        pub to_end : q.to_end ≡ marks.to_end + 1

      module _ (p : Marks) (is : p ≡ marks_past marks r) where
        past : IsPast p
        past =
            rw is
            (⊎_elim (λ h. rw (ne_eqb marks.between 0 (λ z. omega arith)) record {
              stand = left-behind _ _ _ _ _ _ _ i.stand trying-here (λ z. omega arith);
              offset = refl;
              to_end = refl;
            })
            (λ h. let z : marks.between ≡ 0 = omega arith in rw (eq-eqb marks.between 0 z) record {
              stand = rw z at (passed-with _ _ _ _ _ _ _ i.stand trying-here z);
              offset = refl;
              to_end = refl;
            })
            (lt-or-le 0 marks.between))

        pub past-stands : Stand p
        past-stands = past.stand

        pub past-fits : p.offset + n ≤ e
        past-fits = omega (arith, past.offset, trying-fits)

        abbrev run : Run
        run = run_behind (by_limit n e) r rest

        module _ (q : Marks) (stand : Stand q) (offset : q.offset ≡ p.offset) (to_end : q.to_end ≡ p.to_end) where
          next : (best' : Run) → best' ≡ (if nat_lt run.cost best.cost then run else best) → IsTrying end told q best'
          next best' b =
              let here = run-here n e w m marks.to_end left marks.offset i.stand.order in
              let k : end - marks.to_end ≡ suc (end - (marks.to_end + 1)) = omega (arith, more) in
              let s : q.to_end ≡ marks.to_end + 1 = omega (arith, to_end, past.to_end) in record {
                stand = stand;
                within = omega (arith, s, more);
                enough = rw s (omega (arith, i.enough, ap length here));
                cheapest = rw (s, b) (rw (k, here) at i.cheapest);
              }

          -- what is between the marks is no more than the cost
          least : q.between ≤ run.cost
          least =
              let c : q.between ≤ started_size (q.offset + n) (regions_in w q.to_end (m - q.to_end)) = costs-more _ _ _ _ _ _ _ stand in
              rw (offset, to_end, past.offset, past.to_end) at c

          pub trying-dearer : best.cost ≤ q.between → IsTrying end told q best
          trying-dearer h = next best (rw (le-ltb run.cost best.cost (omega (arith, h, least))) refl)

          module _ (cost : q.between ≡ started_size (p.offset + n) (regions_in w p.to_end (m - p.to_end))) (less : q.between < best.cost) where
            own : q.between ≡ run.cost
            own = rw (past.offset, past.to_end) at cost

            found : record { offset = q.offset; cost = q.between } ≡ run
            found = rw (offset, past.offset, own) refl

            pub trying-cheaper : IsTrying end told q (record { offset = q.offset; cost = q.between })
            trying-cheaper = next _ (rw (lt-ltb run.cost best.cost (omega (arith, own, less))) found)

            pub trying-free : q.between ≡ 0 → record { offset = q.offset; cost = q.between } ≡ told
            trying-free z = sym (cheapest-free _ z (take (end - q.to_end) (runs_from n e w m q.to_end))) ∙ trying-cheaper.cheapest
