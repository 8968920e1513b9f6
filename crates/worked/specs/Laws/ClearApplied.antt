-- Each theorem about runs to clear, applied to the worked discs: what it says is read off in
-- numbers. Assumes nothing.
use Rattle.std.specs.Prelude.{Ok, Err, None, Some}
use Rattle.std.specs.Prelude.{ℕ, zero, suc, ◌+◌, ◌<◌, ◌≤◌, ◌≡◌, ◌⊎◌, refl, true, false, List, [], ◌∷◌, Contains, slice_index}
use Rattle.std.proofs.Common.{sym, ap, subst, ◌∙◌, inl, inr, ⊎_elim, arith}
use Rattle.std.proofs.lemmas.Bool.{false≢true, cases_lt}
use Rattle.refusal.specs.declared.Refusal.TheVariants.{NotEnoughSpace}
use Rattle.header.specs.Verdicts.{disc_end, table_end}
use Rattle.space.specs.declared.region.DiscRegion.{DiscRegion}
use Rattle.space.specs.Used.{end_of, is_inside, is_used, nonempty_regions, used_regions, total_size, used_total}
use Rattle.space.specs.Layout.{are_disjoint}
use Rattle.space.specs.Free.{runs, free_regions, largest_size}
use Rattle.space.specs.Laws.UsedLaws.{is_inside-low, is_inside-in, is_inside-high}
use Rattle.space.specs.Inner.Sort.{is_among}
use Rattle.space.specs.Laws.HoldsLaws.{is_among-uses}
use Rattle.space.specs.Laws.LayoutLaws.{is_inside-from}
use Rattle.executable.specs.Program.{program_behind}
use Rattle.opened.specs.Opening.{regions_behind_table, used_in, used_of}
use Rattle.clearing.specs.declared.clear.CheapestRun.{CheapestRun}
use Rattle.clearing.specs.Clearing.{Occupancy, occupancy_of, used_by, files_touched, cost_of, candidates, floor_of}
use Rattle.clearing.specs.Theorem.{IsRun, IsCheapestRun, IsFreeRow, files_left, IsInTheWay}
use Rattle.clearing.proofs.Laws.NoRun.{no-run}
use Rattle.clearing.proofs.Laws.NoneTried.{none-tried}
use Rattle.clearing.proofs.Laws.RunFound.{run-found}
use Rattle.clearing.proofs.Laws.AsCheapAsAny.{as-cheap-as-any}
use Rattle.clearing.proofs.Laws.InTheWay.{in-the-way}
use Rattle.clearing.proofs.Laws.Opened.{used-told}
use Rattle.clearing.proofs.Laws.EachCandidate.{each-candidate}
use Rattle.clearing.proofs.Laws.FloorOfAll.{floor-of-all}
use Rattle.worked.specs.Image.{master, master_words}
use Rattle.worked.specs.Laws.Marked.{at}
use Rattle.worked.specs.Laws.ClearImages.{between, apart, of_master, of_between, of_apart, Reads, at_master, at_between, at_apart}
use Rattle.worked.specs.Laws.Clear.{clear, cheapest, on-master, beside-program, floors}

-- ---- runs by the numbers of what takes a disc's bytes

abbrev LiesOn : Occupancy → ℕ → ℕ → Type 0
LiesOn o n x =
    (o.table_end ≤ x)
    × (x + n ≤ o.disc_end)
    × ((i : ℕ) → x ≤ i → i < x + n → is_inside o.program i ≡ false)

module _ {image : List ℕ} {o : Occupancy} (r : Reads image o) where
  table-ends : table_end image ≡ o.table_end
  table-ends = ap (λ (o : Occupancy). o.table_end) r.occupied

  disc-ends : disc_end image ≡ o.disc_end
  disc-ends = ap (λ (o : Occupancy). o.disc_end) r.occupied

  program-is : program_behind image ≡ o.program
  program-is = ap (λ (o : Occupancy). o.program) r.occupied

  run-there : (n x : ℕ) → LiesOn o n x → IsRun image n x
  run-there n x l = record {
    behind_table = rw table-ends l.0;
    on_disc = rw disc-ends l.1;
    spares_program = λ i h j. rw program-is (l.2 i h j);
  }

  run-lies : (n x : ℕ) → IsRun image n x → LiesOn o n x
  run-lies n x run = (
    rw table-ends at run.behind_table,
    rw disc-ends at run.on_disc,
    λ i h j. rw program-is at (run.spares_program i h j),
  )

run-on-master : (n x : ℕ) → 1114 ≤ x → x + n ≤ 8192 → IsRun master n x
run-on-master n x behind below = run-there at_master n x (behind, below, λ i h j. is_inside-high (at 0 0) i (omega arith))

run-on-apart : (n x : ℕ) → 1156 ≤ x → x + n ≤ 1256 → IsRun apart n x
run-on-apart n x behind below = run-there at_apart n x (behind, below, λ i h j. is_inside-high (at 0 0) i (omega arith))

run-behind-program : (n x : ℕ) → 1428 ≤ x → x + n ≤ 1500 → IsRun between n x
run-behind-program n x behind below = run-there at_between n x (omega arith, below, λ i h j. is_inside-high (at 1200 228) i (omega arith))

-- ---- 21

pub record NoRoom : Type 0 where
  -- whatever the budget: no start leaves so many bytes up to the disc end; and of no bytes
  pub refused : (budget : ℕ) → clear master 7079 budget ≡ Err NotEnoughSpace
  pub nothing : (budget : ℕ) → clear master 0 budget ≡ Err NotEnoughSpace
  -- the answer is 21, so no start gives a run, be it a candidate or not
  pub no-start : (x : ℕ) → LiesOn of_between 73 x → ⊥

pub no-room : NoRoom
no-room = record {
  refused = λ budget. (no-run master master_words 7079 budget at_master.bytes at_master.opens).1
      (inr (λ x run. let l = run-lies at_master 7079 x run in omega (arith, l.0, l.1)));
  nothing = λ budget. (no-run master master_words 0 budget at_master.bytes at_master.opens).1 (inl refl);
  no-start = λ x l. ⊎_elim (λ (e : 73 ≡ 0). omega arith) (λ (none : (x : ℕ) → IsRun between 73 x → ⊥). none x (run-there at_between 73 x l))
      ((no-run between master_words 73 9 at_between.bytes at_between.opens).0 (beside-program.split 9));
}

-- ---- none tried, and a run told

abbrev Tells : (image : List ℕ) → ℕ → ℕ → CheapestRun → Type 0
Tells image n budget told = clear image n budget ≡ Ok (Some told)

pub record NoneOrRun : Type 0 where
  -- 5389 bytes from 2000 on are a run, though nothing ends there: with the budget 0 none is tried,
  -- with any other a run is told
  pub none : clear master 5389 0 ≡ Ok None
  pub some : (budget : ℕ) → 0 < budget → (told : CheapestRun) × Tells master 5389 budget told
  -- and with no other is none tried; where none is, some start gives a run
  pub only-0 : (budget : ℕ) → clear master 5389 budget ≡ Ok None → budget ≡ 0
  pub none-start : (0 < 5389) × ((x : ℕ) × LiesOn of_master 5389 x)
  -- where a run is told the budget is not 0, and some start gives one
  pub above-0 : (budget : ℕ) (told : CheapestRun) → Tells between 31 budget told → 0 < budget
  pub some-start : (0 < 31) × ((x : ℕ) × LiesOn of_between 31 x)

pub none-or-run : NoneOrRun
none-or-run =
    let at_2000 = run-on-master 5389 2000 (omega arith) (omega arith) in
    let tried = λ (budget : ℕ). none-tried master master_words 5389 budget at_master.bytes at_master.opens in
    let found = λ (budget : ℕ). run-found master master_words 5389 budget at_master.bytes at_master.opens in
    let beside = λ (budget : ℕ). run-found between master_words 31 budget at_between.bytes at_between.opens in
    let none = (tried 0).0 on-master.none in
    let some = (beside 2).0 (_, beside-program.cheapest) in
    record {
      none = (tried 0).1 (refl, omega arith, (2000, at_2000));
      some = λ budget h. (found budget).1 (h, omega arith, (2000, at_2000));
      only-0 = λ budget e. ((tried budget).0 e).0;
      none-start = (none.1, (none.2.0, run-lies at_master 5389 none.2.0 none.2.1));
      above-0 = λ budget told e. ((beside budget).0 (told, e)).0;
      some-start = (some.1, (some.2.0, run-lies at_between 31 some.2.0 some.2.1));
    }

-- ---- a run told, whatever it is: with candidates, costs and floor computed, one answer is left

told-facts : {image : List ℕ} {o : Occupancy} → Reads image o →
    (n budget : ℕ) (told : CheapestRun) →
    Tells image n budget told → IsCheapestRun image n budget told
told-facts {image} r n budget told e = as-cheap-as-any image master_words n budget told r.bytes r.opens e

told-is : (told : CheapestRun) {tried offset cost bound : ℕ} →
    told.tried ≡ tried → told.offset ≡ offset → told.cost ≡ cost → told.bound ≡ bound →
    told ≡ cheapest tried offset cost bound
told-is told t o c b = λ i. cheapest (t i) (o i) (c i) (b i)

-- what a list of one holds, and of two
of-one : (a x : ℕ) → Contains (a ∷ []) x → x ≡ a
of-one a x (zero, h, e) = sym e
of-one a x (suc k, h, e) = absurd (omega arith)

of-two : (a b x : ℕ) → Contains (a ∷ b ∷ []) x → (x ≡ a) ⊎ (x ≡ b)
of-two a b x (zero, h, e) = inl (sym e)
of-two a b x (suc zero, h, e) = inr (sym e)
of-two a b x (suc (suc k), h, e) = absurd (omega arith)

apart-45 :
    (candidates of_apart 45 ≡ 1156 ∷ 1196 ∷ [])
    × (cost_of of_apart 45 1156 ≡ 30)
    × (cost_of of_apart 45 1196 ≡ 30)
    × (floor_of of_apart 45 ≡ 5)
unfolding candidates cost_of floor_of is_used nonempty_regions total_size are_disjoint runs free_regions largest_size
apart-45 = (refl, refl, refl, refl)

between-31 :
    (candidates of_between 31 ≡ 1128 ∷ 1428 ∷ [])
    × (cost_of of_between 31 1128 ≡ 40)
    × (cost_of of_between 31 1428 ≡ 30)
    × (floor_of of_between 31 ≡ 1)
unfolding candidates cost_of floor_of is_used nonempty_regions total_size are_disjoint runs free_regions largest_size
between-31 = (refl, refl, refl, refl)

-- one tried: the bound is the cost without the floor
pub one-tried : (told : CheapestRun) → Tells apart 45 1 told → told ≡ cheapest 1 1156 30 25
one-tried told e =
    let f = told-facts at_apart 45 1 told e in
    let start : told.offset ≡ 1156 = of-one 1156 told.offset (rw (at_apart.occupied, apart-45.0) at f.tried) in
    let cost : told.cost ≡ 30 = (rw at_apart.occupied at f.own) ∙ rw start apart-45.1 in
    let bound : told.bound + 5 ≡ told.cost = rw (at_apart.occupied, apart-45.3) at (f.part (rw (at_apart.occupied, apart-45.0) (omega arith))) in
    told-is told (rw (at_apart.occupied, apart-45.0) at f.count) start cost (omega arith)

-- both tried, which cost the same: the first, since at the second the first would have to cost more
not-second : (told : CheapestRun) → IsCheapestRun apart 45 9 told → told.offset ≡ 1196 → ⊥
not-second told f second =
    let less : told.cost < 30 = rw (at_apart.occupied, apart-45.1) at (f.first 1156 (rw (at_apart.occupied, apart-45.0) (0, omega arith, refl)) (omega arith)) in
    let same : told.cost ≡ 30 = (rw at_apart.occupied at f.own) ∙ rw second apart-45.2 in
    omega arith

pub first-of-equals : (told : CheapestRun) → Tells apart 45 9 told → told ≡ cheapest 2 1156 30 0
first-of-equals told e =
    let f = told-facts at_apart 45 9 told e in
    let start : told.offset ≡ 1156 = ⊎_elim (λ first. first) (λ second. absurd (not-second told f second)) (of-two 1156 1196 told.offset (rw (at_apart.occupied, apart-45.0) at f.tried)) in
    let cost : told.cost ≡ 30 = (rw at_apart.occupied at f.own) ∙ rw start apart-45.1 in
    told-is told (rw (at_apart.occupied, apart-45.0) at f.count) start cost (f.all (rw (at_apart.occupied, apart-45.0) (omega arith)))

-- both tried, and the second costs less
not-first : (told : CheapestRun) → IsCheapestRun between 31 2 told → told.offset ≡ 1128 → ⊥
not-first told f first =
    let most : told.cost ≤ 30 = rw (at_between.occupied, between-31.2) at (f.cheapest 1428 (rw (at_between.occupied, between-31.0) (1, omega arith, refl))) in
    let more : told.cost ≡ 40 = (rw at_between.occupied at f.own) ∙ rw first between-31.1 in
    omega arith

pub cheaper-of-two : (told : CheapestRun) → Tells between 31 2 told → told ≡ cheapest 2 1428 30 0
cheaper-of-two told e =
    let f = told-facts at_between 31 2 told e in
    let start : told.offset ≡ 1428 = ⊎_elim (λ first. absurd (not-first told f first)) (λ second. second) (of-two 1128 1428 told.offset (rw (at_between.occupied, between-31.0) at f.tried)) in
    let cost : told.cost ≡ 30 = (rw at_between.occupied at f.own) ∙ rw start between-31.2 in
    told-is told (rw (at_between.occupied, between-31.0) at f.count) start cost (f.all (rw (at_between.occupied, between-31.0) (omega arith)))

-- ---- what the worked answers say of every run, wherever that starts

pub record Anywhere : Type 0 where
  -- the run told is one
  pub lies : LiesOn of_between 31 1428
  -- with all tried none is cheaper than 30
  pub none-cheaper : (x : ℕ) → 1156 ≤ x → x + 45 ≤ 1256 → 30 ≤ cost_of of_apart 45 x
  -- with one tried none is cheaper by more than the bound, 25
  pub near : (x : ℕ) → 1156 ≤ x → x + 45 ≤ 1256 → 30 ≤ cost_of of_apart 45 x + 25
  -- as at 1430, behind the program, where nothing ends
  pub near-1430 : (40 ≤ cost_of of_between 31 1430 + 39) × (cost_of of_between 31 1430 ≡ 30)
  -- a bound as large as the cost says nothing, and there are runs that cost nothing
  pub near-1600 : (256 ≤ cost_of of_master 167 1600 + 256) × (cost_of of_master 167 1600 ≡ 0)

costs-elsewhere : (cost_of of_between 31 1430 ≡ 30) × (cost_of of_master 167 1600 ≡ 0)
unfolding cost_of are_disjoint total_size
costs-elsewhere = (refl, refl)

pub anywhere : Anywhere
anywhere =
    let both = told-facts at_between 31 2 _ beside-program.cheapest in
    record {
      lies = run-lies at_between 31 1428 both.run;
      none-cheaper = λ x h j. let n = rw at_apart.occupied at ((told-facts at_apart 45 2 _ floors.equals.0).near x (run-on-apart 45 x h j)) in omega (arith, n);
      near = λ x h j. rw at_apart.occupied at ((told-facts at_apart 45 1 _ floors.beyond.1).near x (run-on-apart 45 x h j));
      near-1430 = (rw at_between.occupied at ((told-facts at_between 31 1 _ beside-program.first).near 1430 (run-behind-program 31 1430 (omega arith) (omega arith))), costs-elsewhere.0);
      near-1600 = (rw at_master.occupied at ((told-facts at_master 167 1 _ on-master.one).near 1600 (run-on-master 167 1600 (omega arith) (omega arith))), costs-elsewhere.1);
    }

-- ---- which runs are candidates

module _ {image : List ℕ} {o : Occupancy} (r : Reads image o) where
  used-regions : used_in image ≡ used_by o
  used-regions = used-told image ∙ ap used_by r.occupied

  used-bytes : used_of image ≡ used_total o.table_end (o.program ∷ o.files)
  unfolding used_of regions_behind_table
  used-bytes = ap (λ (o : Occupancy). used_total o.table_end (o.program ∷ o.files)) r.occupied

-- the regions in use, the table first
abbrev used_between : List DiscRegion
used_between = at 0 1128 ∷ at 1200 228 ∷ at 1140 40 ∷ at 1440 30 ∷ []

abbrev used_apart : List DiscRegion
used_apart = at 0 1156 ∷ at 1206 30 ∷ at 1166 30 ∷ []

ends : {r s : DiscRegion} {x : ℕ} → r ≡ s → end_of s ≡ x → end_of r ≡ x
ends e is = ap (λ (r : DiscRegion). end_of r) e ∙ is

-- of the ends beside the program the first file's is too near to the program, and the last one's to
-- the disc end
only-ends : (x : ℕ) → LiesOn of_between 31 x →
    (r : DiscRegion) → Contains used_between r → end_of r ≡ x → (x ≡ 1128) ⊎ (x ≡ 1428)
only-ends x l r (zero, h, e) is = inl (sym (ends e is))
only-ends x l r (suc zero, h, e) is = inr (sym (ends e is))
only-ends x l r (suc (suc zero), h, e) is =
    let end : 1180 ≡ x = ends e is in
    absurd (false≢true (sym (l.2 1200 (omega arith) (omega arith))))
only-ends x l r (suc (suc (suc zero)), h, e) is = let end : 1470 ≡ x = ends e is in absurd (omega (arith, l.1))
only-ends x l r (suc (suc (suc (suc k))), h, e) is = absurd (omega arith)

pub record EachEnd : Type 0 where
  -- of 31 bytes the program's end is a candidate, and beside it the table's alone
  pub program-end : Contains (candidates of_between 31) 1428
  pub only : (x : ℕ) → Contains (candidates of_between 31) x → (x ≡ 1128) ⊎ (x ≡ 1428)
  -- the end of an empty file is none
  pub empty : Contains (candidates of_apart 21) 1201 → ⊥
  -- the files' ends rise, though the later file is the first in the table
  pub rising : slice_index (candidates of_apart 45) 0 < slice_index (candidates of_apart 45) 1

none-ends-at-1201 : (r : DiscRegion) → Contains used_apart r → end_of r ≡ 1201 → ⊥
none-ends-at-1201 r (zero, h, e) is = let end : ◌≡◌ {A = ℕ} 1156 1201 = ends e is in omega arith
none-ends-at-1201 r (suc zero, h, e) is = let end : ◌≡◌ {A = ℕ} 1236 1201 = ends e is in omega arith
none-ends-at-1201 r (suc (suc zero), h, e) is = let end : ◌≡◌ {A = ℕ} 1196 1201 = ends e is in omega arith
none-ends-at-1201 r (suc (suc (suc k)), h, e) is = omega arith

pub each-end : EachEnd
unfolding nonempty_regions
each-end =
    let beside = each-candidate between 31 in
    let of-21 = each-candidate apart 21 in
    let of-45 = each-candidate apart 45 in
    let two = (told-facts at_apart 45 9 _ floors.equals.1).count in
    record {
      program-end = rw at_between.occupied at ((beside.1 1428).1 (run-behind-program 31 1428 (omega arith) (omega arith), (at 1200 228, rw (used-regions at_between) (1, omega arith, refl), refl)));
      only = λ x c. let e = (beside.1 x).0 (rw at_between.occupied c) in only-ends x (run-lies at_between 31 x e.0) e.1.0 (rw (used-regions at_between) at e.1.1) e.1.2;
      empty = λ c. let e = (of-21.1 1201).0 (rw at_apart.occupied c) in none-ends-at-1201 e.1.0 (rw (used-regions at_apart) at e.1.1) e.1.2;
      rising = rw at_apart.occupied at (of-45.0 0 (omega (arith, two)));
    }

-- ---- the floor

pub record FloorSaid : Type 0 where
  -- 20 free bytes in a row stand between the first file and the program
  pub row : floor_of of_between 20 ≡ 0
  -- 21 in a row stand nowhere on the other disc, where 40 of 1256 bytes are free
  pub least : floor_of of_apart 21 ≡ 1
  pub beyond : floor_of of_apart 45 ≡ 5
  -- no 42 bytes there cost less than 2; beside the program no 31 are free, nor those from 1430 on,
  -- where no used region ends
  pub nowhere : (x : ℕ) → 1156 ≤ x → x + 42 ≤ 1256 → 2 ≤ cost_of of_apart 42 x
  pub not-free : (x : ℕ) → LiesOn of_between 31 x → 1 ≤ cost_of of_between 31 x
  pub from-1430 : 1 ≤ cost_of of_between 31 1430
  -- a row of no bytes stands anywhere, so that their floor is 0
  pub nothing : floor_of of_between 0 ≡ 0

free-row : IsFreeRow between 20 1180
unfolding nonempty_regions is_used
free-row = record {
  ends = rw (disc-ends at_between) (omega arith);
  free = λ i h j. rw (used-regions at_between, is_inside-high (at 0 1128) i (omega arith), is_inside-low (at 1200 228) i (omega arith), is_inside-high (at 1140 40) i (omega arith), is_inside-low (at 1440 30) i (omega arith));
}

-- a byte of a row of 21 or more is used: its first, or the first of a file
module _ (n x : ℕ) (enough : 21 ≤ n) (row : IsFreeRow apart n x) where
  below : x + n ≤ 1256
  below = rw (disc-ends at_apart) at row.ends

  not-used : (r : DiscRegion) → is_among r used_apart ≡ true →
      (i : ℕ) → r.offset ≤ i → i < end_of r → x ≤ i → i < x + n → ⊥
  unfolding nonempty_regions
  not-used r in-list i a b h j =
      false≢true (sym (row.free i h j) ∙ rw (used-regions at_apart) (is_among-uses r used_apart i in-list (is_inside-in r i a b)))

  no-row : ⊥
  unfolding is_among
  no-row =
      let end : x + n ≤ 1256 = below in
      ⊎_elim (λ (h : x < 1156). not-used (at 0 1156) refl x (omega arith) (omega arith) (omega arith) (omega arith)) (λ (a : 1156 ≤ x).
      ⊎_elim (λ (h : x < 1166). not-used (at 1166 30) refl 1166 (omega arith) (omega arith) (omega arith) (omega arith)) (λ (b : 1166 ≤ x).
      ⊎_elim (λ (h : x < 1196). not-used (at 1166 30) refl x (omega arith) (omega arith) (omega arith) (omega arith)) (λ (c : 1196 ≤ x).
      ⊎_elim (λ (h : x < 1206). not-used (at 1206 30) refl 1206 (omega arith) (omega arith) (omega arith) (omega arith)) (λ (d : 1206 ≤ x).
      not-used (at 1206 30) refl x (omega arith) (omega arith) (omega arith) (omega arith))
      (cases_lt x 1206)) (cases_lt x 1196)) (cases_lt x 1166)) (cases_lt x 1156)

apart-42 : floor_of of_apart 42 ≡ 2
unfolding floor_of is_used nonempty_regions total_size runs free_regions largest_size
apart-42 = refl

pub floor-said : FloorSaid
unfolding total_size
floor-said =
    let of-21 = floor-of-all apart master_words 21 at_apart.bytes at_apart.opens in
    let of-45 = floor-of-all apart master_words 45 at_apart.bytes at_apart.opens in
    let of-42 = floor-of-all apart master_words 42 at_apart.bytes at_apart.opens in
    let of-20 = floor-of-all between master_words 20 at_between.bytes at_between.opens in
    let of-31 = floor-of-all between master_words 31 at_between.bytes at_between.opens in
    let of-0 = floor-of-all between master_words 0 at_between.bytes at_between.opens in
    let not-free = λ (x : ℕ) (l : LiesOn of_between 31 x). rw (at_between.occupied, between-31.3) at (of-31.least x (run-there at_between 31 x l)) in
    record {
      row = rw at_between.occupied at (of-20.row 1180 free-row);
      least = rw (at_apart.occupied, used-bytes at_apart, disc-ends at_apart) at (of-21.no_row (λ x row. no-row 21 x (omega arith) row));
      beyond = rw (at_apart.occupied, used-bytes at_apart, disc-ends at_apart) at (of-45.no_row (λ x row. no-row 45 x (omega arith) row));
      nowhere = λ x h j. rw (at_apart.occupied, apart-42) at (of-42.least x (run-on-apart 42 x h j));
      not-free = not-free;
      from-1430 = not-free 1430 (omega arith, omega arith, λ i h j. is_inside-high (at 1200 228) i (omega arith));
      nothing = rw at_between.occupied at (of-0.row 0 (record { ends = omega arith; free = λ i h j. absurd (omega arith) }));
    }

-- ---- what is in the way of a run: of 31 bytes from 1430 on, in the file behind the program, and
-- of 45 from 1170 on, in both files of `apart`

pub record InWay : Type 0 where
  -- they cost the one file's size, and both files'
  pub sizes : (cost_of of_between 31 1430 ≡ 30) × (cost_of of_apart 45 1170 ≡ 60)
  -- table, program and the first file stay, and have no byte of it
  pub cleared : (i : ℕ) → 1430 ≤ i → i < 1461 →
      is_used (at 0 1128 ∷ at 1200 228 ∷ at 1140 40 ∷ []) i ≡ false
  -- 30 bytes fewer are used, and 60 where both files are in the way
  pub freed : (1128 + (228 + 40) + 30 ≡ used_of between) × (1156 + 60 ≡ used_of apart)
  -- the file that is in the way has a byte of it
  pub needed : (i : ℕ) × (1440 ≤ i) × (i < 1461)

in-second : IsInTheWay between 31 1430
in-second = in-the-way between 31 1430 (run-behind-program 31 1430 (omega arith) (omega arith))

in-both : IsInTheWay apart 45 1170
in-both = in-the-way apart 45 1170 (run-on-apart 45 1170 (omega arith) (omega arith))

-- the fields by what takes the bytes
abbrev Cleared : ℕ → ℕ → ℕ → Occupancy → Type 0
Cleared n x i o = is_used (used_regions o.table_end (o.program ∷ files_left o n x)) i ≡ false

abbrev Sizes : ℕ → ℕ → Occupancy → Type 0
Sizes n x o = cost_of o n x ≡ total_size (files_touched o n x)

abbrev Freed : List ℕ → ℕ → ℕ → Occupancy → Type 0
Freed image n x o =
    used_total o.table_end (o.program ∷ files_left o n x) + cost_of o n x ≡ used_of image

touched : Contains (files_touched (occupancy_of between) 31 1430) (at 1440 30)
unfolding are_disjoint
touched = subst (λ (o : Occupancy). Contains (files_touched o 31 1430) (at 1440 30)) (sym at_between.occupied) (0, omega arith, refl)

-- what a cost is stays closed here: the theorem tells
sizes-said : (cost_of of_between 31 1430 ≡ 30) × (cost_of of_apart 45 1170 ≡ 60)
unfolding are_disjoint total_size
sizes-said = (subst (Sizes 31 1430) at_between.occupied in-second.sizes, subst (Sizes 45 1170) at_apart.occupied in-both.sizes)

pub in-way : InWay
unfolding cost_of are_disjoint nonempty_regions total_size
in-way =
    let byte = in-second.needed (at 1440 30) touched in
    record {
      sizes = sizes-said;
      cleared = λ i h j. subst (Cleared 31 1430 i) at_between.occupied (in-second.cleared i h j);
      freed = (subst (Freed between 31 1430) at_between.occupied in-second.freed, subst (Freed apart 45 1170) at_apart.occupied in-both.freed);
      needed = (byte.0, is_inside-from (at 1440 30) byte.0 byte.3, byte.2);
    }
