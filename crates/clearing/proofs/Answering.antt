-- What was tried, and what is left, tell the answer. Assumes nothing.
use Rattle.std.specs.Prelude.{Some, None, Ok, Err, ℕ, zero, suc, ◌+◌, ◌-◌, ◌<◌, ◌≤◌, ◌≡◌, min, max, Bool, true, false, ◌||◌, List, [], ◌∷◌, ◌++◌, length, map, take, drop, if◌then◌else◌, ◌==◌, nat_lt, nat_le}
use Rattle.std.specs.List.{fold, list_any}
use Rattle.std.proofs.Common.{refl, sym, ap, ◌∙◌, arith, eq-eqb, ne_eqb, eqb-true, le-leb, lt-ltb}
use Rattle.std.proofs.lemmas.Bool.{lt-leb}
use Rattle.std.proofs.lemmas.List.{take-map, take-append-drop, length-append, length-map}
use Rattle.std.proofs.lemmas.List.Folds.{list_any-append}
use Rattle.refusal.specs.declared.Refusal.TheVariants.{NotEnoughSpace}
use Rattle.refusal.specs.Laws.Tests.{or_right}
use Rattle.space.specs.Used.{total_size}
use Rattle.space.specs.Free.{largest_size}
use Rattle.clearing.specs.declared.stretch.Run.{Run}
use Rattle.clearing.specs.Clearing.{Occupancy, free_by, cost_of, candidates, cheaper_of, floor_of, bound_of, cheapest_run}
use Rattle.clearing.specs.Inner.Marks.{candidate_runs}
use Rattle.clearing.specs.Inner.Tried.{cheapest_from}
use Rattle.clearing.proofs.Laws.Members.{any-in}
use Rattle.clearing.proofs.Laws.Cheapest.{cheapest-least}
use Rattle.clearing.proofs.Stretches.{AllUnder}

drop-map : {X Y : Type 0} (f : X → Y) (k : ℕ) (xs : List X) → drop k (map f xs) ≡ map f (drop k xs)
drop-map f zero xs = refl
drop-map f (suc k) [] = refl
drop-map f (suc k) (x ∷ xs) = drop-map f k xs

-- ---- the first of two lists, one behind the other

module _ {X : Type 0} where
  -- no more than there are
  take-min : (m k : ℕ) (ys : List X) → m ≡ min k (length ys) → take m ys ≡ take k ys
  take-min zero zero ys e = refl
  take-min zero (suc k) [] e = refl
  take-min zero (suc k) (y ∷ ys) e = absurd (omega (arith, e))
  take-min (suc m) zero ys e = absurd (omega (arith, e))
  take-min (suc m) (suc k) [] e = refl
  take-min (suc m) (suc k) (y ∷ ys) e = ap (λ (l : List X). y ∷ l) (take-min m k ys (omega (arith, e)))

  drop-min : (m k : ℕ) (ys : List X) → m ≡ min k (length ys) → drop m ys ≡ drop k ys
  drop-min zero zero ys e = refl
  drop-min zero (suc k) [] e = refl
  drop-min zero (suc k) (y ∷ ys) e = absurd (omega (arith, e))
  drop-min (suc m) zero ys e = absurd (omega (arith, e))
  drop-min (suc m) (suc k) [] e = refl
  drop-min (suc m) (suc k) (y ∷ ys) e = drop-min m k ys (omega (arith, e))

  take-two : (k i j : ℕ) (xs ys : List X) → i ≡ min k (length xs) → j ≡ min (k - i) (length ys) → take k (xs ++ ys) ≡ take i xs ++ take j ys
  take-two k zero j [] ys e f = sym (take-min j k ys (omega (arith, f)))
  take-two k (suc i) j [] ys e f = absurd (omega (arith, e))
  take-two zero zero zero (x ∷ xs) ys e f = refl
  take-two zero zero (suc j) (x ∷ xs) ys e f = absurd (omega (arith, f))
  take-two zero (suc i) j (x ∷ xs) ys e f = absurd (omega (arith, e))
  take-two (suc k) zero j (x ∷ xs) ys e f = absurd (omega (arith, e))
  take-two (suc k) (suc i) j (x ∷ xs) ys e f = ap (λ (l : List X). x ∷ l) (take-two k i j xs ys (omega (arith, e)) (omega (arith, f)))

  drop-two : (k i j : ℕ) (xs ys : List X) → i ≡ min k (length xs) → j ≡ min (k - i) (length ys) → drop k (xs ++ ys) ≡ drop i xs ++ drop j ys
  drop-two k zero j [] ys e f = sym (drop-min j k ys (omega (arith, f)))
  drop-two k (suc i) j [] ys e f = absurd (omega (arith, e))
  drop-two zero zero zero (x ∷ xs) ys e f = refl
  drop-two zero zero (suc j) (x ∷ xs) ys e f = absurd (omega (arith, f))
  drop-two zero (suc i) j (x ∷ xs) ys e f = absurd (omega (arith, e))
  drop-two (suc k) zero j (x ∷ xs) ys e f = absurd (omega (arith, e))
  drop-two (suc k) (suc i) j (x ∷ xs) ys e f = drop-two k i j xs ys (omega (arith, e)) (omega (arith, f))

cheapest-two : (best : Run) (xs ys : List Run) → cheapest_from best (xs ++ ys) ≡ cheapest_from (cheapest_from best xs) ys
cheapest-two best [] ys = refl
cheapest-two best (x ∷ xs) ys = cheapest-two (if nat_lt x.cost best.cost then x else best) xs ys

first-cheaper : (run best : Run) (runs : List Run) → run.cost < best.cost → cheapest_from best (run ∷ runs) ≡ cheapest_from run runs
first-cheaper run best runs h = rw (lt-ltb run.cost best.cost h) refl

-- no size is no run
pub refused-none : (o : Occupancy) (n budget : ℕ) → n ≡ 0 → Err NotEnoughSpace ≡ cheapest_run o n budget
unfolding cheapest_run
refused-none o n budget e = rw (eq-eqb n 0 e)

module _ (o : Occupancy) (n budget : ℕ) (some : 0 < n) where
  abbrev run_at : ℕ → Run
  run_at x = record { offset = x; cost = cost_of o n x }

  abbrev is_free : ℕ → Bool
  is_free x = cost_of o n x == 0

  cheapest-behind : (x : ℕ) (xs : List ℕ) → cheapest_from (run_at x) (map run_at xs) ≡ run_at (fold (cheaper_of o n) x xs)
  cheapest-behind x [] = refl
  cheapest-behind x (y ∷ ys) = go (nat_lt (cost_of o n y) (cost_of o n x)) (cheapest-behind x ys) (cheapest-behind y ys)
    where
      go : (t : Bool) → cheapest_from (run_at x) (map run_at ys) ≡ run_at (fold (cheaper_of o n) x ys) →
          cheapest_from (run_at y) (map run_at ys) ≡ run_at (fold (cheaper_of o n) y ys) →
          cheapest_from (if t then run_at y else run_at x) (map run_at ys) ≡ run_at (fold (cheaper_of o n) (if t then y else x) ys)
      go true p q = q
      go false p q = p

  free-map : (xs : List ℕ) → list_any (λ (run : Run). run.cost == 0) (map run_at xs) ≡ list_any is_free xs
  free-map [] = refl
  free-map (x ∷ xs) = ap (λ t. is_free x || t) (free-map xs)

  -- the candidates' runs stand in two lists
  module _ (xs ys : List Run) (all : candidate_runs o n ≡ xs ++ ys) where
    length-all : length (candidates o n) ≡ length xs + length ys
    length-all = sym (length-map (candidates o n) run_at) ∙ ap length all ∙ length-append xs ys

    pub refused : length xs + length ys ≡ 0 → Err NotEnoughSpace ≡ cheapest_run o n budget
    unfolding cheapest_run
    refused e = rw (ne_eqb n 0 (λ z. omega arith), eq-eqb (length (candidates o n)) 0 (omega (arith, e, length-all)))

    pub not-tried : (length xs + length ys ≡ 0 → ⊥) → budget ≡ 0 → Ok None ≡ cheapest_run o n budget
    unfolding cheapest_run
    not-tried h e = rw (ne_eqb n 0 (λ z. omega arith), ne_eqb (length (candidates o n)) 0 (λ z. h (omega (arith, z, length-all))), e)

    -- the first so many of each were tried
    module _ (i j : ℕ) (first : i ≡ min budget (length xs)) (second : j ≡ min (budget - i) (length ys)) where
      pub count : i + j ≡ min budget (length (candidates o n))
      count = omega (arith, first, second, length-all)

      tried : map run_at (take budget (candidates o n)) ≡ take i xs ++ take j ys
      tried = sym (take-map run_at budget (candidates o n)) ∙ ap (take budget) all ∙ take-two budget i j xs ys first second

      free-left : list_any is_free (drop budget (candidates o n)) ≡ (list_any (λ (run : Run). run.cost == 0) (drop i xs) || list_any (λ (run : Run). run.cost == 0) (drop j ys))
      free-left =
          sym (free-map (drop budget (candidates o n)))
          ∙ ap (list_any (λ (run : Run). run.cost == 0)) (sym (drop-map run_at budget (candidates o n)) ∙ ap (drop budget) all ∙ drop-two budget i j xs ys first second)
          ∙ list_any-append (λ (run : Run). run.cost == 0) (drop i xs) (drop j ys)

      module _ (dear : Run) (under : AllUnder dear.cost (xs ++ ys)) (more : 0 < budget) (have : length xs + length ys ≡ 0 → ⊥) (best : Run) (b : best ≡ cheapest_from (cheapest_from dear (take i xs)) (take j ys)) where
        best-is : best ≡ cheapest_from dear (map run_at (take budget (candidates o n)))
        best-is = b ∙ sym (cheapest-two dear (take i xs) (take j ys)) ∙ ap (cheapest_from dear) (sym tried)

        some-tried : (x : ℕ) × (rest : List ℕ) × (take budget (candidates o n) ≡ x ∷ rest) × (best ≡ run_at (fold (cheaper_of o n) x rest))
        some-tried = go budget (candidates o n) more (omega (arith, length-all, have)) (let u : AllUnder dear.cost (map run_at (candidates o n)) = rw all under in u) best-is
          where
            go : (k : ℕ) (cs : List ℕ) → 0 < k → 0 < length cs → AllUnder dear.cost (map run_at cs) → best ≡ cheapest_from dear (map run_at (take k cs)) →
                (x : ℕ) × (rest : List ℕ) × (take k cs ≡ x ∷ rest) × (best ≡ run_at (fold (cheaper_of o n) x rest))
            go zero cs h l u e = absurd (omega (arith, h))
            go (suc k) [] h l u e = absurd (omega (arith, l))
            go (suc k) (c ∷ cs) h l u e = (c, take k cs, refl, e ∙ first-cheaper (run_at c) dear (map run_at (take k cs)) u.0 ∙ cheapest-behind c (take k cs))

        answered : (x : ℕ) (rest : List ℕ) → take budget (candidates o n) ≡ x ∷ rest → best ≡ run_at (fold (cheaper_of o n) x rest) → (t bound : ℕ) → t ≡ min budget (length (candidates o n)) → bound ≡ bound_of o n budget best.cost →
            Ok (Some (record { tried = t; offset = best.offset; cost = best.cost; bound = bound })) ≡ cheapest_run o n budget
        unfolding cheapest_run
        answered x rest is r t bound c h =
            rw (ne_eqb n 0 (λ z. omega arith), ne_eqb (length (candidates o n)) 0 (λ z. have (omega (arith, length-all, z))), is, h, c, r)

        pub found : (t bound : ℕ) → t ≡ min (length xs + length ys) budget → bound ≡ bound_of o n budget best.cost →
            Ok (Some (record { tried = t; offset = best.offset; cost = best.cost; bound = bound })) ≡ cheapest_run o n budget
        found t bound c h = let w = some-tried in answered w.0 w.1 w.2 w.3 t bound (omega (arith, c, length-all)) h

        -- ---- the bound

        pub bound-all : length xs + length ys ≤ budget → 0 ≡ bound_of o n budget best.cost
        bound-all l = rw (le-leb (length (candidates o n)) budget (omega (arith, length-all, l)))

        pub bound-none : best.cost ≡ 0 → 0 ≡ bound_of o n budget best.cost
        bound-none z = go (nat_le (length (candidates o n)) budget)
          where
            go : (t : Bool) → 0 ≡ (if t then 0 else best.cost - floor_of o n)
            go true = refl
            go false = omega (arith, z)

        module _ (part : budget < length xs + length ys) (row : list_any is_free (candidates o n) ≡ nat_le n (largest_size (free_by o))) where
          row-split : nat_le n (largest_size (free_by o)) ≡ (list_any is_free (take budget (candidates o n)) || list_any is_free (drop budget (candidates o n)))
          row-split = sym row ∙ ap (list_any is_free) (sym (take-append-drop budget (candidates o n))) ∙ list_any-append is_free (take budget (candidates o n)) (drop budget (candidates o n))

          part-tried : (c : ℕ) → bound_of o n budget c ≡ c - floor_of o n
          part-tried c = rw (lt-leb (length (candidates o n)) budget (omega (arith, length-all, part)))

          pub bound-free : (list_any (λ (run : Run). run.cost == 0) (drop i xs) || list_any (λ (run : Run). run.cost == 0) (drop j ys)) ≡ true → best.cost ≡ bound_of o n budget best.cost
          unfolding floor_of
          bound-free free =
              let enough : nat_le n (largest_size (free_by o)) ≡ true = row-split ∙ or_right (list_any is_free (take budget (candidates o n))) _ (free-left ∙ free) in
              sym (part-tried best.cost ∙ rw enough (omega arith))

          floor-positive : nat_le n (largest_size (free_by o)) ≡ false → floor_of o n ≡ max (n - total_size (free_by o)) 1
          unfolding floor_of
          floor-positive q = rw q

          pub bound-dear : (best.cost ≡ 0 → ⊥) → (list_any (λ (run : Run). run.cost == 0) (drop i xs) || list_any (λ (run : Run). run.cost == 0) (drop j ys)) ≡ false → (floor : ℕ) → floor ≡ max (n - total_size (free_by o)) 1 → best.cost - floor ≡ bound_of o n budget best.cost
          bound-dear dearer none floor f =
              sym (part-tried best.cost ∙ go (list_any is_free (take budget (candidates o n))) refl (row-split ∙ rw (free-left ∙ none) (or-none (list_any is_free (take budget (candidates o n))))))
            where
              or-none : (t : Bool) → (t || false) ≡ t
              or-none true = refl
              or-none false = refl

              -- the cheapest costs nothing where one of those tried does
              costless : list_any is_free (take budget (candidates o n)) ≡ true → best.cost ≡ 0
              costless h =
                  let w = some-tried in
                  let p = any-in is_free (w.0 ∷ w.1) (rw w.2 at h) in
                  omega (arith, ap (λ (r : Run). r.cost) w.3, cheapest-least o n w.0 w.1 p.0 p.1, eqb-true (cost_of o n p.0) 0 p.2)

              go : (b : Bool) → list_any is_free (take budget (candidates o n)) ≡ b → nat_le n (largest_size (free_by o)) ≡ b → best.cost - floor_of o n ≡ best.cost - floor
              go true h q = absurd (dearer (costless h))
              go false h q = rw (f, floor-positive q)
