-- A safe name is a path of one component, and a path with `/` and a name behind it leads to the child of that name. Assumes nothing.
use Rattle.std.specs.Prelude.{Result, Ok, Err}
use Rattle.refusal.specs.declared.Refusal.{Refusal}
use Rattle.std.specs.Prelude.{ℕ, ◌<◌, refl, Bool, not, ◌&&◌, ◌||◌, length, get_or, ltb, eqb}
use Rattle.std.proofs.Math.Path.{◌≡◌}
use Rattle.std.proofs.Math.Bool.{true, false, cond}
use mathlib.Core.List.{List, [], ◌∷◌, ◌++◌}
use Rattle.std.proofs.Common.{arith, lt-ltb}
use Rattle.std.proofs.lemmas.Bool.{not-true}
use Rattle.refusal.specs.Laws.Tests.{and_left, and_right}
use Rattle.refusal.specs.declared.Refusal.TheVariants.{NoSuchEntry, ExpectedDirectory}
use Rattle.tree.specs.Units.{is_lead_byte, is_trail_byte, TextUnit, single, pair, unit_bytes, units}
use Rattle.tree.proofs.Laws.UnitLaws.{by_units, units-then}
use Rattle.tree.specs.Table.{Node, empty_root, is_safe_byte, is_safe_unit, is_dots, is_safe}
use Rattle.tree.specs.Lookup.{is_directory, is_separator, is_separator_unit, components_with, components_of, components, child_of, is_staying, is_going_back, and_then, step_back, follow, lookup}
use Rattle.std.specs.List.{list_all}

-- ---- names

no-is_separator : (b : ℕ) → is_safe_byte b ≡ true → is_separator b ≡ false
no-is_separator b e = go (eqb b 0x2F) (eqb b 0x5C) (eqb b 0x3A) e
  where
    go : (x y z : Bool) → (not x && not y && not z) ≡ true → (x || y) ≡ false
    go true y z e = let n : ◌≡◌ {A = ℕ} 0 1 = cc in absurd (omega arith)
    go false true z e = let n : ◌≡◌ {A = ℕ} 0 1 = cc in absurd (omega arith)
    go false false z e = refl

one-component : (nm : List ℕ) → list_all is_safe_unit (units nm) ≡ true → components nm ≡ nm ∷ []
unfolding components components_of units
one-component nm e = by_units One none_left of_pair of-single nm e
  where
    One : List ℕ → Type 0
    One s = list_all is_safe_unit (units s) ≡ true → components_of (units s) ≡ s ∷ []

    none_left : One []
    none_left q = refl

    of_pair : (a b : ℕ) (s : List ℕ) → is_lead_byte a ≡ true → is_trail_byte b ≡ true → units (a ∷ b ∷ s) ≡ pair a b ∷ units s → One s → One (a ∷ b ∷ s)
    of_pair a b s l t u ih q = let x : list_all is_safe_unit (units s) ≡ true = rw u at q in rw (u, ih x)

    of-single : (a : ℕ) (s : List ℕ) → units (a ∷ s) ≡ single a ∷ units s → One s → One (a ∷ s)
    of-single a s u ih q =
        let x : (is_safe_byte a && list_all is_safe_unit (units s)) ≡ true = rw u at q in
        rw (u, no-is_separator a (and_left (is_safe_byte a) _ x), ih (and_right (is_safe_byte a) _ x))

pub record Name (nm : List ℕ) : Type 0 where
  pub one : components nm ≡ nm ∷ []
  pub moves : is_staying nm ≡ false
  pub forward : is_going_back nm ≡ false

-- LAW: a safe name
pub is_safe-name : (nm : List ℕ) → is_safe nm ≡ true → Name nm
unfolding is_safe
is_safe-name [] e = let n : ◌≡◌ {A = ℕ} 0 1 = cc in absurd (omega arith)
is_safe-name (a ∷ nm) e =
    let d = not-true (is_dots (a ∷ nm)) (and_left (not (is_dots (a ∷ nm))) _ e) in
    record { one = one-component (a ∷ nm) (and_right (not (is_dots (a ∷ nm))) _ e); moves = moves nm d; forward = forward nm d }
  where
    moves : (xs : List ℕ) → is_dots (a ∷ xs) ≡ false → is_staying (a ∷ xs) ≡ false
    moves [] d = d
    moves (b ∷ xs) d = refl

    forward : (xs : List ℕ) → is_dots (a ∷ xs) ≡ false → is_going_back (a ∷ xs) ≡ false
    forward [] d = refl
    forward (b ∷ []) d = d
    forward (b ∷ c ∷ xs) d = refl

-- ---- a path with a name behind it

some-component : (us : List TextUnit) → (c : List ℕ) × (cs : List (List ℕ)) × (components_of us ≡ c ∷ cs)
unfolding components_of
some-component [] = ([], [], refl)
some-component (u ∷ us) = go (is_separator_unit u) (some-component us)
  where
    go : (t : Bool) → (c : List ℕ) × (cs : List (List ℕ)) × (components_of us ≡ c ∷ cs) → (c : List ℕ) × (cs : List (List ℕ)) × (cond t ([] ∷ components_of us) (components_with u (components_of us)) ≡ c ∷ cs)
    go true (c, cs, e) = ([], components_of us, refl)
    go false (c, cs, e) = (unit_bytes u ++ c, cs, rw e)

-- cut at a unit `/`
cut-then : (us vs : List TextUnit) → components_of (us ++ (single 0x2F ∷ vs)) ≡ components_of us ++ components_of vs
unfolding components_of
cut-then [] vs = refl
cut-then (u ∷ us) vs = rw (cut-then us vs) (go (is_separator_unit u) (some-component us))
  where
    go : (t : Bool) → (c : List ℕ) × (cs : List (List ℕ)) × (components_of us ≡ c ∷ cs) →
        cond t ([] ∷ (components_of us ++ components_of vs)) (components_with u (components_of us ++ components_of vs)) ≡ cond t ([] ∷ components_of us) (components_with u (components_of us)) ++ components_of vs
    go true s = refl
    go false (c, cs, e) = rw e

pub components-then : (path rest : List ℕ) → components (path ++ (0x2F ∷ rest)) ≡ components path ++ components rest
unfolding components
components-then path rest = rw (units-then path rest) (cut-then (units path) (units rest))

-- the walk goes on from where it ended, with the trail that it has there
follow-then : (nodes : List Node) (cs ds : List (List ℕ)) (trail : List ℕ) (k j : ℕ) → follow nodes trail k cs ≡ Ok j → (trail' : List ℕ) × (follow nodes trail k (cs ++ ds) ≡ follow nodes trail' j ds)
unfolding follow
follow-then nodes [] ds trail k j e = let k≡ : k ≡ j = cc in (trail, rw k≡)
follow-then nodes (c ∷ cs) ds trail k j e = go (is_directory (get_or nodes k empty_root)) (is_staying c) (is_going_back c) trail (child_of nodes k c) (λ t i. follow-then nodes cs ds t i j) e
  where
    go : (d s b : Bool) (t : List ℕ) (a : Result ℕ Refusal) → ((t : List ℕ) (i : ℕ) → follow nodes t i cs ≡ Ok j → (trail' : List ℕ) × (follow nodes t i (cs ++ ds) ≡ follow nodes trail' j ds)) →
        cond d (cond s (follow nodes t k cs) (cond b (step_back t (λ i rest. follow nodes rest i cs)) (and_then a (λ i. follow nodes (k ∷ t) i cs)))) (Err ExpectedDirectory) ≡ Ok j →
        (trail' : List ℕ) × (cond d (cond s (follow nodes t k (cs ++ ds)) (cond b (step_back t (λ i rest. follow nodes rest i (cs ++ ds))) (and_then a (λ i. follow nodes (k ∷ t) i (cs ++ ds))))) (Err ExpectedDirectory) ≡ follow nodes trail' j ds)
    go false s b t a ih q = let z : ◌≡◌ {A = ℕ} 0 1 = cc in absurd (omega arith)
    go true true b t a ih q = ih t k q
    go true false true [] a ih q = let z : ◌≡◌ {A = ℕ} 0 1 = cc in absurd (omega arith)
    go true false true (i ∷ rest) a ih q = ih rest i q
    go true false false t (Ok i) ih q = ih (k ∷ t) i q
    go true false false t (Err r) ih q = let z : ◌≡◌ {A = ℕ} 0 1 = cc in absurd (omega arith)

module _ (nodes : List Node) (d : ℕ) (nm : List ℕ) (k : ℕ) (dir : is_directory (get_or nodes d empty_root) ≡ true) (ok : is_safe nm ≡ true) (child : child_of nodes d nm ≡ Ok k) where
  named_step : (trail : List ℕ) → follow nodes trail d (nm ∷ []) ≡ Ok k
  unfolding follow
  named_step trail = let n = is_safe-name nm ok in rw (dir, n.moves, n.forward, child)

  -- LAW: the name alone, from the directory
  pub lookup-child : d < length nodes → lookup nodes d nm ≡ Ok k
  unfolding lookup
  lookup-child h = rw (lt-ltb d (length nodes) h, (is_safe-name nm ok).one) (named_step [])

  -- LAW: and behind a path that leads to the directory
  pub lookup-behind : (start : ℕ) (path : List ℕ) → lookup nodes start path ≡ Ok d → lookup nodes start (path ++ (0x2F ∷ nm)) ≡ Ok k
  unfolding lookup
  lookup-behind start path e = go (ltb start (length nodes)) e
    where
      go : (t : Bool) → cond t (follow nodes [] start (components path)) (Err NoSuchEntry) ≡ Ok d → cond t (follow nodes [] start (components (path ++ (0x2F ∷ nm)))) (Err NoSuchEntry) ≡ Ok k
      go true q =
          let f = follow-then nodes (components path) (nm ∷ []) [] start d q in
          rw (components-then path nm, (is_safe-name nm ok).one, f.1) (named_step f.0)
      go false q = let z : ◌≡◌ {A = ℕ} 0 1 = cc in absurd (omega arith)
