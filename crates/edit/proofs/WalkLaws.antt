-- The walk that finds the troubles of a path, a component at a time: each step leaves what the whole has. Assumes nothing.
use Rattle.std.specs.Prelude.{Result, Ok, Err, is_err}
use Prim.Native.Nat.{ℕ, zero, suc, ◌+◌, ◌-◌, ◌≤◌}
use mathlib.Core.Path.{◌≡◌, refl, sym, ◌∙◌}
use mathlib.Core.Bool.{Bool, true, false, cond, not, ◌||◌}
use mathlib.Core.List.{List, [], ◌∷◌}
use native.Mathlib.Omega.{arith}
use native.Mathlib.Numerals.{add-one}
use borrow.Author.Tests.{ne_eqb}
use lib.ListN.{length, get_or}
use lib.Dec.{eqb, leb}
use Rattle.refusal.specs.Refusal.{Verdict, refuse, first}
use Rattle.refusal.specs.declared.Refusal.{Refusal}
use Rattle.refusal.specs.declared.Refusal.TheVariants.{InvalidNameByte, UnsafeName, NoSuchEntry, ExpectedDirectory, NotFound}
use Rattle.tree.specs.Table.{Node, empty_root, is_plain, is_safe, parent_of}
use Rattle.tree.specs.Lookup.{is_directory, components, child_of, is_staying, is_going_back}
use Rattle.edit_rules.specs.Inner.Troubles.{if_child, trouble_of}
use Rattle.edit.specs.Inner.Walk.{Place, place_at_start, walk_from, place_after, plain_name_verdict, directory_verdict, child_step, place_behind, step_of, end_verdict, path_trouble}

-- ---- what the new names come to: nothing, or 12

abbrev pub Told : Verdict → Type 0
Told v = v ≡ refuse (is_err v) InvalidNameByte (Ok tt)

told-both : (v : Verdict) (b : Bool) → Told v → Told (first v (refuse b InvalidNameByte (Ok tt)))
told-both (Ok _) true t = refl
told-both (Ok _) false t = refl
told-both (Err c) b t = t

refused-both : (v : Verdict) (b : Bool) → is_err (first v (refuse b InvalidNameByte (Ok tt))) ≡ (is_err v || b)
refused-both (Ok _) true = refl
refused-both (Ok _) false = refl
refused-both (Err c) b = refl

-- ---- a step

-- what is left of the walk from a place
abbrev pub left_at : Place → List (List ℕ) → Verdict
left_at p cs = trouble_of p.nodes p.start p.entry p.level (is_err p.names) cs

-- and after a step
abbrev pub onward : List (List ℕ) → Result Place Refusal → Verdict
onward cs (Ok p) = left_at p cs
onward cs (Err c) = Err c

module _ (nodes : List Node) (start k : ℕ) (v : Verdict) where
  abbrev at : ℕ → Place
  at level = record { nodes = nodes; start = start; entry = k; level = level; names = v }

  abbrev bad : Bool
  bad = is_err v

  -- with one new directory more
  abbrev below : ℕ → List ℕ → Place
  below level nm = record { nodes = nodes; start = start; entry = k; level = level; names = first v (plain_name_verdict nm) }

  trouble-step : (level : ℕ) (nm : List ℕ) (cs : List (List ℕ)) → trouble_of nodes start k level bad (nm ∷ cs) ≡ onward cs (step_of (at level) nm)
  unfolding trouble_of step_of
  trouble-step zero nm cs =
      rw (← refused-both v (not (is_plain nm))) (go (is_directory (get_or nodes k empty_root)) (is_staying nm) (is_going_back nm) (eqb k start) (child_of nodes k nm) (is_safe nm))
    where
      go : (t u g w : Bool) (a : Result ℕ Refusal) (s : Bool) →
          cond t (cond u (trouble_of nodes start k zero bad cs) (cond g (cond w (Err NotFound) (trouble_of nodes start (parent_of nodes k) zero bad cs))
          (if_child a (λ j. trouble_of nodes start j zero bad cs) (cond s (trouble_of nodes start k 1 (is_err (first v (plain_name_verdict nm))) cs) (Err UnsafeName))))) (Err ExpectedDirectory) ≡
          onward cs (place_behind (refuse (not t) ExpectedDirectory (Ok tt)) (cond u (Ok (at 0)) (cond g (cond w (Err NotFound) (Ok (place_after (at 0) (parent_of nodes k) 0)))
          (child_step (at 0) a (cond s (Ok (below 1 nm)) (Err UnsafeName))))))
      go false u g w a s = refl
      go true true g w a s = refl
      go true false true true a s = refl
      go true false true false a s = refl
      go true false false w (Ok j) s = refl
      go true false false w (Err c) true = refl
      go true false false w (Err c) false = refl
  trouble-step (suc level) nm cs =
      let e : suc level - 1 ≡ level = omega arith in
      rw (← refused-both v (not (is_plain nm)), ne_eqb (suc level) 0 (λ z. omega arith), e, add-one (suc level)) (go (is_staying nm) (is_going_back nm) (is_safe nm))
    where
      go : (u g s : Bool) →
          cond u (trouble_of nodes start k (suc level) bad cs) (cond g (trouble_of nodes start k level bad cs)
          (cond s (trouble_of nodes start k (suc (suc level)) (is_err (first v (plain_name_verdict nm))) cs) (Err UnsafeName))) ≡
          onward cs (cond u (Ok (at (suc level))) (cond g (Ok (place_after (at (suc level)) k level)) (cond s (Ok (below (suc (suc level)) nm)) (Err UnsafeName))))
      go true g s = refl
      go false true s = refl
      go false false true = refl
      go false false false = refl

  trouble-last : (level : ℕ) → Told v → trouble_of nodes start k level bad [] ≡ end_verdict (at level)
  unfolding trouble_of
  trouble-last zero t = go (is_directory (get_or nodes k empty_root))
    where
      go : (d : Bool) → cond d (refuse bad InvalidNameByte (Ok tt)) (Err ExpectedDirectory) ≡ first (refuse (not d) ExpectedDirectory (Ok tt)) v
      go true = sym t
      go false = refl
  trouble-last (suc level) t = rw (ne_eqb (suc level) 0 (λ z. omega arith)) (sym t)

-- ---- a step is one level more at most

-- a place with so many new levels at most
abbrev Within : ℕ → Place → Type 0
Within n q = (q.level ≤ n) × Told q.names

module _ (p : Place) (t : Told p.names) (nm : List ℕ) (q : Place) where
  landed : (r : Place) → ◌≡◌ {A = Result Place Refusal} (Ok r) (Ok q) → r.level ≤ p.level + 1 → Told r.names → Within (p.level + 1) q
  landed r e l told =
      let x : r ≡ q = cc in
      rw (← x) (l, told)

  never : (c : Refusal) → ◌≡◌ {A = Result Place Refusal} (Err c) (Ok q) → Within (p.level + 1) q
  never c e = let z : ◌≡◌ {A = ℕ} 0 1 = cc in absurd (omega arith)

  -- with one new directory more
  abbrev new : Place
  new = record { nodes = p.nodes; start = p.start; entry = p.entry; level = p.level + 1; names = first p.names (plain_name_verdict nm) }

  step-within : step_of p nm ≡ Ok q → Within (p.level + 1) q
  unfolding step_of
  step-within = go (directory_verdict p) (is_staying nm) (is_going_back nm) (eqb p.level 0) (eqb p.entry p.start) (child_of p.nodes p.entry nm) (is_safe nm)
    where
      told : Told (first p.names (plain_name_verdict nm))
      told = told-both p.names (not (is_plain nm)) t

      go : (d : Verdict) (u g z w : Bool) (a : Result ℕ Refusal) (s : Bool) →
          place_behind d (cond u (Ok p) (cond g (cond z (cond w (Err NotFound) (Ok (place_after p (parent_of p.nodes p.entry) 0))) (Ok (place_after p p.entry (p.level - 1))))
          (cond z (child_step p a (cond s (Ok new) (Err UnsafeName))) (cond s (Ok new) (Err UnsafeName))))) ≡ Ok q → Within (p.level + 1) q
      go (Err c) u g z w a s e = never c e
      go (Ok _) true g z w a s e = landed p e (omega arith) t
      go (Ok _) false true true true a s e = never _ e
      go (Ok _) false true true false a s e = landed _ e (omega arith) t
      go (Ok _) false true false w a s e = landed _ e (omega arith) t
      go (Ok _) false false true w (Ok j) s e = landed _ e (omega arith) t
      go (Ok _) false false true w (Err c) true e = landed new e (omega arith) told
      go (Ok _) false false true w (Err c) false e = never _ e
      go (Ok _) false false false w a true e = landed new e (omega arith) told
      go (Ok _) false false false w a false e = never _ e

-- ---- the loop along the path: what is left of the walk is what the whole has

pub record Walking (whole : Verdict) (most : ℕ) (p : Place) (rest : List (List ℕ)) : Type 0 where
  pub levels : p.level + length rest ≤ most
  pub told : Told p.names
  pub left : whole ≡ left_at p rest

module _ (whole : Verdict) (most : ℕ) (p : Place) (nm : List ℕ) (rest : List (List ℕ)) (f : Walking whole most p (nm ∷ rest)) where
  stepped : (s : Result Place Refusal) → s ≡ step_of p nm → whole ≡ onward rest s
  stepped s took = f.left ∙ rw took (trouble-step p.nodes p.start p.entry p.names p.level nm rest)

  pub walk-stops : (c : Refusal) → Err c ≡ step_of p nm → Err c ≡ whole
  walk-stops c took = sym (stepped (Err c) took)

  pub walk-goes-on : (q : Place) → Ok q ≡ step_of p nm → Walking whole most q rest
  walk-goes-on q took =
      let w = step-within p f.told nm q (sym took) in
      record { levels = omega (arith, w.0, f.levels); told = w.1; left = stepped (Ok q) took }

pub walk_ends : (whole : Verdict) (most : ℕ) (p : Place) → Walking whole most p [] → (r : Verdict) → r ≡ end_verdict p → r ≡ whole
walk_ends whole most p f r e = e ∙ sym (f.left ∙ trouble-last p.nodes p.start p.entry p.names p.level f.told)

module _ (nodes : List Node) (start : ℕ) (path : List ℕ) where
  pub walk-starts : (p : Place) → walk_from nodes start ≡ Ok p → Walking (path_trouble nodes start path) (length (components path)) p (components path)
  walk-starts p = go (leb (length nodes) start)
    where
      go : (t : Bool) → cond t (Err NoSuchEntry) (Ok (place_at_start nodes start)) ≡ Ok p →
          Walking (refuse t NoSuchEntry (trouble_of nodes start start 0 false (components path))) (length (components path)) p (components path)
      go true e = let z : ◌≡◌ {A = ℕ} 0 1 = cc in absurd (omega arith)
      go false e =
          let x : place_at_start nodes start ≡ p = cc in
          rw (← x) (record { levels = omega arith; told = refl; left = refl })
