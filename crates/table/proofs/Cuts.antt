-- A path cut into components, unit by unit.
use Prim.Native.Nat.{ℕ, suc, ◌+◌, ◌-◌, ◌<◌, ◌≤◌}
use mathlib.Core.Path.{◌≡◌, refl, sym, ap, subst, ◌∙◌}
use mathlib.Core.Bool.{Bool, true, false, true≢false, cond}
use mathlib.Core.List.{List, [], ◌∷◌, ◌++◌, append_assoc, append-nil}
use native.Mathlib.Omega.{arith}
use borrow.Author.Tests.{lt-ltb, le-ltb}
use lib.ListN.{length, length-append, drop, take, length-drop}
use lib.Seq.{drop-drop, take-length}
use Rattle.std.proofs.Math.Seq.{take-append_seam}
use denote.Param.Members.{Mut}
use denote.Ref.{Bor}
use Rattle.std.specs.Fn.{CalledAt}
use Rattle.std.specs.Iterator.{Yields, YieldsFirstBy}
use Rattle.std.specs.List.{FoldsTo}
use Rattle.endian.specs.Bytes.{span}
use Rattle.tree.specs.Units.{TextUnit, single, pair, unit_bytes, units}
use Rattle.tree.specs.Lookup.{is_separator_unit, components_with, components_of, components}
use Rattle.table.proofs.UnitPlaces.{bytes_of, bytes-units}
use Rattle.table.specs.Inner.Steps.{components_after}

-- bytes before the first component
abbrev pub prepend : List ℕ → List (List ℕ) → List (List ℕ)
prepend s [] = s ∷ []
prepend s (c ∷ cs) = (s ++ c) ∷ cs

components_with-prepend : (u : TextUnit) (s : List ℕ) (cs : List (List ℕ)) → components_with u (prepend s cs) ≡ prepend (unit_bytes u ++ s) cs
components_with-prepend u s [] = refl
components_with-prepend u s (c ∷ cs) = rw (append_assoc (unit_bytes u) s c)

prepend-none : (us : List TextUnit) → prepend [] (components_of us) ≡ components_of us
unfolding components_of
prepend-none [] = refl
prepend-none (u ∷ us) = go (is_separator_unit u) (components_of us)
  where
    go : (t : Bool) (cs : List (List ℕ)) → prepend [] (cond t ([] ∷ cs) (components_with u cs)) ≡ cond t ([] ∷ cs) (components_with u cs)
    go true cs = refl
    go false [] = refl
    go false (c ∷ cs) = refl

-- ---- units that part nothing

-- none of the units before those that are left parts two components
pub record Walked (us left : List TextUnit) : Type 0 where
  pub bytes : List ℕ
  pub whole : bytes_of us ≡ bytes ++ bytes_of left
  pub cut : components_of us ≡ prepend bytes (components_of left)

walked-on : (u : TextUnit) (us left : List TextUnit) → false ≡ is_separator_unit u → Walked us left → Walked (u ∷ us) left
unfolding components_of
walked-on u us left h w =
    record {
      bytes = unit_bytes u ++ w.bytes;
      whole = rw (w.whole, append_assoc (unit_bytes u) w.bytes (bytes_of left)) refl;
      cut = rw (← h, w.cut) (components_with-prepend u w.bytes (components_of left));
    }

-- a search for a unit that parts, by a closure that tests each
module _ {A F : Type 0} (v : A → TextUnit) (g : Mut F (Bor A × Unit {0}) Bool) (f : F)
    (tests : (x : A) (b : Bool) (q : F) → CalledAt g f x b q → (q ≡ f) × (b ≡ is_separator_unit (v x))) where
  pub walked : (xs : List A) (us left : List TextUnit) (j : F) → Yields (YieldsFirstBy v (λ rest. rest)) us xs left → FoldsTo (λ p x q. CalledAt g p x false q) f xs j →
      Walked us left × (j ≡ f)
  walked [] us left j y h =
      let same : us ≡ left = y in
      rw same (record { bytes = []; whole = refl; cut = sym (prepend-none left) }, sym h)
  walked (x ∷ xs) us left j y h =
      let t = tests x false h.0 h.1 in
      let others = subst (λ (p : F). FoldsTo (λ p x q. CalledAt g p x false q) p xs j) t.0 h.2 in
      let w = walked xs y.0 left j y.2 others in
      rw y.1 (walked-on (v x) y.0 left t.1 w.0, w.1)

  pub found-parts : (x : A) (j h : F) → j ≡ f → CalledAt g j x true h → true ≡ is_separator_unit (v x)
  found-parts x j h e k = (tests x true h (subst (λ (j : F). CalledAt g j x true h) e k)).1

-- ---- where a component ends

drop-past : (s : List ℕ) (b : ℕ) (rest : List ℕ) → drop (suc (length s)) (s ++ (b ∷ rest)) ≡ rest
drop-past [] b rest = refl
drop-past (a ∷ s) b rest = drop-past s b rest

-- the component that starts at `at` ends before the byte that stands before the rest
pub record EndsBefore (path : List ℕ) (at : ℕ) (rest : List ℕ) : Type 0 where
  pub long : at + 1 + length rest ≤ length path
  pub cut : (e : ℕ) → e ≡ length path - length rest - 1 → components (drop at path) ≡ span path at (e - at) ∷ components_after path e

module _ (path : List ℕ) (at : ℕ) (h : at ≤ length path) (us left : List TextUnit) (begun : us ≡ units (drop at path)) (w : Walked us left) where
  module _ (u : TextUnit) (ws : List TextUnit) (found : left ≡ u ∷ ws) (parts : true ≡ is_separator_unit u) (rest : List ℕ) (behind : units rest ≡ ws) where
    pub ends-before : EndsBefore path at rest
    unfolding components components_of
    ends-before = go u found parts
      where
        go : (u : TextUnit) → left ≡ u ∷ ws → true ≡ is_separator_unit u → EndsBefore path at rest
        go (pair a b) e p = absurd (true≢false p)
        go (single b) e p =
            let same : bytes_of ws ≡ rest = ap bytes_of (sym behind) ∙ bytes-units rest in
            let bytes : bytes_of left ≡ b ∷ rest = ap bytes_of e ∙ ap (λ (s : List ℕ). b ∷ s) same in
            let d : drop at path ≡ w.bytes ++ (b ∷ rest) = sym (bytes-units (drop at path)) ∙ ap bytes_of (sym begun) ∙ w.whole ∙ ap (λ (s : List ℕ). w.bytes ++ s) bytes in
            let n : length (drop at path) ≡ length w.bytes + suc (length rest) = ap length d ∙ length-append w.bytes (b ∷ rest) in
            let l : at + length w.bytes + 1 + length rest ≡ length path = omega (arith, n, length-drop at path) in
            let past : drop (at + suc (length w.bytes)) path ≡ rest = sym (drop-drop (suc (length w.bytes)) at path) ∙ ap (drop (suc (length w.bytes))) d ∙ drop-past w.bytes b rest in
            record {
              long = omega (arith, l);
              cut = λ e' q.
                  let i : e' ≡ at + length w.bytes = omega (arith, l, q) in
                  let k : e' - at ≡ length w.bytes = omega (arith, i) in
                  let m : e' + 1 ≡ at + suc (length w.bytes) = omega (arith, i) in
                  let inside : e' < length path = omega (arith, l, i) in
                  let taken : span path at (length w.bytes) ≡ w.bytes = ap (take (length w.bytes)) d ∙ take-append_seam w.bytes (b ∷ rest) in
                  let start : components (drop at path) ≡ w.bytes ∷ components rest =
                  ap components_of (sym begun) ∙ w.cut ∙ rw (e, ← p, append-nil w.bytes, behind) refl in
                  start ∙ rw (k, taken, lt-ltb e' (length path) inside, m, past) refl;
            }

  pub ends-last : left ≡ [] → components (drop at path) ≡ span path at (length path - at) ∷ components_after path (length path)
  unfolding components components_of
  ends-last e =
      let d : drop at path ≡ w.bytes = sym (bytes-units (drop at path)) ∙ ap bytes_of (sym begun) ∙ w.whole ∙ ap (λ (s : List TextUnit). w.bytes ++ bytes_of s) e ∙ append-nil w.bytes in
      let n : length path - at ≡ length (drop at path) = sym (length-drop at path) in
      let taken : span path at (length path - at) ≡ w.bytes = rw n (take-length (drop at path)) ∙ d in
      let start : components (drop at path) ≡ w.bytes ∷ [] = ap components_of (sym begun) ∙ w.cut ∙ rw (e, append-nil w.bytes) refl in
      start ∙ rw (taken, le-ltb (length path) (length path) (omega arith)) refl
