-- A text is walked by its first units, and a path by its first components: what is cut off the front leaves the others as they were. Assumes nothing.
use Rattle.std.specs.Prelude.{ℕ, suc, ◌≡◌, Bool, true, false, ◌&&◌, List, [], ◌∷◌, length, take, drop, if◌then◌else◌, nat_lt, slice_index_or}
use Rattle.std.proofs.Common.{refl, ap, ◌∙◌}
use Rattle.std.proofs.Math.Nat.{zero-lt-suc}
use borrow.Author.Tests.{lt-ltb}
use Rattle.tree.specs.Units.{TextUnit, single, pair, is_lead_byte, is_trail_byte, units}
use Rattle.tree.specs.Lookup.{is_separator, components_with, components_of, components}
use Rattle.tree.proofs.Laws.InsertedList.{ltb-suc}
use Rattle.disc.specs.Texts.{unit_told, first_told, first_unit, component_length}

-- ---- LAW: behind its first unit, which `first_unit` tells, a text has its other units

abbrev cut : Bool → ℕ → ℕ → List ℕ → List TextUnit
cut t a b s = if t then pair a b ∷ units s else single a ∷ units (b ∷ s)

pub behind-unit : (a : ℕ) (s : List ℕ) → (u : TextUnit) × (first_unit (a ∷ s) ≡ unit_told u) × (units (a ∷ s) ≡ u ∷ units (drop (first_unit (a ∷ s)).len (a ∷ s)))
unfolding first_unit units
behind-unit a [] = (single a, refl, refl)
behind-unit a (b ∷ s) = go (is_lead_byte a && is_trail_byte b)
  where
    go : (t : Bool) → (u : TextUnit) × (first_told (cut t a b s) ≡ unit_told u) × (cut t a b s ≡ u ∷ units (drop (first_told (cut t a b s)).len (a ∷ b ∷ s)))
    go true = (pair a b, refl, refl)
    go false = (single a, refl, refl)

-- ---- LAW: the bytes of that number are a path's first component, and behind the separator it has its other components

abbrev others : List ℕ → ℕ → List (List ℕ)
others path n = if nat_lt n (length path) then components (drop (suc n) path) else []

record Begins (path : List ℕ) (cs : List (List ℕ)) : Type 0 where
  name : List ℕ
  cut : cs ≡ name ∷ others path (length name)
  front : name ≡ take (length name) path

begins-empty : Begins [] ([] ∷ [])
begins-empty = record { name = []; cut = refl; front = refl }

-- a byte that separates is no part of it
parted : (a : ℕ) (s : List ℕ) → Begins (a ∷ s) ([] ∷ components s)
parted a s = record { name = []; cut = rw (lt-ltb 0 (suc (length s)) (zero-lt-suc (length s))) refl; front = refl }

-- a byte before it
one-more : (a : ℕ) (s : List ℕ) (cs : List (List ℕ)) → Begins s cs → Begins (a ∷ s) (components_with (single a) cs)
one-more a s cs b = record {
  name = a ∷ b.name;
  cut = rw (b.cut, ltb-suc (length b.name) (length s)) refl;
  front = ap (λ (l : List ℕ). a ∷ l) b.front;
}

two-more : (a b : ℕ) (s : List ℕ) (cs : List (List ℕ)) → Begins s cs → Begins (a ∷ b ∷ s) (components_with (pair a b) cs)
two-more a b s cs h = record {
  name = a ∷ b ∷ h.name;
  cut = rw (h.cut, ltb-suc (suc (length h.name)) (suc (length s)), ltb-suc (length h.name) (length s)) refl;
  front = ap (λ (l : List ℕ). a ∷ b ∷ l) h.front;
}

begins : (path : List ℕ) → Begins path (components path)
unfolding components components_of units
begins [] = begins-empty
begins (a ∷ []) = go (is_separator a)
  where
    go : (t : Bool) → Begins (a ∷ []) (if t then [] ∷ [] ∷ [] else components_with (single a) ([] ∷ []))
    go true = parted a []
    go false = one-more a [] ([] ∷ []) begins-empty
begins (a ∷ b ∷ s) = go (is_lead_byte a && is_trail_byte b) (begins s) (begins (b ∷ s))
  where
    by-itself : (p : Bool) → Begins (b ∷ s) (components (b ∷ s)) → Begins (a ∷ b ∷ s) (if p then [] ∷ components (b ∷ s) else components_with (single a) (components (b ∷ s)))
    by-itself true k = parted a (b ∷ s)
    by-itself false k = one-more a (b ∷ s) (components (b ∷ s)) k

    go : (t : Bool) → Begins s (components s) → Begins (b ∷ s) (components (b ∷ s)) → Begins (a ∷ b ∷ s) (components_of (cut t a b s))
    go true h k = two-more a b s (components s) h
    go false h k = by-itself (is_separator a) k

pub behind-component : (path : List ℕ) → components path ≡ take (component_length path) path ∷ others path (component_length path)
unfolding component_length
behind-component path =
    let b = begins path in
    let n : length (slice_index_or (components path) 0 []) ≡ length b.name = rw b.cut refl in
    rw n (b.cut ∙ ap (λ (l : List ℕ). l ∷ others path (length b.name)) b.front)
