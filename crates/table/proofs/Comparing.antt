-- A text compared with a name that has no zero byte: by the byte behind as many bytes as the name has, and then by those bytes. A name with a
-- zero byte is no text. Assumes nothing.
use Rattle.std.specs.Prelude.{Err}
use Rattle.std.specs.List.{list_any}
use Prim.Native.Nat.{ℕ, zero, suc, ◌+◌, ◌-◌, ◌<◌, ◌≤◌}
use mathlib.Core.Path.{◌≡◌, refl, sym, ap}
use mathlib.Core.Logic.{⊎_elim}
use mathlib.Core.Bool.{Bool, true, false, ◌&&◌, ◌||◌}
use mathlib.Core.List.{List, [], ◌∷◌}
use native.Mathlib.Omega.{arith}
use borrow.Author.Tests.{ne_eqb, eqb-true, eqb-false}
use lib.ListN.{length, get_or, drop, take, length-drop, get_or-eq_default}
use lib.Seq.{get_or-drop, take-length}
use lib.Dec.{eqb}
use Rattle.endian.specs.Bytes.{span, are_same_bytes}
use Rattle.refusal.specs.Laws.Tests.{lt-or-le, or-false, and-false}
use Rattle.refusal.specs.declared.Refusal.TheVariants.{NotFound}
use Rattle.tree.specs.Table.{Node, name_of, empty_root, count, nodes_of, first_text, name_place}
use Rattle.tree.specs.Lookup.{first_child, child_of}
use Rattle.tree.proofs.Laws.Accepted.{length-nodes_of}
use Rattle.table.specs.Inner.Texts.{text_at}
use Rattle.table.proofs.Nodes.{root-name}
use Rattle.table.proofs.Ended.{name-there}

-- ---- the bytes of a list up to the first 0, compared with a name

short : (s nm : List ℕ) → length s < length nm → are_same_bytes (first_text s) nm ≡ false
unfolding are_same_bytes
short s [] h = absurd (omega arith)
short [] (y ∷ nm) h = refl
short (zero ∷ s) (y ∷ nm) h = refl
short (suc b ∷ s) (y ∷ nm) h = rw (short s nm (omega arith)) (and-false (eqb (suc b) y))

longer : (s nm : List ℕ) → (get_or s (length nm) 0 ≡ 0 → ⊥) → are_same_bytes (first_text s) nm ≡ false
unfolding are_same_bytes
longer [] nm h = absurd (h refl)
longer (zero ∷ s) [] h = absurd (h refl)
longer (suc b ∷ s) [] h = refl
longer (zero ∷ s) (y ∷ nm) h = refl
longer (suc b ∷ s) (y ∷ nm) h = rw (longer s nm h) (and-false (eqb (suc b) y))

abbrev is_with_zero : List ℕ → Bool
is_with_zero nm = list_any (λ b. eqb b 0) nm

exact : (s nm : List ℕ) → is_with_zero nm ≡ false → length nm ≤ length s → get_or s (length nm) 0 ≡ 0 → are_same_bytes (first_text s) nm ≡ are_same_bytes (take (length nm) s) nm
unfolding are_same_bytes
exact [] [] z h e = refl
exact [] (y ∷ nm) z h e = absurd (omega arith)
exact (zero ∷ s) [] z h e = refl
exact (suc b ∷ s) [] z h e = absurd (omega arith)
exact (zero ∷ s) (y ∷ nm) z h e =
    let n : eqb 0 y ≡ false = ne_eqb 0 y (λ q. eqb-false y 0 (or-false (eqb y 0) (is_with_zero nm) z).0 (sym q)) in
    rw n
exact (suc b ∷ s) (y ∷ nm) z h e = ap (λ (t : Bool). eqb (suc b) y && t) (exact s nm (or-false (eqb y 0) (is_with_zero nm) z).1 (omega arith) e)

zeroed : (s nm : List ℕ) → is_with_zero nm ≡ true → are_same_bytes (first_text s) nm ≡ false
unfolding are_same_bytes
zeroed s [] z = let n : ◌≡◌ {A = ℕ} 0 1 = cc in absurd (omega arith)
zeroed [] (y ∷ nm) z = refl
zeroed (zero ∷ s) (y ∷ nm) z = refl
zeroed (suc b ∷ s) (y ∷ nm) z = go (eqb y 0) refl z (zeroed s nm)
  where
    go : (t : Bool) → eqb y 0 ≡ t → (t || is_with_zero nm) ≡ true → (is_with_zero nm ≡ true → are_same_bytes (first_text s) nm ≡ false) → (eqb (suc b) y && are_same_bytes (first_text s) nm) ≡ false
    go true e q f = let n : eqb (suc b) y ≡ false = ne_eqb (suc b) y (λ p. omega (arith, eqb-true y 0 e)) in rw n
    go false e q f = rw (f q) (and-false (eqb (suc b) y))

-- ---- a text of a table

module _ (tab nm : List ℕ) (at : ℕ) where
  pub text-short : length tab - at < length nm → are_same_bytes (text_at tab at) nm ≡ false
  text-short h = short (drop at tab) nm (rw (length-drop at tab) h)

  pub text-longer : (get_or tab (at + length nm) 0 ≡ 0 → ⊥) → are_same_bytes (text_at tab at) nm ≡ false
  text-longer h = longer (drop at tab) nm (rw (get_or-drop at tab (length nm) 0) h)

  pub text-exact : is_with_zero nm ≡ false → length nm ≤ length tab - at → get_or tab (at + length nm) 0 ≡ 0 →
      are_same_bytes (text_at tab at) nm ≡ are_same_bytes (span tab at (length nm)) (span nm 0 (length nm))
  text-exact z h e =
      rw (take-length nm) (exact (drop at tab) nm z (rw (length-drop at tab) h) (rw (get_or-drop at tab (length nm) 0) e))

-- ---- a name with a zero byte

names-differ : (tab nm : List ℕ) → is_with_zero nm ≡ true → (j : ℕ) → are_same_bytes (name_of (get_or (nodes_of tab) j empty_root)) nm ≡ false
names-differ tab nm z zero = rw (root-name tab 0 refl) (zeroed [] nm z)
names-differ tab nm z (suc j) =
    ⊎_elim
    (λ l. rw (name-there tab (suc j) (omega arith) l) (zeroed (drop (name_place tab (suc j)) tab) nm z))
    (λ l. rw (get_or-eq_default (nodes_of tab) empty_root {n = suc j} (rw (length-nodes_of tab) l)) (zeroed [] nm z))
    (lt-or-le (suc j) (count tab))

none_from : (nodes : List Node) (d : ℕ) (nm : List ℕ) → ((j : ℕ) → are_same_bytes (name_of (get_or nodes j empty_root)) nm ≡ false) → (k n : ℕ) → first_child nodes d nm k n ≡ Err NotFound
unfolding first_child
none_from nodes d nm f k zero = refl
none_from nodes d nm f k (suc n) = rw (f k, and-false _) (none_from nodes d nm f (suc k) n)

pub child-none : (tab : List ℕ) (d : ℕ) (nm : List ℕ) → is_with_zero nm ≡ true → child_of (nodes_of tab) d nm ≡ Err NotFound
unfolding child_of
child-none tab d nm z = none_from (nodes_of tab) d nm (names-differ tab nm z) _ _
