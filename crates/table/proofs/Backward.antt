-- The parent, looked for from the entry down by an iterator: the numbers below the entry, the last one first.
use Prim.Native.Nat.{ℕ, ◌+◌, ◌-◌, ◌≤◌, ◌<◌}
use mathlib.Core.Path.{◌≡◌, sym, ap, ◌∙◌}
use mathlib.Core.Bool.{Bool, true, false}
use mathlib.Core.List.{List, [], ◌∷◌}
use native.Mathlib.Omega.{arith}
use lib.ListN.{get_or}
use denote.Param.Members.{Mut}
use denote.Ref.{Bor}
use Rattle.std.specs.declared.option.Option.{Option}
use Rattle.std.specs.declared.option.Option.TheVariants.{None, Some}
use Rattle.std.specs.Option.{MatchOption, unwrap_or}
use Rattle.std.specs.Fn.{CalledAt}
use Rattle.std.specs.Iterator.{YieldsThen}
use Rattle.std.specs.List.{FoldsTo}
use Rattle.tree.specs.Table.{Node, empty_root, parent_below}
use Rattle.tree.specs.Lookup.{next_of}
use Rattle.table.proofs.Nodes.{parent-found, parent-on, parent-none}

-- calls of `next_back` on a range
module _ {S : Type 0} (steps : S → Option ℕ → S → Type 0) (start end : S → ℕ) where
  abbrev pub Down : S → Option ℕ → S → Type 0
  Down s r t = (start t ≡ start s) × MatchOption r ((end s - start s ≡ 0) × (end t ≡ end s)) (λ x. (0 < end s - start s) × (x ≡ end t) × (end s ≡ end t + 1))

  module _ (down : (s t : S) (r : Option ℕ) → steps s r t → Down s r t) (nodes : List Node) (k : ℕ) {F : Type 0} {g : Mut F (Bor ℕ × Unit {0}) Bool} (f : F)
      (hit : (x : ℕ) (q : F) → CalledAt g f x true q → k < next_of (get_or nodes x empty_root))
      (miss : (x : ℕ) (q : F) → CalledAt g f x false q → (q ≡ f) × (next_of (get_or nodes x empty_root) ≤ k)) where
    last : (s u : S) (r : Option ℕ) (j : F) → f ≡ j → start s ≡ 0 → Down s r u → MatchOption r (Unit {0}) (λ x. (h : F) × CalledAt g j x true h) → parent_below nodes k (end s) ≡ unwrap_or r 0
    last s u None j e z d c = parent-none nodes k (end s) (omega (arith, d.1.0))
    last s u (Some x) j e z d c =
        let called : CalledAt g f x true c.0 = rw e c.1 in
        let at : x ≡ end s - 1 = omega (arith, d.1.1, d.1.2) in
        parent-found nodes k (end s) (omega (arith, d.1.2)) (rw (← at) (hit x c.0 called)) ∙ sym at

    pub parent-back : (xs : List ℕ) (s u : S) (r : Option ℕ) (p j : F) → p ≡ f → start s ≡ 0 → YieldsThen steps s xs r u
        → FoldsTo (λ p x q. CalledAt g p x false q) p xs j → MatchOption r (Unit {0}) (λ x. (h : F) × CalledAt g j x true h) → parent_below nodes k (end s) ≡ unwrap_or r 0
    parent-back [] s u r p j e z y c h = rw y.1 (last y.0 u r j (sym e ∙ c) (sym (ap start y.1) ∙ z) (down y.0 u r y.2) h)
    parent-back (x ∷ xs) s u r p j e z y c h =
        let d = down s y.1.0 (Some x) y.1.1 in
        let called : CalledAt g f x false c.0 = rw (sym e) c.1 in
        let m = miss x c.0 called in
        let at : x ≡ end s - 1 = omega (arith, d.1.1, d.1.2) in
        let before : end s - 1 ≡ end y.1.0 = omega (arith, d.1.2) in
        parent-on nodes k (end s) (omega (arith, d.1.2)) (rw (← at) m.1) ∙ ap (parent_below nodes k) before ∙ parent-back xs y.1.0 u r c.0 j m.0 (d.0 ∙ z) (y.0, y.1.2, y.2) c.2 h
