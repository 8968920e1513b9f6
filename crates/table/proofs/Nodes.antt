-- What the bytes of an accepted table say of its entries, the root among them. Assumes nothing.
use Prim.Native.Nat.{ℕ, zero, suc, ◌+◌, ◌-◌, ◌*◌, ◌^◌, ◌<◌, ◌≤◌}
use mathlib.Core.Path.{◌≡◌, refl, sym, ap, ◌∙◌}
use mathlib.Core.Bool.{Bool, true, false, not}
use mathlib.Core.List.{List, []}
use native.Mathlib.Omega.{arith}
use borrow.Author.Tests.{le-ltb, lt-ltb, ltb-false, eqb-true, eqb-false}
use lib.ListN.{length, get_or}
use lib.Dec.{ltb, eqb}
use Rattle.endian.specs.Bytes.{AllBytes}
use Rattle.refusal.specs.declared.Refusal.TheVariants.{EntryPastTable, UnrecognizedKind, RootIsNotDirectory, LimitOrMemory}
use Rattle.refusal.specs.Laws.Chains.{refuse-passed, first-passed}
use Rattle.tree.specs.Table.{Node, file, directory, name_of, empty_root, count, kind, name_offset, offset_or_parent, size_or_next, name_at, nodes_of, entries_verdict, check, is_enclosing, parent_below, parent_of}
use Rattle.tree.specs.Lookup.{is_directory, next_of}
use Rattle.tree.specs.Inner.Accepted.{IsAccepted}
use Rattle.tree.proofs.Laws.Accepted.{accepted, length-nodes_of, get_d-nodes_of, name_of-node_at}
use Rattle.tree.proofs.Laws.WellNested.{root_is}
use Rattle.tree.proofs.Laws.Nesting.{parent-here, parent-lower}
use Rattle.table.specs.Inner.Reading.{IsInside, Opens}
use Rattle.table.specs.Inner.Texts.{text_at}
use Rattle.table.specs.Inner.Fields.{size_or_next_of}
use Rattle.table.specs.Inner.Held.{IsTable}
use Rattle.table.proofs.Walking.{node-file, node-directory, entries-inside, count-some}
use Rattle.tree.proofs.Laws.InsertedList.{is_enclosing-is}

pub opened : (tab : List ℕ) → AllBytes tab → (o : Opens tab) → IsAccepted tab o.words
opened tab bytes o = accepted tab o.words bytes o.passed

-- its entries stand in the table
pub opens-inside : (tab : List ℕ) → Opens tab → IsInside tab (count tab)
unfolding check
opens-inside tab o =
    let e₁ = refuse-passed (ltb (length tab) 12) EntryPastTable _ o.passed in
    let e₂ = refuse-passed (ltb 1 (kind tab 0)) UnrecognizedKind _ e₁.1 in
    let e₃ = refuse-passed (eqb (kind tab 0) 0) RootIsNotDirectory _ e₂.1 in
    let e₄ = refuse-passed (ltb 16384 (count tab)) LimitOrMemory _ e₃.1 in
    let e₅ = first-passed (entries_verdict tab 1 (count tab - 1)) _ e₄.1 in
    entries-inside tab (count tab) (ltb-false _ _ e₁.0) (count-some tab) (ltb-false _ _ e₄.0) e₅.0

module _ {tab : List ℕ} {words : ℕ} (a : IsAccepted tab words) (k : ℕ) (inside : k < count tab) where
  pub file-is : kind tab k ≡ 0 → get_or (nodes_of tab) k empty_root ≡ file (name_at tab (count tab) (name_offset tab k)) (offset_or_parent tab k) (size_or_next tab k)
  file-is e = go k refl
    where
      go : (j : ℕ) → k ≡ j → get_or (nodes_of tab) k empty_root ≡ file (name_at tab (count tab) (name_offset tab k)) (offset_or_parent tab k) (size_or_next tab k)
      go zero z = let r : kind tab 0 ≡ 0 = rw z at e in absurd (omega (arith, a.root-kind))
      go (suc j) z = get_d-nodes_of tab k (omega arith) inside ∙ node-file tab (count tab) k e

  pub directory-is : (kind tab k ≡ 0 → ⊥) → get_or (nodes_of tab) k empty_root ≡ directory (name_of (get_or (nodes_of tab) k empty_root)) (size_or_next tab k)
  directory-is e = go k refl
    where
      go : (j : ℕ) → k ≡ j → get_or (nodes_of tab) k empty_root ≡ directory (name_of (get_or (nodes_of tab) k empty_root)) (size_or_next tab k)
      go zero z = rw (z, root_is (nodes_of tab) a.well, a.root-next, length-nodes_of tab)
      go (suc j) z = let h : get_or (nodes_of tab) k empty_root ≡ directory (name_at tab (count tab) (name_offset tab k)) (size_or_next tab k) = get_d-nodes_of tab k (omega arith) inside ∙ node-directory tab (count tab) k e in rw h

  pub is-directory : not (eqb (kind tab k) 0) ≡ is_directory (get_or (nodes_of tab) k empty_root)
  is-directory = go (eqb (kind tab k) 0) refl
    where
      go : (t : Bool) → eqb (kind tab k) 0 ≡ t → not t ≡ is_directory (get_or (nodes_of tab) k empty_root)
      go true e = rw (file-is (eqb-true _ _ e))
      go false e = rw (directory-is (eqb-false _ _ e))

-- the last field is that of the record
pub last-is : {tab : List ℕ} {words : ℕ} → IsAccepted tab words → (k : ℕ) → k < count tab → {n : ℕ} → n ≡ size_or_next tab k → n ≡ size_or_next_of (get_or (nodes_of tab) k empty_root)
last-is {tab} a k h {n} e = go (eqb (kind tab k) 0) refl
  where
    go : (t : Bool) → eqb (kind tab k) 0 ≡ t → n ≡ size_or_next_of (get_or (nodes_of tab) k empty_root)
    go true q = e ∙ sym (ap size_or_next_of (file-is a k h (eqb-true _ _ q)))
    go false q = e ∙ sym (ap size_or_next_of (directory-is a k h (eqb-false _ _ q)))

-- ---- the parent, looked for from the entry down

module _ (nodes : List Node) (k i : ℕ) (h : 0 < i) where
  before : i ≡ suc (i - 1)
  before = omega arith

  pub parent-found : k < next_of (get_or nodes (i - 1) empty_root) → parent_below nodes k i ≡ i - 1
  parent-found l =
      let e : is_enclosing (get_or nodes (i - 1) empty_root) k ≡ true = is_enclosing-is (get_or nodes (i - 1) empty_root) k ∙ lt-ltb _ _ l in
      ap (parent_below nodes k) before ∙ parent-here nodes k (i - 1) e

  pub parent-on : next_of (get_or nodes (i - 1) empty_root) ≤ k → parent_below nodes k i ≡ parent_below nodes k (i - 1)
  parent-on l =
      let e : is_enclosing (get_or nodes (i - 1) empty_root) k ≡ false = is_enclosing-is (get_or nodes (i - 1) empty_root) k ∙ le-ltb _ _ l in
      ap (parent_below nodes k) before ∙ parent-lower nodes k (i - 1) e

pub parent-whole : (nodes : List Node) (k : ℕ) → parent_of nodes k ≡ parent_below nodes k k
unfolding parent_of
parent-whole nodes k = refl

pub parent-none : (nodes : List Node) (k i : ℕ) → i ≡ 0 → parent_below nodes k i ≡ 0
unfolding parent_below
parent-none nodes k i e = rw e

-- the name of an entry past the root
pub name-is : (tab : List ℕ) (k : ℕ) → 0 < k → k < count tab → name_of (get_or (nodes_of tab) k empty_root) ≡ text_at tab (12 * count tab + name_offset tab k)
unfolding name_at
name-is tab k h l = ap name_of (get_d-nodes_of tab k h l) ∙ name_of-node_at tab (count tab) k

-- no name is longer than the texts may be; the root has none
pub name-short : {tab : List ℕ} {words : ℕ} → IsAccepted tab words → (k : ℕ) → 0 < k → k < count tab → length (name_of (get_or (nodes_of tab) k empty_root)) ≤ 2 ^ 20
name-short {tab} a k h l =
    let e : name_of (get_or (nodes_of tab) k empty_root) ≡ name_at tab (count tab) (name_offset tab k) = ap name_of (get_d-nodes_of tab k h l) ∙ name_of-node_at tab (count tab) k in
    rw e (omega (arith, a.names k h l, a.texts))

pub root-name : (tab : List ℕ) (k : ℕ) → k ≡ 0 → name_of (get_or (nodes_of tab) k empty_root) ≡ []
unfolding nodes_of
root-name tab k e = rw e

-- a table that is held is accepted
pub held : {tab : List ℕ} → (h : IsTable tab) → IsAccepted tab h.opens.words
held {tab} h = opened tab h.bytes h.opens
