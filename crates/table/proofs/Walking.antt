-- One turn of each loop that looks for the first refusal, and the open directories kept in words. Assumes nothing.
use Rattle.std.specs.Prelude.{Ok, None, Some, is_err}
use Rattle.refusal.specs.Refusal.{Verdict}
use Prim.Native.Nat.{ℕ, zero, suc, ◌+◌, ◌-◌, ◌*◌, ◌<◌, ◌≤◌}
use mathlib.Core.Path.{◌≡◌, refl, sym, ap, ◌∙◌}
use mathlib.Core.Bool.{true, false}
use mathlib.Core.List.{List, [], ◌∷◌}
use native.Mathlib.Omega.{arith}
use native.Mathlib.Numerals.{add-one}
use borrow.Author.Tests.{ltb-false, le-leb, lt-leb, le-ltb, eq-eqb}
use lib.ListN.{length, get_or, set, drop}
use lib.Seq.{get_or-set_same, get_or-set_other}
use lib.Dec.{leb, ltb}
use Rattle.refusal.specs.declared.Refusal.TheVariants.{EntryPastTable, UnrecognizedKind, InvalidNextIndex, LimitOrMemory}
use Rattle.refusal.specs.Refusal.{refuse}
use Rattle.refusal.specs.Laws.Chains.{refuse-passed, first-passed}
use Rattle.tree.specs.Table.{file, directory, count, kind, name_offset, offset_or_parent, size_or_next, name_at, node_with, node_at, nodes_from, entry_verdict, entries_verdict, top, dirs_open_at, dirs_with, next_verdict, walk}
use Rattle.tree.specs.Faults.{first_refused, walk_refused, is_refused_before_entries, is_refused_behind_entries, refused_entry}
use Rattle.tree.proofs.Laws.FaultSteps.{stopped-here, stopped-later, stopped_none}
use Rattle.tree.proofs.Laws.Steps.{walk_entry, walk-stop, walk-go, walk_end}
use Rattle.table.specs.Inner.Reading.{IsInside, open_in, node_verdict}
use Rattle.tree.proofs.Laws.Accepted.{name_of-node_at}

-- entries that pass stand in the table
entries-held : (tab : List ℕ) (k n : ℕ) → entries_verdict tab k (suc n) ≡ Ok tt → 12 * (k + suc n) ≤ length tab
unfolding entries_verdict entry_verdict
entries-held tab k zero e =
    let e₁ = first-passed (entry_verdict tab k) (entries_verdict tab (suc k) zero) e in
    let e₂ = refuse-passed (ltb (length tab) (12 * k + 12)) EntryPastTable (refuse (ltb 1 (kind tab k)) UnrecognizedKind (Ok tt)) e₁.0 in
    omega (arith, ltb-false (length tab) (12 * k + 12) e₂.0)
entries-held tab k (suc n) e =
    let e₁ = first-passed (entry_verdict tab k) (entries_verdict tab (suc k) (suc n)) e in
    omega (arith, entries-held tab (suc k) n e₁.1)

pub entries-inside : (tab : List ℕ) (c : ℕ) → 12 ≤ length tab → 1 ≤ c → c ≤ 16384 → entries_verdict tab 1 (c - 1) ≡ Ok tt → IsInside tab c
entries-inside tab zero h l s e = elim l [ ]
entries-inside tab (suc zero) h l s e = record { held = h; some = l; small = s }
entries-inside tab (suc (suc n)) h l s e =
    let m : suc (suc n) - 1 ≡ suc n = omega arith in
    record { held = omega (arith, entries-held tab 1 n (rw m at e)); some = l; small = s }

pub count-some : (tab : List ℕ) → 1 ≤ count tab
unfolding count
count-some tab = omega arith

-- ---- an entry by its kind

pub node-file : (tab : List ℕ) (c k : ℕ) → kind tab k ≡ 0 → node_at tab c k ≡ file (name_at tab c (name_offset tab k)) (offset_or_parent tab k) (size_or_next tab k)
unfolding node_at
node-file tab c k h = rw h

with-directory : (n : ℕ) (nm : List ℕ) (a b : ℕ) → (n ≡ 0 → ⊥) → node_with n nm a b ≡ directory nm b
with-directory zero nm a b h = absurd (h refl)
with-directory (suc n) nm a b h = refl

pub node-directory : (tab : List ℕ) (c k : ℕ) → (kind tab k ≡ 0 → ⊥) → node_at tab c k ≡ directory (name_at tab c (name_offset tab k)) (size_or_next tab k)
unfolding node_at
node-directory tab c k h = with-directory (kind tab k) _ _ _ h

-- ---- the open directories in words

pub length-open : (words : List ℕ) (d : ℕ) → length (open_in words d) ≡ d
unfolding open_in
length-open words zero = refl
length-open words (suc d) = ap suc (length-open words d)

pub open-some : (words : List ℕ) (d : ℕ) → (d ≡ 0 → ⊥) → open_in words d ≡ get_or words (d - 1) 0 ∷ open_in words (d - 1)
unfolding open_in
open-some words zero h = absurd (h refl)
open-some words (suc d) h = let m : suc d - 1 ≡ d = omega arith in rw m

pub open_none : (words : List ℕ) (d : ℕ) → d ≡ 0 → open_in words d ≡ []
unfolding open_in
open_none words d h = rw h

-- none is shut where the innermost goes on, and the innermost is where it ends
pub dirs_open_at-keep : (dirs : List ℕ) (k : ℕ) → k < top dirs → dirs_open_at k dirs ≡ dirs
unfolding dirs_open_at
dirs_open_at-keep [] k h = refl
dirs_open_at-keep (n ∷ dirs) k h = rw (lt-leb n k h)

pub dirs_open_at-drop : (dirs : List ℕ) (k : ℕ) → top dirs ≤ k → dirs_open_at k dirs ≡ dirs_open_at k (drop 1 dirs)
unfolding dirs_open_at
dirs_open_at-drop [] k h = refl
dirs_open_at-drop (n ∷ dirs) k h = rw (le-leb n k h)

pub shut_none : (dirs : List ℕ) (k : ℕ) → length dirs ≡ 0 → dirs_open_at k dirs ≡ dirs
unfolding dirs_open_at
shut_none [] k h = refl
shut_none (n ∷ dirs) k h = absurd (omega arith)

open-frame : (words : List ℕ) (i v d : ℕ) → d ≤ i → open_in (set words i v) d ≡ open_in words d
unfolding open_in
open-frame words i v zero h = refl
open-frame words i v (suc d) h = rw (get_or-set_other words i d v 0 (λ e. omega arith), open-frame words i v d (omega arith))

pub open-dirs_with : (words : List ℕ) (d v : ℕ) → d < length words → open_in (set words d v) (d + 1) ≡ v ∷ open_in words d
unfolding open_in
open-dirs_with words d v h = rw (add-one d, get_or-set_same words d v 0 h, open-frame words d v d (omega arith))

-- a directory that passes is at most 64 deep
pub next-depth : (c : ℕ) (dirs : List ℕ) (k : ℕ) (nm : List ℕ) (next : ℕ) → next_verdict c dirs k (directory nm next) ≡ Ok tt → length dirs ≤ 64
unfolding next_verdict
next-depth c dirs k nm next e =
    let d = refuse (ltb 64 (length dirs)) LimitOrMemory (Ok tt) in
    let t = refuse (ltb (top dirs) next) InvalidNextIndex d in
    let e₁ = refuse-passed (leb next k) InvalidNextIndex (refuse (ltb c next) InvalidNextIndex t) e in
    let e₂ = refuse-passed (ltb c next) InvalidNextIndex t e₁.1 in
    let e₃ = refuse-passed (ltb (top dirs) next) InvalidNextIndex d e₂.1 in
    ltb-false 64 (length dirs) (refuse-passed (ltb 64 (length dirs)) LimitOrMemory (Ok tt) e₃.1).0

-- so there is room for its next
pub dirs_with-room : (tab : List ℕ) (c k : ℕ) (dirs : List ℕ) → (kind tab k ≡ 0 → ⊥) → next_verdict c dirs k (node_at tab c k) ≡ Ok tt → length dirs ≤ 64
dirs_with-room tab c k dirs h e =
    next-depth c dirs k (name_at tab c (name_offset tab k)) (size_or_next tab k) (rw (node-directory tab c k h) at e)

-- ---- the walk's loop

-- what is left of the walk at entry k has the answer of the whole
pub record Walked (tab : List ℕ) (c : ℕ) (dirs : List ℕ) (k : ℕ) : Type 0 where
  pub from : 1 ≤ k
  pub left : walk tab c (c ∷ []) 1 (nodes_from tab c 1 (c - 1)) ≡ walk tab c dirs k (nodes_from tab c k (c - k))

module _ {tab : List ℕ} {c : ℕ} {dirs : List ℕ} {k : ℕ} (w : Walked tab c dirs k) (around : List ℕ) (shuts : around ≡ dirs_open_at k dirs) (v : Verdict) (test : v ≡ node_verdict tab c around k) (more : k < c) where
  same : v ≡ walk_entry tab c dirs k (node_at tab c k)
  same = test ∙ rw (shuts, name_of-node_at tab c k)

  pub walked_stop : is_err v ≡ true → v ≡ walk tab c (c ∷ []) 1 (nodes_from tab c 1 (c - 1))
  walked_stop r = sym (w.left ∙ walk-stop tab c dirs k c v more same r)

  pub walked-turn : is_err v ≡ false → (next : List ℕ) → next ≡ dirs_with around (node_at tab c k) → Walked tab c next (k + 1)
  walked-turn r next e = record { from = omega arith; left = w.left ∙ walk-go tab c dirs k c v more same r ∙ rw (e, shuts) }

pub walked_end : (tab : List ℕ) (c : ℕ) (dirs : List ℕ) (k : ℕ) → Walked tab c dirs k → c ≤ k → Ok tt ≡ walk tab c (c ∷ []) 1 (nodes_from tab c 1 (c - 1))
walked_end tab c dirs k w h = sym (w.left ∙ walk_end tab c dirs k c h)

-- ---- the same loop where it looks for the entry

pub record Sought (tab : List ℕ) (c : ℕ) (dirs : List ℕ) (k : ℕ) : Type 0 where
  pub from : 1 ≤ k
  pub left : walk_refused tab c (c ∷ []) 1 (nodes_from tab c 1 (c - 1)) ≡ walk_refused tab c dirs k (nodes_from tab c k (c - k))

pub sought_start : (tab : List ℕ) (c : ℕ) → Sought tab c (c ∷ []) 1
sought_start tab c = record { from = omega arith; left = refl }

module _ {tab : List ℕ} {c : ℕ} {dirs : List ℕ} {k : ℕ} (w : Sought tab c dirs k) (around : List ℕ) (shuts : around ≡ dirs_open_at k dirs) (v : Verdict) (test : v ≡ node_verdict tab c around k) (more : k < c) where
  same_test : v ≡ walk_entry tab c dirs k (node_at tab c k)
  same_test = test ∙ rw (shuts, name_of-node_at tab c k)

  pub sought-here : is_err v ≡ true → Some k ≡ walk_refused tab c (c ∷ []) 1 (nodes_from tab c 1 (c - 1))
  sought-here r = sym (w.left ∙ stopped-here tab c dirs k c v more same_test r)

  pub sought-turn : is_err v ≡ false → (next : List ℕ) → next ≡ dirs_with around (node_at tab c k) → Sought tab c next (k + 1)
  sought-turn r next e = record { from = omega arith; left = w.left ∙ stopped-later tab c dirs k c v more same_test r ∙ rw (e, shuts) }

pub sought_end : (tab : List ℕ) (c : ℕ) (dirs : List ℕ) (k : ℕ) → Sought tab c dirs k → c ≤ k → None ≡ walk_refused tab c (c ∷ []) 1 (nodes_from tab c 1 (c - 1))
sought_end tab c dirs k w h = sym (w.left ∙ stopped_none tab c dirs k c h)

-- ---- the entry that a table is refused for, by the tests that led there

module _ (tab : List ℕ) (words : ℕ) where
  pub entry-of-root : is_refused_before_entries tab ≡ true → None ≡ refused_entry tab words
  unfolding refused_entry
  entry-of-root e = rw e

  module _ (root : is_refused_before_entries tab ≡ false) where
    pub entry-of-entries : is_err (entries_verdict tab 1 (count tab - 1)) ≡ true → refused_entry tab words ≡ first_refused tab 1 (count tab - 1)
    unfolding refused_entry
    entry-of-entries e = rw (root, e)

    module _ (entries : is_err (entries_verdict tab 1 (count tab - 1)) ≡ false) where
      pub entry-of-texts : is_refused_behind_entries tab (count tab) words ≡ true → None ≡ refused_entry tab words
      unfolding refused_entry
      entry-of-texts e = rw (root, entries, e)

      pub entry-of-walk : is_refused_behind_entries tab (count tab) words ≡ false → refused_entry tab words ≡ walk_refused tab (count tab) (count tab ∷ []) 1 (nodes_from tab (count tab) 1 (count tab - 1))
      unfolding refused_entry
      entry-of-walk e = rw (root, entries, e)

pub root-passed : (tab : List ℕ) → 12 ≤ length tab → kind tab 0 ≡ 1 → count tab ≤ 16384 → is_refused_before_entries tab ≡ false
root-passed tab l k c = rw (le-ltb (length tab) 12 l, eq-eqb (kind tab 0) 1 k, le-ltb 16384 (count tab) c)
