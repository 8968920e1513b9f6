-- What holds of the image after changes that were made one after the other. Assumes nothing.
use Rattle.std.specs.Prelude.{Result, Ok, Err, ℕ, ◌≤◌, ◌≡◌, refl, Bool, cond, not, is_ok, is_err, List, [], ◌∷◌, map, slice_index_or}
use Rattle.std.proofs.Common.{subst}
use Rattle.refusal.specs.declared.Refusal.{Refusal}
use Rattle.endian.specs.Bytes.{span, AllBytes}
use Rattle.tree.specs.Table.{file, empty_root}
use Rattle.opened.specs.Opening.{nodes_in, opening}
use Rattle.edit_rules.specs.Edits.{verdict_of, image_after}
use Rattle.ledger.specs.Ledger.{Ledger, files_before, first_ledger, Report, ledger_with, ledger_after}
use Rattle.ledger.specs.Runs.{image_after_all}
use Rattle.ledger.specs.Spared.{number_after, IsSpared}
use Rattle.ledger.specs.Theorem.{StillThere}
use Rattle.ledger.proofs.Laws.AfterAnyList.{kept-holds}
use Rattle.ledger.proofs.Laws.Sequence.{start, still-there}
use Rattle.ledger.proofs.Laws.SparedLaws.{spared, begins}
use Rattle.ledger.proofs.Laws.Steps.{step}
use Rattle.ledger.proofs.Laws.TreeAfter.{program-after}
use Rattle.ledger.proofs.Laws.ProgramKept.{ProgramKept, nothing-done, kept_trans}
use Rattle.ledger.proofs.Laws.Kept as ledger
use Rattle.journal.specs.Journal.{Kept}
use Rattle.journaled.specs.Edited.{Turn, is_accepted, kept_edited, kept_stated}
use Rattle.journaled.specs.Theorem.{Change, edit, maximum, IsLent, kept_changed_all, reports_in, call_of, HoldsAfter}
use Rattle.journaled.proofs.Laws.Stated.{stated-kept, stated-program}

-- each is lent no more than w words
abbrev pub AllChangesLent : ℕ → List Change → Type 0
AllChangesLent w [] = Unit {0}
AllChangesLent w (c ∷ changes) = IsLent w c × AllChangesLent w changes

ok-err : (v : Result Unit Refusal) → not (is_err v) ≡ is_ok v
ok-err (Ok _) = refl
ok-err (Err c) = refl

-- LAW: what holds after an edit
edit-kept : (w : ℕ) (t : Turn) (k : Kept) (l : Ledger) → IsLent w (edit t) → ledger.Kept w k.image l →
    ledger.Kept w (kept_edited t k).image (cond (is_accepted t k.image) (ledger_with t.edit l) l)
unfolding kept_edited
edit-kept w t k l lent K =
    subst (λ (b : Bool). ledger.Kept w (image_after t.edit t.account k.image t.words t.bytes) (cond b (ledger_with t.edit l) l))
    (ok-err (verdict_of t.edit t.account k.image t.words t.bytes))
    (step w k.image l K t.words t.bytes lent.0 t.account t.edit lent.1)

edit-program : (w : ℕ) (t : Turn) (k : Kept) (l : Ledger) → IsLent w (edit t) → ledger.Kept w k.image l → ProgramKept k.image (kept_edited t k).image
unfolding kept_edited
edit-program w t k l lent K = program-after t.edit t.account k.image t.words t.bytes K.bytes lent.1

-- LAW: and after all of them
pub changes-kept : (w : ℕ) (changes : List Change) (k : Kept) (l : Ledger) → AllChangesLent w changes → ledger.Kept w k.image l →
    ledger.Kept w (kept_changed_all changes k).image (ledger_after (reports_in changes k) l)
unfolding kept_changed_all reports_in ledger_after
changes-kept w [] k l lent K = K
changes-kept w (edit t ∷ changes) k l lent K =
    changes-kept w changes (kept_edited t k) (cond (is_accepted t k.image) (ledger_with t.edit l) l) lent.1 (edit-kept w t k l lent.0 K)
changes-kept w (maximum words n ∷ changes) k l lent K = changes-kept w changes (kept_stated n k) l lent.1 (stated-kept w k.image l K n)

pub changes-program : (w : ℕ) (changes : List Change) (k : Kept) (l : Ledger) → AllChangesLent w changes → ledger.Kept w k.image l →
    ProgramKept k.image (kept_changed_all changes k).image
unfolding kept_changed_all
changes-program w [] k l lent K = nothing-done k.image
changes-program w (edit t ∷ changes) k l lent K =
    kept_trans k.image (kept_edited t k).image (kept_changed_all changes (kept_edited t k)).image (edit-program w t k l lent.0 K)
    (changes-program w changes (kept_edited t k) (cond (is_accepted t k.image) (ledger_with t.edit l) l) lent.1 (edit-kept w t k l lent.0 K))
changes-program w (maximum words n ∷ changes) k l lent K =
    kept_trans k.image (kept_stated n k).image (kept_changed_all changes (kept_stated n k)).image (stated-program w k.image l K n)
    (changes-program w changes (kept_stated n k) l lent.1 (stated-kept w k.image l K n))

-- LAW: what is claimed of the last image
module _ (w₀ w : ℕ) (first : Kept) (changes : List Change) (b : AllBytes first.image) (e : opening first.image w₀ ≡ Ok tt)
    (h : w₀ ≤ w) (lent : AllChangesLent w changes) where
  abbrev last : List ℕ
  last = (kept_changed_all changes first).image

  abbrev reports : List Report
  reports = reports_in changes first

  abbrev l : Ledger
  l = ledger_after reports (first_ledger first.image)

  begun : ledger.Kept w first.image (first_ledger first.image)
  begun = start first.image w₀ w h b e

  kept : ledger.Kept w last l
  kept = changes-kept w changes first (first_ledger first.image) lent begun

  unnamed : (k : ℕ) (nm : List ℕ) (offset size : ℕ) → slice_index_or (nodes_in first.image) k empty_root ≡ file nm offset size →
      IsSpared reports (first_ledger first.image) (files_before k (nodes_in first.image)) →
      StillThere first.image last (number_after reports (first_ledger first.image) (files_before k (nodes_in first.image))) nm offset size
  unnamed k nm offset size q s =
      let f : ℕ = number_after reports (first_ledger first.image) (files_before k (nodes_in first.image)) in
      let g = spared reports (first_ledger first.image) (files_before k (nodes_in first.image)) _ nm s (begins first.image k nm offset size q) in
      let t = still-there w last l kept f (record { offset = offset; size = size }) nm (span first.image offset size) g.0.0 g.0.1 g.1.1 in
      record { entry = t.0; number = t.1; lies = t.2; bytes = t.3 }

  pub changes-hold : HoldsAfter w first.image (kept_changed_all changes first).image (reports_in changes first)
  changes-hold = record {
    ledger = kept-holds first.image w₀ w b e last l kept (changes-program w changes first (first_ledger first.image) lent begun);
    unnamed = unnamed;
  }

-- LAW: edits alone are calls
pub turns-calls : (turns : List Turn) (k : Kept) → (kept_changed_all (map edit turns) k).image ≡ image_after_all (map call_of turns) k.image
unfolding kept_changed_all image_after_all kept_edited
turns-calls [] k = refl
turns-calls (t ∷ turns) k = turns-calls turns (kept_edited t k)
