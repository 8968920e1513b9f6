-- The definitions of the list theorems at their bounds: the lists and files that they are to speak of (no call, and a call of each kind with the
-- most words; a record handed on; a start with nothing taken; files that no accepted edit names), and a table one byte above the maximum. A hypothesis that held of none
-- of these would leave its theorem with nothing to say. Assumes nothing.
use Rattle.std.specs.Prelude.{Ok, Err, ℕ, ◌+◌, ◌^◌, ◌<◌, ◌≡◌, refl, Bool, true, false, List, [], ◌∷◌, length, sum}
use Rattle.std.proofs.lemmas.Bool.{false≢true}
use Rattle.std.proofs.Common.{arith, ne_eqb}
use Rattle.endian.specs.Bytes.{AllBytes}
use Rattle.header.specs.Verdicts.{fst_size, fst_max_size}
use Rattle.refusal.specs.declared.Refusal.{Refusal}
use Rattle.totals.specs.declared.Totals.{Totals}
use Rattle.space.specs.Used.{total_size}
use Rattle.totals.proofs.Laws.NewTeams.{new-taken, new-shares}
use Rattle.opened.specs.Opening.{table_of, free_space_of}
use Rattle.disc.specs.Calls.{record_answer}
use Rattle.edit_rules.specs.Edits.{Edit, insert_file, insert_directory, make_directories, move_file, resize_file, fill_file, rewrite, Account, account, verdict_of, totals_after}
use Rattle.ledger.specs.Ledger.{Ledger, files_before, Report}
use Rattle.ledger.specs.Runs.{Call, image_after_all, IsHandedOn, accepted_count, AllWithin}
use Rattle.ledger.specs.Spared.{IsSpared}
use Rattle.ledger.specs.Theorem.{IsFairStart, WithinMaximum}
use Rattle.ledger.proofs.Laws.RecordTells.{made_of}

-- ---- the lists

abbrev call : Edit → Account → ℕ → ℕ → Call
call ed a words bytes = record { edit = ed; account = a; words = words; bytes = bytes }

-- LAW: a list without a call
pub none_within : (w : ℕ) → AllWithin w []
none_within w = tt

-- LAW: a call of each kind, lent all w words and handed any record and carrying any team; its numbers have 32 bits, and a clip is of bytes
pub each_within : (w bytes p start k to n : ℕ) (nm path clip : List ℕ) (a : Account) → to < 2 ^ 32 → n < 2 ^ 32 → AllBytes clip →
    AllWithin w (call (insert_file p nm) a w bytes ∷ call (insert_directory p nm) a w bytes ∷ call (make_directories start path) a w bytes ∷ call (move_file k to) a w bytes ∷ call (resize_file k n) a w bytes ∷ call (fill_file k clip) a w bytes ∷ call rewrite a w bytes ∷ [])
each_within w bytes p start k to n nm path clip a ht hn c = (omega arith, tt, (omega arith, tt, (omega arith, tt, (omega arith, ht, (omega arith, hn, (omega arith, c, (omega arith, tt, tt)))))))

-- ---- the record

-- LAW: any record is handed on through no call, and through two if the second is handed what the first gives back, whatever teams they carry
pub handed-none : (t : Totals) (image : List ℕ) → IsHandedOn t [] image
handed-none t image = tt

pub handed-two : (t : Totals) (image : List ℕ) (x y : Edit) (j k words bytes : ℕ) →
    IsHandedOn t (call x (account t j) words bytes ∷ call y (account (totals_after x (account t j) image words bytes) k) words bytes ∷ []) image
handed-two t image x y j k words bytes = (refl, (refl, tt))

-- LAW: a record made of an image whose free bytes are all shares together, none more, is a fair start
pub fair-made : (image : List ℕ) (w : ℕ) (limits shares : List ℕ) (t : Totals) → length limits ≡ length shares → record_answer image w limits shares ≡ Ok t → sum shares ≡ total_size (free_space_of image) → IsFairStart image t
fair-made image w limits shares t l e s =
    let m = (made_of image w limits shares t e).1 in
    record { nothing-taken = rw m (new-taken limits shares); shares-free = rw (m, new-shares limits shares l, s) (omega arith) }

-- ---- the files that no accepted edit names: file f, whatever the ledger holds

abbrev report : Edit → Bool → Report
report ed ok = record { edit = ed; accepted = ok }

module _ (l : Ledger) (f : ℕ) where
  -- LAW: where there is no edit
  pub spared-none : IsSpared [] l f
  spared-none = tt

  -- LAW: by accepted inserts, made directories and rewrites
  pub spared-unnaming : (p start : ℕ) (nm path : List ℕ) → IsSpared (report (insert_file p nm) true ∷ report (insert_directory p nm) true ∷ report (make_directories start path) true ∷ report rewrite true ∷ []) l f
  spared-unnaming p start nm path = (λ e. refl, (λ e. refl, (λ e. refl, (λ e. refl, tt))))

  -- LAW: by refused edits, though of file f itself
  pub spared-refused : (k to n : ℕ) (clip : List ℕ) → IsSpared (report (move_file k to) false ∷ report (resize_file k n) false ∷ report (fill_file k clip) false ∷ []) l f
  spared-refused k to n clip = (λ e. absurd (false≢true e), (λ e. absurd (false≢true e), (λ e. absurd (false≢true e), tt)))

  -- LAW: by an accepted move, resize or fill of another file
  pub spared_other : (k to n : ℕ) (clip : List ℕ) → (f ≡ files_before k l.nodes → ⊥) →
      IsSpared (report (move_file k to) true ∷ []) l f × IsSpared (report (resize_file k n) true ∷ []) l f × IsSpared (report (fill_file k clip) true ∷ []) l f
  spared_other k to n clip other =
      let e = ne_eqb f (files_before k l.nodes) other in
      ((λ a. e, tt), (λ a. e, tt), (λ a. e, tt))

-- ---- accepted edits are counted for their own team, refused ones for none

counted : (a b c : Call) (image : List ℕ) (r : Refusal) → a.account.team ≡ 3 → b.account.team ≡ 3 → c.account.team ≡ 5 →
    verdict_of a.edit a.account image a.words a.bytes ≡ Ok tt →
    verdict_of b.edit b.account (image_after_all (a ∷ []) image) b.words b.bytes ≡ Err r →
    verdict_of c.edit c.account (image_after_all (a ∷ b ∷ []) image) c.words c.bytes ≡ Ok tt →
    (accepted_count 3 (a ∷ b ∷ c ∷ []) image ≡ 1) × (accepted_count 4 (a ∷ b ∷ c ∷ []) image ≡ 0) × (accepted_count 5 (a ∷ b ∷ c ∷ []) image ≡ 1)
unfolding accepted_count image_after_all
counted a b c image r ta tb tc va vb vc = (rw (va, vb, vc, ta, tb, tc), rw (ta, tb, tc), rw (va, vb, vc, ta, tb, tc))

-- ---- the maximum

-- LAW: a table one byte above the maximum is the first one
pub one-above : (first last : List ℕ) → WithinMaximum first last → 0 < fst_max_size first → fst_size last ≡ fst_max_size first + 1 → table_of last ≡ table_of first
one-above first last m stated e = (m.larger stated (omega arith)).1
