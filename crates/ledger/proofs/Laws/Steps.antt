-- A call keeps image and ledger. Assumes nothing.
use Rattle.std.specs.Prelude.{Ok, Err, is_err}
use Rattle.refusal.specs.Refusal.{Verdict}
use Rattle.std.specs.Prelude.{ℕ, ◌≤◌, ◌≡◌, cond, not, List}
use Rattle.std.proofs.Math.Path.{refl}
use Rattle.opened.specs.Opening.{disc_of}
use Rattle.edit_rules.specs.Edits.{Edit, Account, insert_file, insert_directory, make_directories, move_file, resize_file, fill_file, rewrite, plan_of, verdict_of, plan_image, image_after}
use Rattle.edit_rules.proofs.Laws.Accepted.{accepted}
use Rattle.ledger.specs.Ledger.{Ledger, ledger_with}
use Rattle.ledger.specs.Runs.{IsPassable}
use Rattle.ledger.proofs.Laws.Kept.{Kept}
use Rattle.ledger.proofs.Laws.Plans.{Good}
use Rattle.ledger.proofs.Laws.TableEdits.{step-rewrite, step-insert-directory, step-insert-file, step-make-directories}
use Rattle.ledger.proofs.Laws.PlaceEdits.{step_move, step-resize}
use Rattle.ledger.proofs.Laws.FillEdits.{step-fill}

module _ (w : ℕ) (image : List ℕ) (l : Ledger) (K : Kept w image l) (words bytes : ℕ) (lent : words ≤ w) where
  -- LAW: a plan whose own tests pass keeps what holds
  pub step-accepted : (ed : Edit) → IsPassable ed → Good w image words bytes (plan_of ed (disc_of image)) (ledger_with ed l)
  step-accepted (insert_file p nm) h = step-insert-file w image l K words bytes lent p nm
  step-accepted (insert_directory p nm) h = step-insert-directory w image l K words bytes lent p nm
  step-accepted (make_directories start path) h = step-make-directories w image l K words bytes lent start path
  step-accepted (move_file k to) h = step_move w image l K words bytes lent k to h
  step-accepted (resize_file k n) h = step-resize w image l K words bytes lent k n h
  step-accepted (fill_file k clip) h = step-fill w image l K words bytes lent k clip h
  step-accepted rewrite h = step-rewrite w image l K words bytes lent

  -- LAW: a call keeps what holds; a refused one changes neither image nor ledger
  pub step : (account : Account) (ed : Edit) → IsPassable ed → Kept w (image_after ed account image words bytes) (cond (not (is_err (verdict_of ed account image words bytes))) (ledger_with ed l) l)
  unfolding image_after
  step account ed h = go (verdict_of ed account image words bytes) refl
    where
      go : (v : Verdict) → verdict_of ed account image words bytes ≡ v → Kept w (cond (is_err v) image (plan_image (plan_of ed (disc_of image)) image)) (cond (not (is_err v)) (ledger_with ed l) l)
      go (Ok _) e = step-accepted ed h (accepted ed account image words bytes e).own
      go (Err c) e = K
