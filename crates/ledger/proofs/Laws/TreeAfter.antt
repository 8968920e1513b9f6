-- Of every edit: if it is accepted, the tree read from the image afterwards is the one that it planned, offsets included, and the program is the
-- same, byte for byte. Assumes nothing.
use Rattle.std.specs.Prelude.{Ok, Err, is_err}
use Rattle.refusal.specs.Refusal.{Verdict}
use Rattle.std.specs.Prelude.{ℕ, ◌≤◌, ◌≡◌, cond, List}
use Rattle.std.proofs.Math.Path.{refl}
use Rattle.std.proofs.Common.{arith}
use Rattle.endian.specs.Bytes.{AllBytes}
use Rattle.opened.specs.Opening.{nodes_in, opening, disc_of}
use Rattle.edit_rules.specs.Edits.{Edit, Account, insert_file, insert_directory, make_directories, move_file, resize_file, fill_file, rewrite, plan_of, verdict_of, plan_tree, plan_image, image_after}
use Rattle.edit_rules.proofs.Laws.Accepted.{accepted}
use Rattle.ledger.specs.Ledger.{first_ledger}
use Rattle.ledger.specs.Runs.{IsPassable}
use Rattle.ledger.proofs.Laws.Opened.{opened}
use Rattle.ledger.proofs.Laws.Kept.{Kept}
use Rattle.ledger.proofs.Laws.ProgramKept.{ProgramKept, nothing-done}
use Rattle.ledger.proofs.Laws.Layout.{Lays}
use Rattle.ledger.proofs.Laws.Arrives.{Arrives, on-table, insert-file, insert-directory, make-directories, move, resize}
use Rattle.ledger.proofs.Laws.FillEdits.{fill}
use Rattle.ledger.proofs.Laws.Sequence.{start}

module _ (image : List ℕ) (words bytes : ℕ) (b : AllBytes image) (e : opening image words ≡ Ok tt) where
  same : words ≤ words
  same = omega arith

  K : Kept words image (first_ledger image)
  K = start image words words same b e

  -- LAW
  pub arrives : (ed : Edit) → IsPassable ed → Arrives image words bytes (plan_of ed (disc_of image))
  arrives (insert_file p nm) h = insert-file image words bytes words (first_ledger image) K same p nm
  arrives (insert_directory p nm) h = insert-directory image words bytes words (first_ledger image) K same p nm
  arrives (make_directories from path) h = make-directories image words bytes words (first_ledger image) K same from path
  arrives (move_file k to) h = move image words bytes words (first_ledger image) K same k to h
  arrives (resize_file k n) h = resize image words bytes words (first_ledger image) K same k n h
  arrives (fill_file k clip) h = fill words image (first_ledger image) K words bytes same k clip h
  arrives rewrite h = on-table image words bytes words (first_ledger image) K same (nodes_in image) (opened image words e b).well refl 0

module _ (ed : Edit) (account : Account) (image : List ℕ) (words bytes : ℕ) (b : AllBytes image) (h : IsPassable ed) where
  after : verdict_of ed account image words bytes ≡ Ok tt → (nodes_in (plan_image (plan_of ed (disc_of image)) image) ≡ plan_tree (plan_of ed (disc_of image)) (nodes_in image)) × ProgramKept image (plan_image (plan_of ed (disc_of image)) image) × Lays (plan_of ed (disc_of image)) image (plan_image (plan_of ed (disc_of image)) image)
  after v = let a = accepted ed account image words bytes v in arrives image words bytes b a.opens ed h a.own

  -- THEOREM: of every edit: if it is accepted, the tree read from the image afterwards is the planned one
  pub tree-after : verdict_of ed account image words bytes ≡ Ok tt → nodes_in (image_after ed account image words bytes) ≡ plan_tree (plan_of ed (disc_of image)) (nodes_in image)
  unfolding image_after
  tree-after v = rw v (after v).0

  -- THEOREM: accepted or refused, an edit leaves the program as it was
  pub program-after : ProgramKept image (image_after ed account image words bytes)
  unfolding image_after
  program-after = go (verdict_of ed account image words bytes) refl
    where
      go : (v : Verdict) → verdict_of ed account image words bytes ≡ v → ProgramKept image (cond (is_err v) image (plan_image (plan_of ed (disc_of image)) image))
      go (Ok _) e = (after e).1
      go (Err c) e = nothing-done image

-- THEOREM: a rewrite leaves the tree as it is
pub rewritten : (account : Account) (image : List ℕ) (words bytes : ℕ) → AllBytes image → verdict_of rewrite account image words bytes ≡ Ok tt → nodes_in (image_after rewrite account image words bytes) ≡ nodes_in image
rewritten account image words bytes b v = tree-after rewrite account image words bytes b tt v
