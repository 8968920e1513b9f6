-- After an accepted fill the file's window shows exactly the clip, and the file, opened and read, is the clip. Assumes nothing.
use Rattle.std.specs.Prelude.{Result, Ok, Err}
use Rattle.refusal.specs.declared.Refusal.{Refusal}
use Rattle.window.specs.declared.Window.{Window}
use Rattle.std.specs.Prelude.{ℕ, zero, suc, ◌+◌, ◌<◌, ◌≤◌, ◌≡◌, List, [], ◌∷◌, length, get_or}
use Rattle.std.proofs.Common.{ap, ⊎_elim}
use native.Mathlib.Omega.{arith}
use borrow.Author.Tests.{lt-ltb}
use Rattle.endian.specs.Bytes.{put, AllBytes}
use Rattle.refusal.specs.Laws.Tests.{lt-or-le}
use Rattle.tree.specs.Table.{Node, file, empty_root}
use Rattle.window.specs.Window.{new_window, count_of, buffer_of}
use Rattle.disc.specs.Files.{open_file_answer, entry_answer}
use Rattle.opened.specs.Opening.{nodes_in, free_space_of, opening}
use Rattle.edit_rules.specs.Change.{filled}
use Rattle.edit_rules.specs.Edits.{Account, fill_file, clip_verdict, plan_resize, plan_fill, plan_image, verdict_of, image_after}
use Rattle.edit_rules.proofs.Laws.Accepted.{accepted}
use Rattle.ledger.specs.Ledger.{Ledger, first_ledger}
use Rattle.ledger.specs.Theorem.{ShowsClip, FillReads}
use Rattle.ledger.proofs.Laws.Kept.{Kept}
use Rattle.ledger.proofs.Laws.Clipped.{with_clip, Shown}
use Rattle.ledger.proofs.Laws.FillEdits.{fill_shows, fill_is}
use Rattle.ledger.proofs.Laws.Sequence.{start}
use Rattle.ledger.proofs.Laws.Steps.{step}
use Rattle.ledger.proofs.Laws.PlacesAfter.{passed-plan}

-- a file that is there is within the table
file-inside : (nodes : List Node) (k : ℕ) (nm : List ℕ) (o n : ℕ) → get_or nodes k empty_root ≡ file nm o n → k < length nodes
file-inside [] k nm o n e = let z : ◌≡◌ {A = ℕ} 0 1 = cc in absurd (omega arith)
file-inside (x ∷ xs) zero nm o n e = omega arith
file-inside (x ∷ xs) (suc k) nm o n e = omega (arith, file-inside xs k nm o n e)

module _ (image : List ℕ) (w k : ℕ) (opens : opening image w ≡ Ok tt) (nm : List ℕ) (at : ℕ) (clip : List ℕ) (lies : get_or (nodes_in image) k empty_root ≡ file nm at (length clip)) (shown : Shown image at clip) where
  shows : ShowsClip image w k clip
  unfolding open_file_answer entry_answer
  shows = record {
    offset = at;
    window = rw (opens, lt-ltb k (length (nodes_in image)) (file-inside (nodes_in image) k nm at (length clip) lies), lies);
    count = count;
    bytes = λ buffer h. rw (count (length buffer) h, start-there) (ap (put buffer 0) shown.bytes);
  }
    where
      start-there : at + 0 ≡ at
      start-there = omega arith

      count : (asked : ℕ) → length clip ≤ asked → count_of (new_window at (length clip)) (length image) asked ≡ length clip
      count asked h = ⊎_elim (λ z. omega (arith, shown.inside z)) (λ z. omega arith) (lt-or-le 0 (length clip))

-- THEOREM
pub fill-reads : FillReads
unfolding image_after plan_fill
fill-reads account image clip k words bytes w b c lent v =
    let e = accepted (fill_file k clip) account image words bytes v in
    let l : Ledger = first_ledger image in
    let K : Kept w image l = start image words w lent b e.opens in
    let q = passed-plan (clip_verdict (nodes_in image) k (length clip)) (filled k clip (plan_resize (free_space_of image) (nodes_in image) k (length clip))) image words bytes e.own in
    let s = fill_shows w image l K words bytes lent k clip c q.0 q.1 in
    let i : image_after (fill_file k clip) account image words bytes ≡ with_clip (plan_image (plan_resize (free_space_of image) (nodes_in image) k (length clip)) image) k clip = rw v (fill_is w image l K words bytes lent k clip c q.0 q.1) in
    rw i (shows _ w k (rw i at (step w image l K words bytes lent account (fill_file k clip) c).opens) s.0 _ clip s.1 s.2)

-- what opening file k and reading all of it puts in front of a buffer
abbrev pub read_into : Result Window Refusal → List ℕ → List ℕ → List ℕ
read_into (Ok win) image buffer = buffer_of win image buffer
read_into (Err c) image buffer = buffer

-- THEOREM: the file is opened and read: the clip, and the rest of the buffer as it was
pub read_back : (account : Account) (image clip : List ℕ) (k words bytes w : ℕ) → AllBytes image → AllBytes clip → words ≤ w → verdict_of (fill_file k clip) account image words bytes ≡ Ok tt → (buffer : List ℕ) → length clip ≤ length buffer →
    read_into (open_file_answer (image_after (fill_file k clip) account image words bytes) w k) (image_after (fill_file k clip) account image words bytes) buffer ≡ put buffer 0 clip
read_back account image clip k words bytes w b c lent v buffer h = let s = fill-reads account image clip k words bytes w b c lent v in rw s.window (s.bytes buffer h)
