-- A fill's whole answer, 25 too, and the record that comes back are those of a resize to the clip's length; and with an account that stops
-- no edit, a clip of the file's own size is accepted and only the clip is written. Assumes nothing.
use Rattle.std.specs.Prelude.{Ok, Err}
use Rattle.refusal.specs.Refusal.{Verdict}
use Rattle.std.specs.Prelude.{ℕ, ◌≤◌, ◌≡◌, refl, List, length, get_or}
use Rattle.std.proofs.Common.{◌∙◌, arith}
use Rattle.endian.specs.Bytes.{put, AllBytes}
use Rattle.tree.specs.Table.{empty_root}
use Rattle.totals.specs.Totals.{team_verdict}
use Rattle.opened.specs.Opening.{nodes_in, free_space_of, used_of, region_of, opening, disc_of}
use Rattle.edit_rules.specs.Change.{filled}
use Rattle.edit_rules.specs.Edits.{Account, resize_file, fill_file, file_verdict, clip_verdict, plan_resize, plan_fill, plan_of, plan_verdict, plan_image, counted_verdict, verdict_of, image_after, totals_after}
use Rattle.edit_rules.proofs.Laws.Fills.{fill-verdict, own-size}
use Rattle.ledger.specs.Ledger.{Ledger, first_ledger}
use Rattle.ledger.proofs.Laws.Kept.{Kept}
use Rattle.ledger.proofs.Laws.FillEdits.{fill-used, fill-free}
use Rattle.ledger.proofs.Laws.Sequence.{start}
use Rattle.ledger.proofs.Laws.PlacesAfter.{passed-plan}
use Rattle.ledger.proofs.Laws.Unbounded.{IsUnbounded, own-record}

-- where the image opens and the fill's own tests pass, the resize leaves as many bytes used, and the same free
same-space : (image clip : List ℕ) (k words bytes : ℕ) → AllBytes image → AllBytes clip → opening image words ≡ Ok tt → plan_verdict (plan_of (fill_file k clip) (disc_of image)) (disc_of image) words bytes ≡ Ok tt →
    (used_of (plan_image (plan_of (fill_file k clip) (disc_of image)) image) ≡ used_of (plan_image (plan_of (resize_file k (length clip)) (disc_of image)) image))
    × (free_space_of (plan_image (plan_of (fill_file k clip) (disc_of image)) image) ≡ free_space_of (plan_image (plan_of (resize_file k (length clip)) (disc_of image)) image))
unfolding plan_fill
same-space image clip k words bytes b c o v =
    let l : Ledger = first_ledger image in
    let K : Kept words image l = start image words words (omega arith) b o in
    let q = passed-plan (clip_verdict (nodes_in image) k (length clip)) (filled k clip (plan_resize (free_space_of image) (nodes_in image) k (length clip))) image words bytes v in
    (fill-used words image l K words bytes (omega arith) k clip c q.0 q.1, fill-free words image l K words bytes (omega arith) k clip c q.0 q.1)

-- THEOREM: up to 2^32 - 1 bytes a fill's answer is that of a resize to the clip's length, and so is the record that comes back
pub fill-as-resize : (a : Account) (image clip : List ℕ) (k words bytes : ℕ) → AllBytes image → AllBytes clip → length clip ≤ 0xFFFFFFFF →
    (verdict_of (fill_file k clip) a image words bytes ≡ verdict_of (resize_file k (length clip)) a image words bytes)
    × (totals_after (fill_file k clip) a image words bytes ≡ totals_after (resize_file k (length clip)) a image words bytes)
unfolding totals_after verdict_of counted_verdict
fill-as-resize a image clip k words bytes b c short = go (opening image words) refl (team_verdict a.team) refl (plan_verdict (plan_of (fill_file k clip) (disc_of image)) (disc_of image) words bytes) refl
  where
    tests : plan_verdict (plan_of (fill_file k clip) (disc_of image)) (disc_of image) words bytes ≡ plan_verdict (plan_of (resize_file k (length clip)) (disc_of image)) (disc_of image) words bytes
    tests = fill-verdict image words bytes k clip short

    go : (o : Verdict) → opening image words ≡ o → (t : Verdict) → team_verdict a.team ≡ t → (v : Verdict) → plan_verdict (plan_of (fill_file k clip) (disc_of image)) (disc_of image) words bytes ≡ v →
        (verdict_of (fill_file k clip) a image words bytes ≡ verdict_of (resize_file k (length clip)) a image words bytes)
        × (totals_after (fill_file k clip) a image words bytes ≡ totals_after (resize_file k (length clip)) a image words bytes)
    go (Err x) o t i v e = (rw o, rw o)
    go (Ok _) o (Err x) i v e = (rw (o, i), rw (o, i))
    go (Ok _) o (Ok _) i (Err x) e = (rw (o, i, ← tests, e), rw (o, i, ← tests, e))
    go (Ok _) o (Ok _) i (Ok _) e = let s = same-space image clip k words bytes b c o e in (rw (← tests, s.0, s.1), rw (← tests, s.0, s.1))

-- THEOREM: a clip of the file's own size, with an account that stops no edit, is accepted with any number of working bytes, and nothing but the
-- clip is written
pub own-size-filled : (a : Account) (image clip : List ℕ) (k words bytes : ℕ) → AllBytes image → AllBytes clip → opening image words ≡ Ok tt → file_verdict (nodes_in image) k ≡ Ok tt → length clip ≡ (region_of (get_or (nodes_in image) k empty_root)).size → length clip ≤ 0xFFFFFFFF → IsUnbounded image a →
    (verdict_of (fill_file k clip) a image words bytes ≡ Ok tt) × (image_after (fill_file k clip) a image words bytes ≡ put image (region_of (get_or (nodes_in image) k empty_root)).offset clip)
unfolding image_after
own-size-filled a image clip k words bytes b c o f e h u =
    let s = own-size image words bytes k clip f e h in
    let v : verdict_of (fill_file k clip) a image words bytes ≡ Ok tt = own-record image words bytes b o (fill_file k clip) c a u ∙ s.0 in
    (v, rw v s.1)
