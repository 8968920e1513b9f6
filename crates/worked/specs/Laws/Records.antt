-- Worked totals records, by computing, on the small master: a record made, moved by each kind of edit that is
-- accepted, and 25 at each end of its range. Assumes nothing.
use Rattle.std.specs.Prelude.{Ok, Err}
use Rattle.std.specs.Prelude.{ℕ, ◌-◌, ◌≡◌, refl, ◌∷◌, replicate}
use Rattle.refusal.specs.declared.Refusal.TheVariants.{OverlappingMove, NotEnoughSpace, TotalsOutOfRange}
use Rattle.refusal.specs.Refusal.{number_of}
use Rattle.space.specs.Free.{largest_size}
use Rattle.space.specs.MaxRegionSize.{size_beside_free, max_size_from}
use Rattle.totals.specs.declared.Totals.{Totals}
use Rattle.totals.specs.Totals.{new_teams, remainders, team_verdict, totals_verdict, moved_totals}
use Rattle.disc.specs.Calls.{record_answer}
use Rattle.edit_rules.specs.Edits.{Account, move_file, resize_file, rewrite, plan_move, counted_verdict, verdict_of}
use Rattle.worked.specs.Laws.Handed.{most, teams_after, handed}
use Rattle.worked.specs.Image.{master, master_words, master_bytes}
use Rattle.worked.specs.Laws.Marked.{opens, nodes, free, used, fresh}
use Rattle.worked.specs.Laws.Planned.{accepted-by, refused-by, refused}
use Rattle.worked.specs.Laws.OnMaster.{answer, image, after, costless, resizes}

abbrev totals : ℕ → ℕ → ℕ → ℕ → Totals
totals used largest taken edits = record { used = used; largest = largest; teams = teams_after taken edits }

-- a record that can count no more edits of the team
abbrev counted-out : Account
counted-out = handed 1370 6656 most

pub record Records : Type 0 where
  -- in one that is made the teams have taken nothing
  pub made : record_answer master master_words (most ∷ replicate 15 0) (replicate 16 0) ≡ Ok fresh.totals
  -- `a` grown by 500 bytes, which the free region behind it loses
  pub grown : (answer (resize_file 1 756) fresh ≡ Ok tt) × (after (resize_file 1 756) fresh ≡ totals 1870 6156 500 1)
  -- a resize to the present size writes nothing, and counts
  pub same_size : (answer (resize_file 1 0x100) fresh ≡ Ok tt) × (after (resize_file 1 0x100) fresh ≡ totals 1370 6656 0 1) × (image (resize_file 1 0x100) fresh ≡ master)
  -- a bare rewrite counts
  pub rewritten : (answer rewrite fresh ≡ Ok tt) × (after rewrite fresh ≡ totals 1370 6656 0 1)
  -- a move uses no more bytes; of the region behind `a` 6400 are left
  pub moved : (answer (move_file 1 0x600) fresh ≡ Ok tt) × (after (move_file 1 0x600) fresh ≡ totals 1370 6400 0 1)
  -- a record that is not the image's: used bytes and count move from what it holds, and the largest region is that of the new image
  pub other : after (resize_file 1 756) (handed 5 7 9) ≡ totals 505 6156 500 10
  pub largest : (n : ℕ) → (after rewrite (handed 1370 n 0) ≡ totals 1370 6656 0 1) × (after (resize_file 1 0x100) (handed 1370 n 0) ≡ totals 1370 6656 0 1)
  -- the last edit that can be counted, and one more: 25, and all is left as it was
  pub last : (answer rewrite (handed 1370 6656 (most - 1)) ≡ Ok tt) × (after rewrite (handed 1370 6656 (most - 1)) ≡ totals 1370 6656 0 most)
  pub full : (answer rewrite counted-out ≡ Err TotalsOutOfRange) × (image rewrite counted-out ≡ master) × (after rewrite counted-out ≡ counted-out.totals)
  pub full-same : answer (resize_file 1 0x100) counted-out ≡ Err TotalsOutOfRange
  -- one byte less: a record that says 1 byte is used, and one that says none
  pub below : (answer (resize_file 1 0xFF) (handed 1 6656 0) ≡ Ok tt) × (answer (resize_file 1 0xFF) (handed 0 6656 0) ≡ Err TotalsOutOfRange)
  -- one byte more, where there is room for one and for none
  pub above : (answer (resize_file 1 0x101) (handed (most - 1) 6656 0) ≡ Ok tt) × (answer (resize_file 1 0x101) (handed most 6656 0) ≡ Err TotalsOutOfRange)
  -- 25 comes last: with that record too a move to no free place is 21, and one onto the file itself 20
  pub before-25 : (answer (move_file 1 0x400) counted-out ≡ Err NotEnoughSpace) × (answer (move_file 1 0x580) counted-out ≡ Err OverlappingMove) × (after (move_file 1 0x400) counted-out ≡ counted-out.totals)
  pub numbers : (number_of TotalsOutOfRange ≡ 25) × (number_of NotEnoughSpace ≡ 21) × (number_of OverlappingMove ≡ 20)

made : record_answer master master_words (most ∷ replicate 15 0) (replicate 16 0) ≡ Ok fresh.totals
unfolding record_answer new_teams largest_size
made = rw (opens, free, used)

not_free : answer (move_file 1 0x400) counted-out ≡ Err NotEnoughSpace
unfolding verdict_of counted_verdict team_verdict plan_move max_size_from size_beside_free
not_free = rw (opens, nodes, free)

onto-itself : answer (move_file 1 0x580) counted-out ≡ Err OverlappingMove
unfolding verdict_of counted_verdict team_verdict plan_move
onto-itself = rw (opens, nodes)

pub records : Records
unfolding team_verdict totals_verdict remainders moved_totals
records =
    let grown = accepted-by resizes.to_756 fresh refl in
    let same = accepted-by costless.same_size fresh refl in
    let rewritten = accepted-by costless.rewritten fresh refl in
    let moved = accepted-by costless.moved fresh refl in
    let last = accepted-by costless.rewritten (handed 1370 6656 (most - 1)) refl in
    let full = refused-by costless.rewritten counted-out TotalsOutOfRange refl in
    record {
      made = made;
      grown = (grown.answered, grown.counted);
      same_size = (same.answered, same.counted, same.written);
      rewritten = (rewritten.answered, rewritten.counted);
      moved = (moved.answered, moved.counted);
      other = (accepted-by resizes.to_756 (handed 5 7 9) refl).counted;
      largest = λ n. ((accepted-by costless.rewritten (handed 1370 n 0) refl).counted, (accepted-by costless.same_size (handed 1370 n 0) refl).counted);
      last = (last.answered, last.counted);
      full = (full.answered, full.written, full.counted);
      full-same = (refused-by costless.same_size counted-out TotalsOutOfRange refl).answered;
      below = ((accepted-by resizes.to_255 (handed 1 6656 0) refl).answered, (refused-by resizes.to_255 (handed 0 6656 0) TotalsOutOfRange refl).answered);
      above = ((accepted-by resizes.to_257 (handed (most - 1) 6656 0) refl).answered, (refused-by resizes.to_257 (handed most 6656 0) TotalsOutOfRange refl).answered);
      before-25 = (not_free, onto-itself, (refused master_bytes NotEnoughSpace (move_file 1 0x400) counted-out master not_free).counted);
      numbers = (refl, refl, refl);
    }
