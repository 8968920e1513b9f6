-- The worked list as one call: its turns come to its calls, and each answer is worked. Assumes nothing.
use Rattle.std.specs.Prelude.{Ok, Err, ◌≡◌, List, [], ◌∷◌}
use Rattle.refusal.specs.declared.Refusal.TheVariants.{OverlappingMove, TableAboveMaximum}
use Rattle.edit_rules.specs.Edits.{Edit, insert_file, move_file, resize_file, fill_file, rewrite}
use Rattle.ledger.specs.Lists.{Turn, calls_of, answers_of}
use Rattle.worked.specs.Image.{master_words}
use Rattle.worked.specs.Laws.ListImages.{first, clip}
use Rattle.worked.specs.Laws.ListSteps.{fresh, inserted, above, onto-itself, moved, filled-b, resized-b, rewritten, insert-plan, move-plan, fill-plan, resize-plan}
use Rattle.worked.specs.Laws.WorkedList.{list}

abbrev turn : Edit → Turn
turn ed = record { team = 0; edit = ed }

abbrev pub turns : List Turn
turns =
    turn (insert_file 0 (0x62 ∷ [])) ∷
    turn (insert_file 0 (0x63 ∷ [])) ∷
    turn (move_file 1 0x580) ∷
    turn (move_file 2 0x900) ∷
    turn (fill_file 2 clip) ∷
    turn (resize_file 2 5) ∷
    turn rewrite ∷ []

-- each call is handed the image and the record that the one before gave back
pub come-to : calls_of turns fresh.totals first master_words 0x36 ≡ list
unfolding list calls_of
come-to =
    rw (
      inserted.written,
      inserted.counted,
      above.written,
      above.counted,
      onto-itself.written,
      onto-itself.counted,
      moved.written,
      moved.counted,
      filled-b.written,
      filled-b.counted,
      resized-b.counted,
    )

-- the entry that was made; above the stated maximum; onto itself; the file, three times; no entry
pub answered : answers_of list first ≡ Ok 2 ∷ Err TableAboveMaximum ∷ Err OverlappingMove ∷ Ok 2 ∷ Ok 2 ∷ Ok 2 ∷ Ok 0 ∷ []
unfolding list answers_of
answered =
    rw (
      inserted.answered,
      insert-plan,
      inserted.written,
      above.answered,
      above.written,
      onto-itself.answered,
      onto-itself.written,
      moved.answered,
      move-plan,
      moved.written,
      filled-b.answered,
      fill-plan,
      filled-b.written,
      resized-b.answered,
      resize-plan,
      resized-b.written,
      rewritten.answered,
    )
