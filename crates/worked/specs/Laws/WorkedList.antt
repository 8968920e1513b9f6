-- A list of calls on the small master, worked: the image, the reports, the ledger and the record after it. Assumes nothing.
use Rattle.std.specs.Prelude.{ℕ, ◌≡◌, refl, true, false, List, [], ◌∷◌, ◌++◌, replicate, Ok}
use Rattle.endian.specs.Bytes.{put, span}
use Rattle.tree.specs.Table.{file, directory}
use Rattle.tree.specs.Insert.{raised_next, splice, insert_at, set_place}
use Rattle.space.specs.Free.{largest_size}
use Rattle.totals.specs.Totals.{new_teams}
use Rattle.disc.specs.Calls.{record_answer}
use Rattle.edit_rules.specs.Edits.{Edit, Account, insert_file, move_file, resize_file, fill_file, rewrite}
use Rattle.ledger.specs.Ledger.{files_before, put_in, first_histories, Ledger, first_ledger, Report, ledger_after}
use Rattle.ledger.specs.Runs.{Call, image_after_all, reports_of, totals_after_all, IsHandedOn}
use Rattle.worked.specs.Laws.Handed.{most}
use Rattle.worked.specs.Image.{master, master_words}
use Rattle.worked.specs.Laws.Maximum.{stating}
use Rattle.worked.specs.Laws.ListImages.{of_a, first, clip, last, space, total, at_first}
use Rattle.worked.specs.Laws.ListSteps.{totals, held, fresh, inserted, above, onto-itself, moved, filled-b, resized-b, rewritten}

-- ---- the calls

abbrev call : Edit → Account → Call
call ed a = record { edit = ed; account = a; words = master_words; bytes = 0x36 }

-- `b` put in; one entry more (26); `a` onto itself (20); `b`, which is empty, to where there is room; the clip; two bytes more; the table written anew
unfoldable pub list : List Call
list =
    call (insert_file 0 (0x62 ∷ [])) fresh ∷
    call (insert_file 0 (0x63 ∷ [])) (held 1644 6140 1) ∷
    call (move_file 1 0x580) (held 1644 6140 1) ∷
    call (move_file 2 0x900) (held 1644 6140 1) ∷
    call (fill_file 2 clip) (held 1644 6140 2) ∷
    call (resize_file 2 5) (held 1647 5885 3) ∷
    call rewrite (held 1649 5883 4) ∷ []

abbrev pub reports : List Report
reports =
    record { edit = insert_file 0 (0x62 ∷ []); accepted = true } ∷
    record { edit = insert_file 0 (0x63 ∷ []); accepted = false } ∷
    record { edit = move_file 1 0x580; accepted = false } ∷
    record { edit = move_file 2 0x900; accepted = true } ∷
    record { edit = fill_file 2 clip; accepted = true } ∷
    record { edit = resize_file 2 5; accepted = true } ∷
    record { edit = rewrite; accepted = true } ∷ []

-- what the ledger holds then: of `a` nothing new; `b` begins with the clip
abbrev pub ledger : Ledger
ledger = record {
  nodes = directory [] 3 ∷ file (0x61 ∷ []) 0 0x100 ∷ file (0x62 ∷ []) 0 5 ∷ [];
  histories = record { place = 0x500; bytes = of_a ++ replicate 0xF8 0; m = 0x100; named = false } ∷ record { place = 0; bytes = clip; m = 3; named = true } ∷ [];
}

-- ---- worked

-- team 0 may take whatever there is, and nothing is kept for any
abbrev pub limits : List ℕ
limits = most ∷ replicate 15 0

abbrev pub shares : List ℕ
shares = replicate 16 0

pub record Worked : Type 0 where
  pub made : record_answer first master_words limits shares ≡ Ok fresh.totals
  pub image : image_after_all list first ≡ last
  pub told : reports_of list first ≡ reports
  pub entered : ledger_after reports (first_ledger first) ≡ ledger
  -- each call is handed what the one before gave back
  pub handed-on : IsHandedOn fresh.totals list first
  pub handed-back : totals_after_all fresh.totals list first ≡ totals 1649 5883 5

pub first-a : span first 0x500 0x100 ≡ of_a ++ replicate 0xF8 0
unfolding first stating master put
first-a = refl

ledger-is : ledger_after reports (first_ledger first) ≡ ledger
unfolding ledger_after first_histories files_before put_in insert_at splice raised_next set_place
ledger-is = rw (at_first.tree, first-a)

handed-on : IsHandedOn fresh.totals list first
unfolding list
handed-on =
    rw (
      inserted.written,
      inserted.counted,
      above.written,
      above.counted,
      onto-itself.written,
      onto-itself.counted,
      moved.written,
      moved.counted,
      filled-b.written,
      filled-b.counted,
      resized-b.counted,
    )
    (refl, (refl, (refl, (refl, (refl, (refl, (refl, tt)))))))

pub worked : Worked
unfolding list image_after_all reports_of totals_after_all record_answer new_teams largest_size
worked = record {
  made = rw (at_first.opens, space at_first, total at_first);
  image = rw (inserted.written, above.written, onto-itself.written, moved.written, filled-b.written, resized-b.written, rewritten.written);
  told =
      rw (
        inserted.answered,
        inserted.written,
        above.answered,
        above.written,
        onto-itself.answered,
        onto-itself.written,
        moved.answered,
        moved.written,
        filled-b.answered,
        filled-b.written,
        resized-b.answered,
        resized-b.written,
        rewritten.answered,
      );
  entered = ledger-is;
  handed-on = handed-on;
  handed-back = rw (inserted.written, above.written, onto-itself.written, moved.written, filled-b.written, resized-b.written, rewritten.counted);
}
