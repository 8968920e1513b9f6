-- One reply of each kind, by computing: every slot holds a number of its own, in the order that host/include/counter.h gives them, so that the
-- order is said twice. Assumes nothing.
use Rattle.std.specs.Prelude.{Some, None, Ok, Err, ℕ, zero, suc, ◌+◌, ◌≡◌, refl, List, [], ◌∷◌}
use Rattle.refusal.specs.declared.Refusal.TheVariants.{LimitOrMemory, InvalidNameByte, NoSuchEntry, ExpectedFile, NotFound, NotEnoughSpace, InvalidSeek, InvalidDol, TotalsOutOfRange, OverlappingRegions, InvalidSheet}
use Rattle.tree.specs.declared.Entry.TheVariants.{File, Directory}
use Rattle.tree.specs.declared.Found.TheVariants as found
use Rattle.executable.specs.declared.dol.DolHeader.{DolHeader}
use Rattle.totals.specs.declared.team.Team.{Team}
use Rattle.totals.specs.declared.Totals.{Totals}
use Rattle.window.specs.declared.Window.{Window}
use Rattle.opened.specs.declared.faults.Owner.TheVariants as owner
use Rattle.opened.specs.declared.faults.About.TheVariants as about
use Rattle.counter.specs.Replies.{reply, accepted_reply, reply_of, fault_words, disc_words, disc_totals_words, region_words, one_word, run_words, window_in, window_words, totals_in, teams_at, totals_words, unit_words, dol_words, program_reply, found_reply, dol_reply, dol_window_reply, done_number, entry_reply, span_reply, sheet_reply}

-- slots as they were before the call
abbrev old : List ℕ
old = 91 ∷ 92 ∷ 93 ∷ []

-- n numbers from a on
rising : ℕ → ℕ → List ℕ
rising a zero = []
rising a (suc n) = a ∷ rising (suc a) n

-- "answer[5]: FST offset, FST size, disc end, entries, used total."; "answer[2]: disc end, used total."; "answer[2]: DOL offset, and the larger of
-- the file size and 0xE4; both 0 where the DOL offset is 0."
disc-slots :
    (reply_of disc_words old (Ok (record { fst_offset = 1; fst_size = 2; disc_end = 3; entries = 4; used = 5 })) ≡ reply 0 (1 ∷ 2 ∷ 3 ∷ 4 ∷ 5 ∷ [])) ×
    (reply_of disc_totals_words old (Ok (record { disc_end = 1; used = 2 })) ≡ reply 0 (1 ∷ 2 ∷ [])) ×
    (program_reply old (Ok (Some (record { offset = 1; size = 2 }))) ≡ reply 0 (1 ∷ 2 ∷ [])) ×
    (program_reply old (Ok None) ≡ reply 0 (0 ∷ 0 ∷ []))
unfolding program_reply
disc-slots = (refl, refl, refl, refl)

-- "answer[4]: number; kind, 0 a file and 1 a directory; a file's offset, or the directory that a directory is nested in (the root: 0); a file's size,
-- or the number after a directory's last entry."
entry-slots :
    (found_reply old (found.At 2 (File (record { offset = 3; size = 4 }))) ≡ reply 0 (2 ∷ 0 ∷ 3 ∷ 4 ∷ [])) ×
    (found_reply old (found.At 2 (Directory (record { parent = 3; next = 4 }))) ≡ reply 0 (2 ∷ 1 ∷ 3 ∷ 4 ∷ []))
unfolding found_reply
entry-slots = (refl, refl)

-- "answer[1]: how many regions."; the size of a region; "answer[2]: offset, size."; the length of a text; "the new entry's number in the new table"
number-slots :
    (reply_of one_word old (Ok 1) ≡ reply 0 (1 ∷ [])) ×
    (reply_of region_words old (Ok (record { offset = 1; size = 2 })) ≡ reply 0 (1 ∷ 2 ∷ [])) ×
    (entry_reply old (Ok tt) 1 ≡ reply 0 (1 ∷ []))
number-slots = (refl, refl, refl)

-- "answer[4]: how many were tried; where the cheapest of them starts, of equals the first; its cost;
-- and a bound"; "All four are 0 if none was tried"
run-slots :
    (reply_of run_words old (Ok (Some (record { tried = 1; offset = 2; cost = 3; bound = 4 }))) ≡ reply 0 (1 ∷ 2 ∷ 3 ∷ 4 ∷ [])) ×
    (reply_of run_words old (Ok None) ≡ reply 0 (0 ∷ 0 ∷ 0 ∷ 0 ∷ []))
run-slots = (refl, refl)

-- "unit[2]: its length in bytes .., and 0, 12 or 13"
unit-slots :
    (accepted_reply (unit_words (record { len = 1; verdict = Err InvalidNameByte })) ≡ reply 0 (1 ∷ 12 ∷ [])) ×
    (accepted_reply (unit_words (record { len = 2; verdict = Ok tt })) ≡ reply 0 (2 ∷ 0 ∷ []))
unit-slots = (refl, refl)

-- "answer[0]: the number that opening refuses the image with, 0 if it opens. answer[1]: what of the image that is about": nothing more, an entry, two
-- used regions, one, a section
fault-slots :
    (fault_words None ≡ 0 ∷ 0 ∷ 0 ∷ 0 ∷ []) ×
    (fault_words (Some (record { cause = InvalidDol; about = about.Image })) ≡ 24 ∷ 0 ∷ 0 ∷ 0 ∷ []) ×
    (fault_words (Some (record { cause = LimitOrMemory; about = about.Entry 7 })) ≡ 9 ∷ 1 ∷ 7 ∷ 0 ∷ []) ×
    (fault_words (Some (record { cause = OverlappingRegions; about = about.Shared owner.Program (owner.Entry 7) })) ≡ 14 ∷ 2 ∷ 0xFFFFFFFF ∷ 7 ∷ []) ×
    (fault_words (Some (record { cause = OverlappingRegions; about = about.PastEnd owner.Table })) ≡ 14 ∷ 3 ∷ 0 ∷ 0 ∷ []) ×
    (fault_words (Some (record { cause = InvalidDol; about = about.Section 17 })) ≡ 24 ∷ 4 ∷ 17 ∷ 0 ∷ [])
fault-slots = (refl, refl, refl, refl, refl, refl)

-- windows: "three slots of 64 bits, start, length and position"

abbrev a_window : Window
a_window = record { start = 1; len = 2; position = 3 }

window-slots :
    (window_in (1 ∷ 2 ∷ 3 ∷ []) ≡ a_window) ×
    (reply_of window_words old (Ok a_window) ≡ reply 0 (1 ∷ 2 ∷ 3 ∷ []))
window-slots = (refl, refl)

-- the record: 66 slots, used bytes, the size of the largest free region (0 if there is none), and of each of 16 teams its limit, its share, what
-- it has taken, and how many of its edits were accepted

-- n teams, with numbers from a on
teams_rising : ℕ → ℕ → List Team
teams_rising a zero = []
teams_rising a (suc n) = record { limit = a; share = a + 1; taken = a + 2; edits = a + 3 } ∷ teams_rising (a + 4) n

abbrev a_record : Totals
a_record = record { used = 1; largest = 2; teams = teams_rising 3 16 }

record-slots : (totals_in (rising 1 66) ≡ a_record) × (reply_of totals_words old (Ok a_record) ≡ reply 0 (rising 1 66))
unfolding rising teams_rising teams_at
record-slots = (refl, refl)

-- "header[57]: 7 text and 11 data offsets, 7 and 11 addresses, 7 and 11 sizes, BSS address, BSS size, entry point. window[3]: .."

abbrev a_header : DolHeader
a_header = record {
  text_offsets = rising 1 7;
  data_offsets = rising 8 11;
  text_addresses = rising 19 7;
  data_addresses = rising 26 11;
  text_sizes = rising 37 7;
  data_sizes = rising 44 11;
  bss_address = 55;
  bss_size = 56;
  entry_point = 57;
}

dol-slots :
    (dol_reply old (Ok (record { header = a_header; window = a_window })) ≡ reply 0 (rising 1 57)) ×
    (dol_window_reply old (Ok (record { header = a_header; window = a_window })) ≡ reply 0 (1 ∷ 2 ∷ 3 ∷ []))
unfolding rising dol_words
dol-slots = (refl, refl)

-- "with a number other than 0 they stay as they were"
refused-slots :
    (reply_of disc_words old (Err LimitOrMemory) ≡ reply 9 old) ×
    (reply_of disc_totals_words old (Err LimitOrMemory) ≡ reply 9 old) ×
    (program_reply old (Err InvalidDol) ≡ reply 24 old) ×
    (found_reply old (found.Refused NotFound) ≡ reply 18 old) ×
    (reply_of one_word old (Err LimitOrMemory) ≡ reply 9 old) ×
    (reply_of one_word old (Err ExpectedFile) ≡ reply 16 old) ×
    (reply_of region_words old (Err NotEnoughSpace) ≡ reply 21 old) ×
    (reply_of run_words old (Err NotEnoughSpace) ≡ reply 21 old) ×
    (reply_of one_word old (Err NoSuchEntry) ≡ reply 15 old) ×
    (entry_reply old (Err TotalsOutOfRange) 1 ≡ reply 25 old) ×
    (reply_of window_words old (Err ExpectedFile) ≡ reply 16 old) ×
    (reply_of window_words old (Err InvalidSeek) ≡ reply 23 old) ×
    (reply_of totals_words old (Err LimitOrMemory) ≡ reply 9 old) ×
    (dol_reply old (Err InvalidDol) ≡ reply 24 old) ×
    (dol_window_reply old (Err InvalidDol) ≡ reply 24 old)
unfolding program_reply found_reply
refused-slots = (refl, refl, refl, refl, refl, refl, refl, refl, refl, refl, refl, refl, refl, refl, refl)

-- "span[2]: offset, size", and as it was on a refusal
span-slots :
    (span_reply old (Ok tt) (record { offset = 1; size = 2 }) ≡ reply 0 (1 ∷ 2 ∷ [])) ×
    (span_reply old (Err NoSuchEntry) (record { offset = 1; size = 2 }) ≡ reply 15 old)
span-slots = (refl, refl)

-- "Every function returns 0 where it is accepted, and else the number of the first test that failed"
done-number : (done_number (Ok tt) 1 ≡ 0) × (done_number (Err NotEnoughSpace) 1 ≡ 21)
done-number = (refl, refl)

-- "line[1] ..: the number of that line, from 1; 0 where all ran, and for a refusal before the
-- first."
sheet-slots :
    (sheet_reply (Ok tt) ≡ reply 0 (0 ∷ [])) ×
    (sheet_reply (Err (record { line = 2; cause = NotFound })) ≡ reply 18 (2 ∷ [])) ×
    (sheet_reply (Err (record { line = 0; cause = InvalidSheet })) ≡ reply 30 (0 ∷ []))
sheet-slots = (refl, refl, refl)
