-- The theorems about an edit in three calls, applied to a move of `a` after the worked list, of a team whose record holds what the image does not
-- say: their hypotheses hold there, and what they say is read off in numbers. Assumes nothing.
use Rattle.std.specs.Prelude.{Ok, Err}
use Rattle.std.specs.Prelude.{ℕ, ◌≤◌, ◌≡◌, refl, false, List, [], ◌∷◌, ◌++◌, map, length, replicate, slice_index, slice_index_or}
use Rattle.std.proofs.Common.{ap, arith, sym, ◌∙◌}
use Rattle.endian.specs.Bytes.{be24, be32, be32_bytes, put, span, AllBytes}
use Rattle.refusal.specs.declared.Refusal.TheVariants.{NoSuchEntry, FreeBelowShares, SpanNotFree}
use Rattle.header.specs.Fields.{fields}
use Rattle.header.specs.Verdicts.{field_verdict, all_fields_verdict, header_verdict, bounds_verdict}
use Rattle.tree.specs.Units.{units}
use Rattle.tree.specs.Table.{Node, file, directory, empty_root, is_plain, is_safe, count, name_at, node_at, nodes_from, nodes_of, entry_verdict, entries_verdict, is_unended, dirs_open_at, name_verdict, next_verdict, walk, check, parent_below, parent_of, entries_bytes, texts_of, encode, is_shallow_from, is_shallow, limits}
use Rattle.tree.specs.Insert.{set_place}
use Rattle.space.specs.Used.{is_used, nonempty_regions, total_size}
use Rattle.space.specs.Layout.{are_disjoint, is_disjoint_from_all, are_pairwise_disjoint, are_below, are_disjoint_below}
use Rattle.space.specs.Free.{runs, free_regions, largest_size}
use Rattle.space.specs.MaxRegionSize.{size_beside_free, max_size_from}
use Rattle.totals.specs.declared.Totals.{Totals}
use Rattle.totals.specs.Totals.{remainders, team_verdict, totals_verdict, moved_totals}
use Rattle.executable.specs.Dol.{words_at, largest_of}
use Rattle.executable.specs.Program.{program_of, program_in, own_region}
use Rattle.opened.specs.Opening.{table_of, nodes_in, regions_behind_table, used_in, free_space_of, used_of, opening, layout_verdict, disc_of}
use Rattle.edit_rules.specs.Change.{Change, change, image_with_table, written_image, table_verdict, place_verdict}
use Rattle.edit_rules.specs.Edits.{Edit, Account, account, move_file, relocation_change, plan_move, plan_of, plan_verdict, plan_image, verdict_of, totals_after}
use Rattle.ledger.specs.Ledger.{Ledger, node_without_place, files_before, first_histories, history_of, first_ledger, ledger_with}
use Rattle.ledger.specs.Theorem.{LedgerHolds}
use Rattle.steps.specs.Parts.{image_after_copy, image_after_table, zero_verdict, image_after_zeros}
use Rattle.steps.specs.Places.{DifferOnlyIn, DifferOnlyInTable, IsWhollyFree}
use Rattle.steps.specs.Theorem.{first_cut, second_cut, span_left, ReadsAs, IsDoneByThree}
use Rattle.steps.proofs.Laws.ThreeCalls.{three-calls}
use Rattle.steps.proofs.Laws.CutsKept.{cuts-kept}
use Rattle.steps.proofs.Laws.OwnParts.{own-copy, own-table, own-zeros}
use Rattle.steps.proofs.Laws.WhollyFree.{zeroes-what-is-free}
use Rattle.worked.specs.Image.{master, master_words}
use Rattle.worked.specs.Laws.Handed.{most, team, teams}
use Rattle.worked.specs.Laws.Marked.{at}
use Rattle.worked.specs.Laws.Maximum.{stating}
use Rattle.worked.specs.Laws.Planned.{Step, accepted-by, refused-by}
use Rattle.worked.specs.Laws.ListImages.{of_a, first, clip, with_b, last, Reads, space, total, tree_b, at_first, at_last}
use Rattle.worked.specs.Laws.ListSteps.{planned}
use Rattle.worked.specs.Laws.WorkedList.{list, ledger, worked}
use Rattle.worked.specs.Laws.Applied.{bytes_only, bytes-only, bytes, within, any_file, stays}

-- ---- the move, by computing

abbrev move : Edit
move = move_file 1 0x600

abbrev bytes_of_a : List ℕ
bytes_of_a = of_a ++ replicate 0xF8 0

-- `a` at 0x600, and zeros where it was
unfoldable pub moved : List ℕ
moved = put (put (put last 0x450 (be32_bytes 0x600)) 0x600 bytes_of_a) 0x500 (replicate 0x100 0)

abbrev tree_moved : List Node
tree_moved = directory [] 3 ∷ file (0x61 ∷ []) 0x600 0x100 ∷ file (0x62 ∷ []) 0x900 5 ∷ []

at-moved : Reads moved tree_moved (at 1128 408 ∷ at 2052 252 ∷ at 2309 5883 ∷ []) 0x28 1649
unfolding moved with_b first stating master put opening layout_verdict header_verdict all_fields_verdict field_verdict fields bounds_verdict table_of check nodes_in nodes_of nodes_from node_at name_at count entries_verdict entry_verdict is_unended walk name_verdict next_verdict dirs_open_at is_plain is_safe be24 be32 used_in regions_behind_table program_of program_in own_region words_at largest_of nonempty_regions are_disjoint_below are_pairwise_disjoint is_disjoint_from_all are_disjoint are_below units free_regions runs is_used total_size
at-moved = record { opens = refl; tree = refl; runs = refl; header = (refl, refl, refl, refl); gaps = refl; sizes = refl }

abbrev move_a : Change
move_a = relocation_change (tree_b 0x900 5) 1 (at 0x500 0x100) (at 0x600 0x100)

move-plan : plan_of move (disc_of last) ≡ change 1 move_a
unfolding plan_move max_size_from size_beside_free
move-plan = rw (at_last.tree, space at_last)

move-tests : plan_verdict (change 1 move_a) (disc_of last) master_words 0x36 ≡ Ok tt
unfolding table_verdict place_verdict limits is_shallow is_shallow_from dirs_open_at texts_of encode entries_bytes parent_of parent_below max_size_from size_beside_free set_place
move-tests = rw (space at_last, at_last.header.2, at_last.header.0, at_last.header.1)

move-writes : plan_image (change 1 move_a) last ≡ moved
unfolding moved with_b first stating master put be32 texts_of encode entries_bytes parent_of parent_below written_image image_with_table set_place
move-writes = refl

-- team 1 edits; the record does not hold the largest free region's size, and keeps all that is free for team 2
abbrev record_with : ℕ → ℕ → Totals
record_with largest edits = record { used = 1649; largest = largest; teams = teams (team most 0 19 5 ∷ team 7 5 3 edits ∷ team most 6543 0 0 ∷ []) }

abbrev by_1 : Account
by_1 = account (record_with 7 2) 1

accepted : Step 0x36 (Ok tt) move by_1 last moved (record_with 5883 3)
unfolding team_verdict totals_verdict remainders moved_totals largest_size total_size
accepted = accepted-by (planned at_last at-moved move _ move-plan move-tests move-writes) by_1 refl

last-bytes : AllBytes last
unfolding with_b first stating master put bytes_only
last-bytes = bytes-only last refl

moved-a : span moved 0x600 0x100 ≡ bytes_of_a
unfolding moved with_b first stating master put
moved-a = refl

-- ---- in three calls

abbrev cut₁ : List ℕ
cut₁ = first_cut move by_1 last master_words 0x36

abbrev cut₂ : List ℕ
cut₂ = second_cut move by_1 last master_words 0x36

three : IsDoneByThree move by_1 last master_words 0x36
three = three-calls move by_1 last master_words 0x36 (omega arith) last-bytes accepted.answered

-- the image that a cut leaves
pub record Cut (cut : List ℕ) (place : ℕ) (nodes : List Node) : Type 0 where
  pub opens : opening cut master_words ≡ Ok tt
  pub tree : nodes_in cut ≡ nodes
  pub of-a : span cut place 0x100 ≡ bytes_of_a
  pub used : used_of cut ≡ 1649
  pub largest : largest_size (free_space_of cut) ≡ 5883
  pub ledger : history_of (first_ledger cut) 1 ≡ record { place = place; bytes = bytes_of_a; m = 0x100; named = false }

cut : {old cut : List ℕ} {place : ℕ} {nodes : List Node} {gaps : List _} → ReadsAs master_words old cut → Reads old nodes gaps 0x28 1649 → slice_index_or nodes 1 empty_root ≡ file (0x61 ∷ []) place 0x100 → span old place 0x100 ≡ bytes_of_a →
    largest_size gaps ≡ 5883 → history_of (first_ledger old) 1 ≡ record { place = place; bytes = bytes_of_a; m = 0x100; named = false } → Cut cut place nodes
cut r o a b g h = record {
  opens = r.opens;
  tree = r.tree ∙ o.tree;
  of-a = r.files 1 (0x61 ∷ []) _ 0x100 (rw (r.tree, o.tree) a) ∙ b;
  used = r.used ∙ total o;
  largest = rw (r.free, space o) g;
  ledger = ap (λ (l : Ledger). history_of l 1) r.ledger ∙ h;
}

pub record Done : Type 0 where
  pub first : Cut cut₁ 0x500 (tree_b 0x900 5)
  -- the second call, and its record
  pub accepted : verdict_of move by_1 cut₁ master_words 0x36 ≡ Ok tt
  pub counted : totals_after move by_1 cut₁ master_words 0x36 ≡ record_with 5883 3
  pub left : span_left move by_1 last master_words 0x36 ≡ at 1280 256
  pub second : Cut cut₂ 0x600 tree_moved
  -- the third
  pub zeroes : zero_verdict cut₂ master_words (at 1280 256) ≡ Ok tt
  pub whole : image_after_zeros cut₂ master_words (at 1280 256) ≡ moved

last-history : history_of (first_ledger last) 1 ≡ record { place = 0x500; bytes = bytes_of_a; m = 0x100; named = false }
unfolding first_histories files_before
last-history = rw (at_last.tree, stays.bytes)

moved-history : history_of (first_ledger moved) 1 ≡ record { place = 0x600; bytes = bytes_of_a; m = 0x100; named = false }
unfolding first_histories files_before
moved-history = rw (at-moved.tree, moved-a)

largest-is : (largest_size (at 1128 152 ∷ at 1536 256 ∷ at 2052 252 ∷ at 2309 5883 ∷ []) ≡ 5883) × (largest_size (at 1128 408 ∷ at 2052 252 ∷ at 2309 5883 ∷ []) ≡ 5883)
unfolding largest_size
largest-is = (refl, refl)

left : span_left move by_1 last master_words 0x36 ≡ at 1280 256
unfolding plan_move max_size_from size_beside_free
left = rw (three.first.tree, at_last.tree, three.first.free, space at_last)

pub done : Done
done = record {
  first = cut three.first at_last refl stays.bytes largest-is.0 last-history;
  accepted = three.second-accepted;
  counted = three.record-whole ∙ accepted.counted;
  left = left;
  second = cut (rw accepted.written at three.second) at-moved refl moved-a largest-is.1 moved-history;
  zeroes = rw left at three.third-accepted;
  whole = (rw left at three.image-whole) ∙ accepted.written;
}

-- ---- at both cuts what held after the list holds, with as many words as the first opening was lent or more

cuts : (w : ℕ) → master_words ≤ w → LedgerHolds w first cut₁ ledger × LedgerHolds w first cut₂ (ledger_with move ledger)
cuts w h = rw (worked.image, worked.told, worked.entered) at (cuts-kept first master_words w list bytes at_first.opens h (within w h) move by_1 master_words 0x36 (omega arith) h (rw worked.image accepted.answered))

pub record CutHolds (w : ℕ) (cut : List ℕ) : Type 0 where
  pub opens : opening cut w ≡ Ok tt
  pub tree : map node_without_place (nodes_in cut) ≡ directory [] 3 ∷ file (0x61 ∷ []) 0 0x100 ∷ file (0x62 ∷ []) 0 5 ∷ []
  -- `a` has all the bytes that it had before the list, and `b` begins with the clip
  pub of-a : (nm : List ℕ) (offset size : ℕ) → slice_index_or (nodes_in cut) 1 empty_root ≡ file nm offset size → (0x100 ≤ size) × (span cut offset 0x100 ≡ bytes_of_a)
  pub of-b : (nm : List ℕ) (offset size : ℕ) → slice_index_or (nodes_in cut) 2 empty_root ≡ file nm offset size → (3 ≤ size) × (span cut offset 3 ≡ clip)

pub first-holds : (w : ℕ) → master_words ≤ w → CutHolds w cut₁
unfolding files_before
first-holds w h =
    let d = (cuts w h).0 in
    record {
      opens = d.opens;
      tree = d.tree;
      of-a = λ nm offset size e. let f = any_file d 1 nm offset size e _ refl in (f.0, f.2);
      of-b = λ nm offset size e. let f = any_file d 2 nm offset size e _ refl in (f.0, f.2);
    }

pub second-holds : (w : ℕ) → master_words ≤ w → CutHolds w cut₂
unfolding files_before
second-holds w h =
    let d = (cuts w h).1 in
    record {
      opens = d.opens;
      tree = d.tree;
      of-a = λ nm offset size e. let f = any_file d 1 nm offset size e _ refl in (f.0, f.2);
      of-b = λ nm offset size e. let f = any_file d 2 nm offset size e _ refl in (f.0, f.2);
    }

-- ---- each call's own part, by single bytes: of `a` at its old place and at its new one, and of the program

first-part : DifferOnlyIn last cut₁ (at 0x600 0x100)
first-part = rw move-plan at (own-copy move by_1 last master_words 0x36 (omega arith) last-bytes)

-- the table with no copy before it
abbrev tabled : List ℕ
tabled = image_after_table move by_1 last master_words 0x36

second-part : DifferOnlyInTable last tabled 0x28
unfolding texts_of encode entries_bytes parent_of parent_below set_place
second-part = rw move-plan at (own-table move by_1 last master_words 0x36 (omega arith) last-bytes)

abbrev zeroed : List ℕ
zeroed = image_after_zeros last master_words (at 2052 252)

third-part : DifferOnlyIn last zeroed (at 2052 252)
third-part = own-zeros last master_words (at 2052 252) last-bytes

last-has : (slice_index last 0x507 ≡ 8) × (slice_index last 0x607 ≡ 0) × (slice_index last 0x803 ≡ 0xD4) × (length last ≡ 0x2000)
unfolding with_b first stating master put
last-has = (refl, refl, refl, refl)

pub record OwnParts : Type 0 where
  pub first : (slice_index cut₁ 0x507 ≡ 8) × (slice_index cut₁ 0x803 ≡ 0xD4) × (length cut₁ ≡ 0x2000)
  -- the new place holds what the free space held
  pub second : (slice_index tabled 0x507 ≡ 8) × (slice_index tabled 0x607 ≡ 0) × (length tabled ≡ 0x2000)
  pub third : (slice_index zeroed 0x803 ≡ 0xD4) × (length zeroed ≡ 0x2000)

pub own-parts : OwnParts
own-parts =
    let h = at_last.header in
    record {
      first = (first-part.same 0x507 refl ∙ last-has.0, first-part.same 0x803 refl ∙ last-has.2, first-part.len ∙ last-has.3);
      second = (
        second-part.same 0x507 refl (rw (h.0, h.1)) (rw h.0) ∙ last-has.0,
        second-part.same 0x607 refl (rw (h.0, h.1)) (rw h.0) ∙ last-has.1,
        second-part.len ∙ last-has.3,
      );
      third = (third-part.same 0x803 refl ∙ last-has.2, third-part.len ∙ last-has.3);
    }

-- ---- which spans are free: behind the program, and not where `a` lies

verdicts : (zero_verdict last master_words (at 2052 252) ≡ Ok tt) × (zero_verdict last master_words (at 0x500 0x100) ≡ Err SpanNotFree)
unfolding zero_verdict max_size_from size_beside_free
verdicts = (rw (at_last.opens, space at_last), rw (at_last.opens, space at_last))

pub free : IsWhollyFree last (at 2052 252)
free = (zeroes-what-is-free last master_words (at 2052 252) at_last.opens).0 verdicts.0

pub not-free : ¬ IsWhollyFree last (at 0x500 0x100)
not-free f = let e : Ok tt ≡ Err SpanNotFree = sym ((zeroes-what-is-free last master_words (at 0x500 0x100) at_last.opens).1 f) ∙ verdicts.1 in cc

-- ---- refused, a call writes nothing: `a` has bytes, which the copy would put into the new place and the zeros would take

-- more is kept for team 2 than is free
abbrev too_little : Account
too_little = account (record { used = 1649; largest = 7; teams = teams (team most 0 19 5 ∷ team 7 5 3 2 ∷ team most 6544 0 0 ∷ []) }) 1

pub record Refused : Type 0 where
  pub team : image_after_copy move (account (record_with 7 2) 16) last master_words 0x36 ≡ last
  pub share : image_after_copy move too_little last master_words 0x36 ≡ last
  pub zeros : image_after_zeros last master_words (at 0x500 0x100) ≡ last

refused-step : (a : Account) (c : _) → Step 0x36 (Err c) move a last last a.totals → image_after_copy move a last master_words 0x36 ≡ last
unfolding image_after_copy
refused-step a c s = rw s.answered

pub refused : Refused
unfolding image_after_zeros team_verdict totals_verdict remainders moved_totals largest_size total_size
refused =
    let p = planned at_last at-moved move _ move-plan move-tests move-writes in
    record {
      team = refused-step (account (record_with 7 2) 16) NoSuchEntry (refused-by p (account (record_with 7 2) 16) NoSuchEntry refl);
      share = refused-step too_little FreeBelowShares (refused-by p too_little FreeBelowShares refl);
      zeros = rw verdicts.1;
    }
