-- Each theorem about lists of calls, applied to the worked list: its hypotheses hold there, with as many words as the first opening was lent and
-- with any number that is larger, and what it says is read off in numbers. Nothing of the last image is computed for that but what a theorem's words
-- are held against. Assumes nothing.
use Rattle.std.specs.Prelude.{Some, Ok}
use Rattle.std.specs.Prelude.{ℕ, zero, suc, ◌≤◌, ◌≡◌, refl, Bool, true, false, ◌&&◌, List, [], ◌∷◌, ◌++◌, map, ltb, length, get_or, take, replicate}
use Rattle.std.proofs.Common.{sym, ap, ◌∙◌, arith, ltb-true}
use Rattle.std.proofs.lemmas.Bool.{false≢true}
use Rattle.endian.specs.Bytes.{be24, be32, be32_bytes, put, span, AllBytes}
use Rattle.endian.specs.Laws.Stored.{length-put, put-outside}
use Rattle.refusal.specs.Laws.Tests.{and_left, and_right}
use Rattle.header.specs.Verdicts.{dol_offset, fst_size, fst_max_size}
use Rattle.tree.specs.Table.{file, directory, empty_root, count, name_at, node_at, nodes_from, nodes_of, parent_below, parent_of, entries_bytes, texts_of, encode}
use Rattle.tree.specs.Insert.{number_after_insert, raised_next, splice, insert_at, set_place}
use Rattle.space.specs.Used.{is_inside, nonempty_regions, total_size, no_region}
use Rattle.space.specs.Free.{largest_size}
use Rattle.space.specs.Listing.{rows_of}
use Rattle.window.specs.Window.{new_window, count_of}
use Rattle.totals.specs.declared.team.Team.{Team}
use Rattle.totals.specs.declared.Totals.{Totals}
use Rattle.totals.specs.Totals.{new_teams, remainders}
use Rattle.executable.specs.Program.{program_in, own_region}
use Rattle.opened.specs.Opening.{table_of, nodes_in, used_in, free_space_of, used_of, opening, disc_of}
use Rattle.disc.specs.Calls.{totals_answer, program_answer, free_regions_answer, free_regions_list, record_answer}
use Rattle.disc.specs.Files.{open_file_answer}
use Rattle.edit_rules.specs.Change.{nothing}
use Rattle.edit_rules.specs.Edits.{Edit, rewrite, resize_file, plan_resize, plan_of, image_after}
use Rattle.ledger.specs.Ledger.{History, Ledger, node_without_place, files_before, history_of, put_in, first_ledger}
use Rattle.ledger.specs.Runs.{Call, image_after_all, accepted_count, taken_after_all, team_after_all, AllWithin}
use Rattle.ledger.specs.Spared.{number_after, IsSpared}
use Rattle.ledger.specs.Theorem.{LedgerHolds, StillThere, ShowsClip, Tells, WithinMaximum}
use Rattle.ledger.proofs.Laws.AnyMaximum.{any-maximum}
use Rattle.ledger.proofs.Laws.AfterAnyList.{ledger-holds, unnamed-stays}
use Rattle.ledger.proofs.Laws.EditedDown.{edited-down}
use Rattle.ledger.proofs.Laws.FillReads.{read_into, fill-reads, read_back}
use Rattle.ledger.proofs.Laws.MaximumKept.{maximum-kept}
use Rattle.ledger.proofs.Laws.RecordTells.{record-tells}
use Rattle.ledger.proofs.Laws.Unbounded.{IsUnbounded}
use Rattle.worked.specs.Laws.Handed.{handed, own}
use Rattle.worked.specs.Image.{master, master_words}
use Rattle.worked.specs.Laws.Marked as small
use Rattle.worked.specs.Laws.Maximum.{stating, slack, slack-opens, slack-header}
use Rattle.worked.specs.Laws.Maximum as stated
use Rattle.worked.specs.Laws.ListImages.{of_a, program_bytes, first, clip, with_b, last, program, tree_b, used-regions, space, at_first, at_last}
use Rattle.worked.specs.Laws.ListSteps.{totals, held, fresh, filled-b}
use Rattle.worked.specs.Laws.WorkedList.{list, reports, ledger, limits, shares, first-a, worked}

-- ---- the hypotheses

unfoldable pub bytes_only : List ℕ → Bool
bytes_only [] = true
bytes_only (x ∷ xs) = ltb x 256 && bytes_only xs

pub bytes-only : (s : List ℕ) → bytes_only s ≡ true → AllBytes s
unfolding bytes_only
bytes-only [] e i = omega arith
bytes-only (x ∷ xs) e zero = ltb-true x 256 (and_left (ltb x 256) (bytes_only xs) e)
bytes-only (x ∷ xs) e (suc i) = bytes-only xs (and_right (ltb x 256) (bytes_only xs) e) i

pub bytes : AllBytes first
unfolding first stating master put bytes_only
bytes = bytes-only first refl

moved-bytes : AllBytes (with_b 0x900 0 [])
unfolding with_b first stating master put bytes_only
moved-bytes = bytes-only (with_b 0x900 0 []) refl

clip-bytes : AllBytes clip
unfolding bytes_only
clip-bytes = bytes-only clip refl

-- no call is lent more words than the first opening
pub within : (w : ℕ) → master_words ≤ w → AllWithin w list
unfolding list
within w h = (omega arith, tt, (omega arith, tt, (omega arith, omega arith, (omega arith, omega arith, (omega arith, clip-bytes, (omega arith, omega arith, (omega arith, tt, tt)))))))

-- no accepted call names `a`: the one that does is refused
spared : IsSpared reports (first_ledger first) 0
unfolding files_before put_in insert_at splice raised_next set_place number_after_insert
spared = rw at_first.tree (λ e. refl, (λ e. refl, (λ e. absurd (false≢true e), (λ e. refl, (λ e. refl, (λ e. refl, (λ e. refl, tt)))))))

-- ---- what holds after the list

-- what the claim comes to for the file with entry number k, whichever that is
pub any_file : {w : ℕ} {first image : List ℕ} {l : Ledger} → LedgerHolds w first image l →
    (k : ℕ) (nm : List ℕ) (offset size : ℕ) → get_or (nodes_in image) k empty_root ≡ file nm offset size → (h : History) → history_of l k ≡ h →
    (h.m ≤ size) × (h.m ≤ length h.bytes) × (span image offset h.m ≡ take h.m h.bytes)
    × (h.named ≡ false → (offset ≡ h.place) × (size ≡ length h.bytes) × (span image offset size ≡ h.bytes))
any_file d k nm offset size e h is = let f = d.files k nm offset size e in (rw is at f.m-size, rw is at f.m-bytes, rw is at f.first-bytes, rw is at f.unnamed)

claim : (w : ℕ) → master_words ≤ w → LedgerHolds w first last ledger
claim w h = rw (worked.image, worked.told, worked.entered) at (ledger-holds first master_words w list bytes at_first.opens h (within w h))

pub record LastHolds (w : ℕ) : Type 0 where
  pub opens : opening last w ≡ Ok tt
  pub tree : map node_without_place (nodes_in last) ≡ directory [] 3 ∷ file (0x61 ∷ []) 0 0x100 ∷ file (0x62 ∷ []) 0 5 ∷ []
  -- byte 0x500 is `a`'s, the third used region's, and no other's
  pub apart : (j : ℕ) → is_inside (get_or (used_in last) j no_region) 0x500 ≡ true → j ≡ 2
  pub sum : total_size (free_space_of last) ≡ 6543
  pub used : totals_answer last w ≡ Ok (record { disc_end = 8192; used = 1649 })
  pub free : free_regions_answer last w 8 ≡ Ok 4
  pub listed : free_regions_list last w (replicate 9 7) ≡ 1128 ∷ 152 ∷ 1536 ∷ 256 ∷ 2052 ∷ 252 ∷ 2309 ∷ 5883 ∷ 7 ∷ []
  pub program-stays : (dol_offset last ≡ 0x700) × (program_in last ≡ program) × (span last 0x700 0x104 ≡ program_bytes) × (0x804 ≤ length last)
  pub program-told : program_answer last w ≡ Ok (Some program)
  -- entry 1, `a`, is unnamed; entry 2, `b`, begins with the clip
  pub of-a : (nm : List ℕ) (offset size : ℕ) → get_or (nodes_in last) 1 empty_root ≡ file nm offset size → (offset ≡ 0x500) × (size ≡ 0x100) × (span last offset size ≡ of_a ++ replicate 0xF8 0)
  pub of-b : (nm : List ℕ) (offset size : ℕ) → get_or (nodes_in last) 2 empty_root ≡ file nm offset size → (3 ≤ size) × (3 ≤ length clip) × (span last offset 3 ≡ clip)

first-program : (dol_offset first ≡ 0x700) × (span first 0x700 0x104 ≡ program_bytes)
unfolding first stating master put be32
first-program = (refl, refl)

pub last-holds : (w : ℕ) → master_words ≤ w → LastHolds w
unfolding put rows_of nonempty_regions program_in own_region total_size files_before
last-holds w h =
    let d = claim w h in
    record {
      opens = d.opens;
      tree = d.tree;
      apart = λ j i. d.apart j 2 0x500 i (rw (used-regions at_last));
      sum = let s = rw (at_last.tree, at_last.runs, at_last.header.0, at_last.header.1) at d.sum in omega (arith, s, at_last.header.3);
      used = d.used-reported ∙ rw (at_last.tree, at_last.runs, at_last.header.0, at_last.header.1, at_last.header.3);
      free = d.free-reported 8 ∙ rw (space at_last);
      listed = d.free-listed (replicate 9 7) ∙ rw (space at_last);
      program-stays = let p = d.program in (p.offset ∙ first-program.0, p.region ∙ rw at_first.runs, (rw at_first.runs at p.bytes) ∙ first-program.1, rw at_first.runs at p.whole);
      program-told = d.program-reported ∙ at_first.runs;
      of-a = λ nm offset size e. (any_file d 1 nm offset size e _ refl).3 refl;
      of-b = λ nm offset size e. let f = any_file d 2 nm offset size e _ refl in (f.0, f.1, f.2);
    }

-- ---- `a`, which no accepted call named: it lies where it lay, as the first file of them

found-still : (w : ℕ) → master_words ≤ w → StillThere first last 0 (0x61 ∷ []) 0x500 0x100
unfolding files_before number_after put_in insert_at splice raised_next set_place number_after_insert
found-still w h =
    let a : get_or (nodes_in first) 1 empty_root ≡ file (0x61 ∷ []) 0x500 0x100 = rw at_first.tree in
    let k : files_before 1 (nodes_in first) ≡ 0 = rw at_first.tree in
    rw (worked.image, worked.told, k, at_first.tree) at (unnamed-stays first master_words w list bytes at_first.opens h (within w h) 1 (0x61 ∷ []) 0x500 0x100 a (rw (worked.told, k) spared))

pub still : StillThere first last 0 (0x61 ∷ []) 0x500 0x100
still = found-still master_words (omega arith)

pub record Stays : Type 0 where
  pub entry : still.entry ≡ 1
  pub number : files_before still.entry (nodes_in last) ≡ 0
  pub bytes : span last 0x500 0x100 ≡ of_a ++ replicate 0xF8 0

-- which entry of the last tree that is
entry-a : (k : ℕ) → get_or (tree_b 0x900 5) k empty_root ≡ file (0x61 ∷ []) 0x500 0x100 → k ≡ 1
entry-a zero e = let z : ◌≡◌ {A = ℕ} 0 1 = cc in absurd (omega arith)
entry-a (suc zero) e = refl
entry-a (suc (suc zero)) e = let z : ◌≡◌ {A = ℕ} 0x900 0x500 = cc in absurd (omega arith)
entry-a (suc (suc (suc k))) e = let z : ◌≡◌ {A = ℕ} 0 1 = cc in absurd (omega arith)

pub stays : Stays
stays = record { entry = entry-a still.entry (rw at_last.tree at still.lies); number = still.number; bytes = still.bytes ∙ first-a }

-- ---- the record that was handed on, after five accepted calls

tells : (w : ℕ) → master_words ≤ w → Tells last w (team_after_all limits shares list first) (totals 1649 5883 5)
tells w h = rw (worked.image, worked.handed-back) at (record-tells first master_words w limits shares fresh.totals list bytes refl refl worked.made h (within w h) worked.handed-on)

pub record Told (w : ℕ) : Type 0 where
  pub used : used_of last ≡ 1649
  pub largest : largest_size (free_space_of last) ≡ 5883
  pub afresh : record_answer last w limits shares ≡ Ok (handed 1649 5883 0).totals
  -- by team 0, and by none of the others: bytes, and accepted edits
  pub taken : (taken_after_all 0 0 list first ≡ 19) × (taken_after_all 15 0 list first ≡ 0)
  pub counts : (accepted_count 0 list first ≡ 5) × (accepted_count 15 list first ≡ 0)

pub told : (w : ℕ) → master_words ≤ w → Told w
unfolding new_teams
told w h =
    let t = tells w h in
    let u : used_of last ≡ 1649 = sym (ap (λ (t : Totals). t.used) t.totals) in
    let l : largest_size (free_space_of last) ≡ 5883 = sym (ap (λ (t : Totals). t.largest) t.totals) in
    record { used = u; largest = l; afresh = t.afresh limits shares ∙ rw (u, l); taken = (sym (ap (λ (m : Team). m.taken) (t.teams 0 (omega arith))), sym (ap (λ (m : Team). m.taken) (t.teams 15 (omega arith)))); counts = (sym (ap (λ (m : Team). m.edits) (t.teams 0 (omega arith))), sym (ap (λ (m : Team). m.edits) (t.teams 15 (omega arith)))) }

-- ---- the stated maximum, which the last table just meets

kept : (w : ℕ) → master_words ≤ w → WithinMaximum first last
kept w h = rw worked.image at (maximum-kept first master_words w list bytes at_first.opens h (within w h))

pub record Maximum : Type 0 where
  pub field : fst_max_size last ≡ 0x28
  pub within : fst_size last ≤ 0x28

pub maximum : Maximum
maximum =
    let m : fst_max_size first ≡ 0x28 = at_first.header.2 in
    let k = kept master_words (omega arith) in
    record { field = k.field ∙ m; within = rw m at (k.within (rw m (omega arith)) (rw (m, at_first.header.1) (omega arith))) }

-- an image whose table is above its maximum: a rewrite, which is refused (26), and a resize to the present size, which writes no table

abbrev pub over : List ℕ
over = stating 0x19

abbrev over_call : Edit → Call
over_call ed = record { edit = ed; account = small.fresh; words = master_words; bytes = 0x28 }

abbrev pub over_list : List Call
over_list = over_call rewrite ∷ over_call (resize_file 1 0x100) ∷ []

over-bytes : AllBytes over
unfolding stating master put bytes_only
over-bytes = bytes-only over refl

over-sizes : (fst_max_size over ≡ 0x19) × (fst_size over ≡ 0x1A)
unfolding stating master put be32
over-sizes = (refl, refl)

over-plan : plan_of (resize_file 1 0x100) (disc_of over) ≡ nothing
unfolding plan_resize stating master put table_of nodes_in nodes_of nodes_from node_at name_at count be24 be32
over-plan = refl

over_last : image_after_all over_list over ≡ over
unfolding image_after_all image_after
over_last = rw ((stated.maximum).larger.1, (stated.maximum).same_size.0, over-plan)

over-kept : WithinMaximum over over
over-kept = rw over_last at (maximum-kept over master_words master_words over_list over-bytes (stated.maximum).larger.0 (omega arith) (omega arith, tt, (omega arith, omega arith, tt)))

pub same-table : (fst_size (image_after_all over_list over) ≡ 0x1A) × (table_of (image_after_all over_list over) ≡ table_of over)
same-table = let l = over-kept.larger (rw over-sizes.0 (omega arith)) (rw (over-sizes.0, over-sizes.1) (omega arith)) in rw over_last (l.0 ∙ over-sizes.1, l.1)

-- ---- a table above the maximum edited down to it: the small master with a zero byte more behind its texts, 0x1B bytes in all

down-bytes : AllBytes (slack 0x1A)
unfolding slack stating master put bytes_only
down-bytes = bytes-only (slack 0x1A) refl

down-table : length (encode (nodes_in (slack 0x1A))) ≡ 0x1A
unfolding slack stating master put table_of nodes_in nodes_of nodes_from node_at name_at count be24 be32 encode entries_bytes texts_of parent_of parent_below
down-table = refl

unbounded : IsUnbounded (slack 0x1A) (own (slack 0x1A))
unfolding remainders
unbounded = record { used = refl; team = omega arith; taken = omega arith; limit = refl; count = omega arith; others = refl }

pub down : fst_size (image_after rewrite (own (slack 0x1A)) (slack 0x1A) master_words 0x1A) ≤ 0x1A
down =
    let m = slack-header.2 in
    rw m at (edited-down (slack 0x1A) master_words 0x1A down-bytes slack-opens (rw (m, slack-header.1) (omega arith)) (rw (m, down-table) (omega arith)) (rw down-table (omega arith)) (own (slack 0x1A)) unbounded).2

-- another maximum: the image opens all the same, to the same tree and free regions

first-length : length first ≡ 0x2000
unfolding first stating master put
first-length = refl

abbrev pub restated : List ℕ
restated = put first 0x42C (be32_bytes 5)

pub any : (opening restated master_words ≡ Ok tt) × (nodes_in restated ≡ nodes_in first) × (free_space_of restated ≡ free_space_of first)
any = any-maximum first restated master_words bytes at_first.opens (length-put first 0x42C (be32_bytes 5) (rw first-length (omega arith))) (λ i h. put-outside first 0x42C (be32_bytes 5) (rw first-length (omega arith)) i h)

-- ---- the clip

pub shows : ShowsClip (with_b 0x900 3 clip) master_words 2 clip
shows = rw filled-b.written at (fill-reads (held 1644 6140 2) (with_b 0x900 0 []) clip 2 master_words 0x36 master_words moved-bytes clip-bytes (omega arith) filled-b.answered)

pub record Clip : Type 0 where
  -- the window of entry 2 has three bytes, of which a read of four gives three
  pub window : open_file_answer (with_b 0x900 3 clip) master_words 2 ≡ Ok (new_window shows.offset 3)
  pub count : count_of (new_window shows.offset 3) (length (with_b 0x900 3 clip)) 4 ≡ 3
  -- the file opened and read into four bytes: the clip, and the fourth stays
  pub read : read_into (open_file_answer (with_b 0x900 3 clip) master_words 2) (with_b 0x900 3 clip) (9 ∷ 9 ∷ 9 ∷ 9 ∷ []) ≡ 0x11 ∷ 0x12 ∷ 0x13 ∷ 9 ∷ []

pub clip-read : Clip
unfolding put
clip-read = record {
  window = shows.window;
  count = shows.count 4 (omega arith);
  read = rw filled-b.written at (read_back (held 1644 6140 2) (with_b 0x900 0 []) clip 2 master_words 0x36 master_words moved-bytes clip-bytes (omega arith) filled-b.answered (9 ∷ 9 ∷ 9 ∷ 9 ∷ []) (omega arith));
}
