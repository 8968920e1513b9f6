-- The theorem about changes with crashes and recoveries between them, applied: a move that is made; a resize that is cut, as two of its recoveries
-- are; a fill that is not begun; and another stated maximum. Its hypotheses hold there, and what it says is read off in numbers. Assumes nothing.
use Rattle.std.specs.Prelude.{◌⊎◌, Ok, ℕ, ◌≤◌, ◌≡◌, refl, true, List, [], ◌∷◌, ◌++◌, map, All, replicate, slice_index, slice_index_or}
use Rattle.std.proofs.Common.{sym, ap, ◌∙◌, arith, inl, inr, ⊎_elim}
use Rattle.std.proofs.lemmas.Bool.{false≢true}
use Rattle.endian.specs.Bytes.{put, span, AllBytes}
use Rattle.tree.specs.Table.{file, directory, empty_root}
use Rattle.tree.specs.Insert.{set_place}
use Rattle.listing.specs.Decimal.{digits}
use Rattle.opened.specs.Opening.{nodes_in, opening}
use Rattle.edit_rules.specs.Edits.{Edit, Account, fill_file}
use Rattle.ledger.specs.Ledger.{Ledger, node_without_place, files_before, first_histories, first_ledger, Report, ledger_after}
use Rattle.ledger.specs.Runs.{image_after_all}
use Rattle.ledger.specs.Spared.{number_after}
use Rattle.ledger.specs.Theorem.{LedgerHolds, StillThere}
use Rattle.record_text.specs.Text.{record_text}
use Rattle.journal.specs.Disk.{Disk}
use Rattle.journal.specs.Journal.{Kept, kept_of, recovered, IsBefore}
use Rattle.journaled.specs.declared.making.Answer.TheVariants.{Done}
use Rattle.journaled.specs.Edited.{Turn, kept_edited}
use Rattle.journaled.specs.Theorem.{Change, edit, maximum, answered, not_begun, cut, Event, Ends, Happen, AllLent, IsMade, IsLeft, AreMade, kept_changed_all, reports_in, call_of, IsNeverAhead, IsStory}
use Rattle.journaled.proofs.Laws.AnyEvents.{any-events}
use Rattle.worked.specs.Image.{master, master_words, master_bytes}
use Rattle.worked.specs.Laws.Applied.{bytes_only, bytes-only}
use Rattle.worked.specs.Laws.JournaledImages.{of_a, first, elsewhere, moved, shorter, stated, at_first, at-shorter, totals, held, move, shorten, move-plan, move-done, resize-done}
use Rattle.worked.specs.Laws.Journals.{table, text, text_moved, text_shorter, kept, torn, torn_again, closing, closed, recovers}

-- ---- the events

abbrev turn : Edit → Account → Turn
turn ed a = record { edit = ed; account = a; words = master_words; bytes = master_bytes; keeps_record = true; teams = [] }

abbrev moving : Turn
moving = turn move (held 1370 6656 0)

abbrev resizing : Turn
resizing = turn shorten (held 1370 3840 1)

abbrev filling : Turn
filling = turn (fill_file 1 (0x11 ∷ 0x12 ∷ 0x13 ∷ [])) (held 1121 4089 2)

-- files with a closed journal
abbrev settled : List ℕ → List ℕ → Disk
settled image text = record { image = image; journal = 0 ∷ []; record_text = text }

abbrev disk₀ : Disk
disk₀ = settled first text

abbrev disk₁ : Disk
disk₁ = settled moved text_moved

abbrev disk₂ : Disk
disk₂ = settled shorter text_shorter

abbrev disk₃ : Disk
disk₃ = settled stated text_shorter

abbrev made : Event
made = record { change = edit moving; end = answered master_bytes (totals 1370 3840 1) (Done 1); disk = disk₁ }

abbrev finished : Event
finished = record { change = edit resizing; end = cut torn (torn_again ∷ closing ∷ []); disk = disk₂ }

abbrev left_alone : Event
left_alone = record { change = edit filling; end = not_begun closed []; disk = disk₂ }

abbrev restated : Event
restated = record { change = maximum master_words 0x28; end = answered master_bytes (totals 1121 4089 2) (Done 0); disk = disk₃ }

abbrev pub edits : List Event
edits = made ∷ finished ∷ left_alone ∷ []

abbrev pub rest : List Event
rest = left_alone ∷ restated ∷ []

abbrev pub events : List Event
events = made ∷ finished ∷ rest

-- ---- the hypotheses

first-bytes : AllBytes first
unfolding first master put bytes_only
first-bytes = bytes-only first refl

shorter-bytes : AllBytes shorter
unfolding elsewhere master put bytes_only
shorter-bytes = bytes-only shorter refl

clip-bytes : AllBytes (0x11 ∷ 0x12 ∷ 0x13 ∷ [])
unfolding bytes_only
clip-bytes = bytes-only (0x11 ∷ 0x12 ∷ 0x13 ∷ []) refl

texts : (record_text [] (totals 1370 3840 1) ≡ text_moved) × (record_text [] (totals 1121 4089 2) ≡ text_shorter)
unfolding record_text digits
texts = (refl, refl)

moved-kept : kept_edited moving (kept first text) ≡ kept moved text_moved
unfolding kept_edited
moved-kept = rw (move-done.answered, move-done.written, move-done.counted, texts.0)

resized-kept : kept_edited resizing (kept moved text_moved) ≡ kept shorter text_shorter
unfolding kept_edited
resized-kept = rw (resize-done.answered, resize-done.written, resize-done.counted, texts.1)

made-ends : Ends 77 (edit moving) disk₀ made.end disk₁
made-ends = record { verdict = move-done.answered; number = rw move-plan; kept = sym moved-kept; handed_back = sym move-done.counted }

finished-ends : Ends 77 (edit resizing) disk₁ finished.end disk₂
finished-ends = (
  inr (recovers.torn ∙ sym resized-kept, inl refl),
  (
    record { same = recovers.torn_again ∙ sym recovers.torn; not_ahead = inl refl },
    (
      record { same = recovers.closing ∙ sym recovers.torn_again; not_ahead = inr (sym recovers.torn_again) },
      sym recovers.closing,
    ),
  ),
)

left-ends : Ends 77 (edit filling) disk₂ left_alone.end disk₂
left-ends = ((recovers.closed, refl), sym recovers.closed)

restated-ends : Ends 77 (maximum master_words 0x28) disk₂ restated.end disk₃
restated-ends = (at-shorter.opens, refl)

edits-happen : Happen 77 disk₀ edits
edits-happen = (made-ends, (finished-ends, (left-ends, tt)))

rest-happens : Happen 77 disk₂ rest
rest-happens = (left-ends, (restated-ends, tt))

happen : Happen 77 disk₀ events
happen = (made-ends, (finished-ends, rest-happens))

module _ (w : ℕ) (h : master_words ≤ w) where
  of-edits : IsStory 77 w disk₀ edits disk₂
  of-edits = any-events 77 master_words w disk₀ edits first-bytes at_first.opens h ((h, omega arith), ((h, omega arith), ((h, clip-bytes), tt))) edits-happen

  of-rest : IsStory 77 w disk₂ rest disk₃
  of-rest = any-events 77 master_words w disk₂ rest shorter-bytes at-shorter.opens h ((h, clip-bytes), (tt, tt)) rest-happens

  pub of-all : IsStory 77 w disk₀ events disk₃
  of-all = any-events 77 master_words w disk₀ events first-bytes at_first.opens h ((h, omega arith), ((h, omega arith), ((h, clip-bytes), (tt, tt)))) happen

-- ---- which changes were made

-- the first event's was, and those of others
record Begins (old : Disk) (e : Event) (others : List Event) (changes : List Change) : Type 0 where
  pub rest : List Change
  pub are : changes ≡ e.change ∷ rest
  pub made : IsMade old e
  pub others-made : AreMade e.disk others rest

begins : (old : Disk) (e : Event) (others : List Event) (changes : List Change) →
    (IsLeft old e → ⊥) → AreMade old (e ∷ others) changes → Begins old e others changes
begins old e others [] not m = absurd (not m.0)
begins old e others (c ∷ cs) not m =
    ⊎_elim (λ made. record { rest = cs; are = ap (λ (c : Change). c ∷ cs) made.0; made = made.1; others-made = made.2 }) (λ left. absurd (not left.0)) m

passes : (old : Disk) (e : Event) (others : List Event) (changes : List Change) →
    (IsMade old e → ⊥) → AreMade old (e ∷ others) changes → AreMade e.disk others changes
passes old e others [] not m = m.1
passes old e others (c ∷ cs) not m = ⊎_elim (λ made. absurd (not made.1)) (λ left. left.1) m

move-not-left : IsLeft disk₀ made → ⊥
move-not-left l = false≢true l.can

-- the record's text tells another count
resize-not-left : IsLeft disk₁ finished → ⊥
resize-not-left l = let e : ◌≡◌ {A = ℕ} 0x32 0x31 = ap (λ (k : Kept). slice_index k.record_text 46) l.kept in omega arith

fill-not-made : IsMade disk₂ left_alone → ⊥
fill-not-made m = false≢true m.can

maximum-not-left : IsLeft disk₂ restated → ⊥
maximum-not-left l = false≢true l.can

abbrev two : List Change
two = edit moving ∷ edit resizing ∷ []

abbrev last_one : List Change
last_one = maximum master_words 0x28 ∷ []

rest-made : (changes : List Change) → AreMade disk₂ rest changes → changes ≡ last_one
rest-made changes m =
    let b = begins disk₂ restated [] changes maximum-not-left (passes disk₂ left_alone (restated ∷ []) changes fill-not-made m) in
    b.are ∙ ap (λ (cs : List Change). maximum master_words 0x28 ∷ cs) b.others-made

behind-two : (changes behind-one behind : List Change) → {last : List Change} → changes ≡ edit moving ∷ behind-one →
    behind-one ≡ edit resizing ∷ behind → behind ≡ last → changes ≡ two ++ last
behind-two changes behind-one behind first second last =
    first ∙ ap (λ (cs : List Change). edit moving ∷ cs) (second ∙ ap (λ (cs : List Change). edit resizing ∷ cs) last)

edits-made : (changes : List Change) → AreMade disk₀ edits changes → changes ≡ two
edits-made changes m =
    let a = begins disk₀ made (finished ∷ left_alone ∷ []) changes move-not-left m in
    let b = begins disk₁ finished (left_alone ∷ []) a.rest resize-not-left a.others-made in
    behind-two changes _ _ a.are b.are (passes disk₂ left_alone [] b.rest fill-not-made b.others-made)

all-made : (changes : List Change) → AreMade disk₀ events changes → changes ≡ two ++ last_one
all-made changes m =
    let a = begins disk₀ made (finished ∷ rest) changes move-not-left m in
    let b = begins disk₁ finished rest a.rest resize-not-left a.others-made in
    behind-two changes _ _ a.are b.are (rest-made b.rest b.others-made)

-- ---- what it says of all four

-- the ledger is told of the two edits
abbrev pub reports : List Report
reports = record { edit = move; accepted = true } ∷ record { edit = shorten; accepted = true } ∷ []

told : reports_in (two ++ last_one) (kept first text) ≡ reports
unfolding reports_in
told = rw (move-done.answered, moved-kept, resize-done.answered)

first-a : span first 0x500 0x100 ≡ of_a ++ replicate 0xF8 0
unfolding first master put
first-a = refl

-- of `a` it holds the first seven bytes
abbrev pub ledger : Ledger
ledger = record {
  nodes = directory [] 2 ∷ file (0x61 ∷ []) 0 7 ∷ [];
  histories = record { place = 0x500; bytes = of_a ++ replicate 0xF8 0; m = 7; named = true } ∷ [];
}

entered : ledger_after reports (first_ledger first) ≡ ledger
unfolding ledger_after first_histories files_before set_place
entered = rw (at_first.nodes, first-a)

-- the record's text tells another count
other-text : text_shorter ≡ text_moved → ⊥
other-text e = let n : ◌≡◌ {A = ℕ} 0x32 0x31 = ap (λ (t : List ℕ). slice_index t 46) e in omega arith

-- of a disk that the resize left
abbrev pub IsWhole : Disk → Type 0
IsWhole = IsNeverAhead 77 (kept moved text_moved) (kept shorter text_shorter)

pub record Story (w : ℕ) (s : IsStory 77 w disk₀ events disk₃) : Type 0 where
  pub changes : s.changes ≡ edit moving ∷ edit resizing ∷ maximum master_words 0x28 ∷ []
  -- the first disk's image and record through the move's rules; and what all three come to
  pub moved-by-rules : kept_edited moving (kept_of disk₀) ≡ kept moved text_moved
  pub all-three : kept_changed_all (two ++ last_one) (kept_of disk₀) ≡ kept stated text_shorter
  pub opens : opening stated w ≡ Ok tt
  pub tree : map node_without_place (nodes_in stated) ≡ directory [] 2 ∷ file (0x61 ∷ []) 0 7 ∷ []
  pub of-a : (nm : List ℕ) (offset size : ℕ) → slice_index_or (nodes_in stated) 1 empty_root ≡ file nm offset size →
      (7 ≤ size) × (span stated offset 7 ≡ 1 ∷ 2 ∷ 3 ∷ 4 ∷ 5 ∷ 6 ∷ 7 ∷ [])
  -- each disk that the resize and its recoveries left, and the fill
  pub cut-whole : All IsWhole (torn ∷ torn_again ∷ closing ∷ [])
  pub left-whole : All (IsBefore 77 (kept shorter text_shorter)) (closed ∷ [])
  -- where the record's file has the new text, recovery makes the new image
  pub not-ahead : recovered 77 closing ≡ kept shorter text_shorter

pub story : (w : ℕ) (h : master_words ≤ w) → Story w (of-all w h)
unfolding files_before
story w h =
    let s = of-all w h in
    let c = all-made s.changes s.are_made in
    let l : LedgerHolds w first stated ledger = rw (c, told, entered) at s.holds.ledger in
    let whole : All IsWhole (torn ∷ torn_again ∷ closing ∷ []) = rw resized-kept at s.never_ahead.1.0 in
    record {
      changes = c;
      moved-by-rules = sym (begins disk₀ made (finished ∷ rest) s.changes move-not-left s.are_made).made.kept;
      all-three = sym (rw c at s.kept);
      opens = l.opens;
      tree = l.tree;
      of-a = λ nm offset size e. let f = l.files 1 nm offset size e in (f.m-size, f.first-bytes);
      cut-whole = whole;
      left-whole = s.never_ahead.1.1.0;
      not-ahead = ⊎_elim (λ before. absurd (other-text before.1)) (λ after. after.0) (whole 2 closing (omega arith));
    }

-- the last image where the changes wrote, byte by byte
pub record Written : Type 0 where
  -- the table's size and its maximum; the table; `a` and a byte behind it; where `a` was, and where its other bytes were
  pub words : span stated 0x428 8 ≡ 0 ∷ 0 ∷ 0 ∷ 0x1A ∷ 0 ∷ 0 ∷ 0 ∷ 0x28 ∷ []
  pub entries : span stated 0x440 0x1A ≡ table 0 7
  pub of-a : span stated 0x1000 8 ≡ 1 ∷ 2 ∷ 3 ∷ 4 ∷ 5 ∷ 6 ∷ 7 ∷ 0 ∷ []
  pub was : span stated 0x500 0x100 ≡ replicate 0x100 0
  pub lost : span stated 0x1007 0xF9 ≡ replicate 0xF9 0

pub written : Written
unfolding elsewhere master put
written = record { words = refl; entries = refl; of-a = refl; was = refl; lost = refl }

-- ---- of the first three, edits alone: the image is the one after the two calls that were made

pub called : image_after_all (call_of moving ∷ call_of resizing ∷ []) first ≡ shorter
called = let s = of-edits master_words (omega arith) in sym (s.calls (moving ∷ resizing ∷ []) (edits-made s.changes s.are_made))

-- ---- of the last two, which name no file: `a` lies where it lay

none-told : reports_in last_one (kept shorter text_shorter) ≡ []
unfolding reports_in
none-told = refl

still : StillThere shorter stated 0 (0x61 ∷ []) 0x1000 7
unfolding files_before number_after
still =
    let s = of-rest master_words (omega arith) in
    let c = rest-made s.changes s.are_made in
    let a : slice_index_or (nodes_in shorter) 1 empty_root ≡ file (0x61 ∷ []) 0x1000 7 = rw at-shorter.nodes refl in
    let n : files_before 1 (nodes_in shorter) ≡ 0 = rw at-shorter.nodes refl in
    rw (c, none-told, n) at (s.holds.unnamed 1 (0x61 ∷ []) 0x1000 7 a (rw (c, none-told) tt))

pub same-bytes : span stated 0x1000 7 ≡ span shorter 0x1000 7
same-bytes = still.bytes

-- ---- the resize cut anyhow, and recoveries cut anyhow, until one ends: the image is the one before or the one behind it

module _ (d : Disk) (disks : List Disk) (new : Disk) (ends : Ends 77 (edit resizing) disk₁ (cut d disks) new) where
  abbrev anyhow : Event
  anyhow = record { change = edit resizing; end = cut d disks; disk = new }

  of-anyhow : IsStory 77 master_words disk₀ (made ∷ anyhow ∷ []) new
  of-anyhow =
      let lent : AllLent master_words (made ∷ anyhow ∷ []) = ((omega arith, omega arith), ((omega arith, omega arith), tt)) in
      any-events 77 master_words master_words disk₀ (made ∷ anyhow ∷ []) first-bytes at_first.opens (omega arith) lent (made-ends, (ends, tt))

  abbrev IsEither : Type 0
  IsEither = (kept_of new ≡ kept moved text_moved) ⊎ (kept_of new ≡ kept shorter text_shorter)

  one-of-both : (changes : List Change) → AreMade disk₁ (anyhow ∷ []) changes → IsEither
  one-of-both [] m = inl m.0.kept
  one-of-both (c ∷ cs) m = ⊎_elim (λ made. inr (made.1.kept ∙ resized-kept)) (λ left. inl left.0.kept) m

  pub either : IsEither
  either =
      let s = of-anyhow in
      let b = begins disk₀ made (anyhow ∷ []) s.changes move-not-left s.are_made in
      one-of-both b.rest b.others-made

  pub each-whole : All IsWhole (d ∷ disks)
  each-whole = rw resized-kept at of-anyhow.never_ahead.1.0
