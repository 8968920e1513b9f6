-- A draft that stands in a journal: what is read of it. Assumes nothing.
use Rattle.std.proofs.Common.{◌≡◌, ⊎_elim, refl, sym, ◌∙◌, ap, ℕ, ◌+◌, ◌-◌, ◌*◌, ◌<◌, ◌≤◌, ◌==◌, ◌&&◌, nat_le, Bool, true, false, if◌then◌else◌, List, [], ◌∷◌, ◌++◌, length, take, drop, get_or, replicate, arith, append_assoc, length-append, length-drop, drop_at, drop-drop}
use Rattle.std.proofs.lemmas.Bool.{and_from, or_left, or_right, cond-false, cases_eq, le-leb, eqb-true, eq-eqb, ne_eqb}
use Rattle.std.proofs.lemmas.List.{take_at, take-append-le, drop-append-le, drop-take, take-take}
use Rattle.endian.specs.Bytes.{put, span}
use Rattle.endian.specs.Laws.Stored.{same_refl, put-none}
use Rattle.journal.specs.declared.plan.Copying.{Copying}
use Rattle.journal.specs.declared.plan.Step.{Step}
use Rattle.journal.specs.declared.draft.Draft.{Draft}
use Rattle.journal.specs.Disk.{Disk, with_journal}
use Rattle.journal.specs.Journal.{after, copied, number_at, copying_in, steps_in, write_of, writes_of, writes_in, record_count, record_after, note_in, record_fits, is_owner, can_write, copying_fits, has_source, step_fits, steps_fit, head_applies, applies, sum_from, noted_end, is_whole, is_open, is_copied, finished, finished_image, opened, opened_disk, will_apply, kept_of}
use Rattle.journal.specs.Draft.{DraftFits, CanWrite, draft_writes, draft_record, kept_after}
use Rattle.journal.specs.Inner.Noted.{number_bytes, summed, bytes_of, FitInBytes, record_part, parts_of, places_of, copied_gate, numbers_of, head_of, noted}
use Rattle.journal.proofs.Gates.{note-behind}
use Rattle.journal.proofs.Numbers.{length-number_bytes, length-bytes_of, number_first, number_behind, number_at-bytes_of}
use Rattle.journal.proofs.Sums.{sum_from-small}

-- ---- parts one behind the other

span_at : (p x q : List ℕ) (at : ℕ) → at ≡ length p → span (p ++ (x ++ q)) at (length x) ≡ x
span_at p x q at is = ap (λ (l : List ℕ). take (length x) l) (drop_at p (x ++ q) at (sym is)) ∙ take_at x q (length x) refl

length_parts : (text note word table : List ℕ) → length (text ++ note ++ word ++ table) ≡ length text + length note + length word + length table
length_parts text note word table = omega (arith, length-append (text ++ note ++ word) table, length-append (text ++ note) word, length-append text note)

module _ (head text note word table clip rest : List ℕ) (long : length head ≡ 1266) where
  abbrev all : List ℕ
  all = head ++ (text ++ note ++ word ++ table) ++ clip ++ rest

  text_there : span all 1266 (length text) ≡ text
  text_there =
      let e : all ≡ head ++ (text ++ (note ++ (word ++ (table ++ (clip ++ rest))))) = simp append_assoc in
      rw e (span_at head text _ 1266 (sym long))

  note_there : span all (1266 + length text) (length note) ≡ note
  note_there =
      let front : List ℕ = head ++ text in
      let e : all ≡ front ++ (note ++ (word ++ (table ++ (clip ++ rest)))) = simp append_assoc in
      rw e (span_at front note _ _ (omega (arith, long, length-append head text)))

  word_there : span all (1266 + length text + length note) (length word) ≡ word
  word_there =
      let front : List ℕ = head ++ (text ++ note) in
      let e : all ≡ front ++ (word ++ (table ++ (clip ++ rest))) = simp append_assoc in
      rw e (span_at front word _ _ (omega (arith, long, length-append head (text ++ note), length-append text note)))

  table_there : span all (1266 + length text + length note + length word) (length table) ≡ table
  table_there =
      let front : List ℕ = head ++ (text ++ note ++ word) in
      let e : all ≡ front ++ (table ++ (clip ++ rest)) = simp append_assoc in
      rw e (span_at front table _ _ (omega (arith, long, length-append head (text ++ note ++ word), length-append (text ++ note) word, length-append text note)))

  length_front : length (head ++ (text ++ note ++ word ++ table)) ≡ 1266 + length text + length note + length word + length table
  length_front = omega (arith, long, length_parts text note word table, length-append head (text ++ note ++ word ++ table))

  clip_there : span all (1266 + length text + length note + length word + length table) (length clip) ≡ clip
  clip_there =
      let front : List ℕ = head ++ (text ++ note ++ word ++ table) in
      let e : all ≡ front ++ (clip ++ rest) = simp append_assoc in
      rw e (span_at front clip rest _ (omega (arith, length_front)))

  length_all : 1266 + length text + length note + length word + length table + length clip ≤ length all
  length_all =
      let front : List ℕ = head ++ (text ++ note ++ word ++ table) in
      omega (arith, length_front, length-append (front ++ clip) rest, length-append front clip)

-- ---- steps with their sources

module _ (journal : List ℕ) (at n from : ℕ) where
  source_write : (bytes : List ℕ) → 0 < from → span journal from n ≡ bytes → write_of journal (record { at = at; len = n; from = from }) ≡ record { at = at; bytes = bytes }
  source_write bytes some is =
      let e : (if from == 0 then replicate n 0 else span journal from n) ≡ bytes = cond-false (from == 0) _ _ (ne_eqb from 0 (λ none. omega (arith, none))) ∙ is in
      λ i. record { at = at; bytes = e i }

  module _ (long : ℕ) (can : CanWrite long at n) where
    placed : has_source journal (record { at = at; len = n; from = from }) ≡ true → step_fits journal long (record { at = at; len = n; from = from }) ≡ true
    placed source =
        ⊎_elim (λ none. or_left (n == 0) _ (eq-eqb n 0 none)) (λ some. or_right (n == 0) _ (and_from (can_write long at n) _ (can some) source)) (cases_eq n 0)

    source_step : 1266 ≤ from → from + n ≤ length journal → step_fits journal long (record { at = at; len = n; from = from }) ≡ true
    source_step low high = placed (or_right (from == 0) _ (and_from (nat_le 1266 from) (nat_le (from + n) (length journal)) (le-leb _ _ low) (le-leb _ _ high)))

-- ---- the record, and the copy

count_fits : (has : Bool) (text : List ℕ) → length text ≤ 0x1000
    → ((if has then length text + 1 else 0) ≤ 0x1001) × ((if has then length text + 1 else 0) - 1 ≡ length (if has then text else []))
count_fits true text short = (omega arith, omega arith)
count_fits false text short = (omega arith, refl)

record_counted : (has : Bool) (text old journal : List ℕ) → span journal 1266 (length (if has then text else [])) ≡ (if has then text else [])
    → (if (if has then length text + 1 else 0) == 0 then old else span journal 1266 ((if has then length text + 1 else 0) - 1)) ≡ (if has then text else old)
record_counted true text old journal is =
    let n : length text + 1 - 1 ≡ length text = omega arith in
    cond-false ((length text + 1) == 0) old _ (ne_eqb (length text + 1) 0 (λ none. omega (arith, none))) ∙ ap (λ (k : ℕ). span journal 1266 k) n ∙ is
record_counted false text old journal is = refl

-- where there is nothing to copy, the copy counts as made
copied-once : (copy : Copying) (image : List ℕ) → (if (if copy.len == 0 then 1 else 0) == 1 then image else copied copy image) ≡ copied copy image
copied-once copy image = go (copy.len == 0) refl
  where
    go : (none : Bool) → (copy.len == 0) ≡ none → (if (if none then 1 else 0) == 1 then image else copied copy image) ≡ copied copy image
    go true is = sym (ap (λ (n : ℕ). put image copy.to (span image copy.from n)) (eqb-true copy.len 0 is) ∙ put-none image copy.to)
    go false is = refl

-- ---- the journal of a draft, with its gate open

-- the five steps of a draft
abbrev draft_steps : Draft → List Step
draft_steps d =
    record { at = d.clip.at; len = d.clip.len; from = (places_of d).clip }
    ∷ record { at = d.table.at; len = length d.table.bytes.now; from = (places_of d).table }
    ∷ record { at = d.tail.at; len = d.tail.len; from = 0 }
    ∷ record { at = d.word.at; len = length d.word.bytes.now; from = (places_of d).word }
    ∷ record { at = d.lost.at; len = d.lost.len; from = 0 }
    ∷ []

flat : (a b c e f : List ℕ) → (a ++ b) ++ c ++ e ++ f ≡ a ++ (b ++ (c ++ (e ++ f)))
flat a b c e f = simp append_assoc

pub length_head : (d : Draft) → length d.header.now ≡ 0x440 → length (1 ∷ head_of d) ≡ 1266
length_head d header = omega (arith, header, length-append (bytes_of (numbers_of d)) d.header.now, length-bytes_of (numbers_of d))

pub clip_place : (d : Draft) → length d.header.now ≡ 0x440 → (places_of d).clip ≡ 1 + length (head_of d ++ parts_of d)
clip_place d header =
    omega (arith, length_head d header, length-append (head_of d) (parts_of d), length_parts (record_part d) d.note.now d.word.bytes.now d.table.bytes.now)

module _ (d : Draft) (clip rest : List ℕ) where
  -- what the journal holds then; behind the clip may stand more
  abbrev pub all_of : List ℕ
  all_of = 1 ∷ (head_of d ++ parts_of d ++ clip ++ rest)

  -- the header, and all behind it
  header_there : drop 178 all_of ≡ d.header.now ++ (parts_of d ++ (clip ++ rest))
  header_there =
      let front : List ℕ = 1 ∷ copied_gate d ∷ bytes_of (numbers_of d) in
      ap (λ (l : List ℕ). drop 178 (1 ∷ copied_gate d ∷ l)) (flat (bytes_of (numbers_of d)) d.header.now (parts_of d) clip rest)
      ∙ drop_at front (d.header.now ++ (parts_of d ++ (clip ++ rest))) 178 (omega (arith, length-bytes_of (numbers_of d)))

  module _ (small : FitInBytes (numbers_of d)) where
    number_there : (k : ℕ) → k < 22 → number_at all_of (2 + 8 * k) ≡ get_or (numbers_of d) k 0
    number_there k lt =
        ap (λ (l : List ℕ). number_at (1 ∷ copied_gate d ∷ l) (2 + 8 * k)) (flat (bytes_of (numbers_of d)) d.header.now (parts_of d) clip rest)
        ∙ number_at-bytes_of (1 ∷ copied_gate d ∷ []) (numbers_of d) (d.header.now ++ (parts_of d ++ (clip ++ rest))) k small lt

    copy_there : copying_in all_of ≡ d.copy
    copy_there = λ i. record { from = number_there 4 (omega arith) i; to = number_there 5 (omega arith) i; len = number_there 6 (omega arith) i }

    steps_there : steps_in all_of ≡ draft_steps d
    steps_there =
        let n : (k : ℕ) → k < 22 → number_at all_of (2 + 8 * k) ≡ get_or (numbers_of d) k 0 = number_there in
        λ i. record { at = n 7 (omega arith) i; len = n 8 (omega arith) i; from = n 9 (omega arith) i }
        ∷ record { at = n 10 (omega arith) i; len = n 11 (omega arith) i; from = n 12 (omega arith) i }
        ∷ record { at = n 13 (omega arith) i; len = n 14 (omega arith) i; from = n 15 (omega arith) i }
        ∷ record { at = n 16 (omega arith) i; len = n 17 (omega arith) i; from = n 18 (omega arith) i }
        ∷ record { at = n 19 (omega arith) i; len = n 20 (omega arith) i; from = n 21 (omega arith) i }
        ∷ []

    -- ---- whose it is

    module _ (image : List ℕ) (fits : DraftFits d (length image) (length clip)) (owner : d.header.now ≡ take 0x440 image) where
      first_bytes : span all_of 178 0x428 ≡ span image 0 0x428
      first_bytes =
          ap (λ (l : List ℕ). take 0x428 l) header_there
          ∙ take-append-le 0x428 d.header.now (parts_of d ++ (clip ++ rest)) (omega (arith, fits.header))
          ∙ ap (λ (l : List ℕ). take 0x428 l) owner
          ∙ take-take 0x428 0x440 image (omega arith)

      last_bytes : span all_of 1250 0x10 ≡ span image 0x430 0x10
      last_bytes =
          ap (λ (l : List ℕ). take 0x10 l)
          (sym (drop-drop 0x430 178 all_of) ∙ ap (λ (l : List ℕ). drop 0x430 l) header_there ∙ drop-append-le 0x430 d.header.now (parts_of d ++ (clip ++ rest)) (omega (arith, fits.header)))
          ∙ take-append-le 0x10 (drop 0x430 d.header.now) (parts_of d ++ (clip ++ rest)) (omega (arith, fits.header, length-drop 0x430 d.header.now))
          ∙ ap (λ (l : List ℕ). take 0x10 (drop 0x430 l)) owner
          ∙ ap (λ (l : List ℕ). take 0x10 l) (drop-take 0x430 0x10 image)
          ∙ take-take 0x10 0x10 (drop 0x430 image) (omega arith)

      owned : is_owner all_of d.number image ≡ true
      owned =
          and_from _ _
          (and_from _ _ (and_from _ _ (eq-eqb _ _ (number_there 0 (omega arith) ∙ fits.image_len)) (eq-eqb _ _ (number_there 1 (omega arith)))) (rw first_bytes (same_refl (span image 0 0x428))))
          (rw last_bytes (same_refl (span image 0x430 0x10)))

      -- ---- what it can carry out

      copy_fits : copying_fits (length image) (copying_in all_of) ≡ true
      copy_fits = ap (copying_fits (length image)) copy_there ∙ fits.copy

      long : 1266 + length (record_part d) + length d.note.now + length d.word.bytes.now + length d.table.bytes.now + length clip ≤ length all_of
      long = length_all (1 ∷ head_of d) (record_part d) d.note.now d.word.bytes.now d.table.bytes.now clip rest (length_head d fits.header)

      steps_fit_there : steps_fit all_of (length image) (steps_in all_of) ≡ true
      unfolding steps_fit
      steps_fit_there =
          let n : ℕ = length image in
          let p = places_of d in
          let first = source_step all_of d.clip.at d.clip.len p.clip n fits.clip (omega arith) (omega (arith, long, fits.clip_len)) in
          let second = source_step all_of d.table.at (length d.table.bytes.now) p.table n fits.table (omega arith) (omega (arith, long)) in
          let third = placed all_of d.tail.at d.tail.len 0 n fits.tail refl in
          let fourth = source_step all_of d.word.at (length d.word.bytes.now) p.word n fits.word (omega arith) (omega (arith, long)) in
          let fifth = placed all_of d.lost.at d.lost.len 0 n fits.lost refl in
          ap (steps_fit all_of n) steps_there ∙ and_from _ _ first (and_from _ _ second (and_from _ _ third (and_from _ _ fourth (and_from _ _ fifth refl))))

      -- ---- the record that goes with it

      counted : record_count all_of ≡ (if d.has_record then length d.record_text.now + 1 else 0)
      counted = number_there 2 (omega arith)

      record_fits_there : record_fits all_of ≡ true
      record_fits_there =
          let c = count_fits d.has_record d.record_text.now fits.short_record in
          let few : record_count all_of ≤ 0x1001 = omega (arith, counted, c.0) in
          let inside : 1266 + (record_count all_of - 1) ≤ length all_of = omega (arith, counted, c.1, long) in
          and_from _ _ (le-leb _ _ few) (le-leb _ _ inside)

      record_there : (old : List ℕ) → record_after all_of old ≡ draft_record d old
      record_there old =
          ap (λ (n : ℕ). if n == 0 then old else span all_of 1266 (n - 1)) counted
          ∙ record_counted d.has_record d.record_text.now old all_of (text_there (1 ∷ head_of d) (record_part d) d.note.now d.word.bytes.now d.table.bytes.now clip rest (length_head d fits.header))

      told_there : note_in all_of ≡ d.note.now
      told_there =
          (λ i. span all_of (1266 + (counted i - 1)) (number_there 3 (omega arith) i))
          ∙ ap (λ (n : ℕ). span all_of (1266 + n) (length d.note.now)) (count_fits d.has_record d.record_text.now fits.short_record).1
          ∙ note_there (1 ∷ head_of d) (record_part d) d.note.now d.word.bytes.now d.table.bytes.now clip rest (length_head d fits.header)

      -- ---- what comes of it

      writes_there : writes_in all_of ≡ draft_writes d clip
      unfolding writes_of
      writes_there =
          let p = places_of d in
          let h : List ℕ = 1 ∷ head_of d in
          let l : length h ≡ 1266 = length_head d fits.header in
          let word : span all_of p.word (length d.word.bytes.now) ≡ d.word.bytes.now = word_there h (record_part d) d.note.now d.word.bytes.now d.table.bytes.now clip rest l in
          let table : span all_of p.table (length d.table.bytes.now) ≡ d.table.bytes.now = table_there h (record_part d) d.note.now d.word.bytes.now d.table.bytes.now clip rest l in
          let clip_is : span all_of p.clip d.clip.len ≡ clip =
          ap (λ (n : ℕ). span all_of p.clip n) fits.clip_len ∙ clip_there h (record_part d) d.note.now d.word.bytes.now d.table.bytes.now clip rest l in
          let first = source_write all_of d.clip.at d.clip.len p.clip clip (omega arith) clip_is in
          let second = source_write all_of d.table.at (length d.table.bytes.now) p.table d.table.bytes.now (omega arith) table in
          let fourth = source_write all_of d.word.at (length d.word.bytes.now) p.word d.word.bytes.now (omega arith) word in
          ap (writes_of all_of) steps_there
          ∙ (λ i. first i ∷ second i ∷ record { at = d.tail.at; bytes = replicate d.tail.len 0 } ∷ fourth i ∷ record { at = d.lost.at; bytes = replicate d.lost.len 0 } ∷ [])

      image_there : finished_image all_of image ≡ after (draft_writes d clip) (copied d.copy image)
      image_there =
          let copied_once : (if is_copied all_of then image else copied (copying_in all_of) image) ≡ copied d.copy image =
          ap (λ (c : Copying). if is_copied all_of then image else copied c image) copy_there ∙ copied-once d.copy image in
          λ i. after (writes_there i) (copied_once i)

      head_there : head_applies all_of d.number image ≡ true
      head_there = and_from _ _ (and_from _ _ (and_from _ _ owned copy_fits) steps_fit_there) record_fits_there

      open_there : is_open all_of ≡ true
      open_there = le-leb _ _ (omega (arith, long))

-- ---- the sum behind it

module _ (d : Draft) (clip more : List ℕ) (small : FitInBytes (numbers_of d)) (image : List ℕ) (fits : DraftFits d (length image) (length clip)) (owner : d.header.now ≡ take 0x440 image) where
  abbrev pub sum_of : List ℕ
  sum_of = number_bytes (sum_from 0 (summed d clip))

  -- the journal with the sum
  abbrev pub whole_of : List ℕ
  whole_of = all_of d clip (sum_of ++ more)

  -- the gates, and what is summed
  length_summed : 2 + length (summed d clip) ≡ 1 + length (head_of d ++ parts_of d) + length clip
  length_summed = omega (arith, length-append (head_of d ++ parts_of d) clip)

  end_there : noted_end whole_of ≡ 2 + length (summed d clip)
  end_there =
      let from : number_at whole_of 74 ≡ (places_of d).clip = number_there d clip (sum_of ++ more) small 9 (omega arith) in
      let len : number_at whole_of 66 ≡ d.clip.len = number_there d clip (sum_of ++ more) small 8 (omega arith) in
      omega (arith, from, len, clip_place d fits.header, fits.clip_len, length_summed)

  summed_there : (end : ℕ) → end ≡ 2 + length (summed d clip) → span whole_of 2 (end - 2) ≡ summed d clip
  summed_there end is = take_at (summed d clip) (sum_of ++ more) (end - 2) (omega (arith, is))

  sum_there : (end : ℕ) → end ≡ 2 + length (summed d clip) → number_at whole_of end ≡ sum_from 0 (summed d clip)
  sum_there end is =
      let front : List ℕ = 1 ∷ copied_gate d ∷ summed d clip in
      let e : length front + 0 ≡ end = omega (arith, is) in
      rw e at (number_behind front (sum_of ++ more) 0) ∙ number_first (sum_from 0 (summed d clip)) more (sum_from-small 0 (summed d clip) (omega arith))

  whole_there : is_whole whole_of ≡ true
  whole_there =
      let end : ℕ = noted_end whole_of in
      let held : length whole_of ≡ 2 + length (summed d clip) + (8 + length more) = omega (arith, length-append (summed d clip) (sum_of ++ more), length-append sum_of more, length-number_bytes (sum_from 0 (summed d clip))) in
      let front : 1266 ≤ end = omega (arith, end_there, length_head d fits.header, length-append (head_of d ++ parts_of d) clip, length-append (head_of d) (parts_of d)) in
      let sum : number_at whole_of end ≡ sum_from 0 (span whole_of 2 (end - 2)) = sum_there end end_there ∙ ap (sum_from 0) (sym (summed_there end end_there)) in
      and_from _ _ (and_from _ _ (le-leb _ _ front) (le-leb _ _ (omega (arith, held, end_there)))) (eq-eqb _ _ sum)

  applies_there : applies whole_of d.number image ≡ true
  applies_there = and_from _ _ (head_there d clip (sum_of ++ more) small image fits owner) whole_there

-- ---- once the gate is opened

-- the sum, and what an older journal left behind it
abbrev left_behind : Draft → List ℕ → List ℕ → List ℕ
left_behind d clip journal =
    let sum : List ℕ = number_bytes (sum_from 0 (summed d clip)) in
    sum ++ drop (1 + length (head_of d ++ parts_of d ++ clip ++ sum)) journal

-- what is summed while the sum is not yet there
pub summed_noted : (d : Draft) (clip journal : List ℕ) (n : ℕ) → 0 < length journal → n ≡ length (summed d clip)
    → span (put journal 1 (head_of d ++ parts_of d ++ clip)) 2 n ≡ summed d clip
unfolding put
summed_noted d clip [] n some is = absurd (omega arith)
summed_noted d clip (gate ∷ journal) n some is = take_at (summed d clip) _ n (sym is)

open_noted : (d : Draft) (clip journal : List ℕ) → 0 < length journal → opened (noted d clip journal) ≡ all_of d clip (left_behind d clip journal)
unfolding put
open_noted d clip [] some = absurd (omega arith)
open_noted d clip (gate ∷ journal) some = ap (λ (l : List ℕ). 1 ∷ l) (append_assoc (head_of d ++ parts_of d ++ clip) (number_bytes (sum_from 0 (summed d clip))) _)

-- behind the gates
behind_noted : (d : Draft) (clip journal : List ℕ) → 0 < length journal → drop 2 (noted d clip journal) ≡ drop 2 (all_of d clip (left_behind d clip journal))
unfolding put
behind_noted d clip [] some = absurd (omega arith)
behind_noted d clip (gate ∷ journal) some = append_assoc (summed d clip) (number_bytes (sum_from 0 (summed d clip))) _

module _ (d : Draft) (clip : List ℕ) (old mid new : Disk) (looks : new ≡ mid) (is : mid ≡ with_journal old (noted d clip old.journal)) (some : 0 < length old.journal)
    (small : FitInBytes (numbers_of d)) (fits : DraftFits d (length old.image) (length clip)) (owner : d.header.now ≡ take 0x440 old.image) where
  abbrev behind_it : List ℕ
  behind_it = left_behind d clip old.journal

  opened_is : opened (noted d clip old.journal) ≡ all_of d clip behind_it
  opened_is = open_noted d clip old.journal some

  pub noted_applies : will_apply d.number new ≡ true
  noted_applies =
      ap (will_apply d.number) (looks ∙ is)
      ∙ ap (λ (j : List ℕ). is_open j && applies j d.number old.image) opened_is
      ∙ and_from _ _ (open_there d clip behind_it small old.image fits owner) (applies_there d clip (drop (1 + length (head_of d ++ parts_of d ++ clip ++ number_bytes (sum_from 0 (summed d clip)))) old.journal) small old.image fits owner)

  pub noted_comes_to : finished (opened_disk new) ≡ kept_after d clip (kept_of old)
  noted_comes_to =
      ap (λ (s : Disk). finished (opened_disk s)) (looks ∙ is)
      ∙ (λ i. record { image = finished_image (opened_is i) old.image; record_text = record_after (opened_is i) old.record_text })
      ∙ (λ i. record { image = image_there d clip behind_it small old.image fits owner i; record_text = record_there d clip behind_it small old.image fits owner old.record_text i })

  pub noted_told : note_in new.journal ≡ d.note.now
  noted_told =
      let enough : 1266 ≤ length (all_of d clip behind_it) = omega (arith, long d clip behind_it small old.image fits owner) in
      ap (λ (s : Disk). note_in s.journal) (looks ∙ is)
      ∙ note-behind (noted d clip old.journal) (all_of d clip behind_it) (behind_noted d clip old.journal some) enough
      ∙ told_there d clip behind_it small old.image fits owner
