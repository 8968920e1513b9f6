-- What the draft of a decision comes to, and that it fits. Assumes nothing.
use Rattle.std.specs.Prelude.{Ok, ℕ, zero, suc, ◌+◌, ◌-◌, ◌<◌, ◌≤◌, ◌^◌, ◌≡◌, ◌⊎◌, refl, Bool, true, false, ◌||◌, nat_le, List, [], ◌∷◌, length, replicate, take}
use Rattle.std.proofs.Common.{arith, ap, sym, ◌∙◌, ⊎_elim, subst, length-take-le, ne_eqb}
use borrow.Author.Tests.{le-leb}
use Rattle.endian.specs.Bytes.{put, span, be32, be32_bytes}
use Rattle.endian.specs.Laws.Stored.{length-span, put-none}
use Rattle.header.specs.Fields.{fst_size_field, fst_max_size_field}
use Rattle.header.specs.Verdicts.{fst_offset, fst_size}
use Rattle.edit_rules.specs.Change.{image_with_table}
use Rattle.edit_rules.proofs.Laws.Puts.{put-length, field_below, span-length}
use Rattle.edit.specs.declared.decision.Writing.{Writing}
use Rattle.edit.specs.declared.decision.Decision.{Decision}
use Rattle.edit.specs.declared.decision.Decision.TheVariants as decision
use Rattle.edit.specs.Inner.Decision.{CanCarry, WritesApart, ClipFits, clipped_image, written_with, carried_image, decision_number}
use Rattle.edit.proofs.Clips.{clipped_image-put}
use Rattle.edit.proofs.Puts.{committed, copied_none, filled_none}
use Rattle.journal.specs.declared.draft.Draft.{Draft}
use Rattle.totals.specs.declared.Totals.{Totals}
use Rattle.opened.specs.Opening.{opening}
use Rattle.opened.specs.Inner.Parts.{Heads}
use Rattle.opened.proofs.Heads.{start_is, size_is}
use Rattle.record_text.specs.Text.{record_text}
use Rattle.journal.specs.Disk.{Disk}
use Rattle.journal.specs.Journal.{Kept, kept_of, after, copied, copying_fits, most_record}
use Rattle.journal.specs.Draft.{draft_writes, draft_record, kept_after, CanWrite, DraftFits}
use Rattle.journaled.specs.declared.request.Order.{Order}
use Rattle.journaled.specs.declared.making.Answer.{Answer}
use Rattle.journaled.specs.declared.making.Answer.TheVariants.{Refused, Declined, Unread, Unkept, Done}
use Rattle.journaled.specs.Edited.{kept_stated, IsStated}
use Rattle.journaled.specs.Inner.Drafted.{IsClipAlone, IsWordAlone, IsIdle, IsWritten, IsDraftOf, IsAside, IsMade, CanMake, kept_carried, IsCarriedOut}

-- ---- nothing put

put-empty : (s : List ℕ) (at : ℕ) (bs : List ℕ) → length bs ≡ 0 → put s at bs ≡ s
put-empty s at [] e = put-none s at
put-empty s at (b ∷ bs) e = absurd (omega arith)

zeros-empty : (s : List ℕ) (at n : ℕ) → n ≡ 0 → put s at (replicate n 0) ≡ s
zeros-empty s at n e = sym (filled_none s at n 0 e)

-- where nothing is written but a clip
alone-comes : (d : Draft) (image clip : List ℕ) → IsClipAlone d → after (draft_writes d clip) (copied d.copy image) ≡ put image d.clip.at clip
unfolding after
alone-comes d image clip a =
    let c : copied d.copy image ≡ image = sym (copied_none image d.copy.from d.copy.to d.copy.len a.copy) in
    zeros-empty _ d.lost.at d.lost.len a.lost
    ∙ put-empty _ d.word.at d.word.bytes.now a.word
    ∙ zeros-empty _ d.tail.at d.tail.len a.tail
    ∙ put-empty _ d.table.at d.table.bytes.now a.table
    ∙ ap (λ (s : List ℕ). put s d.clip.at clip) c

-- ---- the header under a clip

module _ (image clip : List ℕ) (at : ℕ) (k : ClipFits (length image) at (length clip)) where
  length-clipped : length (clipped_image image at clip) ≡ length image
  length-clipped = ap length (clipped_image-put image at clip) ∙ put-length image at clip k.into

  field-kept : (f : ℕ) → f + 4 ≤ 0x440 → be32 (clipped_image image at clip) f ≡ be32 image f
  field-kept f h = ap (λ (s : List ℕ). be32 s f) (clipped_image-put image at clip) ∙ field_below image at clip 0x440 k.into k.behind f h

-- ---- a decision that writes the table

-- the clip goes to the image as it is, or nothing is copied
clip-behind : (image : List ℕ) (from to n : ℕ) (clip : List ℕ) → (0 < length clip → n ≡ 0) →
    put (put image to (span image from n)) to clip ≡ put (clipped_image image to clip) to (span (clipped_image image to clip) from n)
clip-behind image from to n [] h = put-none (put image to (span image from n)) to
clip-behind image from to n (b ∷ clip) h =
    let e : n ≡ 0 = h (omega arith) in
    ap (λ (s : List ℕ). put s to (b ∷ clip)) (sym (copied_none image from to n e)) ∙ copied_none (put image to (b ∷ clip)) from to n e

module _ (image bytes clip : List ℕ) (k n : ℕ) (w : Writing) (can : CanCarry image (length bytes) clip (Ok (decision.Write k n w))) (apart : WritesApart clip (Ok (decision.Write k n w))) (aside : 0 < length clip → w.kept ≡ 0) where
  clip-there : ClipFits (length image) w.place.offset (length clip)
  clip-there = record { into = can.0; behind = apart.0 }

  abbrev c : List ℕ
  c = clipped_image image w.place.offset clip

  abbrev first : List ℕ
  first = put c w.place.offset (span c w.old.offset w.kept)

  same-length : length c ≡ length image
  same-length = length-clipped image clip w.place.offset clip-there

  first-length : length first ≡ length c
  first-length =
      let l = span-length c w.old.offset w.kept can.1.inside.copied.from in
      put-length c w.place.offset (span c w.old.offset w.kept) (λ z. omega (arith, l, can.1.inside.copied.into (rw l at z)))

  offset-kept : fst_offset c ≡ fst_offset image
  offset-kept = field-kept image clip w.place.offset clip-there 0x424 (omega arith)

  size-kept : fst_size c ≡ fst_size image
  size-kept = field-kept image clip w.place.offset clip-there 0x428 (omega arith)

  abbrev t : List ℕ
  t = span bytes 0 n

  -- the table over the clip and the copy
  tabled : put (put (put first (fst_offset image) t) (fst_offset image + n) (replicate (fst_size image - n) 0)) fst_size_field.at (be32_bytes n)
      ≡ image_with_table (fst_offset c) (fst_size c) t first
  tabled =
      rw (← offset-kept, ← size-kept)
      (committed first bytes _ _ _ (fst_offset c) (fst_size c) n (fst_size c - n) can.1.table.held (omega (arith, can.1.table.into, first-length)) (omega (arith, can.1.table.old, first-length)) refl refl refl refl)

  written-comes : (d : Draft) → IsWritten (fst_offset image) (fst_size image) bytes n w d → after (draft_writes d clip) (copied d.copy image) ≡ written_with w t c
  unfolding after written_with
  written-comes d h =
      rw (h.from, h.to, h.kept, h.clip, h.table, h.table_bytes, h.tail, h.tail_len, h.word, h.word_bytes, h.lost, h.lost_len)
      (ap
      (λ (s : List ℕ). put (put (put (put s (fst_offset image) t) (fst_offset image + n) (replicate (fst_size image - n) 0)) fst_size_field.at (be32_bytes n)) w.lost.offset (replicate w.lost.size 0))
      (clip-behind image w.old.offset w.place.offset w.kept clip aside)
      ∙ ap (λ (s : List ℕ). put s w.lost.offset (replicate w.lost.size 0)) tabled)

-- LAW: the draft of a decision comes to what the decision comes to
pub draft-comes : (decided : Decision) (d : Draft) (image bytes clip : List ℕ) → IsDraftOf (fst_offset image) (fst_size image) bytes decided d → CanCarry image (length bytes) clip (Ok decided) → WritesApart clip (Ok decided) → IsAside decided clip
    → after (draft_writes d clip) (copied d.copy image) ≡ carried_image (Ok decided) bytes clip image
draft-comes decision.Nothing d image bytes clip h can apart aside = alone-comes d image clip h ∙ put-empty image d.clip.at clip aside.uncopied
draft-comes (decision.Clip n at) d image bytes clip h can apart aside = alone-comes d image clip h.0 ∙ rw h.1 (sym (clipped_image-put image at clip))
draft-comes (decision.Write k n w) d image bytes clip h can apart aside = written-comes image bytes clip k n w can apart aside.uncopied d h

-- where nothing is written at all, nothing is changed
pub idle-same : (d : Draft) (clip : List ℕ) (k : Kept) → IsIdle d → d.clip.len ≡ length clip → kept_after d clip k ≡ k
idle-same d clip k i e =
    let image : after (draft_writes d clip) (copied d.copy k.image) ≡ k.image = alone-comes d k.image clip i.alone ∙ put-empty k.image d.clip.at clip (omega (arith, i.clip)) in
    rw (image, i.no_record)

-- where nothing is written but a word
word-comes : (d : Draft) (image clip : List ℕ) → IsWordAlone d → length clip ≡ 0 → after (draft_writes d clip) (copied d.copy image) ≡ put image d.word.at d.word.bytes.now
unfolding after
word-comes d image clip a e =
    zeros-empty _ d.lost.at d.lost.len a.lost
    ∙ ap (λ (s : List ℕ). put s d.word.at d.word.bytes.now)
    (zeros-empty _ d.tail.at d.tail.len a.tail ∙ put-empty _ d.table.at d.table.bytes.now a.table ∙ put-empty _ d.clip.at clip e ∙ sym (copied_none image d.copy.from d.copy.to d.copy.len a.copy))

-- image and record once another maximum is stated
module _ (d : Draft) (clip : List ℕ) (maximum : ℕ) (a : IsWordAlone d) (none : length clip ≡ 0) (at : d.word.at ≡ fst_max_size_field.at) (bytes : d.word.bytes.now ≡ be32_bytes maximum) (has : d.has_record ≡ false) where
  pub maximum-kept : (k : Kept) → kept_after d clip k ≡ kept_stated maximum k
  maximum-kept k = rw (word-comes d k.image clip a none, at, bytes, has)

  pub made-stated : (words table : ℕ) (old new : Disk) (answer : Answer) → opening old.image words ≡ Ok tt → IsMade d 0 clip old new answer → IsStated maximum words table old new answer
  made-stated words table old new (Done j) o made = (o, made.1 ∙ maximum-kept (kept_of old))
  made-stated words table old new (Refused c) o made = absurd made
  made-stated words table old new Declined o made = (o, made)
  made-stated words table old new Unread o made = absurd made
  made-stated words table old new Unkept o made = absurd made

-- ---- it fits

can-write : (long at n : ℕ) → (0 < n → at + n ≤ long) → (0 < n → 0x440 ≤ at) → CanWrite long at n
can-write long at n into behind some =
    let z : 0 < n = omega arith in
    let i : at + n ≤ long = into z in
    let b : 0x440 ≤ at = behind z in
    rw (le-leb (at + n) long i, le-leb 0x440 at b)

nothing-writes : (long at n : ℕ) → n ≡ 0 → CanWrite long at n
nothing-writes long at n e some = absurd (some e)

or_true : (b : Bool) → (b || true) ≡ true
or_true true = refl
or_true false = refl

copying-fits : (long from to n : ℕ) → (0 < n → from + n ≤ long) → CanWrite long to n → (0 < n → (from + n ≤ to) ⊎ (to + n ≤ from)) → copying_fits long (record { from = from; to = to; len = n }) ≡ true
copying-fits long from to zero source place apart = refl
copying-fits long from to (suc n) source place apart =
    let z : 0 < suc n = omega arith in
    rw (ne_eqb (suc n) 0 (λ e. absurd (omega arith)), place (λ e. absurd (omega arith)), le-leb (from + suc n) long (source z))
    (⊎_elim (λ up. rw (le-leb (from + suc n) to up)) (λ down. rw (le-leb (to + suc n) from down) (or_true (nat_le (from + suc n) to))) (apart z))

-- what is written fits an image of that length
pub record WritesFit (long : ℕ) (d : Draft) : Type 0 where
  pub copy : copying_fits long d.copy ≡ true
  pub clip : CanWrite long d.clip.at d.clip.len
  pub table : CanWrite long d.table.at (length d.table.bytes.now)
  pub tail : CanWrite long d.tail.at d.tail.len
  pub word : CanWrite long d.word.at (length d.word.bytes.now)
  pub lost : CanWrite long d.lost.at d.lost.len
  pub short_table : length d.table.bytes.now < 2 ^ 32
  pub short_word : length d.word.bytes.now < 2 ^ 32

alone-fits : (long : ℕ) (d : Draft) → IsClipAlone d → CanWrite long d.clip.at d.clip.len → WritesFit long d
alone-fits long d a clip = record {
  copy = rw a.copy;
  clip = clip;
  table = nothing-writes long d.table.at (length d.table.bytes.now) a.table;
  tail = nothing-writes long d.tail.at d.tail.len a.tail;
  word = nothing-writes long d.word.at (length d.word.bytes.now) a.word;
  lost = nothing-writes long d.lost.at d.lost.len a.lost;
  short_table = omega (arith, a.table);
  short_word = omega (arith, a.word);
}

writes-fit : (decided : Decision) (d : Draft) (image bytes clip : List ℕ) → IsDraftOf (fst_offset image) (fst_size image) bytes decided d → CanCarry image (length bytes) clip (Ok decided) → WritesApart clip (Ok decided) → IsAside decided clip
    → d.clip.len ≡ length clip → 0x440 ≤ length image → WritesFit (length image) d
writes-fit decision.Nothing d image bytes clip h can apart aside e head = alone-fits (length image) d h (nothing-writes (length image) d.clip.at d.clip.len (e ∙ aside.uncopied))
writes-fit (decision.Clip n at) d image bytes clip h can apart aside e head = alone-fits (length image) d h.0 (rw (e, h.1) (can-write (length image) at (length clip) can apart))
writes-fit (decision.Write k n w) d image bytes clip h can apart aside e head =
    let long : length (clipped_image image w.place.offset clip) ≡ length image = same-length image bytes clip k n w can apart aside.uncopied in
    let f : fst_offset (clipped_image image w.place.offset clip) ≡ fst_offset image = offset-kept image bytes clip k n w can apart aside.uncopied in
    let s : fst_size (clipped_image image w.place.offset clip) ≡ fst_size image = size-kept image bytes clip k n w can apart aside.uncopied in
    let t = rw (long, f, s) at can.1.table in
    let i = rw long at can.1.inside in
    let l : length (span bytes 0 n) ≡ n = length-span bytes 0 n (omega (arith, t.held)) in
    record {
      copy = rw (h.from, h.to, h.kept) (copying-fits (length image) w.old.offset w.place.offset w.kept i.copied.from (can-write (length image) w.place.offset w.kept i.copied.into apart.1.copy_behind) apart.1.apart);
      clip = rw (e, h.clip) (can-write (length image) w.place.offset (length clip) can.0 apart.0);
      table = rw (h.table, h.table_bytes, l) (can-write (length image) (fst_offset image) n (λ z. t.into) (λ z. t.behind-header));
      tail = rw (h.tail, h.tail_len) (can-write (length image) (fst_offset image + n) (fst_size image - n) (λ z. omega (arith, t.old)) (λ z. omega (arith, t.behind-header)));
      word = rw (h.word, h.word_bytes) (λ some. rw (le-leb 0x42C (length image) (omega arith)));
      lost = rw (h.lost, h.lost_len) (can-write (length image) w.lost.offset w.lost.size i.zeroed.into apart.1.lost_behind);
      short_table = rw (h.table_bytes, l) t.small;
      short_word = rw h.word_bytes (omega arith);
    }

-- a word of the header that edits write
pub word-fits : (long : ℕ) (d : Draft) → IsWordAlone d → d.clip.len ≡ 0 → 0x428 ≤ d.word.at → d.word.at + length d.word.bytes.now ≤ 0x430 → 0x440 ≤ long → WritesFit long d
word-fits long d a e low high head = record {
  copy = rw a.copy;
  clip = nothing-writes long d.clip.at d.clip.len e;
  table = nothing-writes long d.table.at (length d.table.bytes.now) a.table;
  tail = nothing-writes long d.tail.at d.tail.len a.tail;
  word = λ some. rw (le-leb (d.word.at + length d.word.bytes.now) long (omega arith), le-leb 0x428 d.word.at low, le-leb (d.word.at + length d.word.bytes.now) 0x430 high) (or_true (nat_le 0x440 d.word.at));
  lost = nothing-writes long d.lost.at d.lost.len a.lost;
  short_table = omega (arith, a.table);
  short_word = omega arith;
}

-- it is of the image, with the clip; what goes with it is short
pub record IsOf (image clip : List ℕ) (d : Draft) : Type 0 where
  pub image_len : d.image_len ≡ length image
  pub header : d.header.now ≡ take 0x440 image
  pub clip_len : d.clip.len ≡ length clip
  pub short_note : length d.note.now < 2 ^ 32
  pub short_record : length d.record_text.now ≤ most_record

module _ (image clip : List ℕ) (d : Draft) (w : WritesFit (length image) d) (of : IsOf image clip d) (short : length clip < 2 ^ 32) (head : 0x440 ≤ length image) where
  pub all_fit : DraftFits d (length image) (length clip)
  all_fit = record {
    image_len = of.image_len;
    header = rw of.header (length-take-le 0x440 image head);
    copy = w.copy;
    clip_len = of.clip_len;
    clip = w.clip;
    table = w.table;
    tail = w.tail;
    word = w.word;
    lost = w.lost;
    short_clip = short;
    short_table = w.short_table;
    short_word = w.short_word;
    short_note = of.short_note;
    short_record = of.short_record;
  }

-- LAW: the draft of a decision fits
pub draft-fits : (decided : Decision) (d : Draft) (image bytes clip : List ℕ) → IsDraftOf (fst_offset image) (fst_size image) bytes decided d → CanMake image bytes clip decided → IsOf image clip d
    → DraftFits d (length image) (length clip)
draft-fits decided d image bytes clip h can of = all_fit image clip d (writes-fit decided d image bytes clip h can.fits can.apart can.aside of.clip_len can.long) of can.aside.short can.long

-- ---- a draft of what is decided on, with a record or none

module _ (order : Order) (totals : Totals) (decided : Decision) (d : Draft) (bytes clip : List ℕ) where
  -- the header alone says where the table lies
  pub draft_headed : (image header : List ℕ) (long : ℕ) → Heads image header long → IsDraftOf (fst_offset header) (fst_size header) bytes decided d → IsDraftOf (fst_offset image) (fst_size image) bytes decided d
  draft_headed image header long head h = rw (start_is image header long head, size_is image header long head) at h

  -- LAW: image and record once the draft is made are those that are decided on
  pub draft-carried : (image : List ℕ) (k : Kept) → image ≡ k.image → IsDraftOf (fst_offset image) (fst_size image) bytes decided d → CanMake image bytes clip decided
      → d.has_record ≡ order.keeps_record → (order.keeps_record ≡ true → d.record_text.now ≡ record_text order.teams.now totals)
      → kept_after d clip k ≡ kept_carried order totals decided bytes clip k
  draft-carried image k same h can has text =
      rw
      (draft-comes decided d k.image bytes clip (subst (λ (i : List ℕ). IsDraftOf (fst_offset i) (fst_size i) bytes decided d) same h) (subst (λ (i : List ℕ). CanCarry i (length bytes) clip (Ok decided)) same can.fits) can.apart can.aside)
      (go order.keeps_record refl)
    where
      go : (keeps : Bool) → order.keeps_record ≡ keeps
          → ◌≡◌ {A = Kept} (record { image = carried_image (Ok decided) bytes clip k.image; record_text = draft_record d k.record_text }) (kept_carried order totals decided bytes clip k)
      go true e = rw (has, e, text e)
      go false e = rw (has, e)

  pub made-carried : (number : ℕ) (old new : Disk) (answer : Answer) → number ≡ decision_number decided → kept_after d clip (kept_of old) ≡ kept_carried order totals decided bytes clip (kept_of old)
      → IsMade d number clip old new answer → IsCarriedOut order totals decided bytes clip old new answer
  made-carried number old new (Done j) n kept made = (made.0 ∙ n, made.1 ∙ kept)
  made-carried number old new (Refused c) n kept made = absurd made
  made-carried number old new Declined n kept made = made
  made-carried number old new Unread n kept made = absurd made
  made-carried number old new Unkept n kept made = absurd made
