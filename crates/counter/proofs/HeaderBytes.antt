-- A header that was read as good and written back into 0x440 bytes gives the image's first bytes. Assumes nothing.
use Prim.Native.Nat.{ℕ, ◌+◌, ◌-◌, ◌≤◌, ◌<◌}
use mathlib.Core.Path.{◌≡◌, refl, sym, ap, ◌∙◌}
use mathlib.Core.List.{List}
use native.Mathlib.Omega.{arith}
use borrow.Author.Tests.{le-ltb}
use lib.ListN.{length, get_or, take}
use lib.Seq.{ext_get_or, get_or-take, length-take-le}
use Rattle.endian.specs.Bytes.{AllBytes}
use Rattle.endian.specs.Laws.Stored.{length-span, get_d-span}
use Rattle.std.specs.Prelude.{Ok, Err}
use Rattle.refusal.specs.Refusal.{Verdict}
use Rattle.refusal.specs.declared.Refusal.{Refusal}
use Rattle.header.specs.declared.fields.Field.{Field}
use Rattle.header.specs.declared.value.DiscHeader.{DiscHeader}
use Rattle.header.specs.Fields.{fields, game_code_field, maker_code_field, unused00a_field, game_name_field, unused408_field}
use Rattle.header.specs.Inner.Judged.{field_at, nth}
use Rattle.header.specs.Header.{bytes_of, header_of, header_answer, field_bytes, put_header, write_verdict, image_with_header}
use Rattle.header.specs.Verdicts.{header_verdict}
use Rattle.header.specs.Laws.FieldTests.{header-passed}
use Rattle.header.specs.Laws.Tiling.{fields-tile, fields-count, one_field}
use Rattle.header.specs.Laws.RoundTrip.{Fills, length-put_fields, put_fields-in, write_read}
use Rattle.counter.specs.Replies.{reply, accepted_reply, refused_reply, number_told, verdict_reply}
use Rattle.std.specs.Result.{result_and}

module _ (image slots : List ℕ) (good : header_verdict image ≡ Ok tt) (bytes : AllBytes image) (room : length slots ≡ 0x440) where
  whole : 0x440 ≤ length image
  whole = (header-passed image good).whole

  long : (f : Field) → f.at + f.len ≤ 0x440 → length (bytes_of f image) ≡ f.len
  long f h = length-span image f.at f.len (omega (arith, whole))

  fills : Fills fields (field_bytes (header_of image))
  unfolding fields field_bytes header_of
  fills = (long game_code_field (omega arith), (long maker_code_field (omega arith), (refl, (refl, (refl, (refl, (long unused00a_field (omega arith), (refl, (refl, (long game_name_field (omega arith), (refl, (refl, (long unused408_field (omega arith), (refl, (refl, (refl, (refl, (refl, (refl, (refl, (refl, tt)))))))))))))))))))))

  field : (k : ℕ) → k < 21 → bytes_of (nth fields k) (put_header (header_of image) slots) ≡ bytes_of (nth fields k) image
  field k h =
      let l : k < length fields = omega (arith, fields-count) in
      put_fields-in 0 0x440 fields (field_bytes (header_of image)) slots fields-tile fills (omega arith) k l
      ∙ sym (rw (write_read image whole bytes) at (put_fields-in 0 0x440 fields (field_bytes (header_of image)) image fields-tile fills whole k l))

  -- the byte with number i of a field that holds it
  byte-in : (s : List ℕ) (f : Field) (i : ℕ) → f.at ≤ i → i < f.at + f.len → get_or s i 0 ≡ get_or (bytes_of f s) (i - f.at) 0
  byte-in s f i l h =
      let e : f.at + (i - f.at) ≡ i = omega arith in
      sym (rw e at (get_d-span s f.at f.len (i - f.at) (omega arith)))

  byte : (i : ℕ) → i < 0x440 → get_or (put_header (header_of image) slots) i 0 ≡ get_or image i 0
  byte i h =
      let o = one_field i h in
      let f : Field = field_at o.0 in
      byte-in (put_header (header_of image) slots) f i o.1.1.0 o.1.1.1
      ∙ ap (λ (l : List ℕ). get_or l (i - f.at) 0) (field o.0 o.1.0)
      ∙ sym (byte-in image f i o.1.1.0 o.1.1.1)

  taken : put_header (header_of image) slots ≡ take 0x440 image
  taken =
      let l : length (put_header (header_of image) slots) ≡ 0x440 = length-put_fields 0 0x440 fields (field_bytes (header_of image)) slots fields-tile fills (omega arith) ∙ room in
      let t : length (take 0x440 image) ≡ 0x440 = length-take-le 0x440 image whole in
      ext_get_or 0 _ _ (l ∙ sym t) (λ i h. byte i (omega arith) ∙ sym (get_or-take 0x440 image i 0 (omega arith)))

  back : reply (number_told (write_verdict slots)) (image_with_header (header_of image) slots) ≡ accepted_reply (take 0x440 image)
  back = rw (le-ltb (length slots) 0x440 (omega arith), taken) refl

module _ (image slots : List ℕ) where
  pub header-written : (h : DiscHeader) → Ok h ≡ header_answer image → AllBytes image → length slots ≡ 0x440 → reply (number_told (write_verdict slots)) (image_with_header h slots) ≡ verdict_reply slots (header_verdict image) (take 0x440 image)
  header-written h e bytes room = go (header_verdict image) refl e
    where
      go : (v : Verdict) → header_verdict image ≡ v → Ok h ≡ result_and v (Ok (header_of image)) → reply (number_told (write_verdict slots)) (image_with_header h slots) ≡ verdict_reply slots v (take 0x440 image)
      go (Ok _) g r = let k : h ≡ header_of image = cc in rw (k, back image slots g bytes room)
      go (Err c) g r = cc

  pub header_refused : (c : Refusal) → Err c ≡ header_answer image → refused_reply slots c ≡ verdict_reply slots (header_verdict image) (take 0x440 image)
  header_refused c e = go (header_verdict image) e
    where
      go : (v : Verdict) → Err c ≡ result_and v (Ok (header_of image)) → refused_reply slots c ≡ verdict_reply slots v (take 0x440 image)
      go (Ok _) r = cc
      go (Err d) r = let k : c ≡ d = cc in rw k
