-- The fields one by one come to five tests: the Wii magic is judged as soon as it is there, then the GameCube magic, then the rest of the header is asked for.
-- Assumes nothing.
use Rattle.std.specs.Prelude.{Ok}
use Rattle.refusal.specs.Refusal.{Verdict}
use Rattle.std.specs.Prelude.{ℕ, ◌+◌, ◌<◌, ◌≤◌, ◌≡◌, Bool, ◌&&◌, not, ltb, take, drop}
use Rattle.std.proofs.Math.Path.{refl}
use Rattle.std.proofs.Common.{◌∙◌}
use Rattle.std.proofs.Math.Bool.{true, false}
use mathlib.Core.List.{List, [], ◌∷◌, ◌++◌}
use native.Mathlib.Omega.{arith}
use Rattle.std.proofs.Math.Dec.{eqb}
use Rattle.std.proofs.Math.ListN.{length}
use borrow.Author.Tests.{ltb-true, eqb-true, lt-ltb, le-ltb, not-true}
use Rattle.endian.specs.Bytes.{be32}
use Rattle.refusal.specs.declared.Refusal.{Refusal}
use Rattle.refusal.specs.declared.Refusal.TheVariants.{HeaderPastImage, WiiNotSupported, InvalidMagic}
use Rattle.refusal.specs.Refusal.{refuse, first}
use Rattle.header.specs.declared.fields.Field.{Field}
use Rattle.header.specs.Fields.{fields, wii_magic_field, gcn_magic_field, game_name_field}
use Rattle.header.specs.Laws.Tiling.{tile}
use Rattle.header.specs.Verdicts.{gcn_magic, wii_magic, field_verdict, all_fields_verdict, header_verdict}
use Rattle.refusal.specs.Laws.Tests.{and_left, and_right}
use Rattle.header.specs.Laws.Tiling.{every_field, tile-start, tile-rest}

first-refuse : (t : Bool) (c : Refusal) (r v : Verdict) → first (refuse t c r) v ≡ refuse t c (first r v)
first-refuse true c r v = refl
first-refuse false c r v = refl

-- of two tests with one cause, one after the other, the wider one decides
merge : (n a b : ℕ) (c : Refusal) (r : Verdict) → a ≤ b → refuse (ltb n a) c (refuse (ltb n b) c r) ≡ refuse (ltb n b) c r
merge n a b c r h = go (ltb n a) refl
  where
    go : (t : Bool) → ltb n a ≡ t → refuse t c (refuse (ltb n b) c r) ≡ refuse (ltb n b) c r
    go true e = let l : n < b = omega (arith, ltb-true n a e) in rw (lt-ltb n b l)
    go false e = refl

-- a field that is no magic
abbrev plain : Field → Bool
plain f = not (eqb f.at wii_magic_field.at) && not (eqb f.at gcn_magic_field.at)

module _ (image : List ℕ) where
  abbrev pub short : ℕ → Verdict → Verdict
  short n later = refuse (ltb (length image) n) HeaderPastImage later

  plain-field : (f : Field) → plain f ≡ true → field_verdict image f ≡ short (f.at + f.len) (Ok tt)
  unfolding field_verdict
  plain-field f p =
      let a : eqb f.at 0x18 ≡ false = not-true (eqb f.at 0x18) (and_left (not (eqb f.at 0x18)) (not (eqb f.at 0x1C)) p) in
      let b : eqb f.at 0x1C ≡ false = not-true (eqb f.at 0x1C) (and_right (not (eqb f.at 0x18)) (not (eqb f.at 0x1C)) p) in
      rw (a, b)

  -- a run of fields that are no magics: whether the image reaches its end
  run : (fs gs : List Field) (a b : ℕ) → tile a b fs ≡ true → every_field plain fs ≡ true → short a (all_fields_verdict image (fs ++ gs)) ≡ short b (all_fields_verdict image gs)
  unfolding all_fields_verdict
  run [] gs a b t p = rw (eqb-true a b t)
  run (f ∷ fs) gs a b t p =
      let o : f.at ≡ a = tile-start a b f fs t in
      let r : tile (a + f.len) b fs ≡ true = tile-rest a b f fs t in
      let l : a ≤ a + f.len = omega arith in
      rw (plain-field f (and_left (plain f) (every_field plain fs) p), o, first-refuse (ltb (length image) (a + f.len)) HeaderPastImage (Ok tt) (all_fields_verdict image (fs ++ gs)), merge (length image) a (a + f.len) HeaderPastImage (all_fields_verdict image (fs ++ gs)) l)
      (run fs gs (a + f.len) b r (and_right (plain f) (every_field plain fs) p))

  step : (f : Field) (fs : List Field) → all_fields_verdict image (f ∷ fs) ≡ first (field_verdict image f) (all_fields_verdict image fs)
  unfolding all_fields_verdict
  step f fs = refl

  wii-field : (later : Verdict) → first (field_verdict image wii_magic_field) later ≡ short 0x1C (refuse (eqb (be32 image 0x18) wii_magic) WiiNotSupported later)
  unfolding field_verdict
  wii-field later = rw (first-refuse (ltb (length image) 0x1C) HeaderPastImage (refuse (eqb (be32 image 0x18) wii_magic) WiiNotSupported (Ok tt)) later, first-refuse (eqb (be32 image 0x18) wii_magic) WiiNotSupported (Ok tt) later)

  gcn-field : (later : Verdict) → first (field_verdict image gcn_magic_field) later ≡ short 0x20 (refuse (not (eqb (be32 image 0x1C) gcn_magic)) InvalidMagic later)
  unfolding field_verdict
  gcn-field later = rw (first-refuse (ltb (length image) 0x20) HeaderPastImage (refuse (not (eqb (be32 image 0x1C) gcn_magic)) InvalidMagic (Ok tt)) later, first-refuse (not (eqb (be32 image 0x1C) gcn_magic)) InvalidMagic (Ok tt) later)

  -- the fields before the magics, and those behind them
  front : header_verdict image ≡ short 0x18 (all_fields_verdict image (drop 7 fields))
  unfolding header_verdict fields
  front = let z : 0 ≤ length image = omega arith in rw (le-ltb (length image) 0 z) at (run (take 7 fields) (drop 7 fields) 0 0x18 refl refl)

  none : all_fields_verdict image [] ≡ Ok tt
  unfolding all_fields_verdict
  none = refl

  back : all_fields_verdict image (drop 9 fields) ≡ short 0x440 (Ok tt)
  unfolding fields
  back =
      step game_name_field (drop 10 fields)
      ∙ rw (plain-field game_name_field refl, first-refuse (ltb (length image) 0x400) HeaderPastImage (Ok tt) (all_fields_verdict image (drop 10 fields))) (rw none at (run (drop 10 fields) [] 0x400 0x440 refl refl))

  pub header-order : header_verdict image
      ≡ short 0x1C
      (refuse (eqb (be32 image 0x18) wii_magic) WiiNotSupported
      (short 0x20
      (refuse (not (eqb (be32 image 0x1C) gcn_magic)) InvalidMagic
      (short 0x440 (Ok tt)))))
  unfolding fields
  header-order =
      let g : all_fields_verdict image (drop 8 fields) ≡ short 0x20 (refuse (not (eqb (be32 image 0x1C) gcn_magic)) InvalidMagic (short 0x440 (Ok tt))) =
      step gcn_magic_field (drop 9 fields) ∙ gcn-field (all_fields_verdict image (drop 9 fields)) ∙ rw back in
      let w : all_fields_verdict image (drop 7 fields) ≡ short 0x1C (refuse (eqb (be32 image 0x18) wii_magic) WiiNotSupported (all_fields_verdict image (drop 8 fields))) =
      step wii_magic_field (drop 8 fields) ∙ wii-field (all_fields_verdict image (drop 8 fields)) in
      front ∙ rw (w, g) (merge (length image) 0x18 0x1C HeaderPastImage _ (omega arith))
