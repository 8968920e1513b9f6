-- The header's tests and the program are those of the image: they read no byte that the parts do not have. Assumes nothing.
use Rattle.std.specs.Prelude.{Result, Ok, Err}
use Rattle.refusal.specs.Refusal.{Verdict, first}
use Prim.Native.Nat.{ℕ, zero, suc, ◌+◌, ◌*◌, ◌≤◌, ◌<◌, min}
use Rattle.std.specs.Prelude.{◌≡◌, Bool, true, false, ltb, List, [], length, take}
use Rattle.std.proofs.Common.{refl, sym, ap, ◌∙◌, arith, add-zero, length-take, ltb-true, ltb-false, lt-ltb, le-ltb}
use Rattle.std.proofs.Math.Seq.{get_or-take}
use Rattle.endian.specs.Bytes.{be32, span}
use Rattle.endian.specs.Laws.Stored.{be32-same, length-span}
use Rattle.header.specs.Verdicts.{header_verdict, bounds_verdict, dol_offset, fst_offset, fst_size, fst_max_size, user_size, disc_size, disc_end, table_end}
use Rattle.header.specs.Inner.Bounds.{bounds_within}
use Rattle.header.specs.Laws.Order.{header-order}
use Rattle.refusal.specs.declared.Refusal.{Refusal}
use Rattle.executable.specs.Dol.{words_at, dol_header_of, file_size_of}
use Rattle.opened.proofs.Laws.OpeningLaws.{be32-span}
use Rattle.space.specs.declared.region.DiscRegion.{DiscRegion}
use Rattle.space.specs.Used.{no_region}
use Rattle.executable.specs.Program.{Program, program_of, program_verdict}
use Rattle.executable.specs.Inner.Reading.{program_at}
use Rattle.opened.specs.Inner.Parts.{Heads, own_as}

-- ---- a field of the header

pub field_same : (image : List ℕ) (at : ℕ) → at + 4 ≤ 0x440 → be32 (take 0x440 image) at ≡ be32 image at
field_same image at h = be32-same (take 0x440 image) image at (λ i l. get_or-take 0x440 image (at + i) 0 (omega arith))

-- whether the image reaches a place of the header
reach_same : (n image-length : ℕ) → n ≤ 0x440 → ltb (min 0x440 image-length) n ≡ ltb image-length n
reach_same n long h = go (ltb long n) refl
  where
    go : (t : Bool) → ltb long n ≡ t → ltb (min 0x440 long) n ≡ t
    go true e = let l : min 0x440 long < n = omega (arith, ltb-true long n e) in lt-ltb (min 0x440 long) n l
    go false e = let l : n ≤ min 0x440 long = omega (arith, ltb-false long n e) in le-ltb (min 0x440 long) n l

pub header_same : (image : List ℕ) → header_verdict (take 0x440 image) ≡ header_verdict image
header_same image =
    let r : (n : ℕ) → n ≤ 0x440 → ltb (length (take 0x440 image)) n ≡ ltb (length image) n = λ n h. rw length-take (reach_same n (length image) h) in
    header-order (take 0x440 image)
    ∙ rw (r 0x1C (omega arith), r 0x20 (omega arith), r 0x440 (omega arith), field_same image 0x18 (omega arith), field_same image 0x1C (omega arith)) (sym (header-order image))

module _ (image header : List ℕ) (long : ℕ) (h : Heads image header long) where
  field_is : (at : ℕ) → at + 4 ≤ 0x440 → be32 header at ≡ be32 image at
  field_is at l = rw h.start (field_same image at l)

  pub header_is : header_verdict header ≡ header_verdict image
  header_is = rw h.start (header_same image)

  pub dol_is : dol_offset header ≡ dol_offset image
  dol_is = field_is 0x420 (omega arith)

  pub start_is : fst_offset header ≡ fst_offset image
  start_is = field_is 0x424 (omega arith)

  pub size_is : fst_size header ≡ fst_size image
  size_is = field_is 0x428 (omega arith)

  pub maximum_is : fst_max_size header ≡ fst_max_size image
  maximum_is = field_is 0x42C (omega arith)

  pub user_is : user_size header ≡ user_size image
  user_is = field_is 0x434 (omega arith)

  pub disc_is : disc_size header ≡ disc_size image
  disc_is = field_is 0x438 (omega arith)

  pub end_is : disc_end header ≡ disc_end image
  end_is = rw (user_is, disc_is)

  pub table_end_is : table_end header ≡ table_end image
  table_end_is = rw (start_is, size_is)

  -- what the header's bytes and the image's length tell of the image
  pub bounds_are : first (header_verdict header) (bounds_within header long) ≡ first (header_verdict image) (bounds_verdict image)
  unfolding bounds_within bounds_verdict
  bounds_are = rw (header_is, start_is, size_is, user_is, disc_is, h.long_is) refl

-- ---- the executable's header

words_part : (s : List ℕ) (at n k m : ℕ) → k + 4 * m ≤ n → words_at (span s at n) k m ≡ words_at s (at + k) m
unfolding words_at
words_part s at n k zero h = refl
words_part s at n k (suc m) h =
    let e : at + (k + 4) ≡ at + k + 4 = omega arith in
    rw (be32-span s at n k (omega arith), words_part s at n (k + 4) m (omega arith), e)

size-part : (image : List ℕ) (at : ℕ) → file_size_of (dol_header_of (span image at 0xE4) 0) ≡ file_size_of (dol_header_of image at)
size-part image at =
    rw (
      words_part image at 0xE4 0 7 (omega arith),
      words_part image at 0xE4 0x90 7 (omega arith),
      words_part image at 0xE4 0x1C 11 (omega arith),
      words_part image at 0xE4 0xAC 11 (omega arith),
      add-zero at,
    )

-- the program of an image that holds the program's header, and of one that does not
pub program_held : (image program : List ℕ) (at : ℕ) → at ≡ dol_offset image → at + 0xE4 ≤ length image → program ≡ span image (dol_offset image) 0xE4 → program_at at program 0 ≡ program_of image
unfolding program_at program_of
program_held image program at p h e =
    let l : 0 + 0xE4 ≤ length (span image at 0xE4) = omega (arith, length-span image at 0xE4 h) in
    rw (e, ← p, le-ltb (length (span image at 0xE4)) (0 + 0xE4) l, le-ltb (length image) (at + 0xE4) h, size-part image at) refl

pub program_past : (image : List ℕ) (at : ℕ) → at ≡ dol_offset image → length image < at + 0xE4 → program_at at [] 0 ≡ program_of image
unfolding program_at program_of
program_past image at p h = rw (← p, lt-ltb (length image) (at + 0xE4) h) refl

-- ---- the program's own region

passed_place : Result DiscRegion Refusal → DiscRegion
passed_place (Ok own) = own
passed_place (Err c) = no_region

passed_verdict : Result DiscRegion Refusal → Verdict
passed_verdict (Ok own) = Ok tt
passed_verdict (Err c) = Err c

pub own_passed : (p : Program) (own r : DiscRegion) → Ok r ≡ own_as p own → (program_verdict p ≡ Ok tt) × (r ≡ own)
unfolding passed_place
own_passed (Ok x) own r e = (refl, ap passed_place e)
own_passed (Err c) own r e = let z : ◌≡◌ {A = ℕ} 0 1 = cc in absurd (omega arith)

pub own_refused : (p : Program) (own : DiscRegion) (c : Refusal) → Err c ≡ own_as p own → program_verdict p ≡ Err c
unfolding passed_verdict
own_refused (Ok x) own c e = let z : ◌≡◌ {A = ℕ} 0 1 = cc in absurd (omega arith)
own_refused (Err _) own c e = sym (ap passed_verdict e)
