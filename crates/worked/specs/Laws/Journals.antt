-- Journals written out byte by byte from the layout (docs/DISK.md), and what recovery makes of them, by computing. Assumes nothing.
use Rattle.std.specs.Prelude.{ℕ, zero, suc, ◌≡◌, refl, List, [], ◌∷◌, ◌++◌, length, take, replicate, slice_index, codes}
use Rattle.std.proofs.Common.{arith}
use Rattle.endian.specs.Bytes.{be32, put, are_same_bytes}
use Rattle.journal.specs.Disk.{Disk, TearsImage, TearsJournal, with_image, with_journal}
use Rattle.journal.specs.Journal.{after, number_at, copying_in, step_in, steps_fit, writes_of, record_count, sum_from, Kept, kept_of, recovered, found_in}
use Rattle.journal.specs.declared.recovery.Found.TheVariants.{Nothing, Finished, Another}
use Rattle.journal.proofs.Torn.{put-torn, tears_image-wider}
use Rattle.worked.specs.Image.{master}
use Rattle.worked.specs.Laws.JournaledImages.{of_a, first, elsewhere, moved, shorter}

-- ---- the layout: what is read of a journal in which each byte of the head up to the header is its own place

unfoldable pub counting : ℕ → ℕ → List ℕ
counting from zero = []
counting from (suc n) = from ∷ counting (suc from) n

abbrev pub counted : List ℕ
counted = counting 0 178

pub record Layout : Type 0 where
  pub image_len : number_at counted 2 ≡ 0x0203040506070809
  pub number : number_at counted 10 ≡ 0x0A0B0C0D0E0F1011
  pub record_count : record_count counted ≡ 0x1213141516171819
  pub copying : copying_in counted ≡ record { from = 0x2223242526272829; to = 0x2A2B2C2D2E2F3031; len = 0x3233343536373839 }
  pub first : step_in counted 0 ≡ record { at = 0x3A3B3C3D3E3F4041; len = 0x4243444546474849; from = 0x4A4B4C4D4E4F5051 }
  pub last : step_in counted 4 ≡ record { at = 0x9A9B9C9D9E9FA0A1; len = 0xA2A3A4A5A6A7A8A9; from = 0xAAABACADAEAFB0B1 }

pub layout : Layout
unfolding counting be32
layout = record { image_len = refl; number = refl; record_count = refl; copying = refl; first = refl; last = refl }

-- ---- the parts

-- a number below 2^16 in 8 bytes
abbrev eight : ℕ → ℕ → List ℕ
eight high low = 0 ∷ 0 ∷ 0 ∷ 0 ∷ 0 ∷ 0 ∷ high ∷ low ∷ []

-- a copy or a step of no byte
abbrev none : List ℕ
none = replicate 24 0

-- the small master's header
abbrev header : List ℕ
header =
    replicate 0x1C 0
    ++ (0xC2 ∷ 0x33 ∷ 0x9F ∷ 0x3D ∷ [])
    ++ replicate 0x404 0
    ++ (0 ∷ 0 ∷ 0x04 ∷ 0x40 ∷ 0 ∷ 0 ∷ 0 ∷ 0x1A ∷ 0 ∷ 0 ∷ 0 ∷ 0 ∷ 0 ∷ 0 ∷ 0 ∷ 0 ∷ 0 ∷ 0 ∷ 0x20 ∷ 0 ∷ [])
    ++ replicate 8 0

-- its table with `a` at 0x1000, of so many bytes
abbrev pub table : ℕ → ℕ → List ℕ
table high low =
    1 ∷ 0 ∷ 0 ∷ 0 ∷ 0 ∷ 0 ∷ 0 ∷ 0 ∷ 0 ∷ 0 ∷ 0 ∷ 2 ∷
    0 ∷ 0 ∷ 0 ∷ 0 ∷ 0 ∷ 0 ∷ 0x10 ∷ 0 ∷ 0 ∷ 0 ∷ high ∷ low ∷
    0x61 ∷ 0 ∷ []

-- the record of the small master, and those after the move and after the resize
abbrev pub text : List ℕ
text = codes "counter record 1\nused 1370 largest 6656 edits 0\n"

abbrev pub text_moved : List ℕ
text_moved = codes "counter record 1\nused 1370 largest 3840 edits 1\n"

abbrev pub text_shorter : List ℕ
text_shorter = codes "counter record 1\nused 1121 largest 4089 edits 2\n"

-- ---- the move's, whose copy goes first, and the resize's, which copies nothing; by their gates

-- an image of 0x2000 bytes in file 77; a record of 48 bytes, and no note; the copy; no clip, which would end at 1340; the table, which stands at
-- 1314; no lost tail and no word; zeros where `a` was; the sum of all but the gates
unfoldable pub move_journal : ℕ → ℕ → List ℕ
move_journal gate copied =
    gate ∷ copied ∷
    (eight 0x20 0 ++ eight 0 77 ++ eight 0 49 ++ eight 0 0
    ++ (eight 5 0 ++ eight 0x10 0 ++ eight 1 0)
    ++ (eight 0 0 ++ eight 0 0 ++ eight 0x05 0x3C)
    ++ (eight 4 0x40 ++ eight 0 0x1A ++ eight 0x05 0x22)
    ++ none
    ++ none
    ++ (eight 5 0 ++ eight 1 0 ++ eight 0 0)
    ++ header ++ text_moved ++ table 1 0
    ++ (0xCC ∷ 0x49 ∷ 0x38 ∷ 0x49 ∷ 0x00 ∷ 0x22 ∷ 0xCE ∷ 0x41 ∷ []))

-- the same with a note of two bytes; the table stands behind it; zeros behind the seven bytes of `a`
unfoldable pub resize_journal : ℕ → List ℕ
resize_journal gate =
    gate ∷ 1 ∷
    (eight 0x20 0 ++ eight 0 77 ++ eight 0 49 ++ eight 0 2
    ++ none
    ++ (eight 0 0 ++ eight 0 0 ++ eight 0x05 0x3E)
    ++ (eight 4 0x40 ++ eight 0 0x1A ++ eight 0x05 0x24)
    ++ none
    ++ none
    ++ (eight 0x10 7 ++ eight 0 0xF9 ++ eight 0 0)
    ++ header ++ text_shorter ++ (9 ∷ 9 ∷ []) ++ table 0 7
    ++ (0x8D ∷ 0x2A ∷ 0xDF ∷ 0x5B ∷ 0x6B ∷ 0x3C ∷ 0xBA ∷ 0x1E ∷ []))

-- ---- disks that a cut leaves

abbrev pub kept : List ℕ → List ℕ → Kept
kept image text = record { image = image; record_text = text }

-- the table is torn: nine bytes of the entry of `a` are any
abbrev pub torn : Disk
torn = record { image = put moved 0x44C (replicate 9 0xEE); journal = resize_journal 1; record_text = text_moved }

-- a recovery of it has written the table, and the zeros are torn
abbrev pub torn_again : Disk
torn_again = record { image = put (elsewhere 7 of_a) 0x1007 (replicate 0xF9 0xDD); journal = resize_journal 1; record_text = text_moved }

-- another has put the record in its place, and the write that closes the gate is torn
abbrev pub closing : Disk
closing = record { image = shorter; journal = resize_journal 0x55; record_text = text_shorter }

-- a fill's journal that is torn behind its closed gate
abbrev pub closed : Disk
closed = record { image = shorter; journal = 0 ∷ replicate 1400 1; record_text = text_shorter }

-- by which writes: of the table, and then of the zeros; of the gate; and of a journal behind its closed gate
pub record Leave : Type 0 where
  pub half-table : TearsImage 0x440 0x1A (with_image torn moved) torn
  pub table-written : put torn.image 0x440 (table 0 7) ≡ elsewhere 7 of_a
  pub half-zeros : TearsImage 0x1007 0xF9 (with_image torn_again (elsewhere 7 of_a)) torn_again
  pub gate : TearsJournal 0 1 (with_journal closing (resize_journal 1)) closing
  pub noted : TearsJournal 1 1400 (with_journal closed (0 ∷ [])) closed

lengths : (length moved ≡ 0x2000) × (length (elsewhere 7 of_a) ≡ 0x2000)
unfolding elsewhere master put
lengths = (refl, refl)

table-is : put torn.image 0x440 (table 0 7) ≡ elsewhere 7 of_a
unfolding elsewhere master put
table-is = refl

pub leave : Leave
unfolding resize_journal
leave = record {
  half-table =
      tears_image-wider 0x44C 9 0x440 0x1A (with_image torn moved) torn (omega arith) (omega arith)
      (record { image = put-torn moved 0x44C (replicate 9 0xEE) (rw lengths.0 (omega arith)); journal = refl; record_text = refl });
  table-written = table-is;
  half-zeros = record { image = put-torn (elsewhere 7 of_a) 0x1007 (replicate 0xF9 0xDD) (rw lengths.1 (omega arith)); journal = refl; record_text = refl };
  gate = record { image = refl; journal = record { before = refl; after = refl }; record_text = refl };
  noted = record { image = refl; journal = record { before = refl; after = refl }; record_text = refl };
}

pub record Recovers : Type 0 where
  pub torn : recovered 77 torn ≡ kept shorter text_shorter
  pub torn_again : recovered 77 torn_again ≡ kept shorter text_shorter
  pub closing : recovered 77 closing ≡ kept shorter text_shorter
  pub closed : recovered 77 closed ≡ kept shorter text_shorter

pub recovers : Recovers
unfolding recovered resize_journal steps_fit writes_of after sum_from are_same_bytes elsewhere master put be32
recovers = record { torn = refl; torn_again = refl; closing = refl; closed = refl }

-- ---- whose journal it is, and whether it is whole

abbrev beside : List ℕ → Disk
beside image = record { image = image; journal = resize_journal 1; record_text = text_moved }

abbrev holding : List ℕ → Disk
holding journal = record { image = torn.image; journal = journal; record_text = text_moved }

pub record Owners : Type 0 where
  pub own : found_in 77 torn ≡ Finished
  -- in a file of another number; of an image with another byte in its header, or of another length: nothing is touched
  pub number : (found_in 78 torn ≡ Another) × (recovered 78 torn ≡ kept_of torn)
  pub header : found_in 77 (beside (put moved 0x20 (1 ∷ []))) ≡ Another
  pub longer : found_in 77 (beside (moved ++ (0 ∷ []))) ≡ Another
  -- the two words that edits write may be others
  pub words : found_in 77 (beside (put moved 0x428 (replicate 8 0xEE))) ≡ Finished
  -- any first byte but 1
  pub closed : found_in 77 closing ≡ Nothing
  -- a byte of the note is another, or the sum is cut short; bytes behind it do not count
  pub changed : found_in 77 (holding (put (resize_journal 1) 1315 (8 ∷ []))) ≡ Another
  pub cut : found_in 77 (holding (take 1349 (resize_journal 1))) ≡ Another
  pub older : found_in 77 (holding (resize_journal 1 ++ (1 ∷ []))) ≡ Finished

pub owners : Owners
unfolding recovered resize_journal steps_fit sum_from are_same_bytes elsewhere master put be32
owners = record { own = refl; number = (refl, refl); header = refl; longer = refl; words = refl; closed = refl; changed = refl; cut = refl; older = refl }

-- ---- the second gate

abbrev moving : ℕ → List ℕ → Disk
moving copied image = record { image = image; journal = move_journal 1 copied; record_text = text }

-- the copy is torn; or it is there, and the zeros over its source are torn
abbrev half_copied : List ℕ
half_copied = put first 0x1000 (1 ∷ 2 ∷ 0xEE ∷ [])

abbrev half_zeroed : List ℕ
half_zeroed = put (put first 0x1000 of_a) 0x500 (replicate 0x100 0xEE)

pub record SecondGate : Type 0 where
  -- while it is closed, also by a torn byte, the copy is made again
  pub before : recovered 77 (moving 0 half_copied) ≡ kept moved text_moved
  pub torn : recovered 77 (moving 0xFF half_copied) ≡ kept moved text_moved
  -- once it is open, it is not
  pub after : recovered 77 (moving 1 half_zeroed) ≡ kept moved text_moved
  -- which would spoil `a` by now
  pub spoilt : slice_index (recovered 77 (moving 0 half_zeroed)).image 0x1000 ≡ 0xEE

pub second-gate : SecondGate
unfolding recovered move_journal steps_fit writes_of after sum_from are_same_bytes first elsewhere master put be32
second-gate = record { before = refl; torn = refl; after = refl; spoilt = refl }
