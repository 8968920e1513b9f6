-- Worked edit sheets, byte by byte, and what they read as, by computing: the lines, or 30. Assumes nothing.
use Rattle.std.specs.Prelude.{Ok, Err}
use Rattle.std.specs.Prelude.{ℕ, ◌-◌, ◌^◌, ◌≡◌, refl, List, [], ◌∷◌, ◌++◌, length, take}
use Rattle.endian.specs.Bytes.{be32, be32_bytes}
use Rattle.refusal.specs.Refusal.{number_of}
use Rattle.refusal.specs.declared.Refusal.TheVariants.{InvalidSheet}
use Rattle.sheet.specs.Layout.{make_directory, make_file, move, resize, texts_of, line_at, lines_from, sheet_lines}

-- four numbers: a header, or a line
abbrev pub four : ℕ → ℕ → ℕ → ℕ → List ℕ
four a b c d = be32_bytes a ++ be32_bytes b ++ be32_bytes c ++ be32_bytes d

-- one line right behind the header, and the texts right behind it
abbrev pub one : ℕ → ℕ → ℕ → ℕ → List ℕ → List ℕ
one kind path offset size texts = four 1 16 32 (length texts) ++ four kind path offset size ++ texts

-- one line of that kind and with that path, whose other numbers are 0
abbrev pub of_kind : ℕ → List ℕ → List ℕ
of_kind kind path = one kind 0 0 0 (path ++ (0 ∷ []))

-- ---- sheets that are accepted

-- `b` to be resized to 4 bytes; of the texts `x` is no line's (FORMAT, An edit sheet)
abbrev example : List ℕ
example =
    0 ∷ 0 ∷ 0 ∷ 1 ∷ 0 ∷ 0 ∷ 0 ∷ 0x10 ∷ 0 ∷ 0 ∷ 0 ∷ 0x20 ∷ 0 ∷ 0 ∷ 0 ∷ 4 ∷
    0 ∷ 0 ∷ 0 ∷ 4 ∷ 0 ∷ 0 ∷ 0 ∷ 2 ∷ 0 ∷ 0 ∷ 0 ∷ 0 ∷ 0 ∷ 0 ∷ 0 ∷ 4 ∷
    0x78 ∷ 0 ∷ 0x62 ∷ 0 ∷ []

-- the directory `x`, and `b` to be resized to 0 bytes
abbrev pub two_lines : List ℕ
two_lines =
    0 ∷ 0 ∷ 0 ∷ 2 ∷ 0 ∷ 0 ∷ 0 ∷ 0x10 ∷ 0 ∷ 0 ∷ 0 ∷ 0x30 ∷ 0 ∷ 0 ∷ 0 ∷ 4 ∷
    0 ∷ 0 ∷ 0 ∷ 1 ∷ 0 ∷ 0 ∷ 0 ∷ 0 ∷ 0 ∷ 0 ∷ 0 ∷ 0 ∷ 0 ∷ 0 ∷ 0 ∷ 0 ∷
    0 ∷ 0 ∷ 0 ∷ 4 ∷ 0 ∷ 0 ∷ 0 ∷ 2 ∷ 0 ∷ 0 ∷ 0 ∷ 0 ∷ 0 ∷ 0 ∷ 0 ∷ 0 ∷
    0x78 ∷ 0 ∷ 0x62 ∷ 0 ∷ []

-- the directory `x`, in it the file `f`, and `a` to be resized to 0x200 bytes
abbrev pub three_lines : List ℕ
three_lines =
    0 ∷ 0 ∷ 0 ∷ 3 ∷ 0 ∷ 0 ∷ 0 ∷ 0x10 ∷ 0 ∷ 0 ∷ 0 ∷ 0x40 ∷ 0 ∷ 0 ∷ 0 ∷ 8 ∷
    0 ∷ 0 ∷ 0 ∷ 1 ∷ 0 ∷ 0 ∷ 0 ∷ 0 ∷ 0 ∷ 0 ∷ 0 ∷ 0 ∷ 0 ∷ 0 ∷ 0 ∷ 0 ∷
    0 ∷ 0 ∷ 0 ∷ 2 ∷ 0 ∷ 0 ∷ 0 ∷ 2 ∷ 0 ∷ 0 ∷ 0 ∷ 0 ∷ 0 ∷ 0 ∷ 0 ∷ 0 ∷
    0 ∷ 0 ∷ 0 ∷ 4 ∷ 0 ∷ 0 ∷ 0 ∷ 6 ∷ 0 ∷ 0 ∷ 0 ∷ 0 ∷ 0 ∷ 0 ∷ 2 ∷ 0 ∷
    0x78 ∷ 0 ∷ 0x78 ∷ 0x2F ∷ 0x66 ∷ 0 ∷ 0x61 ∷ 0 ∷ []

-- the directory `x` twice, by one text, and `a` to be resized to 0x200 bytes; the texts come first
abbrev pub twice : List ℕ
twice =
    0 ∷ 0 ∷ 0 ∷ 3 ∷ 0 ∷ 0 ∷ 0 ∷ 0x14 ∷ 0 ∷ 0 ∷ 0 ∷ 0x10 ∷ 0 ∷ 0 ∷ 0 ∷ 4 ∷
    0x78 ∷ 0 ∷ 0x61 ∷ 0 ∷
    0 ∷ 0 ∷ 0 ∷ 1 ∷ 0 ∷ 0 ∷ 0 ∷ 0 ∷ 0 ∷ 0 ∷ 0 ∷ 0 ∷ 0 ∷ 0 ∷ 0 ∷ 0 ∷
    0 ∷ 0 ∷ 0 ∷ 1 ∷ 0 ∷ 0 ∷ 0 ∷ 0 ∷ 0 ∷ 0 ∷ 0 ∷ 0 ∷ 0 ∷ 0 ∷ 0 ∷ 0 ∷
    0 ∷ 0 ∷ 0 ∷ 4 ∷ 0 ∷ 0 ∷ 0 ∷ 2 ∷ 0 ∷ 0 ∷ 0 ∷ 0 ∷ 0 ∷ 0 ∷ 2 ∷ 0 ∷ []

-- the second and the third of the three, as a sheet of their own; and the directory `x` twice
abbrev pub last_two : List ℕ
last_two = four 2 16 48 6 ++ four 2 0 0 0 ++ four 4 4 0 0x200 ++ (0x78 ∷ 0x2F ∷ 0x66 ∷ 0 ∷ 0x61 ∷ 0 ∷ [])

abbrev pub first_two : List ℕ
first_two = four 2 16 48 2 ++ four 1 0 0 0 ++ four 1 0 0 0 ++ (0x78 ∷ 0 ∷ [])

-- a line that begins at byte 12: its kind is how many bytes the texts have
abbrev from_12 : ℕ → ℕ → ℕ → List ℕ → List ℕ
from_12 kind offset size texts = be32_bytes 1 ++ be32_bytes 12 ++ be32_bytes 28 ++ four kind 0 offset size ++ texts

-- a byte before the line, one before the texts, and one behind them
abbrev slack : List ℕ
slack = four 1 17 34 2 ++ (9 ∷ []) ++ four 4 0 0 7 ++ (9 ∷ []) ++ (0x61 ∷ 0 ∷ []) ++ (9 ∷ [])

-- `a`, to be resized to 756 bytes
abbrev pub resize_from_12 : List ℕ
resize_from_12 = from_12 4 0 756 (0x61 ∷ 0 ∷ 0x7A ∷ 0x7A ∷ [])

pub record Read : Type 0 where
  pub format : (sheet_lines example ≡ Ok (resize (0x62 ∷ []) 4 ∷ [])) × (example ≡ one 4 2 0 4 (0x78 ∷ 0 ∷ 0x62 ∷ 0 ∷ []))
  pub two : sheet_lines two_lines ≡ Ok (make_directory (0x78 ∷ []) ∷ resize (0x62 ∷ []) 0 ∷ [])
  pub three : sheet_lines three_lines ≡ Ok (make_directory (0x78 ∷ []) ∷ make_file (0x78 ∷ 0x2F ∷ 0x66 ∷ []) ∷ resize (0x61 ∷ []) 0x200 ∷ [])
  pub twice : sheet_lines twice ≡ Ok (make_directory (0x78 ∷ []) ∷ make_directory (0x78 ∷ []) ∷ resize (0x61 ∷ []) 0x200 ∷ [])
  pub last : sheet_lines last_two ≡ Ok (make_file (0x78 ∷ 0x2F ∷ 0x66 ∷ []) ∷ resize (0x61 ∷ []) 0x200 ∷ [])
  pub first : sheet_lines first_two ≡ Ok (make_directory (0x78 ∷ []) ∷ make_directory (0x78 ∷ []) ∷ [])
  -- the highest offset and size
  pub high : (sheet_lines (one 3 0 (2 ^ 32 - 1) 0 (0x61 ∷ 0 ∷ [])) ≡ Ok (move (0x61 ∷ []) (2 ^ 32 - 1) ∷ [])) × (sheet_lines (one 4 0 0 (2 ^ 32 - 1) (0x61 ∷ 0 ∷ [])) ≡ Ok (resize (0x61 ∷ []) (2 ^ 32 - 1) ∷ []))
  -- bytes that belong to nothing, between the parts and behind them
  pub slack : sheet_lines slack ≡ Ok (resize (0x61 ∷ []) 7 ∷ [])
  -- a path within another one, and one that begins at the zero byte
  pub within : (sheet_lines (one 2 2 0 0 (0x78 ∷ 0x2F ∷ 0x66 ∷ 0 ∷ [])) ≡ Ok (make_file (0x66 ∷ []) ∷ [])) × (sheet_lines (one 2 3 0 0 (0x78 ∷ 0x2F ∷ 0x66 ∷ 0 ∷ [])) ≡ Ok (make_file [] ∷ []))
  -- what no line points to need not be ended
  pub unended : sheet_lines (one 2 0 0 0 (0x66 ∷ 0 ∷ 0x66 ∷ [])) ≡ Ok (make_file (0x66 ∷ []) ∷ [])
  -- from byte 12: a line of kind 2, of kind 3, of kind 4
  pub from-12 :
      (sheet_lines (from_12 2 0 0 (0x66 ∷ 0 ∷ [])) ≡ Ok (make_file (0x66 ∷ []) ∷ []))
      × (sheet_lines (from_12 3 0x600 0 (0x61 ∷ 0 ∷ 0x7A ∷ [])) ≡ Ok (move (0x61 ∷ []) 0x600 ∷ []))
      × (sheet_lines resize_from_12 ≡ Ok (resize (0x61 ∷ []) 756 ∷ []))
  -- the header as texts, in which byte 0 is an empty path; and the line itself as texts: its last two bytes are the path `b`
  pub header-as-texts : sheet_lines (four 1 16 0 16 ++ four 4 0 0 7) ≡ Ok (resize [] 7 ∷ [])
  pub line-as-texts : sheet_lines (four 1 16 16 16 ++ four 4 14 0 0x6200) ≡ Ok (resize (0x62 ∷ []) 0x6200 ∷ [])

pub read : Read
unfolding sheet_lines lines_from line_at texts_of be32
read = record {
  format = (refl, refl);
  two = refl;
  three = refl;
  twice = refl;
  last = refl;
  first = refl;
  high = (refl, refl);
  slack = refl;
  within = (refl, refl);
  unended = refl;
  from-12 = (refl, refl, refl);
  header-as-texts = refl;
  line-as-texts = refl;
}

-- ---- 30: the bounds of the header

-- no lines, which begin here, and no texts, which begin there
abbrev pub no_lines : ℕ → ℕ → List ℕ
no_lines lines texts = four 0 lines texts 0

-- ends where the line ends
abbrev ending : ℕ → ℕ → ℕ → List ℕ
ending lines texts size = four 1 lines texts size ++ four 4 0 0 0

pub record Bounds : Type 0 where
  -- 16 bytes and one less
  pub enough : sheet_lines (no_lines 0 0) ≡ Ok []
  pub short : (sheet_lines (take 15 (no_lines 0 0)) ≡ Err InvalidSheet) × (sheet_lines [] ≡ Err InvalidSheet)
  -- nothing may begin at the end, and not a byte behind it
  pub at-end : sheet_lines (no_lines 16 16) ≡ Ok []
  pub lines-behind : (sheet_lines (no_lines 17 16) ≡ Err InvalidSheet) × (sheet_lines (no_lines (2 ^ 32 - 1) 16) ≡ Err InvalidSheet)
  pub texts-behind : (sheet_lines (no_lines 16 17) ≡ Err InvalidSheet) × (sheet_lines (no_lines 16 (2 ^ 32 - 1)) ≡ Err InvalidSheet)
  -- a line, and texts, that end where the sheet ends, and a byte behind it
  pub line-ends : (sheet_lines (ending 16 0 32) ≡ Ok (resize [] 0 ∷ [])) × (sheet_lines (ending 17 0 32) ≡ Err InvalidSheet)
  pub texts-end : (sheet_lines (ending 16 31 1) ≡ Ok (resize [] 0 ∷ [])) × (sheet_lines (ending 16 31 2) ≡ Err InvalidSheet)
  -- all four bytes of a number count
  pub high-bytes : (sheet_lines (no_lines 0x01000010 16) ≡ Err InvalidSheet) × (sheet_lines (no_lines 16 0x01000010) ≡ Err InvalidSheet)
  -- the sums do not wrap
  pub sums : (sheet_lines (ending (2 ^ 32 - 16) 0 32) ≡ Err InvalidSheet) × (sheet_lines (ending 16 (2 ^ 32 - 1) 1) ≡ Err InvalidSheet) × (sheet_lines (ending 16 1 (2 ^ 32 - 1)) ≡ Err InvalidSheet)
  pub number : number_of InvalidSheet ≡ 30

pub bounds : Bounds
unfolding sheet_lines lines_from line_at texts_of be32
bounds = record {
  enough = refl;
  short = (refl, refl);
  at-end = refl;
  lines-behind = (refl, refl);
  texts-behind = (refl, refl);
  line-ends = (refl, refl);
  texts-end = (refl, refl);
  high-bytes = (refl, refl);
  sums = (refl, refl, refl);
  number = refl;
}

-- ---- 30: a line

-- with these numbers, and the path `a`
abbrev with_a : ℕ → ℕ → ℕ → List ℕ
with_a kind offset size = one kind 0 offset size (0x61 ∷ 0 ∷ [])

-- `q` to be resized, which the small master has not; and a line of that kind, with the same path
abbrev pub behind_q : ℕ → List ℕ
behind_q kind = four 2 16 48 2 ++ four 4 0 0 0 ++ four kind 0 0 0 ++ (0x71 ∷ 0 ∷ [])

pub record BadLines : Type 0 where
  pub kinds : (sheet_lines (with_a 0 0 0) ≡ Err InvalidSheet) × (sheet_lines (with_a 5 0 0) ≡ Err InvalidSheet) × (sheet_lines (with_a (2 ^ 32 - 1) 0 0) ≡ Err InvalidSheet)
  -- 1, but for a higher byte
  pub high-kinds : (sheet_lines (with_a 0x101 0 0) ≡ Err InvalidSheet) × (sheet_lines (with_a 0x01000001 0 0) ≡ Err InvalidSheet)
  -- a new offset or size that is not of its kind
  pub directory : (sheet_lines (with_a 1 1 0) ≡ Err InvalidSheet) × (sheet_lines (with_a 1 0x100 0) ≡ Err InvalidSheet) × (sheet_lines (with_a 1 0 1) ≡ Err InvalidSheet)
  pub file : (sheet_lines (with_a 2 1 0) ≡ Err InvalidSheet) × (sheet_lines (with_a 2 0 1) ≡ Err InvalidSheet)
  pub moved : sheet_lines (with_a 3 0 1) ≡ Err InvalidSheet
  pub resized : sheet_lines (with_a 4 1 0) ≡ Err InvalidSheet
  -- 0 is an offset and a size like others
  pub zero : (sheet_lines (with_a 3 0 0) ≡ Ok (move (0x61 ∷ []) 0 ∷ [])) × (sheet_lines (with_a 4 0 0) ≡ Ok (resize (0x61 ∷ []) 0 ∷ []))
  -- no zero byte from there on: behind the last one, at the end of the texts, behind it; and in texts that are empty, though a zero byte follows
  pub unended : (sheet_lines (one 2 2 0 0 (0x66 ∷ 0 ∷ 0x66 ∷ [])) ≡ Err InvalidSheet) × (sheet_lines (one 2 2 0 0 (0x66 ∷ 0 ∷ [])) ≡ Err InvalidSheet) × (sheet_lines (one 2 (2 ^ 32 - 1) 0 0 (0x66 ∷ 0 ∷ [])) ≡ Err InvalidSheet)
  pub no-texts : sheet_lines (four 1 16 32 0 ++ four 2 0 0 0 ++ (0 ∷ [])) ≡ Err InvalidSheet
  -- nor does one behind the texts end a path within them
  pub short : sheet_lines (four 1 16 32 1 ++ four 2 0 0 0 ++ (0x66 ∷ 0 ∷ [])) ≡ Err InvalidSheet
  -- and by the second of two lines
  pub second : (sheet_lines (behind_q 5) ≡ Err InvalidSheet) × (sheet_lines (behind_q 4) ≡ Ok (resize (0x71 ∷ []) 0 ∷ resize (0x71 ∷ []) 0 ∷ []))

pub bad-lines : BadLines
unfolding sheet_lines lines_from line_at texts_of be32
bad-lines = record {
  kinds = (refl, refl, refl);
  high-kinds = (refl, refl);
  directory = (refl, refl, refl);
  file = (refl, refl);
  moved = refl;
  resized = refl;
  zero = (refl, refl);
  unended = (refl, refl, refl);
  no-texts = refl;
  short = refl;
  second = (refl, refl);
}
