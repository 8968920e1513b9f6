-- The causes of a refusal and their numbers, and chains of tests.
use Rattle.std.specs.Prelude.{Result, Ok, Err}
use Rattle.std.specs.Prelude.{ℕ, Bool, true, false}
use Rattle.refusal.specs.declared.Refusal.{Refusal}
use Rattle.refusal.specs.declared.Refusal.TheVariants.{HeaderPastImage, WiiNotSupported, InvalidMagic, InvalidBounds, EntryPastTable, UnrecognizedKind, RootIsNotDirectory, MissingNullTerminator, LimitOrMemory, InvalidNextIndex, InvalidNameOffset, InvalidNameByte, UnsafeName, OverlappingRegions, NoSuchEntry, ExpectedFile, ExpectedDirectory, NotFound, AlreadyExists, OverlappingMove, NotEnoughSpace, InvalidAlignment, InvalidSeek, InvalidDol, TotalsOutOfRange, TableAboveMaximum, TakenAboveLimit, FreeBelowShares, SpanNotFree, InvalidSheet}

abbrev pub number_of : Refusal → ℕ
number_of HeaderPastImage = 1
number_of WiiNotSupported = 2
number_of InvalidMagic = 3
number_of InvalidBounds = 4
number_of EntryPastTable = 5
number_of UnrecognizedKind = 6
number_of RootIsNotDirectory = 7
number_of MissingNullTerminator = 8
number_of LimitOrMemory = 9
number_of InvalidNextIndex = 10
number_of InvalidNameOffset = 11
number_of InvalidNameByte = 12
number_of UnsafeName = 13
number_of OverlappingRegions = 14
number_of NoSuchEntry = 15
number_of ExpectedFile = 16
number_of ExpectedDirectory = 17
number_of NotFound = 18
number_of AlreadyExists = 19
number_of OverlappingMove = 20
number_of NotEnoughSpace = 21
number_of InvalidAlignment = 22
number_of InvalidSeek = 23
number_of InvalidDol = 24
number_of TotalsOutOfRange = 25
number_of TableAboveMaximum = 26
number_of TakenAboveLimit = 27
number_of FreeBelowShares = 28
number_of SpanNotFree = 29
number_of InvalidSheet = 30

-- ---- chains of tests, in the order in which a call makes them

-- the answer of a test that gives no value
abbrev pub Verdict : Type 0
Verdict = Result (Unit {0}) Refusal

-- refused with this cause if the test holds, else what the later tests say
abbrev pub refuse : Bool → Refusal → Verdict → Verdict
refuse true c later = Err c
refuse false c later = later

-- the first refusal of two groups of tests
abbrev pub first : Verdict → Verdict → Verdict
first (Ok _) later = later
first (Err c) later = Err c
