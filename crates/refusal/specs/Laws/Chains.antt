-- What a chain of tests says where it passes, and that no two causes have one number. Assumes nothing.
use Rattle.std.specs.Prelude.{Ok, Err, is_err}
use Rattle.refusal.specs.Refusal.{Verdict}
use Rattle.std.specs.Prelude.{ℕ, ◌≡◌, refl, Bool, true, false, List, [], ◌∷◌, get_or}
use Rattle.std.proofs.Common.{sym, ap, ◌∙◌, arith}
use Rattle.refusal.specs.declared.Refusal.{Refusal}
use Rattle.refusal.specs.declared.Refusal.TheVariants.{HeaderPastImage, WiiNotSupported, InvalidMagic, InvalidBounds, EntryPastTable, UnrecognizedKind, RootIsNotDirectory, MissingNullTerminator, LimitOrMemory, InvalidNextIndex, InvalidNameOffset, InvalidNameByte, UnsafeName, OverlappingRegions, NoSuchEntry, ExpectedFile, ExpectedDirectory, NotFound, AlreadyExists, OverlappingMove, NotEnoughSpace, InvalidAlignment, InvalidSeek, InvalidDol, TotalsOutOfRange, TableAboveMaximum, TakenAboveLimit, FreeBelowShares, SpanNotFree, InvalidSheet}
use Rattle.refusal.specs.Refusal.{number_of, refuse, first}

-- a chain that passes: its first test fails to hold, and the later tests pass
pub refuse-passed : (t : Bool) (c : Refusal) (later : Verdict) → refuse t c later ≡ Ok tt → (t ≡ false) × (later ≡ Ok tt)
refuse-passed true c later e = let z : ◌≡◌ {A = ℕ} 0 1 = cc in absurd (omega arith)
refuse-passed false c later e = (refl, e)

pub first-passed : (a b : Verdict) → first a b ≡ Ok tt → (a ≡ Ok tt) × (b ≡ Ok tt)
first-passed (Ok _) b e = (refl, e)
first-passed (Err c) b e = let z : ◌≡◌ {A = ℕ} 0 1 = cc in absurd (omega arith)

-- a group that refuses is the answer, and one that passes hands over to the next
pub first-stop : (a b : Verdict) → is_err a ≡ true → first a b ≡ a
first-stop (Ok _) b e = let z : ◌≡◌ {A = ℕ} 0 1 = cc in absurd (omega arith)
first-stop (Err c) b e = refl

pub first-go : (a b : Verdict) → is_err a ≡ false → first a b ≡ b
first-go (Ok _) b e = refl
first-go (Err c) b e = let z : ◌≡◌ {A = ℕ} 0 1 = cc in absurd (omega arith)

pub not-refused : (a : Verdict) → is_err a ≡ false → a ≡ Ok tt
not-refused (Ok _) e = refl
not-refused (Err c) e = let z : ◌≡◌ {A = ℕ} 0 1 = cc in absurd (omega arith)

-- the causes in the order of their numbers, with a first element for number 0, which is none
abbrev causes : List Refusal
causes = HeaderPastImage ∷ HeaderPastImage ∷ WiiNotSupported ∷ InvalidMagic ∷ InvalidBounds ∷ EntryPastTable ∷ UnrecognizedKind ∷ RootIsNotDirectory ∷ MissingNullTerminator ∷ LimitOrMemory ∷ InvalidNextIndex ∷ InvalidNameOffset ∷ InvalidNameByte ∷ UnsafeName ∷ OverlappingRegions ∷ NoSuchEntry ∷ ExpectedFile ∷ ExpectedDirectory ∷ NotFound ∷ AlreadyExists ∷ OverlappingMove ∷ NotEnoughSpace ∷ InvalidAlignment ∷ InvalidSeek ∷ InvalidDol ∷ TotalsOutOfRange ∷ TableAboveMaximum ∷ TakenAboveLimit ∷ FreeBelowShares ∷ SpanNotFree ∷ InvalidSheet ∷ []

numbered : (c : Refusal) → get_or causes (number_of c) HeaderPastImage ≡ c
numbered HeaderPastImage = refl
numbered WiiNotSupported = refl
numbered InvalidMagic = refl
numbered InvalidBounds = refl
numbered EntryPastTable = refl
numbered UnrecognizedKind = refl
numbered RootIsNotDirectory = refl
numbered MissingNullTerminator = refl
numbered LimitOrMemory = refl
numbered InvalidNextIndex = refl
numbered InvalidNameOffset = refl
numbered InvalidNameByte = refl
numbered UnsafeName = refl
numbered OverlappingRegions = refl
numbered NoSuchEntry = refl
numbered ExpectedFile = refl
numbered ExpectedDirectory = refl
numbered NotFound = refl
numbered AlreadyExists = refl
numbered OverlappingMove = refl
numbered NotEnoughSpace = refl
numbered InvalidAlignment = refl
numbered InvalidSeek = refl
numbered InvalidDol = refl
numbered TotalsOutOfRange = refl
numbered TableAboveMaximum = refl
numbered TakenAboveLimit = refl
numbered FreeBelowShares = refl
numbered SpanNotFree = refl
numbered InvalidSheet = refl

-- equal numbers, equal causes
pub number-one-cause : (a b : Refusal) → number_of a ≡ number_of b → a ≡ b
number-one-cause a b e = sym (numbered a) ∙ ap (λ (n : ℕ). get_or causes n HeaderPastImage) e ∙ numbered b
