-- What an edit decides on before it writes, or why it is refused, and what that does to an image. The new table stands in the working bytes by then.
-- Assumes nothing: these are definitions.
use Rattle.std.specs.Prelude.{Result, Ok, Err, ℕ, ◌+◌, ◌<◌, ◌≤◌, ◌^◌, ◌≡◌, ◌⊎◌, List, [], ◌∷◌, length, replicate, if◌then◌else◌, is_err}
use Rattle.refusal.specs.Refusal.{Verdict}
use Rattle.refusal.specs.declared.Refusal.{Refusal}
use Rattle.endian.specs.Bytes.{put, span}
use Rattle.header.specs.Verdicts.{fst_offset, fst_size}
use Rattle.tree.specs.Table.{Node, encode}
use Rattle.tree.specs.Insert.{set_place}
use Rattle.space.specs.declared.region.DiscRegion.{DiscRegion}
use Rattle.space.specs.Used.{no_region}
use Rattle.edit.specs.declared.decision.Span.{Span}
use Rattle.edit.specs.declared.decision.Writing.{Writing}
use Rattle.edit.specs.declared.decision.Decision.{Decision}
use Rattle.edit.specs.declared.decision.Decision.TheVariants as decision
use Rattle.edit.specs.Inner.Files.{IsFile}
use Rattle.edit_rules.specs.Change.{Change, image_with_table, table_verdict, Plan, refused, nothing, change, filled}
use Rattle.edit_rules.specs.Edits.{plan_verdict, plan_image}
use Rattle.opened.specs.Opening.{Disc}
use Rattle.opened.specs.Inner.Disc.{Opened, Means}

-- ---- the numbers of a change

abbrev pub change_with : List Node → Writing → Change
change_with nodes w = record { nodes = nodes; old = w.old; place = w.place; kept = w.kept; lost = record { offset = w.lost.offset; size = w.lost.size } }

-- no byte but the table's
abbrev pub nothing_besides : Writing
nothing_besides = record { old = no_region; place = no_region; kept = 0; lost = record { offset = 0; size = 0 } }

-- a change with a place, for the tests of its table
abbrev pub placing_change : List Node → DiscRegion → Change
placing_change nodes place = record { nodes = nodes; old = no_region; place = place; kept = 0; lost = no_region }

-- the image with the change written, where the table's bytes are these
unfoldable pub written_with : Writing → List ℕ → List ℕ → List ℕ
written_with w table image =
    put (image_with_table (fst_offset image) (fst_size image) table (put image w.place.offset (span image w.old.offset w.kept))) w.lost.offset (replicate w.lost.size 0)

-- ---- what is found behind tests that passed, or the cause of the first that did not

abbrev pub value_behind : {A : Type 0} → Verdict → A → Result A Refusal
value_behind (Ok _) x = Ok x
value_behind (Err c) x = Err c

-- the size of the table of the tree as it is, once it passed a new table's tests with that place
abbrev pub judged_size : Opened → ℕ → DiscRegion → Result ℕ Refusal
judged_size d bytes place = value_behind (table_verdict (placing_change d.disc.nodes place) d.disc d.words bytes) (length (encode d.disc.nodes))

-- ---- what is written lies in the image; nothing is asked of a place where no byte is written

pub record CopyFits (long source to n : ℕ) : Type 0 where
  pub from : 0 < n → source + n ≤ long
  pub into : 0 < n → to + n ≤ long

pub record ZeroFits (long at n : ℕ) : Type 0 where
  pub into : 0 < n → at + n ≤ long

pub record TableFits (long room f size new : ℕ) : Type 0 where
  pub behind-header : 0x440 ≤ f
  pub old : f + size ≤ long
  pub into : f + new ≤ long
  pub held : new ≤ room
  pub small : new < 2 ^ 32

pub record InImage (long : ℕ) (w : Writing) : Type 0 where
  pub copied : CopyFits long w.old.offset w.place.offset w.kept
  pub zeroed : ZeroFits long w.lost.offset w.lost.size

pub record Fits (image : List ℕ) (room size : ℕ) (w : Writing) : Type 0 where
  pub table : TableFits (length image) room (fst_offset image) (fst_size image) size
  pub inside : InImage (length image) w

-- ---- a clip

-- n bytes at `at` lie in an image of that length
abbrev pub Into : ℕ → ℕ → ℕ → Type 0
Into long at n = 0 < n → at + n ≤ long

-- the image with the clip at its place; most edits have none
abbrev pub clipped_image : List ℕ → ℕ → List ℕ → List ℕ
clipped_image image at [] = image
clipped_image image at (b ∷ clip) = put image at (b ∷ clip)

-- ---- a decision carried out, or a refusal handed back

abbrev pub CanCarry : List ℕ → ℕ → List ℕ → Result Decision Refusal → Type 0
CanCarry image room clip (Err c) = Unit {0}
CanCarry image room clip (Ok decision.Nothing) = Unit {0}
CanCarry image room clip (Ok (decision.Clip n at)) = Into (length image) at (length clip)
CanCarry image room clip (Ok (decision.Write n size w)) = Into (length image) w.place.offset (length clip) × Fits (clipped_image image w.place.offset clip) room size w

abbrev pub carried_verdict : Result Decision Refusal → Verdict
carried_verdict (Err c) = Err c
carried_verdict (Ok d) = Ok tt

-- the number of the entry
abbrev pub decision_number : Decision → ℕ
decision_number decision.Nothing = 0
decision_number (decision.Clip n at) = n
decision_number (decision.Write n size w) = n

abbrev pub carried_answer : Result Decision Refusal → Result ℕ Refusal
carried_answer (Err c) = Err c
carried_answer (Ok d) = Ok (decision_number d)

-- whether an edit that gives a number was accepted
abbrev pub verdict_in : Result ℕ Refusal → Verdict
verdict_in (Ok k) = Ok tt
verdict_in (Err c) = Err c

-- the clip first, so that a table with the new place or size has the whole clip
abbrev pub carried_image : Result Decision Refusal → List ℕ → List ℕ → List ℕ → List ℕ
carried_image (Err c) bytes clip image = image
carried_image (Ok decision.Nothing) bytes clip image = image
carried_image (Ok (decision.Clip n at)) bytes clip image = clipped_image image at clip
carried_image (Ok (decision.Write n size w)) bytes clip image = written_with w (span bytes 0 size) (clipped_image image w.place.offset clip)

-- ---- what is decided on lies behind the header and apart as well: that is promised, and not asked where it is carried out

-- n bytes at `at` lie behind the header; nothing is asked where there is no byte
abbrev pub BehindHeader : ℕ → ℕ → Type 0
BehindHeader at n = 0 < n → 0x440 ≤ at

-- n bytes here and n bytes there share none
abbrev pub AreApart : ℕ → ℕ → ℕ → Type 0
AreApart here there n = 0 < n → (here + n ≤ there) ⊎ (there + n ≤ here)

pub record IsSetApart (w : Writing) : Type 0 where
  pub apart : AreApart w.old.offset w.place.offset w.kept
  pub copy_behind : BehindHeader w.place.offset w.kept
  pub lost_behind : BehindHeader w.lost.offset w.lost.size

-- in the image as well
pub record LiesApart (long : ℕ) (w : Writing) : Type 0 where
  pub inside : InImage long w
  pub apart : IsSetApart w

-- a clip of n bytes lies in the image, behind the header
pub record ClipFits (long at n : ℕ) : Type 0 where
  pub into : Into long at n
  pub behind : BehindHeader at n

-- the clip and what is written besides the table
abbrev pub WritesApart : List ℕ → Result Decision Refusal → Type 0
WritesApart clip (Err c) = Unit {0}
WritesApart clip (Ok decision.Nothing) = Unit {0}
WritesApart clip (Ok (decision.Clip n at)) = BehindHeader at (length clip)
WritesApart clip (Ok (decision.Write n size w)) = BehindHeader w.place.offset (length clip) × IsSetApart w

-- ---- a decision carried out in parts, of an edit without a clip

abbrev pub CanCopy : List ℕ → Result Decision Refusal → Type 0
CanCopy image (Err c) = Unit {0}
CanCopy image (Ok decision.Nothing) = Unit {0}
CanCopy image (Ok (decision.Clip n at)) = Unit {0}
CanCopy image (Ok (decision.Write n size w)) = CopyFits (length image) w.old.offset w.place.offset w.kept

abbrev pub copied_by : Result Decision Refusal → List ℕ → List ℕ
copied_by (Err c) image = image
copied_by (Ok decision.Nothing) image = image
copied_by (Ok (decision.Clip n at)) image = image
copied_by (Ok (decision.Write n size w)) image = put image w.place.offset (span image w.old.offset w.kept)

abbrev pub CanTable : List ℕ → ℕ → Result Decision Refusal → Type 0
CanTable image room (Err c) = Unit {0}
CanTable image room (Ok decision.Nothing) = Unit {0}
CanTable image room (Ok (decision.Clip n at)) = Unit {0}
CanTable image room (Ok (decision.Write n size w)) = TableFits (length image) room (fst_offset image) (fst_size image) size

abbrev pub tabled_by : Result Decision Refusal → List ℕ → List ℕ → List ℕ
tabled_by (Err c) bytes image = image
tabled_by (Ok decision.Nothing) bytes image = image
tabled_by (Ok (decision.Clip n at)) bytes image = image
tabled_by (Ok (decision.Write n size w)) bytes image = image_with_table (fst_offset image) (fst_size image) (span bytes 0 size) image

-- what is left to be zeroed
abbrev pub lost_by : Result Decision Refusal → Result Span Refusal
lost_by (Err c) = Err c
lost_by (Ok decision.Nothing) = Ok nothing_besides.lost
lost_by (Ok (decision.Clip n at)) = Ok nothing_besides.lost
lost_by (Ok (decision.Write n size w)) = Ok w.lost

pub record IsCarried (n size : ℕ) (w : Writing) (bytes : List ℕ) (k : ℕ) (c : Change) : Type 0 where
  pub number : n ≡ k
  pub table : span bytes 0 size ≡ encode c.nodes
  pub change : c ≡ change_with c.nodes w

-- the same of a file that is filled, but for what a resize would copy
pub record IsUncopied (n size : ℕ) (w : Writing) (bytes : List ℕ) (k : ℕ) (c : Change) : Type 0 where
  pub number : n ≡ k
  pub table : span bytes 0 size ≡ encode c.nodes
  pub old : c.old ≡ w.old
  pub place : c.place ≡ w.place
  pub uncopied : w.kept ≡ 0

-- what is written is the plan's change, of the plan's entry, and the table in the working bytes that of its tree
abbrev pub Carries : Result Decision Refusal → List ℕ → Plan → Type 0
Carries (Err c) bytes p = Unit {0}
Carries (Ok decision.Nothing) bytes nothing = Unit {0}
Carries (Ok decision.Nothing) bytes (refused v) = ⊥
Carries (Ok decision.Nothing) bytes (change k c) = ⊥
Carries (Ok decision.Nothing) bytes (filled k clip p) = ⊥
Carries (Ok (decision.Clip n at)) bytes (filled k clip nothing) = n ≡ k
Carries (Ok (decision.Clip n at)) bytes (filled k clip (refused v)) = ⊥
Carries (Ok (decision.Clip n at)) bytes (filled k clip (change j c)) = ⊥
Carries (Ok (decision.Clip n at)) bytes (filled k clip (filled j more p)) = ⊥
Carries (Ok (decision.Clip n at)) bytes nothing = ⊥
Carries (Ok (decision.Clip n at)) bytes (refused v) = ⊥
Carries (Ok (decision.Clip n at)) bytes (change k c) = ⊥
Carries (Ok (decision.Write n size w)) bytes (change k c) = IsCarried n size w bytes k c
Carries (Ok (decision.Write n size w)) bytes (refused v) = ⊥
Carries (Ok (decision.Write n size w)) bytes nothing = ⊥
Carries (Ok (decision.Write n size w)) bytes (filled k clip (change j c)) = IsUncopied n size w bytes k c
Carries (Ok (decision.Write n size w)) bytes (filled k clip nothing) = ⊥
Carries (Ok (decision.Write n size w)) bytes (filled k clip (refused v)) = ⊥
Carries (Ok (decision.Write n size w)) bytes (filled k clip (filled j more p)) = ⊥

-- d, with these working bytes and this clip, is what the plan comes to where its tests say v
pub record DecidedAs (v : Verdict) (p : Plan) (image : List ℕ) (room : ℕ) (bytes clip : List ℕ) (d : Result Decision Refusal) : Type 0 where
  pub fits : CanCarry image room clip d
  pub apart : WritesApart clip d
  pub carries : Carries d bytes p
  pub answer : carried_verdict d ≡ v
  pub after : carried_image d bytes clip image ≡ (if is_err v then image else plan_image p image)

-- by all tests but the team's and the record's on a disc, with no clip
abbrev pub IsDecided : Plan → List ℕ → Disc → ℕ → ℕ → List ℕ → Result Decision Refusal → Type 0
IsDecided p image x words room bytes d = DecidedAs (plan_verdict p x words room) p image room bytes [] d

-- ---- a decision on an open disc: the disc alone says what it is, and it is what the plan comes to on each image that means the disc

abbrev pub Decides : Plan → Opened → ℕ → List ℕ → Result Decision Refusal → Type 0
Decides p d room bytes r = (image : List ℕ) → Means image d → IsDecided p image d.disc d.words room bytes r

-- with a clip
abbrev pub DecidesWith : List ℕ → Plan → Opened → ℕ → List ℕ → Result Decision Refusal → Type 0
DecidesWith clip p d room bytes r = (image : List ℕ) → Means image d → DecidedAs (plan_verdict p d.disc d.words room) p image room bytes clip r

-- ---- a file's place judged, before a table stands in the working bytes

-- room for the tree's table, which with another place for the file is as long
pub record CanDraft (nodes : List Node) (room n size : ℕ) : Type 0 where
  pub file : IsFile nodes n
  pub long : size ≡ length (encode nodes)
  pub held : size ≤ room
  pub small : size ≤ 2 ^ 24

abbrev pub IsDraftable : List Node → ℕ → Result Decision Refusal → Type 0
IsDraftable nodes room (Err c) = Unit {0}
IsDraftable nodes room (Ok decision.Nothing) = Unit {0}
IsDraftable nodes room (Ok (decision.Clip n at)) = Unit {0}
IsDraftable nodes room (Ok (decision.Write n size w)) = CanDraft nodes room n size

-- the tree's table with the file at its new place stands in the bytes
abbrev pub IsDrafted : List Node → List ℕ → Result Decision Refusal → Type 0
IsDrafted nodes bytes (Err c) = Unit {0}
IsDrafted nodes bytes (Ok decision.Nothing) = Unit {0}
IsDrafted nodes bytes (Ok (decision.Clip n at)) = Unit {0}
IsDrafted nodes bytes (Ok (decision.Write n size w)) = span bytes 0 size ≡ encode (set_place n w.place.offset w.place.size nodes)

-- with that table in any bytes it is what the plan comes to
pub record Judges (p : Plan) (d : Opened) (room : ℕ) (r : Result Decision Refusal) : Type 0 where
  pub draftable : IsDraftable d.disc.nodes room r
  pub decides : (bytes : List ℕ) → IsDrafted d.disc.nodes bytes r → Decides p d room bytes r
