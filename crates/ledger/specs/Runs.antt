-- A list of calls on an image: the image after it, what the ledger is told of it, and the record that is handed on through it. Assumes nothing: these are definitions.
use Rattle.std.specs.Prelude.{ℕ, ◌+◌, ◌-◌, ◌^◌, ◌<◌, ◌≤◌, ◌≡◌, ◌==◌, ◌&&◌, not, List, [], ◌∷◌, if◌then◌else◌, is_err, is_ok, slice_index}
use Rattle.endian.specs.Bytes.{AllBytes}
use Rattle.totals.specs.declared.team.Team.{Team}
use Rattle.totals.specs.declared.Totals.{Totals}
use Rattle.opened.specs.Opening.{used_of}
use Rattle.edit_rules.specs.Edits.{Edit, Account, insert_file, insert_directory, make_directories, move_file, resize_file, fill_file, rewrite, verdict_of, image_after, totals_after}
use Rattle.ledger.specs.Ledger.{Report}

-- a call: an edit, the record that it is handed, which may hold anything, with the team that it carries, and how many working words and bytes
-- it is lent
pub record Call : Type 0 where
  pub edit : Edit
  pub account : Account
  pub words : ℕ
  pub bytes : ℕ

-- each call works on the image that the calls before it left
unfoldable pub image_after_all : List Call → List ℕ → List ℕ
image_after_all [] image = image
image_after_all (c ∷ calls) image = image_after_all calls (image_after c.edit c.account image c.words c.bytes)

-- each call's edit, and whether it was accepted
unfoldable pub reports_of : List Call → List ℕ → List Report
reports_of [] image = []
reports_of (c ∷ calls) image =
    record { edit = c.edit; accepted = not (is_err (verdict_of c.edit c.account image c.words c.bytes)) }
    ∷ reports_of calls (image_after c.edit c.account image c.words c.bytes)

-- ---- the record

-- the record that the last call handed back; t where there is no call
unfoldable pub totals_after_all : Totals → List Call → List ℕ → Totals
totals_after_all t [] image = t
totals_after_all t (c ∷ calls) image =
    totals_after_all (totals_after c.edit c.account image c.words c.bytes) calls (image_after c.edit c.account image c.words c.bytes)

-- t goes into the first call, and what a call hands back into the next, on the image that it left; the images
-- are those of `image_after_all`
abbrev pub IsHandedOn : Totals → List Call → List ℕ → Type 0
IsHandedOn t [] image = Unit {0}
IsHandedOn t (c ∷ calls) image =
    (c.account.totals ≡ t) × IsHandedOn (totals_after c.edit c.account image c.words c.bytes) calls (image_after c.edit c.account image c.words c.bytes)

-- how many edits of team k were accepted
unfoldable pub accepted_count : ℕ → List Call → List ℕ → ℕ
accepted_count k [] image = 0
accepted_count k (c ∷ calls) image =
    (if c.account.team == k && is_ok (verdict_of c.edit c.account image c.words c.bytes) then 1 else 0)
    + accepted_count k calls (image_after c.edit c.account image c.words c.bytes)

-- what team k has taken after the calls, where it had taken n: each call that carries it adds what the image uses more, or takes off what it
-- uses less, down to 0. A refused call leaves the image
unfoldable pub taken_after_all : ℕ → ℕ → List Call → List ℕ → ℕ
taken_after_all k n [] image = n
taken_after_all k n (c ∷ calls) image =
    let new : List ℕ = image_after c.edit c.account image c.words c.bytes in
    taken_after_all k (if c.account.team == k then n + used_of new - used_of image else n) calls new

-- team k after the calls, where it had taken nothing, with the k-th limit and the k-th share
abbrev pub team_after_all : List ℕ → List ℕ → List Call → List ℕ → ℕ → Team
team_after_all limits shares calls image k = record {
  limit = slice_index limits k;
  share = slice_index shares k;
  taken = taken_after_all k 0 calls image;
  edits = accepted_count k calls image;
}

-- ---- what a call may be

-- numbers of 32 bits, and a clip of bytes
abbrev pub IsPassable : Edit → Type 0
IsPassable (insert_file p nm) = Unit {0}
IsPassable (insert_directory p nm) = Unit {0}
IsPassable (make_directories start path) = Unit {0}
IsPassable (move_file k to) = to < 2 ^ 32
IsPassable (resize_file k n) = n < 2 ^ 32
IsPassable (fill_file k clip) = AllBytes clip
IsPassable rewrite = Unit {0}

-- no call is lent more than w words, and its offset or size has 32 bits, or its clip is of bytes
abbrev pub AllWithin : ℕ → List Call → Type 0
AllWithin w [] = Unit {0}
AllWithin w (c ∷ calls) = (c.words ≤ w) × IsPassable c.edit × AllWithin w calls
