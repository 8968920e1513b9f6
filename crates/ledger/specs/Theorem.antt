-- What holds after any list of calls, as one claim about the list: of the last image, by the list's ledger;
-- of a file that no accepted edit named, of one just filled, of a record handed on, of teams, of the stated maximum
-- (RULES, After any list of edits). Proved in proofs/Laws: `ledger-holds` and `unnamed-stays` of
-- AfterAnyList, `fill-reads` of FillReads, `record-tells` of RecordTells, `teams-served` of TeamsServed, `maximum-kept` of MaximumKept.
-- Assumes nothing: these are definitions.
use Rattle.std.specs.Prelude.{Ok, Err, [], ◌∷◌, slice_index_or, sum_by}
use Rattle.std.specs.Prelude.{ℕ, ◌+◌, ◌-◌, ◌<◌, ◌≤◌, ◌≡◌, true, false, List, map, length, take}
use Rattle.endian.specs.Bytes.{put, span, AllBytes}
use Rattle.header.specs.Verdicts.{dol_offset, fst_size, fst_max_size, table_end, disc_end}
use Rattle.tree.specs.Table.{file, empty_root}
use Rattle.space.specs.Used.{end_of, is_inside, total_size, no_region}
use Rattle.space.specs.Listing.{region_row, listing_of, list_after}
use Rattle.executable.specs.Program.{program_of, program_in, program_behind}
use Rattle.refusal.specs.declared.Refusal.TheVariants.{FreeBelowShares}
use Rattle.totals.specs.declared.team.Team.{Team}
use Rattle.totals.specs.declared.Totals.{Totals}
use Rattle.totals.specs.Totals.{team_of, new_teams}
use Rattle.opened.specs.Opening.{table_of, nodes_in, region_of, used_in, used_of, free_space_of, opening, disc_of}
use Rattle.disc.specs.Calls.{totals_answer, program_answer, free_regions_answer, free_regions_list, totals_of, record_answer}
use Rattle.window.specs.Window.{new_window, count_of, buffer_of}
use Rattle.disc.specs.Files.{open_file_answer}
use Rattle.edit_rules.specs.Edits.{Account, fill_file, plan_of, plan_image, verdict_of, image_after}
use Rattle.ledger.specs.Ledger.{Ledger, node_without_place, files_before, history_of, first_ledger, ledger_after}
use Rattle.ledger.specs.Runs.{Call, image_after_all, reports_of, totals_after_all, IsHandedOn, team_after_all, AllWithin}
use Rattle.ledger.specs.Spared.{number_after, IsSpared}

-- of the file with entry number k, which lies at `offset` and has `size` bytes, by its history in the ledger
pub record TrueTo (image : List ℕ) (l : Ledger) (k offset size : ℕ) : Type 0 where
  -- m is at most its size, and at most the number of its starting bytes
  pub m-size : (history_of l k).m ≤ size
  pub m-bytes : (history_of l k).m ≤ length (history_of l k).bytes
  -- its first m bytes are its first m starting bytes
  pub first-bytes : span image offset (history_of l k).m ≡ take (history_of l k).m (history_of l k).bytes
  -- unnamed, it has its starting place, size and bytes
  pub unnamed : (history_of l k).named ≡ false → (offset ≡ (history_of l k).place) × (size ≡ length (history_of l k).bytes) × (span image offset size ≡ (history_of l k).bytes)

-- the program of the first image, wherever it lies, as the last image has it: no edit changes a byte of it
pub record SameProgram (first last : List ℕ) : Type 0 where
  pub offset : dol_offset last ≡ dol_offset first
  pub region : program_in last ≡ program_in first
  -- all its bytes, the header's and the sections'; none of them is past the image
  pub bytes : span last (program_in first).offset (program_in first).size ≡ span first (program_in first).offset (program_in first).size
  pub whole : end_of (program_in first) ≤ length last

-- of the image after a list of calls, and the list's ledger; w words are lent
pub record LedgerHolds (w : ℕ) (first image : List ℕ) (l : Ledger) : Type 0 where
  pub opens : opening image w ≡ Ok tt
  -- opening reads the ledger's names, kinds, nesting, order and sizes
  pub tree : map node_without_place (nodes_in image) ≡ l.nodes
  -- no two used regions share a byte: used regions i and j that both have byte n are one
  pub apart : (i j n : ℕ) → is_inside (slice_index_or (used_in image) i no_region) n ≡ true → is_inside (slice_index_or (used_in image) j no_region) n ≡ true → i ≡ j
  -- table end + the program where it is a region of its own + all file sizes + all free bytes = disc end
  pub sum : table_end image + (program_behind image).size + total_size (map region_of (nodes_in image)) + total_size (free_space_of image) ≡ disc_end image
  -- what is reported of used and free bytes is what is defined of them
  pub used-reported : totals_answer image w ≡ Ok (record { disc_end = disc_end image; used = table_end image + (program_behind image).size + total_size (map region_of (nodes_in image)) })
  pub free-reported : (room : ℕ) → free_regions_answer image w room ≡ listing_of region_row (free_space_of image) room
  pub free-listed : (list : List ℕ) → free_regions_list image w list ≡ list_after region_row (free_space_of image) list
  -- the program is the first image's, and reported so
  pub program : SameProgram first image
  pub program-reported : program_answer image w ≡ program_of first
  -- each file is true to its history
  pub files : (k : ℕ) (nm : List ℕ) (offset size : ℕ) → slice_index_or (nodes_in image) k empty_root ≡ file nm offset size → TrueTo image l k offset size

-- THEOREM: an image of bytes that opening accepts with w₀ words, any list of calls, and w words, which are no fewer than w₀ and than any call of
-- the list was lent
abbrev pub AnyList : Type 0
AnyList =
    (image : List ℕ) (w₀ w : ℕ) (calls : List Call) → AllBytes image → opening image w₀ ≡ Ok tt → w₀ ≤ w → AllWithin w calls →
    LedgerHolds w image (image_after_all calls image) (ledger_after (reports_of calls image) (first_ledger image))

-- ---- after any list, a file that no accepted edit named lies where it lay, byte for byte

-- the file of that name that lay at `offset` in the first image, as the last image has it: the same place and size, and the same bytes
pub record StillThere (first last : List ℕ) (f : ℕ) (nm : List ℕ) (offset size : ℕ) : Type 0 where
  -- its entry number now; it is file f of them
  pub entry : ℕ
  pub number : files_before entry (nodes_in last) ≡ f
  pub lies : slice_index_or (nodes_in last) entry empty_root ≡ file nm offset size
  pub bytes : span last offset size ≡ span first offset size

-- THEOREM
abbrev pub UnnamedStays : Type 0
UnnamedStays =
    (image : List ℕ) (w₀ w : ℕ) (calls : List Call) → AllBytes image → opening image w₀ ≡ Ok tt → w₀ ≤ w → AllWithin w calls →
    (k : ℕ) (nm : List ℕ) (offset size : ℕ) → slice_index_or (nodes_in image) k empty_root ≡ file nm offset size → IsSpared (reports_of calls image) (first_ledger image) (files_before k (nodes_in image)) →
    StillThere image (image_after_all calls image) (number_after (reports_of calls image) (first_ledger image) (files_before k (nodes_in image))) nm offset size

-- ---- after an accepted fill the file is the clip

-- file k as its window shows it: as long as the clip, and a read into a buffer that is long enough gives the clip and no more
pub record ShowsClip (image : List ℕ) (w k : ℕ) (clip : List ℕ) : Type 0 where
  pub offset : ℕ
  pub window : open_file_answer image w k ≡ Ok (new_window offset (length clip))
  pub count : (asked : ℕ) → length clip ≤ asked → count_of (new_window offset (length clip)) (length image) asked ≡ length clip
  pub bytes : (buffer : List ℕ) → length clip ≤ length buffer → buffer_of (new_window offset (length clip)) image buffer ≡ put buffer 0 clip

-- THEOREM: an accepted fill, and w words, which are no fewer than it was lent
abbrev pub FillReads : Type 0
FillReads =
    (a : Account) (image clip : List ℕ) (k words bytes w : ℕ) → AllBytes image → AllBytes clip → words ≤ w → verdict_of (fill_file k clip) a image words bytes ≡ Ok tt →
    ShowsClip (image_after (fill_file k clip) a image words bytes) w k clip

-- ---- a record that is handed on tells what one made afresh would, and what each team has taken, in how many edits

-- the record t, of an image: what a record made of the image with w words says, and each of 16 teams
pub record Tells (image : List ℕ) (w : ℕ) (team : ℕ → Team) (t : Totals) : Type 0 where
  pub totals : t ≡ totals_of image t.teams
  pub afresh : (limits shares : List ℕ) → record_answer image w limits shares ≡ Ok (totals_of image (new_teams limits shares))
  pub teams : (k : ℕ) → k < 16 → team_of t k ≡ team k

-- THEOREM: a record that was made of the first image for 16 teams, and any list of calls through which it is handed on
abbrev pub RecordTells : Type 0
RecordTells =
    (image : List ℕ) (w₀ w : ℕ) (limits shares : List ℕ) (t : Totals) (calls : List Call) → AllBytes image → length limits ≡ 16 → length shares ≡ 16 → record_answer image w₀ limits shares ≡ Ok t → w₀ ≤ w →
    AllWithin w calls → IsHandedOn t calls image →
    Tells (image_after_all calls image) w (team_after_all limits shares calls image) (totals_after_all t calls image)

-- ---- teams that edit by turns: each has its share, and none passes its limit

-- at the start nothing is taken, and the free bytes are at least all shares together
pub record IsFairStart (image : List ℕ) (t : Totals) : Type 0 where
  pub nothing-taken : (k : ℕ) → (team_of t k).taken ≡ 0
  pub shares-free : sum_by (λ m. m.share) t.teams ≤ total_size (free_space_of image)

-- what the call's team has taken and what the call costs, by the image that it plans, are within the team's share
abbrev pub IsWithinShare : Call → List ℕ → Type 0
IsWithinShare c image =
    (team_of c.account.totals c.account.team).taken + used_of (plan_image (plan_of c.edit (disc_of image)) image)
    ≤ (team_of c.account.totals c.account.team).share + used_of image

-- at each place of the list such a call does not meet 28
abbrev pub SharesSuffice : List Call → List ℕ → Type 0
SharesSuffice [] image = Unit {0}
SharesSuffice (c ∷ calls) image =
    (IsWithinShare c image → ¬ (verdict_of c.edit c.account image c.words c.bytes ≡ Err FreeBelowShares))
    × SharesSuffice calls (image_after c.edit c.account image c.words c.bytes)

-- of the image and the record after the list; t₀ is the record before it
pub record SharesHold (t₀ : Totals) (image : List ℕ) (t : Totals) : Type 0 where
  -- the free bytes are at least what all teams have not yet taken of their shares
  pub shares-free : sum_by (λ m. m.share - m.taken) t.teams ≤ total_size (free_space_of image)
  -- no team has taken more than its limit
  pub within-limits : (k : ℕ) → (team_of t k).taken ≤ (team_of t k).limit
  -- limits and shares are those that were given
  pub same-limits : (k : ℕ) → (team_of t k).limit ≡ (team_of t₀ k).limit
  pub same-shares : (k : ℕ) → (team_of t k).share ≡ (team_of t₀ k).share

-- THEOREM: such a start, and any list of calls through which the record is handed on
abbrev pub TeamsServed : Type 0
TeamsServed =
    (image : List ℕ) (w₀ w : ℕ) (t : Totals) (calls : List Call) → AllBytes image → opening image w₀ ≡ Ok tt → w₀ ≤ w → AllWithin w calls → IsHandedOn t calls image → IsFairStart image t →
    SharesHold t (image_after_all calls image) (totals_after_all t calls image) × SharesSuffice calls image

-- ---- no edit writes a table above the stated maximum

-- the stated maximum of the first image, and the table of the last one
pub record WithinMaximum (first last : List ℕ) : Type 0 where
  -- the field is never written
  pub field : fst_max_size last ≡ fst_max_size first
  -- a table within a nonzero maximum at first is within it at last (this follows from `larger`)
  pub within : 0 < fst_max_size first → fst_size first ≤ fst_max_size first → fst_size last ≤ fst_max_size first
  -- a table above it at last is the first one, byte for byte
  pub larger : 0 < fst_max_size first → fst_max_size first < fst_size last → (fst_size last ≡ fst_size first) × (table_of last ≡ table_of first)

-- THEOREM: the same images, lists and memory as above
abbrev pub MaximumKept : Type 0
MaximumKept =
    (image : List ℕ) (w₀ w : ℕ) (calls : List Call) → AllBytes image → opening image w₀ ≡ Ok tt → w₀ ≤ w → AllWithin w calls → WithinMaximum image (image_after_all calls image)
