-- What the calls give back in C: each answer's number, 0 where the call is accepted (RULES, Causes), and the
-- slots that the caller lends, as many as the answer has words. With a refusal they stay. Assumes nothing:
-- these are definitions.
use Rattle.std.specs.Prelude.{Option, Some, None, Result, Ok, Err, ℕ, zero, suc, ◌+◌, ◌-◌, ◌^◌, List, [], ◌∷◌, ◌++◌, replicate, slice_index, unwrap_or}
use Rattle.std.specs.List.{flat_map}
use Rattle.refusal.specs.declared.Refusal.{Refusal}
use Rattle.refusal.specs.Refusal.{Verdict, number_of}
use Rattle.opened.specs.declared.summary.Summary.{Summary}
use Rattle.opened.specs.declared.faults.Owner.{Owner}
use Rattle.opened.specs.declared.faults.Owner.TheVariants as owner
use Rattle.opened.specs.declared.faults.About.{About}
use Rattle.opened.specs.declared.faults.About.TheVariants as about
use Rattle.opened.specs.declared.faults.Fault.{Fault}
use Rattle.space.specs.declared.region.DiscRegion.{DiscRegion}
use Rattle.space.specs.Used.{no_region}
use Rattle.disc.specs.declared.answers.DiscTotals.{DiscTotals}
use Rattle.disc.specs.declared.answers.FirstUnit.{FirstUnit}
use Rattle.tree.specs.declared.Entry.{Entry}
use Rattle.tree.specs.declared.Entry.TheVariants.{File, Directory}
use Rattle.tree.specs.declared.Found.{Found}
use Rattle.tree.specs.declared.Found.TheVariants as found
use Rattle.executable.specs.declared.dol.DolHeader.{DolHeader}
use Rattle.disc.specs.declared.answers.DolFile.{DolFile}
use Rattle.totals.specs.declared.team.Team.{Team}
use Rattle.totals.specs.declared.Totals.{Totals}
use Rattle.executable.specs.Program.{Program}
use Rattle.window.specs.declared.Window.{Window}
use Rattle.clearing.specs.declared.clear.CheapestRun.{CheapestRun}
use Rattle.edit_rules.specs.Edits.{number_behind}
use Rattle.steps.specs.Promise.{span_behind}
use Rattle.sheet_run.specs.declared.run.Refused.{Refused}

-- the number that a call returns, and its slots afterwards
pub record Reply : Type 0 where
  pub number : ℕ
  pub slots : List ℕ

abbrev pub reply : ℕ → List ℕ → Reply
reply n slots = record { number = n; slots = slots }

abbrev pub accepted_reply : List ℕ → Reply
accepted_reply ws = reply 0 ws

-- the slots stay as they were
abbrev pub refused_reply : List ℕ → Refusal → Reply
refused_reply before c = reply (number_of c) before

-- ---- a value or a refusal

abbrev pub number_told : {A : Type 0} → Result A Refusal → ℕ
number_told (Ok _) = 0
number_told (Err c) = number_of c

-- the value in these words, or the slots as they were
abbrev pub slots_told : {A S : Type 0} → (A → S) → S → Result A Refusal → S
slots_told words before (Ok a) = words a
slots_told words before (Err c) = before

abbrev pub reply_of : {A : Type 0} → (A → List ℕ) → List ℕ → Result A Refusal → Reply
reply_of words before a = reply (number_told a) (slots_told words before a)

-- the same where the words stand beside the verdict
abbrev pub verdict_reply : List ℕ → Verdict → List ℕ → Reply
verdict_reply before v ws = reply_of (λ _. ws) before v

-- ---- the words of each value, in the order of its slots

abbrev pub disc_words : Summary → List ℕ
disc_words d = d.fst_offset ∷ d.fst_size ∷ d.disc_end ∷ d.entries ∷ d.used ∷ []

abbrev pub disc_totals_words : DiscTotals → List ℕ
disc_totals_words t = t.disc_end ∷ t.used ∷ []

abbrev pub region_words : DiscRegion → List ℕ
region_words r = r.offset ∷ r.size ∷ []

-- how many regions, a size, the length of a text or of a table, an entry's number
abbrev pub one_word : ℕ → List ℕ
one_word n = n ∷ []

-- a unit's length, and 0 or what it is refused for in a name
abbrev pub unit_words : FirstUnit → List ℕ
unit_words u = u.len ∷ number_told u.verdict ∷ []

-- how many runs were tried, one at least, and the cheapest of them; zeros where none was
abbrev pub run_words : Option CheapestRun → List ℕ
run_words None = replicate 4 0
run_words (Some run) = run.tried ∷ run.offset ∷ run.cost ∷ run.bound ∷ []

-- a window's start, length and position
abbrev pub window_in : List ℕ → Window
window_in slots = record { start = slice_index slots 0; len = slice_index slots 1; position = slice_index slots 2 }

abbrev pub window_words : Window → List ℕ
window_words w = w.start ∷ w.len ∷ w.position ∷ []

abbrev pub team_words : Team → List ℕ
team_words m = m.limit ∷ m.share ∷ m.taken ∷ m.edits ∷ []

-- then those of each team, in the order of their numbers
abbrev pub totals_words : Totals → List ℕ
totals_words t = t.used ∷ t.largest ∷ flat_map team_words t.teams

-- the team whose words stand from `at` on, and n teams from there on
abbrev pub team_at : List ℕ → ℕ → Team
team_at slots at = record { limit = slice_index slots at; share = slice_index slots (at + 1); taken = slice_index slots (at + 2); edits = slice_index slots (at + 3) }

unfoldable pub teams_at : List ℕ → ℕ → ℕ → List Team
teams_at slots at zero = []
teams_at slots at (suc n) = team_at slots at ∷ teams_at slots (at + 4) n

-- the record that stands in 66 slots
abbrev pub totals_in : List ℕ → Totals
totals_in slots = record { used = slice_index slots 0; largest = slice_index slots 1; teams = teams_at slots 2 16 }

-- kind 0 with offset and size, kind 1 with parent and next
abbrev pub entry_words : ℕ → Entry → List ℕ
entry_words k (File f) = k ∷ 0 ∷ f.offset ∷ f.size ∷ []
entry_words k (Directory d) = k ∷ 1 ∷ d.parent ∷ d.next ∷ []

-- offsets, addresses and sizes, of 7 text and then of 11 data sections each; BSS address and size; entry point
unfoldable pub dol_words : DolHeader → List ℕ
dol_words h =
    (h.text_offsets ++ h.data_offsets)
    ++ ((h.text_addresses ++ h.data_addresses) ++ ((h.text_sizes ++ h.data_sizes) ++ (h.bss_address ∷ h.bss_size ∷ h.entry_point ∷ [])))

-- ---- what a refusal of opening is about

-- a used region by its file's number, 0 for the bytes up to the table's end, the largest number for the program
abbrev pub owner_number : Owner → ℕ
owner_number owner.Table = 0
owner_number owner.Program = 2 ^ 32 - 1
owner_number (owner.Entry k) = k

abbrev pub about_words : About → List ℕ
about_words about.Image = 0 ∷ 0 ∷ 0 ∷ []
about_words (about.Entry k) = 1 ∷ k ∷ 0 ∷ []
about_words (about.Shared r s) = 2 ∷ owner_number r ∷ owner_number s ∷ []
about_words (about.PastEnd r) = 3 ∷ owner_number r ∷ 0 ∷ []
about_words (about.Section i) = 4 ∷ i ∷ 0 ∷ []

-- the number that opening refuses with, 0 where it does not
abbrev pub fault_words : Option Fault → List ℕ
fault_words None = replicate 4 0
fault_words (Some f) = number_of f.cause ∷ about_words f.about

-- ---- answers of other forms, over the slots as they were

-- a program has at least 0xE4 bytes, so size 0 is none
unfoldable pub program_reply : List ℕ → Program → Reply
program_reply before a = reply_of (λ r. region_words (unwrap_or r no_region)) before a

unfoldable pub found_reply : List ℕ → Found → Reply
found_reply before (found.At k e) = accepted_reply (entry_words k e)
found_reply before (found.Refused c) = refused_reply before c

-- the executable: the header's slots, and the window's
abbrev pub dol_reply : List ℕ → Result DolFile Refusal → Reply
dol_reply before a = reply_of (λ (f : DolFile). dol_words f.header) before a

abbrev pub dol_window_reply : List ℕ → Result DolFile Refusal → Reply
dol_window_reply before a = reply_of (λ (f : DolFile). window_words f.window) before a

-- ---- the edits, for `IsEdited`: one that gives only that it is done, and one that gives an entry's number

abbrev pub done_number : Verdict → ℕ → ℕ
done_number v k = number_told v

abbrev pub entry_reply : List ℕ → Verdict → ℕ → Reply
entry_reply before v k = reply_of one_word before (number_behind v k)

-- for `WritesTable`: what is left to be zeroed

abbrev pub span_reply : List ℕ → Verdict → DiscRegion → Reply
span_reply before v span = reply_of region_words before (span_behind v span)

-- ---- a sheet: the number, and the line that is refused; 0 where all lines ran

abbrev pub sheet_reply : Result (Unit {0}) Refused → Reply
sheet_reply (Ok _) = accepted_reply (one_word 0)
sheet_reply (Err r) = reply (number_of r.cause) (one_word r.line)
