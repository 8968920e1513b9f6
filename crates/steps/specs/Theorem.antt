-- A move or a resize in three calls, each on the image as the one before left it, and what holds of an image that was left between two of them
-- (RULES, In three calls). Proved in proofs/Laws: `three-calls` of ThreeCalls, `cuts-kept` of CutsKept. Assumes nothing: these are definitions.
use Rattle.std.specs.Prelude.{Ok, ℕ, ◌≤◌, ◌≡◌, List, slice_index_or}
use Rattle.endian.specs.Bytes.{span, AllBytes}
use Rattle.tree.specs.Table.{file, empty_root}
use Rattle.space.specs.declared.region.DiscRegion.{DiscRegion}
use Rattle.opened.specs.Opening.{nodes_in, free_space_of, used_of, opening, disc_of}
use Rattle.edit_rules.specs.Edits.{Edit, Account, plan_of, verdict_of, image_after, totals_after}
use Rattle.ledger.specs.Ledger.{first_ledger, ledger_with, ledger_after}
use Rattle.ledger.specs.Runs.{Call, image_after_all, reports_of, AllWithin}
use Rattle.ledger.specs.Theorem.{LedgerHolds}
use Rattle.edit.specs.Asked.{IsPlaceEdit}
use Rattle.steps.specs.Parts.{plan_span, image_after_copy, image_after_table, zero_verdict, image_after_zeros}

-- the image at a cut behind the copy, and at one behind the table
abbrev pub first_cut : Edit → Account → List ℕ → ℕ → ℕ → List ℕ
first_cut ed a image words bytes = image_after_copy ed a image words bytes

abbrev pub second_cut : Edit → Account → List ℕ → ℕ → ℕ → List ℕ
second_cut ed a image words bytes = image_after_table ed a (first_cut ed a image words bytes) words bytes

-- what the second call gives to be zeroed
abbrev pub span_left : Edit → Account → List ℕ → ℕ → ℕ → DiscRegion
span_left ed a image words bytes = plan_span (plan_of ed (disc_of (first_cut ed a image words bytes)))

-- the image left at a cut opens with so many words as `old` does, and reads as that one
pub record ReadsAs (words : ℕ) (old cut : List ℕ) : Type 0 where
  pub opens : opening cut words ≡ Ok tt
  -- names, nesting and order, places and sizes
  pub tree : nodes_in cut ≡ nodes_in old
  pub files : (k : ℕ) (nm : List ℕ) (offset size : ℕ) → slice_index_or (nodes_in cut) k empty_root ≡ file nm offset size → span cut offset size ≡ span old offset size
  pub used : used_of cut ≡ used_of old
  pub free : free_space_of cut ≡ free_space_of old
  pub ledger : first_ledger cut ≡ first_ledger old

-- an accepted edit in three calls
pub record IsDoneByThree (ed : Edit) (a : Account) (image : List ℕ) (words bytes : ℕ) : Type 0 where
  -- behind the copy: the old tree, and every old file's bytes
  pub first : ReadsAs words image (first_cut ed a image words bytes)
  -- the second call is accepted, and hands back the single edit's record, of every team
  pub second-accepted : verdict_of ed a (first_cut ed a image words bytes) words bytes ≡ Ok tt
  pub record-whole : totals_after ed a (first_cut ed a image words bytes) words bytes ≡ totals_after ed a image words bytes
  -- behind the table: the new tree, and every file as the single edit gives it
  pub second : ReadsAs words (image_after ed a image words bytes) (second_cut ed a image words bytes)
  -- the third call is accepted, and all three are the single edit, every byte
  pub third-accepted : zero_verdict (second_cut ed a image words bytes) words (span_left ed a image words bytes) ≡ Ok tt
  pub image-whole : image_after_zeros (second_cut ed a image words bytes) words (span_left ed a image words bytes) ≡ image_after ed a image words bytes

-- THEOREM: a move or a resize that is accepted, on an image of bytes, with a record that may hold anything
abbrev pub ThreeCalls : Type 0
ThreeCalls =
    (ed : Edit) (a : Account) (image : List ℕ) (words bytes : ℕ) → IsPlaceEdit ed → AllBytes image → verdict_of ed a image words bytes ≡ Ok tt →
    IsDoneByThree ed a image words bytes

-- THEOREM: after any list of calls on an image that opens, and then such an edit, cut: what holds after the list holds behind the copy, by the list's
-- ledger, and behind the table, with the edit entered
abbrev pub CutsKept : Type 0
CutsKept =
    (start : List ℕ) (w₀ w : ℕ) (calls : List Call) → AllBytes start → opening start w₀ ≡ Ok tt → w₀ ≤ w → AllWithin w calls →
    (ed : Edit) (a : Account) (words bytes : ℕ) → IsPlaceEdit ed → words ≤ w → verdict_of ed a (image_after_all calls start) words bytes ≡ Ok tt →
    LedgerHolds w start (first_cut ed a (image_after_all calls start) words bytes) (ledger_after (reports_of calls start) (first_ledger start))
    × LedgerHolds w start (second_cut ed a (image_after_all calls start) words bytes) (ledger_with ed (ledger_after (reports_of calls start) (first_ledger start)))
