-- What the reports of any list of calls tell holds of every file of the first image: accepted moves, resizes and fills have numbers of files.
-- Assumes nothing.
use Rattle.std.specs.Prelude.{Ok, Err, is_err}
use Rattle.refusal.specs.Refusal.{Verdict}
use Rattle.std.specs.Prelude.{ℕ, ◌≤◌, ◌≡◌, refl, true, false, cond, not, List, [], ◌∷◌, length, get_or}
use Rattle.std.proofs.Common.{◌∙◌, arith}
use Rattle.endian.specs.Bytes.{span, AllBytes}
use Rattle.refusal.specs.Refusal.{first}
use Rattle.refusal.specs.Laws.Chains.{first-passed}
use Rattle.tree.specs.Table.{file, empty_root}
use Rattle.tree.specs.Lookup.{is_directory}
use Rattle.space.specs.declared.region.DiscRegion.{DiscRegion}
use Rattle.opened.specs.Opening.{nodes_in, free_space_of, opening}
use Rattle.edit_rules.specs.Edits.{Edit, Account, insert_file, insert_directory, make_directories, move_file, resize_file, fill_file, rewrite, file_verdict, relocate_verdict, clip_verdict, plan_move, plan_resize, plan_fill, verdict_of, image_after}
use Rattle.edit_rules.proofs.Laws.Accepted.{accepted}
use Rattle.ledger.specs.Ledger.{Ledger, files_before, first_ledger, ledger_with, Report, ledger_after}
use Rattle.ledger.specs.Runs.{Call, reports_of, AllWithin}
use Rattle.ledger.proofs.Laws.Bare.{kind-node_without_place}
use Rattle.ledger.proofs.Laws.Kept.{Kept}
use Rattle.ledger.proofs.Laws.Placed.{place_in}
use Rattle.ledger.proofs.Laws.PlaceEdits.{is-file}
use Rattle.ledger.proofs.Laws.Steps.{step}
use Rattle.ledger.proofs.Laws.Sequence.{start}
use Rattle.ledger.proofs.Laws.PlacesAfter.{passed-plan}
use Rattle.ledger.specs.Spared.{number_after}
use Rattle.ledger.specs.Inner.Told.{is_named_in, Given, given_in, least_of, final_size, start_of, IsOfFile, OfFiles}
use Rattle.ledger.proofs.Laws.FilesTold.{FileIs, first-told}

accepted-passed : (v : Verdict) → not (is_err v) ≡ true → v ≡ Ok tt
accepted-passed (Ok _) e = refl
accepted-passed (Err c) e = let z : ◌≡◌ {A = ℕ} 0 1 = cc in absurd (omega arith)

module _ (w : ℕ) (image : List ℕ) (l : Ledger) (K : Kept w image l) (words bytes : ℕ) where
  kind-is : (k : ℕ) → file_verdict (nodes_in image) k ≡ Ok tt → is_directory (get_or l.nodes k empty_root) ≡ false
  kind-is k v = rw (← K.shape) (kind-node_without_place (nodes_in image) k ∙ is-file (nodes_in image) k v)

  -- the entry is a file, or it is 16
  of-file : (account : Account) (ed : Edit) → verdict_of ed account image words bytes ≡ Ok tt → IsOfFile ed l
  unfolding plan_move plan_resize plan_fill
  of-file account (insert_file p nm) v = tt
  of-file account (insert_directory p nm) v = tt
  of-file account (make_directories from path) v = tt
  of-file account (move_file k to) v =
      let new : DiscRegion = record { offset = to; size = (place_in image k).size } in
      let t = passed-plan (first (file_verdict (nodes_in image) k) (relocate_verdict (free_space_of image) (place_in image k) new)) _ image words bytes (accepted (move_file k to) account image words bytes v).own in
      kind-is k (first-passed (file_verdict (nodes_in image) k) _ t.0).0
  of-file account (resize_file k n) v = kind-is k (passed-plan (file_verdict (nodes_in image) k) _ image words bytes (accepted (resize_file k n) account image words bytes v).own).0
  of-file account (fill_file k clip) v =
      let t = passed-plan (clip_verdict (nodes_in image) k (length clip)) _ image words bytes (accepted (fill_file k clip) account image words bytes v).own in
      kind-is k (first-passed (file_verdict (nodes_in image) k) _ t.0).0
  of-file account rewrite v = tt

of-files : (w : ℕ) (calls : List Call) (image : List ℕ) (l : Ledger) → AllWithin w calls → Kept w image l → OfFiles (reports_of calls image) l
unfolding reports_of
of-files w [] image l a K = tt
of-files w (c ∷ calls) image l a K = (
  λ e. of-file w image l K c.words c.bytes c.account c.edit (accepted-passed (verdict_of c.edit c.account image c.words c.bytes) e),
  of-files w calls (image_after c.edit c.account image c.words c.bytes) (cond (not (is_err (verdict_of c.edit c.account image c.words c.bytes))) (ledger_with c.edit l) l) a.2
      (step w image l K c.words c.bytes a.0 c.account c.edit a.1),
)

-- LAW: the reports of any list of calls
pub calls-of-files : (image : List ℕ) (w₀ w : ℕ) (calls : List Call) → AllBytes image → opening image w₀ ≡ Ok tt → w₀ ≤ w → AllWithin w calls → OfFiles (reports_of calls image) (first_ledger image)
calls-of-files image w₀ w calls b e h a = of-files w calls image (first_ledger image) a (start image w₀ w h b e)

-- THEOREM: the file with entry number k of the first image, in the ledger after any list of calls
pub calls-told : (image : List ℕ) (w₀ w : ℕ) (calls : List Call) → AllBytes image → opening image w₀ ≡ Ok tt → w₀ ≤ w → AllWithin w calls →
    (k : ℕ) (nm : List ℕ) (offset size : ℕ) → get_or (nodes_in image) k empty_root ≡ file nm offset size →
    let l : Ledger = first_ledger image in
    let f : ℕ = files_before k (nodes_in image) in
    let reports : List Report = reports_of calls image in
    let gs : List Given = given_in reports l f in
    FileIs (ledger_after reports l) (number_after reports l f) nm (final_size size gs)
    (record { place = offset; bytes = start_of (span image offset size) gs; m = least_of size gs; named = is_named_in reports l f })
calls-told image w₀ w calls b e h a k nm offset size q = first-told image (reports_of calls image) k nm offset size q (calls-of-files image w₀ w calls b e h a)
