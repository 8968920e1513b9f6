-- A file's history after any list of reports, by what the reports tell of it alone: its name and starting place are those it began with; its
-- starting bytes are the last clip that it was filled with, or those it began with; m is the least of their length and the sizes that it was
-- given since, its size the last of them all; and it is named exactly if an accepted edit named it. Assumes nothing.
use Rattle.std.specs.Prelude.{ℕ, zero, suc, ◌<◌, ◌≡◌, refl, Bool, true, false, cond, ◌&&◌, ◌||◌, List, [], ◌∷◌, map, length, get_or}
use Rattle.std.proofs.Common.{sym, ap, ◌∙◌, arith}
use Rattle.std.proofs.Math.ListN.{get_or-map}
use Rattle.endian.specs.Bytes.{span}
use Rattle.tree.specs.Table.{Node, file, directory, empty_root}
use Rattle.tree.specs.Lookup.{is_directory}
use Rattle.space.specs.declared.region.DiscRegion.{DiscRegion}
use Rattle.space.specs.Used.{no_region}
use Rattle.opened.specs.Opening.{nodes_in}
use Rattle.refusal.specs.Laws.Tests.{or-false}
use Rattle.edit_rules.specs.Edits.{Edit, insert_file, insert_directory, make_directories, move_file, resize_file, fill_file, rewrite}
use Rattle.ledger.specs.Ledger.{History, Ledger, node_without_place, files_before, history_of, first_ledger, Report, ledger_after}
use Rattle.ledger.specs.Inner.Files.{files_of}
use Rattle.ledger.proofs.Laws.Files.{files-at, files-count, entry_of}
use Rattle.ledger.proofs.Laws.Bare.{before-node_without_place}
use Rattle.ledger.specs.Spared.{is_file_of_edit, ledger_next, number_next, number_after}
use Rattle.ledger.proofs.Laws.SparedLaws.{IsFileAt, begins}
use Rattle.ledger.specs.Inner.Told.{is_named_in, Given, given_by_edit, given_in, least_of, final_size, start_of, history_at, file_name_at, size_at, OfFiles}
use Rattle.ledger.proofs.Laws.ToldLaws.{or-none, Exists, goes}

-- file f of a ledger has this name, size and history
pub record FileIs (l : Ledger) (f : ℕ) (nm : List ℕ) (size : ℕ) (h : History) : Type 0 where
  -- its entry number: file f is that entry, and no other
  pub entry : ℕ
  pub number : files_before entry l.nodes ≡ f
  pub alone : (k : ℕ) → is_directory (get_or l.nodes k empty_root) ≡ false → files_before k l.nodes ≡ f → k ≡ entry
  pub offset : ℕ
  pub node : get_or l.nodes entry empty_root ≡ file nm offset size
  pub history : history_of l entry ≡ h

-- two files with one number among the files are one
same_number : (xs : List Node) (j k : ℕ) → is_directory (get_or xs j empty_root) ≡ false → is_directory (get_or xs k empty_root) ≡ false → files_before j xs ≡ files_before k xs → j ≡ k
unfolding files_before
same_number [] j k a b e = let z : ◌≡◌ {A = ℕ} 0 1 = cc in absurd (omega arith)
same_number (x ∷ xs) zero zero a b e = refl
same_number (file nm o n ∷ xs) zero (suc k) a b e = absurd (omega arith)
same_number (directory nm n ∷ xs) zero (suc k) a b e = let z : ◌≡◌ {A = ℕ} 0 1 = cc in absurd (omega arith)
same_number (file nm o n ∷ xs) (suc j) zero a b e = absurd (omega arith)
same_number (directory nm n ∷ xs) (suc j) zero a b e = let z : ◌≡◌ {A = ℕ} 0 1 = cc in absurd (omega arith)
same_number (file nm o n ∷ xs) (suc j) (suc k) a b e = ap suc (same_number xs j k a b (omega arith))
same_number (directory nm n ∷ xs) (suc j) (suc k) a b e = ap suc (same_number xs j k a b e)

file-is : (l : Ledger) (f : ℕ) (nm : List ℕ) (size : ℕ) (h : History) → Exists l f → file_name_at l f ≡ nm → size_at l f ≡ size → history_at l f ≡ h → FileIs l f nm size h
file-is l f nm size h x n s q =
    let e = entry_of f l.nodes x.2 in
    record {
      entry = e.0;
      number = e.1;
      alone = λ k d g. same_number l.nodes k e.0 d (rw e.2) (g ∙ sym e.1);
      offset = _;
      node = rw (n, s) at e.2;
      history = rw e.1 q;
    }

-- THEOREM: file f of any ledger, after any list of reports whose accepted moves, resizes and fills have numbers of files
pub told : (reports : List Report) (l : Ledger) (f : ℕ) → OfFiles reports l → Exists l f →
    let h : History = history_at l f in
    let gs : List Given = given_in reports l f in
    FileIs (ledger_after reports l) (number_after reports l f) (file_name_at l f) (final_size (size_at l f) gs)
    (record { place = h.place; bytes = start_of h.bytes gs; m = least_of h.m gs; named = h.named || is_named_in reports l f })
told reports l f o x = let g = goes reports l f o x in file-is (ledger_after reports l) (number_after reports l f) _ _ _ g.exists g.name g.size g.history

-- ---- a file that no accepted edit named

not-given : (ed : Edit) (l : Ledger) (f : ℕ) → is_file_of_edit ed l f ≡ false → given_by_edit ed l f ≡ []
not-given (insert_file p nm) l f e = refl
not-given (insert_directory p nm) l f e = refl
not-given (make_directories start path) l f e = refl
not-given (move_file k to) l f e = refl
not-given (resize_file k n) l f e = rw e
not-given (fill_file k clip) l f e = rw e
not-given rewrite l f e = refl

-- LAW: it was given nothing
pub unnamed-ungiven : (reports : List Report) (l : Ledger) (f : ℕ) → is_named_in reports l f ≡ false → given_in reports l f ≡ []
unfolding is_named_in given_in
unnamed-ungiven [] l f e = refl
unnamed-ungiven (r ∷ reports) l f e =
    let o = or-false (r.accepted && is_file_of_edit r.edit l f) _ e in
    rw (unnamed-ungiven reports (ledger_next r l) (number_next r l f) o.1, here r.accepted o.0)
  where
    here : (a : Bool) → (a && is_file_of_edit r.edit l f) ≡ false → cond a (given_by_edit r.edit l f) [] ≡ []
    here true q = not-given r.edit l f q
    here false q = refl

-- THEOREM: so its name, size and whole history are those it began with
pub unnamed_told : (reports : List Report) (l : Ledger) (f : ℕ) → OfFiles reports l → Exists l f → is_named_in reports l f ≡ false →
    FileIs (ledger_after reports l) (number_after reports l f) (file_name_at l f) (size_at l f) (history_at l f)
unfolding least_of final_size start_of
unnamed_told reports l f o x e = rw (unnamed-ungiven reports l f e, e, or-none (history_at l f).named) at (told reports l f o x)

-- ---- a file of the first image

node_without_place-at : (nodes : List Node) (k : ℕ) (nm : List ℕ) (offset size : ℕ) → get_or nodes k empty_root ≡ file nm offset size → get_or (map node_without_place nodes) k empty_root ≡ file nm 0 size
node_without_place-at nodes k nm offset size e = get_or-map node_without_place nodes k empty_root ∙ rw e

first-exists : (image : List ℕ) (k : ℕ) (nm : List ℕ) (offset size : ℕ) → IsFileAt image k nm offset size →
    Exists (first_ledger image) (files_before k (nodes_in image)) × (size_at (first_ledger image) (files_before k (nodes_in image)) ≡ size)
first-exists image k nm offset size e =
    let g = begins image k nm offset size e in
    let xs : List Node = map node_without_place (nodes_in image) in
    let b : get_or xs k empty_root ≡ file nm 0 size = node_without_place-at (nodes_in image) k nm offset size e in
    let d : is_directory (get_or xs k empty_root) ≡ false = rw b in
    let c : files_before k xs < length (files_of xs) = files-count k xs d in
    let a : (get_or (files_of xs) (files_before k xs) no_region).size ≡ size = ap (λ (r : DiscRegion). r.size) (files-at k xs d) ∙ rw b in
    ((g.0.0, g.1.0, rw (before-node_without_place k (nodes_in image)) at c), rw (before-node_without_place k (nodes_in image)) at a)

-- THEOREM: its starting place and bytes, m, and whether it was named
pub first-told : (image : List ℕ) (reports : List Report) (k : ℕ) (nm : List ℕ) (offset size : ℕ) → IsFileAt image k nm offset size → OfFiles reports (first_ledger image) →
    let l : Ledger = first_ledger image in
    let f : ℕ = files_before k (nodes_in image) in
    let gs : List Given = given_in reports l f in
    FileIs (ledger_after reports l) (number_after reports l f) nm (final_size size gs)
    (record { place = offset; bytes = start_of (span image offset size) gs; m = least_of size gs; named = is_named_in reports l f })
first-told image reports k nm offset size e o =
    let g = begins image k nm offset size e in
    let x = first-exists image k nm offset size e in
    rw (g.0.1, g.1.1, x.1) at (told reports (first_ledger image) (files_before k (nodes_in image)) o x.0)
