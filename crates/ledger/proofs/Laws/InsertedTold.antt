-- An inserted file's history after any list, by what the reports after the insert tell of it alone: it begins
-- without a byte, so m stays 0. Assumes nothing.
use Rattle.std.specs.Prelude.{ℕ, zero, suc, ◌≤◌, ◌≡◌, refl, Bool, true, false, cond, List, [], ◌∷◌, ◌++◌, length}
use Rattle.std.proofs.Common.{sym, ap, ◌∙◌, arith, length-set}
use Rattle.tree.specs.Table.{Node, file, directory}
use Rattle.tree.specs.Lookup.{components}
use Rattle.space.specs.declared.region.DiscRegion.{DiscRegion}
use Rattle.space.specs.Used.{no_region}
use Rattle.opened.specs.Opening.{nodes_in}
use Rattle.edit_rules.specs.Edits.{Edit, insert_file, insert_directory, make_directories, move_file, resize_file, fill_file, rewrite, new_number}
use Rattle.ledger.specs.Ledger.{Ledger, files_before, new_history, first_histories, first_ledger, put_in, ledger_with, Report, ledger_after}
use Rattle.ledger.specs.Inner.Files.{pick, own_place, files_of, own_name, file_names}
use Rattle.ledger.proofs.Laws.Files.{insert-directory, insert-file, names-set_place, names-node_without_place}
use Rattle.ledger.proofs.Laws.Making.{made-same}
use Rattle.ledger.specs.Spared.{ledger_next, number_after}
use Rattle.ledger.proofs.Laws.SparedLaws.{Holds}
use Rattle.ledger.specs.Inner.Told.{is_named_in, given_in, least_of, final_size, start_of, history_at, file_name_at, size_at, OfFiles}
use Rattle.ledger.proofs.Laws.ToldLaws.{Exists}
use Rattle.ledger.proofs.Laws.FilesTold.{FileIs, told}

-- ---- a ledger has a history for each file

abbrev pub IsMatched : Ledger → Type 0
IsMatched l = length l.histories ≡ length (file_names l.nodes)

length-put-in : {A : Type 0} (j : ℕ) (x : A) (xs : List A) → length (put_in j x xs) ≡ suc (length xs)
unfolding put_in
length-put-in zero x xs = refl
length-put-in (suc j) x [] = refl
length-put-in (suc j) x (y ∷ xs) = ap suc (length-put-in j x xs)

matched-ledger_with : (ed : Edit) (l : Ledger) → IsMatched l → IsMatched (ledger_with ed l)
matched-ledger_with (insert_file p nm) l m =
    let j : ℕ = files_before (new_number l.nodes p) l.nodes in
    rw (insert-file own_name p nm 0 0 l.nodes, length-put-in j new_history l.histories, length-put-in j nm (file_names l.nodes), m)
matched-ledger_with (insert_directory p nm) l m = rw (insert-directory own_name p nm (suc (new_number l.nodes p)) l.nodes) m
matched-ledger_with (make_directories start path) l m = rw (made-same own_name l.nodes start (components path)) m
matched-ledger_with (move_file k to) l m = length-set l.histories (files_before k l.nodes) _ ∙ m
matched-ledger_with (resize_file k n) l m = rw (names-set_place 0 n k l.nodes) (length-set l.histories (files_before k l.nodes) _ ∙ m)
matched-ledger_with (fill_file k clip) l m = rw (names-set_place 0 (length clip) k l.nodes) (length-set l.histories (files_before k l.nodes) _ ∙ m)
matched-ledger_with rewrite l m = m

matched-next : (a : Bool) (ed : Edit) (l : Ledger) → IsMatched l → IsMatched (cond a (ledger_with ed l) l)
matched-next true ed l m = matched-ledger_with ed l m
matched-next false ed l m = m

matched-after : (reports : List Report) (l : Ledger) → IsMatched l → IsMatched (ledger_after reports l)
unfolding ledger_after
matched-after [] l m = m
matched-after (r ∷ reports) l m = matched-after reports (ledger_next r l) (matched-next r.accepted r.edit l m)

first-length : (image : List ℕ) (xs : List Node) → length (first_histories image xs) ≡ length (file_names xs)
unfolding first_histories pick
first-length image [] = refl
first-length image (file nm offset size ∷ xs) = ap suc (first-length image xs)
first-length image (directory nm next ∷ xs) = first-length image xs

pub matched-first : (image : List ℕ) → IsMatched (first_ledger image)
matched-first image = first-length image (nodes_in image) ∙ ap length (sym (names-node_without_place (nodes_in image)))

-- ---- the new file

put-in-at : {A : Type 0} (d : A) (j : ℕ) (x : A) (xs : List A) → j ≤ length xs → Holds d (put_in j x xs) j x
unfolding put_in
put-in-at d zero x xs h = (omega arith, refl)
put-in-at d (suc j) x [] h = absurd (omega arith)
put-in-at d (suc j) x (y ∷ xs) h = let t = put-in-at d j x xs (omega arith) in (omega (arith, t.0), t.1)

before-most : (k : ℕ) (xs : List Node) → files_before k xs ≤ length (file_names xs)
unfolding files_before pick
before-most zero xs = omega arith
before-most (suc k) [] = omega arith
before-most (suc k) (file nm offset size ∷ xs) = omega (arith, before-most k xs)
before-most (suc k) (directory nm next ∷ xs) = before-most k xs

as_many : (xs : List Node) → length (files_of xs) ≡ length (file_names xs)
unfolding pick
as_many [] = refl
as_many (file nm offset size ∷ xs) = ap suc (as_many xs)
as_many (directory nm next ∷ xs) = as_many xs

-- the number among the files that a file put in below p gets
abbrev pub new_file : Ledger → ℕ → ℕ
new_file l p = files_before (new_number l.nodes p) l.nodes

record New (l : Ledger) (f : ℕ) (nm : List ℕ) : Type 0 where
  exists : Exists l f
  history : history_at l f ≡ new_history
  name : file_name_at l f ≡ nm
  size : size_at l f ≡ 0

new-file : (l : Ledger) (p : ℕ) (nm : List ℕ) → IsMatched l → New (ledger_with (insert_file p nm) l) (new_file l p) nm
new-file l p nm m =
    let j : ℕ = new_file l p in
    let b : j ≤ length (file_names l.nodes) = before-most (new_number l.nodes p) l.nodes in
    let h = put-in-at new_history j new_history l.histories (omega arith) in
    let n : Holds [] (file_names (ledger_with (insert_file p nm) l).nodes) j nm = rw (insert-file own_name p nm 0 0 l.nodes) (put-in-at [] j nm (file_names l.nodes) b) in
    let s : Holds no_region (files_of (ledger_with (insert_file p nm) l).nodes) j no_region = rw (insert-file own_place p nm 0 0 l.nodes) (put-in-at no_region j no_region (files_of l.nodes) (omega (arith, as_many l.nodes))) in
    record { exists = (h.0, n.0, s.0); history = h.1; name = n.1; size = ap (λ (r : DiscRegion). r.size) s.1 }

-- ---- the list

ledger-then : (xs ys : List Report) (l : Ledger) → ledger_after (xs ++ ys) l ≡ ledger_after ys (ledger_after xs l)
unfolding ledger_after
ledger-then [] ys l = refl
ledger-then (r ∷ xs) ys l = ledger-then xs ys (ledger_next r l)

-- an accepted insert of a file
abbrev pub inserting : ℕ → List ℕ → Report
inserting p nm = record { edit = insert_file p nm; accepted = true }

-- THEOREM: `before` and `after` are the reports before and after the insert
pub inserted-told : (before after : List Report) (l : Ledger) (p : ℕ) (nm : List ℕ) → IsMatched l →
    let l₀ : Ledger = ledger_after before l in
    let l₁ : Ledger = ledger_next (inserting p nm) l₀ in
    let f : ℕ = new_file l₀ p in
    OfFiles after l₁ →
    FileIs (ledger_after (before ++ (inserting p nm ∷ after)) l) (number_after after l₁ f) nm (final_size 0 (given_in after l₁ f)) (record { place = 0; bytes = start_of [] (given_in after l₁ f); m = least_of 0 (given_in after l₁ f); named = is_named_in after l₁ f })
unfolding ledger_after
inserted-told before after l p nm m o =
    let l₁ : Ledger = ledger_next (inserting p nm) (ledger_after before l) in
    let f : ℕ = new_file (ledger_after before l) p in
    let n = new-file (ledger_after before l) p nm (matched-after before l m) in
    let t = told after l₁ f o n.exists in
    rw (ledger-then before (inserting p nm ∷ after) l) (rw (n.history, n.name, n.size) at t)
