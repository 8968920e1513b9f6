-- The history and the name of a file that no accepted edit names are those it began with. Assumes nothing.
use Rattle.std.specs.Prelude.{ℕ, zero, suc, ◌<◌, ◌≡◌, refl, Bool, true, false, cond, List, [], ◌∷◌, length, get_or, set, eqb}
use Rattle.std.proofs.Common.{◌∙◌, arith, length-set, get_or-set_other}
use Rattle.std.proofs.lemmas.Bool.{eqb-false}
use Rattle.endian.specs.Bytes.{span}
use Rattle.tree.specs.Table.{Node, file, directory, empty_root}
use Rattle.tree.specs.Lookup.{components}
use Rattle.tree.specs.Insert.{number_after_insert}
use Rattle.tree.proofs.Laws.InsertLaws.{number_after_insert-min}
use Rattle.opened.specs.Opening.{nodes_in}
use Rattle.edit_rules.specs.Edits.{Edit, insert_file, insert_directory, make_directories, move_file, resize_file, fill_file, rewrite, new_number}
use Rattle.ledger.specs.Ledger.{History, Ledger, files_before, new_history, put_in, ledger_with, Report, ledger_after, first_histories, first_ledger}
use Rattle.ledger.specs.Inner.Files.{own_name, file_names}
use Rattle.ledger.proofs.Laws.Files.{insert-directory, insert-file, names_at, names-set_place, names-node_without_place}
use Rattle.ledger.proofs.Laws.Making.{made-same}
use Rattle.ledger.specs.Spared.{is_file_of_edit, number_after_edit, ledger_next, number_next, number_after, IsSpared}

number_after_insert-suc : (q k : ℕ) → number_after_insert (suc q) (suc k) ≡ suc (number_after_insert q k)
number_after_insert-suc q k = omega (arith, number_after_insert-min (suc q) (suc k), number_after_insert-min q k)

number_after_insert-zero : (k : ℕ) → number_after_insert 0 k ≡ suc k
number_after_insert-zero k = omega (arith, number_after_insert-min 0 k)

number_after_insert-first : (q : ℕ) → number_after_insert (suc q) 0 ≡ 0
number_after_insert-first q = omega (arith, number_after_insert-min (suc q) 0)

-- element f of a list is y
abbrev pub Holds : {A : Type 0} → A → List A → ℕ → A → Type 0
Holds d xs f y = (f < length xs) × (get_or xs f d ≡ y)

pub put-in-holds : {A : Type 0} (d : A) (j : ℕ) (x : A) (xs : List A) (f : ℕ) (y : A) → Holds d xs f y → Holds d (put_in j x xs) (number_after_insert j f) y
unfolding put_in
put-in-holds d zero x xs f y h = rw (number_after_insert-zero f) (omega (arith, h.0), h.1)
put-in-holds d (suc j) x [] f y h = absurd (omega (arith, h.0))
put-in-holds d (suc j) x (z ∷ xs) zero y h = rw (number_after_insert-first j) (omega arith, h.1)
put-in-holds d (suc j) x (z ∷ xs) (suc f) y h = rw (number_after_insert-suc j f) (let t = put-in-holds d j x xs f y (omega (arith, h.0), h.1) in (omega (arith, t.0), t.1))

-- file f has history g and name nm
abbrev Begun : Ledger → ℕ → History → List ℕ → Type 0
Begun l f g nm = Holds new_history l.histories f g × Holds [] (file_names l.nodes) f nm

set_holds : (hs : List History) (f k : ℕ) (g x : History) → eqb f k ≡ false → Holds new_history hs f g → Holds new_history (set hs k x) f g
set_holds hs f k g x e h = (rw (length-set hs k x) h.0, get_or-set_other hs k f x new_history (eqb-false f k e) ∙ h.1)

spared-ledger_with : (ed : Edit) (l : Ledger) (f : ℕ) (g : History) (nm : List ℕ) → is_file_of_edit ed l f ≡ false → Begun l f g nm → Begun (ledger_with ed l) (number_after_edit ed l f) g nm
spared-ledger_with (insert_file p new) l f g nm e b =
    let j : ℕ = files_before (new_number l.nodes p) l.nodes in
    (put-in-holds new_history j new_history l.histories f g b.0, rw (insert-file own_name p new 0 0 l.nodes) (put-in-holds [] j new (file_names l.nodes) f nm b.1))
spared-ledger_with (insert_directory p new) l f g nm e b = (b.0, rw (insert-directory own_name p new (suc (new_number l.nodes p)) l.nodes) b.1)
spared-ledger_with (make_directories start path) l f g nm e b = (b.0, rw (made-same own_name l.nodes start (components path)) b.1)
spared-ledger_with (move_file k to) l f g nm e b = (set_holds l.histories f (files_before k l.nodes) g _ e b.0, b.1)
spared-ledger_with (resize_file k n) l f g nm e b = (set_holds l.histories f (files_before k l.nodes) g _ e b.0, rw (names-set_place 0 n k l.nodes) b.1)
spared-ledger_with (fill_file k clip) l f g nm e b = (set_holds l.histories f (files_before k l.nodes) g _ e b.0, rw (names-set_place 0 (length clip) k l.nodes) b.1)
spared-ledger_with rewrite l f g nm e b = b

spared-next : (r : Report) (l : Ledger) (f : ℕ) (g : History) (nm : List ℕ) → (r.accepted ≡ true → is_file_of_edit r.edit l f ≡ false) → Begun l f g nm → Begun (ledger_next r l) (number_next r l f) g nm
spared-next r l f g nm e b = go r.accepted refl
  where
    go : (a : Bool) → r.accepted ≡ a → Begun (cond a (ledger_with r.edit l) l) (cond a (number_after_edit r.edit l f) f) g nm
    go true q = spared-ledger_with r.edit l f g nm (e q) b
    go false q = b

-- LAW: the history and the name of a file that is spared are those it began with
pub spared : (reports : List Report) (l : Ledger) (f : ℕ) (g : History) (nm : List ℕ) → IsSpared reports l f → Begun l f g nm → Begun (ledger_after reports l) (number_after reports l f) g nm
unfolding ledger_after number_after
spared [] l f g nm s b = b
spared (r ∷ reports) l f g nm s b = spared reports (ledger_next r l) (number_next r l f) g nm s.1 (spared-next r l f g nm s.0 b)

-- ---- the first image

first-history : (image : List ℕ) (k : ℕ) (xs : List Node) (nm : List ℕ) (offset size : ℕ) → get_or xs k empty_root ≡ file nm offset size →
    Holds new_history (first_histories image xs) (files_before k xs) (record { place = offset; bytes = span image offset size; m = size; named = false })
unfolding first_histories files_before
first-history image k [] nm offset size e = let z : ◌≡◌ {A = ℕ} 0 1 = cc in absurd (omega arith)
first-history image zero (file nm' a n ∷ xs) nm offset size e = let p : a ≡ offset = cc in let q : n ≡ size = cc in (omega arith, rw (p, q))
first-history image zero (directory nm' next ∷ xs) nm offset size e = let z : ◌≡◌ {A = ℕ} 0 1 = cc in absurd (omega arith)
first-history image (suc k) (file nm' a n ∷ xs) nm offset size e = let t = first-history image k xs nm offset size e in (omega (arith, t.0), t.1)
first-history image (suc k) (directory nm' next ∷ xs) nm offset size e = first-history image k xs nm offset size e

-- entry k of the image is this file
abbrev pub IsFileAt : List ℕ → ℕ → List ℕ → ℕ → ℕ → Type 0
IsFileAt image k nm offset size = get_or (nodes_in image) k empty_root ≡ file nm offset size

-- LAW: so it begins
pub begins : (image : List ℕ) (k : ℕ) (nm : List ℕ) (offset size : ℕ) → IsFileAt image k nm offset size →
    Begun (first_ledger image) (files_before k (nodes_in image)) (record { place = offset; bytes = span image offset size; m = size; named = false }) nm
begins image k nm offset size e = (first-history image k (nodes_in image) nm offset size e, rw (names-node_without_place (nodes_in image)) (names_at k (nodes_in image) nm offset size e))
