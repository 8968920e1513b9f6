-- A file followed through any list of reports: what each does to its history, name and size. Assumes nothing.
use Rattle.std.specs.Prelude.{ℕ, suc, ◌<◌, min, ◌≡◌, refl, Bool, true, false, cond, ◌&&◌, ◌||◌, List, [], ◌∷◌, ◌++◌, length, get_or, set, eqb}
use Rattle.std.proofs.Common.{ap, ◌∙◌, eqb-true, length-set, get_or-set_same, get_or-set_other}
use Rattle.std.proofs.lemmas.Bool.{eqb-false}
use Rattle.tree.specs.Table.{empty_root}
use Rattle.tree.specs.Lookup.{components, is_directory}
use Rattle.tree.specs.Insert.{set_place}
use Rattle.space.specs.declared.region.DiscRegion.{DiscRegion}
use Rattle.space.specs.Used.{no_region}
use Rattle.edit_rules.specs.Edits.{Edit, insert_file, insert_directory, make_directories, move_file, resize_file, fill_file, rewrite, new_number}
use Rattle.ledger.specs.Ledger.{History, Ledger, files_before, new_history, named_history, lowered_history, refilled_history, ledger_with, Report, ledger_after}
use Rattle.ledger.specs.Inner.Files.{own_place, files_of, own_name, file_names}
use Rattle.ledger.proofs.Laws.Files.{insert-directory, insert-file, names-set_place, files-set_place}
use Rattle.ledger.proofs.Laws.Making.{made-same}
use Rattle.ledger.specs.Spared.{is_file_of_edit, number_after_edit, ledger_next, number_next, number_after}
use Rattle.ledger.proofs.Laws.SparedLaws.{Holds, put-in-holds}
use Rattle.ledger.specs.Inner.Told.{is_named_in, Given, sized, clipped, given_by_edit, given_in, least_of, final_size, start_of, history_at, file_name_at, size_at, IsOfFile, OfFiles}

-- ---- the history

-- a history, once the file was named so and given these sizes and clips
abbrev pub changed : Bool → List Given → History → History
changed named gs h = record { place = h.place; bytes = start_of h.bytes gs; m = least_of h.m gs; named = h.named || named }

pub or-none : (a : Bool) → (a || false) ≡ a
or-none true = refl
or-none false = refl

or_some : (a : Bool) → (a || true) ≡ true
or_some true = refl
or_some false = refl

or-then : (a b c : Bool) → ((a || b) || c) ≡ (a || (b || c))
or-then true b c = refl
or-then false b c = refl

least-then : (m : ℕ) (xs ys : List Given) → least_of (least_of m xs) ys ≡ least_of m (xs ++ ys)
unfolding least_of
least-then m [] ys = refl
least-then m (sized n ∷ xs) ys = least-then (min m n) xs ys
least-then m (clipped clip ∷ xs) ys = least-then (length clip) xs ys

last_then : (n : ℕ) (xs ys : List Given) → final_size (final_size n xs) ys ≡ final_size n (xs ++ ys)
unfolding final_size
last_then n [] ys = refl
last_then n (sized x ∷ xs) ys = last_then x xs ys
last_then n (clipped clip ∷ xs) ys = last_then (length clip) xs ys

start-then : (bs : List ℕ) (xs ys : List Given) → start_of (start_of bs xs) ys ≡ start_of bs (xs ++ ys)
unfolding start_of
start-then bs [] ys = refl
start-then bs (sized n ∷ xs) ys = start-then bs xs ys
start-then bs (clipped clip ∷ xs) ys = start-then clip xs ys

changed-none : (h : History) → h ≡ changed false [] h
unfolding least_of start_of
changed-none h = rw (or-none h.named)

changed_then : (a b : Bool) (xs ys : List Given) (h : History) → changed b ys (changed a xs h) ≡ changed (a || b) (xs ++ ys) h
changed_then a b xs ys h = rw (least-then h.m xs ys, start-then h.bytes xs ys, or-then h.named a b)

-- one history is set: that of file f, or another
set_same : (hs : List History) (f k : ℕ) (x y : History) → f < length hs → f ≡ k → x ≡ y → Holds new_history (set hs k x) f y
set_same hs f k x y h e g = (rw (length-set hs k x) h, rw (← e) (get_or-set_same hs f x new_history h ∙ g))

set_other : (hs : List History) (f k : ℕ) (x : History) → f < length hs → (f ≡ k → ⊥) → Holds new_history (set hs k x) f (changed false [] (get_or hs f new_history))
set_other hs f k x h d = (rw (length-set hs k x) h, get_or-set_other hs k f x new_history d ∙ changed-none (get_or hs f new_history))

-- an accepted edit
history-ledger_with : (ed : Edit) (l : Ledger) (f : ℕ) → f < length l.histories → Holds new_history (ledger_with ed l).histories (number_after_edit ed l f) (changed (is_file_of_edit ed l f) (given_by_edit ed l f) (history_at l f))
history-ledger_with (insert_file p nm) l f h =
    put-in-holds new_history (files_before (new_number l.nodes p) l.nodes) new_history l.histories f _ (h, changed-none (history_at l f))
history-ledger_with (insert_directory p nm) l f h = (h, changed-none (history_at l f))
history-ledger_with (make_directories start path) l f h = (h, changed-none (history_at l f))
history-ledger_with (move_file k to) l f h = go (eqb f (files_before k l.nodes)) refl
  where
    same : f ≡ files_before k l.nodes → named_history (history_at l (files_before k l.nodes)) ≡ changed true [] (history_at l f)
    same e = unfold least_of start_of in rw (← e, or_some (history_at l f).named)

    go : (t : Bool) → eqb f (files_before k l.nodes) ≡ t →
        Holds new_history (set l.histories (files_before k l.nodes) (named_history (history_at l (files_before k l.nodes)))) f (changed t [] (history_at l f))
    go true e = let e' : f ≡ files_before k l.nodes = eqb-true _ _ e in set_same l.histories f _ _ _ h e' (same e')
    go false e = set_other l.histories f _ _ h (eqb-false _ _ e)
history-ledger_with (resize_file k n) l f h = go (eqb f (files_before k l.nodes)) refl
  where
    same : f ≡ files_before k l.nodes → lowered_history n (history_at l (files_before k l.nodes)) ≡ changed true (sized n ∷ []) (history_at l f)
    same e = unfold least_of start_of in rw (← e, or_some (history_at l f).named)

    go : (t : Bool) → eqb f (files_before k l.nodes) ≡ t →
        Holds new_history (set l.histories (files_before k l.nodes) (lowered_history n (history_at l (files_before k l.nodes)))) f (changed t (cond t (sized n ∷ []) []) (history_at l f))
    go true e = let e' : f ≡ files_before k l.nodes = eqb-true _ _ e in set_same l.histories f _ _ _ h e' (same e')
    go false e = set_other l.histories f _ _ h (eqb-false _ _ e)
history-ledger_with (fill_file k clip) l f h = go (eqb f (files_before k l.nodes)) refl
  where
    same : f ≡ files_before k l.nodes → refilled_history clip (history_at l (files_before k l.nodes)) ≡ changed true (clipped clip ∷ []) (history_at l f)
    same e = unfold least_of start_of in rw (← e, or_some (history_at l f).named)

    go : (t : Bool) → eqb f (files_before k l.nodes) ≡ t →
        Holds new_history (set l.histories (files_before k l.nodes) (refilled_history clip (history_at l (files_before k l.nodes)))) f (changed t (cond t (clipped clip ∷ []) []) (history_at l f))
    go true e = let e' : f ≡ files_before k l.nodes = eqb-true _ _ e in set_same l.histories f _ _ _ h e' (same e')
    go false e = set_other l.histories f _ _ h (eqb-false _ _ e)
history-ledger_with rewrite l f h = (h, changed-none (history_at l f))

-- ---- the name

name-ledger_with : (ed : Edit) (l : Ledger) (f : ℕ) (nm : List ℕ) → Holds [] (file_names l.nodes) f nm → Holds [] (file_names (ledger_with ed l).nodes) (number_after_edit ed l f) nm
name-ledger_with (insert_file p new) l f nm h =
    rw (insert-file own_name p new 0 0 l.nodes) (put-in-holds [] (files_before (new_number l.nodes p) l.nodes) new (file_names l.nodes) f nm h)
name-ledger_with (insert_directory p new) l f nm h = rw (insert-directory own_name p new (suc (new_number l.nodes p)) l.nodes) h
name-ledger_with (make_directories start path) l f nm h = rw (made-same own_name l.nodes start (components path)) h
name-ledger_with (move_file k to) l f nm h = h
name-ledger_with (resize_file k n) l f nm h = rw (names-set_place 0 n k l.nodes) h
name-ledger_with (fill_file k clip) l f nm h = rw (names-set_place 0 (length clip) k l.nodes) h
name-ledger_with rewrite l f nm h = h

-- ---- the size

-- file f is one of them, and has this size
abbrev HasSize : List DiscRegion → ℕ → ℕ → Type 0
HasSize rs f n = (f < length rs) × ((get_or rs f no_region).size ≡ n)

-- the size of file k set
set-size : (k n : ℕ) (l : Ledger) (f : ℕ) (gs : List Given) → final_size (size_at l f) gs ≡ n → is_directory (get_or l.nodes k empty_root) ≡ false → f < length (files_of l.nodes) →
    HasSize (files_of (set_place k 0 n l.nodes)) f (final_size (size_at l f) (cond (eqb f (files_before k l.nodes)) gs []))
set-size k n l f gs g o h = rw (files-set_place 0 n k l.nodes o) (go (eqb f r) refl)
  where
    new : DiscRegion
    new = record { offset = 0; size = n }

    rs : List DiscRegion
    rs = files_of l.nodes

    r : ℕ
    r = files_before k l.nodes

    go : (t : Bool) → eqb f r ≡ t → HasSize (set rs r new) f (final_size (size_at l f) (cond t gs []))
    go true e = let e' : f ≡ r = eqb-true f r e in (rw (length-set rs r new) h, rw (g, ← e', get_or-set_same rs f new no_region h))
    go false e = unfold final_size in (rw (length-set rs r new) h, rw (get_or-set_other rs r f new no_region (eqb-false f r e)))

size-ledger_with : (ed : Edit) (l : Ledger) (f : ℕ) → IsOfFile ed l → f < length (files_of l.nodes) → HasSize (files_of (ledger_with ed l).nodes) (number_after_edit ed l f) (final_size (size_at l f) (given_by_edit ed l f))
unfolding final_size
size-ledger_with (insert_file p nm) l f o h =
    let t = put-in-holds no_region (files_before (new_number l.nodes p) l.nodes) no_region (files_of l.nodes) f _ (h, refl) in
    rw (insert-file own_place p nm 0 0 l.nodes) (t.0, ap (λ (r : DiscRegion). r.size) t.1)
size-ledger_with (insert_directory p nm) l f o h = rw (insert-directory own_place p nm (suc (new_number l.nodes p)) l.nodes) (h, refl)
size-ledger_with (make_directories start path) l f o h = rw (made-same own_place l.nodes start (components path)) (h, refl)
size-ledger_with (move_file k to) l f o h = (h, refl)
size-ledger_with (resize_file k n) l f o h = set-size k n l f (sized n ∷ []) refl o h
size-ledger_with (fill_file k clip) l f o h = set-size k (length clip) l f (clipped clip ∷ []) refl o h
size-ledger_with rewrite l f o h = (h, refl)

-- ---- a report, and a list of them

-- there is a file f
abbrev pub Exists : Ledger → ℕ → Type 0
Exists l f = (f < length l.histories) × (f < length (file_names l.nodes)) × (f < length (files_of l.nodes))

-- file f of l is file f' of l', after a list in which it was named so and given these sizes and clips
pub record Goes (l l' : Ledger) (f f' : ℕ) (named : Bool) (gs : List Given) : Type 0 where
  pub exists : Exists l' f'
  pub history : history_at l' f' ≡ changed named gs (history_at l f)
  pub name : file_name_at l' f' ≡ file_name_at l f
  pub size : size_at l' f' ≡ final_size (size_at l f) gs

goes-no_region : (l : Ledger) (f : ℕ) → Exists l f → Goes l l f f false []
unfolding final_size
goes-no_region l f x = record { exists = x; history = changed-none (history_at l f); name = refl; size = refl }

goes-next : (r : Report) (l : Ledger) (f : ℕ) → (r.accepted ≡ true → IsOfFile r.edit l) → Exists l f →
    Goes l (ledger_next r l) f (number_next r l f) (r.accepted && is_file_of_edit r.edit l f) (cond r.accepted (given_by_edit r.edit l f) [])
goes-next r l f o x = go r.accepted refl
  where
    go : (a : Bool) → r.accepted ≡ a → Goes l (cond a (ledger_with r.edit l) l) f (cond a (number_after_edit r.edit l f) f) (a && is_file_of_edit r.edit l f) (cond a (given_by_edit r.edit l f) [])
    go true e =
        let h = history-ledger_with r.edit l f x.0 in
        let n = name-ledger_with r.edit l f _ (x.1, refl) in
        let s = size-ledger_with r.edit l f (o e) x.2 in
        record { exists = (h.0, n.0, s.0); history = h.1; name = n.1; size = s.1 }
    go false e = goes-no_region l f x

goes_then : (l l' l'' : Ledger) (f f' f'' : ℕ) (a b : Bool) (xs ys : List Given) → Goes l l' f f' a xs → Goes l' l'' f' f'' b ys → Goes l l'' f f'' (a || b) (xs ++ ys)
goes_then l l' l'' f f' f'' a b xs ys g h = record {
  exists = h.exists;
  history = h.history ∙ ap (changed b ys) g.history ∙ changed_then a b xs ys (history_at l f);
  name = h.name ∙ g.name;
  size = h.size ∙ ap (λ (n : ℕ). final_size n ys) g.size ∙ last_then (size_at l f) xs ys;
}

-- LAW: any list of reports
pub goes : (reports : List Report) (l : Ledger) (f : ℕ) → OfFiles reports l → Exists l f → Goes l (ledger_after reports l) f (number_after reports l f) (is_named_in reports l f) (given_in reports l f)
unfolding ledger_after number_after is_named_in given_in
goes [] l f o x = goes-no_region l f x
goes (r ∷ reports) l f o x =
    let g = goes-next r l f o.0 x in
    goes_then l (ledger_next r l) _ f (number_next r l f) _ _ _ _ _ g (goes reports (ledger_next r l) (number_next r l f) o.1 g.exists)
