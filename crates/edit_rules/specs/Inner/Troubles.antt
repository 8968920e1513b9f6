-- The first trouble along the path of make-directories, found with no memory: at entry k of the tree as it is, `level` new directories below it.
-- That it is the trouble of the walk that makes them is `make-trouble`. Assumes nothing: these are definitions.
use Rattle.std.specs.Prelude.{Result, Ok, Err, if◌then◌else◌, ◌==◌, slice_index_or}
use Rattle.refusal.specs.Refusal.{Verdict}
use Rattle.refusal.specs.declared.Refusal.{Refusal}
use Rattle.std.specs.Prelude.{ℕ, zero, suc, Bool, not, ◌||◌, List, [], ◌∷◌}
use Rattle.refusal.specs.declared.Refusal.TheVariants.{InvalidNameByte, UnsafeName, ExpectedDirectory, NotFound}
use Rattle.refusal.specs.Refusal.{refuse}
use Rattle.tree.specs.Table.{Node, empty_root, is_plain, is_safe, parent_of}
use Rattle.tree.specs.Lookup.{is_directory, is_staying, is_going_back, child_of}
use Rattle.edit_rules.specs.Edits.{Made, stopped, made}

abbrev pub if_child : Result ℕ Refusal → (ℕ → Verdict) → Verdict → Verdict
if_child (Ok k) f missing = f k
if_child (Err c) f missing = missing

unfoldable pub trouble_of : List Node → ℕ → ℕ → ℕ → Bool → List (List ℕ) → Verdict
trouble_of nodes start k zero bad [] = if is_directory (slice_index_or nodes k empty_root) then refuse bad InvalidNameByte (Ok tt) else Err ExpectedDirectory
trouble_of nodes start k (suc level) bad [] = refuse bad InvalidNameByte (Ok tt)
trouble_of nodes start k zero bad (c ∷ cs) =
    if is_directory (slice_index_or nodes k empty_root)
    then (if is_staying c then trouble_of nodes start k zero bad cs
    else if is_going_back c then (if k == start then Err NotFound else trouble_of nodes start (parent_of nodes k) zero bad cs)
    else if_child (child_of nodes k c) (λ j. trouble_of nodes start j zero bad cs)
    (if is_safe c then trouble_of nodes start k 1 (bad || not (is_plain c)) cs else Err UnsafeName))
    else Err ExpectedDirectory
trouble_of nodes start k (suc level) bad (c ∷ cs) =
    if is_staying c then trouble_of nodes start k (suc level) bad cs
    else if is_going_back c then trouble_of nodes start k level bad cs
    else if is_safe c then trouble_of nodes start k (suc (suc level)) (bad || not (is_plain c)) cs else Err UnsafeName

abbrev pub made_verdict : Made → Verdict
made_verdict (stopped c) = Err c
made_verdict (made nodes k bad) = refuse bad InvalidNameByte (Ok tt)
