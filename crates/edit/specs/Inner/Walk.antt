-- Make-directories' tests that need no memory, and its troubles a component at a time: where the walk of `trouble_of` goes from an entry of the tree as it is, with so many new
-- directories below it. Assumes nothing: these are definitions.
use Rattle.std.specs.Prelude.{Result, Ok, Err, ℕ, ◌+◌, ◌-◌, false, not, ◌&&◌, List, [], length, if◌then◌else◌, ◌==◌, nat_lt, nat_le, slice_index_or}
use Rattle.refusal.specs.declared.Refusal.{Refusal}
use Rattle.refusal.specs.declared.Refusal.TheVariants.{LimitOrMemory, InvalidNameByte, UnsafeName, NoSuchEntry, ExpectedDirectory, NotFound}
use Rattle.refusal.specs.Refusal.{Verdict, refuse, first}
use Rattle.tree.specs.Table.{Node, empty_root, nodes_of, is_plain, is_safe, parent_of}
use Rattle.tree.specs.Lookup.{is_directory, components, child_of, is_staying, is_going_back}
use Rattle.edit_rules.specs.Edits.{make}
use Rattle.edit_rules.specs.Inner.Troubles.{made_verdict, trouble_of}

-- a walk from `start` stands at an entry of the tree as it is, so many new directories below it; and what the new names come to
pub record Place : Type 0 where
  pub nodes : List Node
  pub start : ℕ
  pub entry : ℕ
  pub level : ℕ
  pub names : Verdict

abbrev pub place_in : List ℕ → ℕ → ℕ → ℕ → Verdict → Place
place_in table start entry level names = record { nodes = nodes_of table; start = start; entry = entry; level = level; names = names }

abbrev pub place_at_start : List Node → ℕ → Place
place_at_start nodes start = record { nodes = nodes; start = start; entry = start; level = 0; names = Ok tt }

abbrev pub walk_from : List Node → ℕ → Result Place Refusal
walk_from nodes start = if nat_le (length nodes) start then Err NoSuchEntry else Ok (place_at_start nodes start)

abbrev pub place_after : Place → ℕ → ℕ → Place
place_after p k level = record { nodes = p.nodes; start = p.start; entry = k; level = level; names = p.names }

-- a new name with a unit that no name may have
abbrev pub plain_name_verdict : List ℕ → Verdict
plain_name_verdict nm = refuse (not (is_plain nm)) InvalidNameByte (Ok tt)

-- each step is from a directory, and the walk must end on one: at an entry of the tree that is to be seen, and a new level is one
abbrev pub directory_verdict : Place → Verdict
directory_verdict p = refuse (p.level == 0 && not (is_directory (slice_index_or p.nodes p.entry empty_root))) ExpectedDirectory (Ok tt)

-- into a directory that is not there yet
abbrev pub new_step : Place → List ℕ → Result Place Refusal
new_step p nm =
    if is_safe nm
    then Ok (record { nodes = p.nodes; start = p.start; entry = p.entry; level = p.level + 1; names = first p.names (plain_name_verdict nm) })
    else Err UnsafeName

abbrev pub back_step : Place → Result Place Refusal
back_step p =
    if p.level == 0
    then (if p.entry == p.start then Err NotFound else Ok (place_after p (parent_of p.nodes p.entry) 0))
    else Ok (place_after p p.entry (p.level - 1))

abbrev pub child_step : Place → Result ℕ Refusal → Result Place Refusal → Result Place Refusal
child_step p (Ok j) missing = Ok (place_after p j 0)
child_step p (Err c) missing = missing

-- below the tree no name is there yet
abbrev pub into_step : Place → List ℕ → Result Place Refusal
into_step p nm = if p.level == 0 then child_step p (child_of p.nodes p.entry nm) (new_step p nm) else new_step p nm

abbrev pub place_behind : Verdict → Result Place Refusal → Result Place Refusal
place_behind (Ok _) r = r
place_behind (Err c) r = Err c

unfoldable pub step_of : Place → List ℕ → Result Place Refusal
step_of p nm =
    place_behind (directory_verdict p)
    (if is_staying nm then Ok p
    else if is_going_back nm then back_step p
    else into_step p nm)

-- the walk must end on a directory; 12 comes last
abbrev pub end_verdict : Place → Verdict
end_verdict p = first (directory_verdict p) p.names

-- 15, then the troubles along the path
abbrev pub path_trouble : List Node → ℕ → List ℕ → Verdict
path_trouble nodes start path =
    refuse (nat_le (length nodes) start) NoSuchEntry
    (trouble_of nodes start start 0 false (components path))

-- a path over 1,024 bytes, 15, then the troubles along the path
unfoldable pub path_verdict : List Node → ℕ → List ℕ → Verdict
path_verdict nodes start path =
    refuse (nat_lt 1024 (length path)) LimitOrMemory
    (refuse (nat_le (length nodes) start) NoSuchEntry
    (made_verdict (make nodes [] start false (components path))))
