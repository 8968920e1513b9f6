-- Make-directories in the table that grows, a component at a time. Assumes nothing: these are definitions.
use Rattle.std.specs.Prelude.{Result, Ok, Err, ℕ, ◌<◌, ◌≡◌, false, List, [], length, if◌then◌else◌}
use Rattle.refusal.specs.declared.Refusal.{Refusal}
use Rattle.refusal.specs.declared.Refusal.TheVariants.{LimitOrMemory}
use Rattle.tree.specs.Table.{Node, parent_of, encode, limits}
use Rattle.tree.specs.Inner.WellFormed.{IsGoodName}
use Rattle.tree.specs.Lookup.{child_of, is_staying, is_going_back}
use Rattle.tree.specs.Insert.{insert_at, empty_directory}
use Rattle.edit_rules.specs.Edits.{new_number, Made, stopped, made, if_found}
use Rattle.table_writing.specs.declared.growing.Growing.{Growing}
use Rattle.table_writing.specs.Inner.Growth.{IsDirectory}
use Rattle.table_writing.specs.Inner.Growing.{growing_tree}

-- the tree that a walk made, and the entry where it ended
abbrev pub made_tree : Made → List Node
made_tree (stopped c) = []
made_tree (made nodes k bad) = nodes

abbrev pub made_entry : Made → ℕ
made_entry (stopped c) = 0
made_entry (made nodes k bad) = k

-- a directory is made in directory k
abbrev pub new_in : List Node → ℕ → List ℕ → Made
new_in nodes k nm = made (insert_at k (empty_directory nm (new_number nodes k)) nodes) (new_number nodes k) false

-- to a child of directory k, or to one that is made
abbrev pub into_of : List Node → ℕ → List ℕ → Made
into_of nodes k nm = if_found (child_of nodes k nm) (λ j. made nodes j false) (new_in nodes k nm)

-- one component, from directory k
unfoldable pub turn_of : List Node → ℕ → List ℕ → Made
turn_of nodes k nm =
    if is_staying nm then made nodes k false
    else if is_going_back nm then made nodes (parent_of nodes k) false
    else into_of nodes k nm

-- a name that directory k lacks may be given
pub record MayName (nodes : List Node) (k : ℕ) (nm : List ℕ) : Type 0 where
  pub good : (c : Refusal) → child_of nodes k nm ≡ Err c → IsGoodName nm

-- the walk stands on a directory, and where the component is a name it may be given
pub record CanTurn (nodes : List Node) (k : ℕ) (nm : List ℕ) : Type 0 where
  pub directory : IsDirectory nodes k
  pub named : is_staying nm ≡ false → is_going_back nm ≡ false → MayName nodes k nm

-- the tree of a walk stands there, or there is no room for it (9)
abbrev pub Reaches : Made → ℕ → Growing → Result ℕ Refusal → Type 0
Reaches m room table (Ok k) = (k ≡ made_entry m) × (growing_tree table ≡ made_tree m)
Reaches m room table (Err c) = (c ≡ LimitOrMemory) × (limits (made_tree m) table.words ≡ Ok tt → room < length (encode (made_tree m)))
