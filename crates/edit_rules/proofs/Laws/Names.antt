-- Japanese names in an insert and in make-directories, on the small master's tree, by computing. Assumes nothing.
use Rattle.std.specs.Prelude.{Ok, Err}
use Rattle.std.specs.Prelude.{◌≡◌, refl, false, List, [], ◌∷◌}
use Rattle.endian.specs.Bytes.{are_same_bytes}
use Rattle.refusal.specs.declared.Refusal.TheVariants.{InvalidNameByte, UnsafeName, ExpectedDirectory, NotFound}
use Rattle.tree.specs.Units.{units}
use Rattle.tree.specs.Table.{Node, file, directory, is_plain, is_safe, parent_below, parent_of}
use Rattle.tree.specs.Lookup.{components_of, components, first_child, child_of}
use Rattle.tree.specs.Insert.{raised_next, splice, insert_at}
use Rattle.edit_rules.specs.Edits.{insert_verdict, made, make}
use Rattle.edit_rules.specs.Inner.Troubles.{made_verdict}

abbrev tree : List Node
tree = directory [] 2 ∷ file (0x61 ∷ []) 0x500 0x100 ∷ []

-- `表`; a lead byte before `:`, where 13 comes before 12; a lead byte at the end; `\` behind a pair; 0xA0
inserted :
    (insert_verdict tree 0 (0x95 ∷ 0x5C ∷ []) ≡ Ok tt) ×
    (insert_verdict tree 0 (0x95 ∷ 0x3A ∷ []) ≡ Err UnsafeName) ×
    (insert_verdict tree 0 (0x61 ∷ 0x81 ∷ []) ≡ Err InvalidNameByte) ×
    (insert_verdict tree 0 (0x81 ∷ 0x81 ∷ 0x5C ∷ []) ≡ Err UnsafeName) ×
    (insert_verdict tree 0 (0xA0 ∷ []) ≡ Err InvalidNameByte)
unfolding insert_verdict is_plain is_safe units child_of first_child parent_of parent_below are_same_bytes
inserted = (refl, refl, refl, refl, refl)

-- `表\b` makes two directories; a lead byte before `/` is a name with a wrong byte, 12, which comes last: a later `:` makes it 13, a step above the
-- start 18, a way through the file `a` 17
made-along :
    (make tree [] 0 false (components (0x95 ∷ 0x5C ∷ 0x5C ∷ 0x62 ∷ [])) ≡ made (directory [] 4 ∷ file (0x61 ∷ []) 0x500 0x100 ∷ directory (0x95 ∷ 0x5C ∷ []) 4 ∷ directory (0x62 ∷ []) 4 ∷ []) 3 false) ×
    (made_verdict (make tree [] 0 false (components (0x81 ∷ 0x2F ∷ 0x62 ∷ []))) ≡ Err InvalidNameByte) ×
    (made_verdict (make tree [] 0 false (components (0x81 ∷ 0x2F ∷ 0x3A ∷ []))) ≡ Err UnsafeName) ×
    (made_verdict (make tree [] 0 false (components (0x81 ∷ 0x2F ∷ 0x2E ∷ 0x2E ∷ 0x2F ∷ 0x2E ∷ 0x2E ∷ []))) ≡ Err NotFound) ×
    (made_verdict (make tree [] 0 false (components (0x81 ∷ 0x2F ∷ 0x2E ∷ 0x2E ∷ 0x2F ∷ 0x61 ∷ 0x2F ∷ 0x62 ∷ []))) ≡ Err ExpectedDirectory)
unfolding make components components_of is_plain is_safe units child_of first_child parent_of parent_below are_same_bytes insert_at splice raised_next
made-along = (refl, refl, refl, refl, refl)
