-- `small_tables::shape::largest_next` meets its contract: the parent is an entry of the shape, also that of the root.
use Rattle.std.proofs.Common.{◌<◌, ◌∙◌, length, rules}
use Rattle.tree.specs.Table.{parent_of}
use Rattle.small_tables.specs.Shapes.{tree_of}
use Rattle.small_tables.proofs.Laws.Entries.{parent-in, next-at}
use Rattle.small_tables.proofs.shape.largest_next.Goals as goal

pub offset_bounds-shape-parent : goal.offset_bounds-shape-parent
offset_bounds-shape-parent c =
    let h : c.parent.result < length c.args.shape.now =
    rw c.parent.ensures (parent-in c.args.shape.now c.args.k c.requires.some c.requires.within) in
    search rules

pub bounds-shape-parent : goal.bounds-shape-parent
bounds-shape-parent c = rw c.parent.ensures (parent-in c.args.shape.now c.args.k c.requires.some c.requires.within)

pub returns : goal.returns
returns c =
    c.next.ensures
    ∙ rw (
      c.parent.ensures,
      next-at c.args.shape.now (parent_of (tree_of c.args.shape.now) c.args.k)
          (parent-in c.args.shape.now c.args.k c.requires.some c.requires.within),
    )
