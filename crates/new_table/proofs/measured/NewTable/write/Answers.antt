-- `new_table::measured::NewTable::write` meets its contract: the draft is valid and reads as the tree, and is written anew with its parents.
use Rattle.std.proofs.Common.{◌≡◌, ◌+◌, ◌*◌, take, arith}
use Rattle.tree.specs.Table.{nodes_of}
use Rattle.wish_list.specs.Tree.{tree_of}
use Rattle.new_table.proofs.Fitted.{fitting}
use Rattle.new_table.proofs.Written.{draft-valid, draft-reads, size-placed}
use Rattle.new_table.proofs.measured.NewTable.write.Goals as goal

pub write_table-requires-clause-valid : goal.write_table-requires-clause-valid
write_table-requires-clause-valid c =
    let s = c.args.self.now in
    draft-valid s.paths.now s.sizes.now c.args.offsets.now s.accepted (4 * (s.entries + 2)) s.within c.bound.ensures (λ i. (c.type_inv.offsets i).fits) (take s.size c.write_draft.new.bytes) c.write_draft.ensures

pub write_table-requires-clause-room : goal.write_table-requires-clause-room
write_table-requires-clause-room c =
    let s = c.args.self.now in
    let e : nodes_of (take s.size c.write_draft.new.bytes) ≡ tree_of s.paths.now s.sizes.now c.args.offsets.now =
    draft-reads s.paths.now s.sizes.now c.args.offsets.now s.accepted (4 * (s.entries + 2)) s.within c.bound.ensures (λ i. (c.type_inv.offsets i).fits) (take s.size c.write_draft.new.bytes) c.write_draft.ensures in
    let n =
    size-placed s.paths.now s.sizes.now c.args.offsets.now s.accepted (4 * (s.entries + 2)) s.within c.bound.ensures (λ i. (c.type_inv.offsets i).fits) (take s.size c.write_draft.new.bytes) c.write_draft.ensures in
    rw e (omega (arith, n, c.requires.out))

pub write_table-requires-clause-small : goal.write_table-requires-clause-small
write_table-requires-clause-small c =
    let s = c.args.self.now in
    let e : nodes_of (take s.size c.write_draft.new.bytes) ≡ tree_of s.paths.now s.sizes.now c.args.offsets.now =
    draft-reads s.paths.now s.sizes.now c.args.offsets.now s.accepted (4 * (s.entries + 2)) s.within c.bound.ensures (λ i. (c.type_inv.offsets i).fits) (take s.size c.write_draft.new.bytes) c.write_draft.ensures in
    let n =
    size-placed s.paths.now s.sizes.now c.args.offsets.now s.accepted (4 * (s.entries + 2)) s.within c.bound.ensures (λ i. (c.type_inv.offsets i).fits) (take s.size c.write_draft.new.bytes) c.write_draft.ensures in
    let f = fitting s.paths.now s.sizes.now s.entries s.size s.counted s.measured s.within in
    rw e (omega (arith, n, s.measured, f.small))

pub returns : goal.returns
returns c =
    let s = c.args.self.now in
    let e : nodes_of (take s.size c.write_draft.new.bytes) ≡ tree_of s.paths.now s.sizes.now c.args.offsets.now =
    draft-reads s.paths.now s.sizes.now c.args.offsets.now s.accepted (4 * (s.entries + 2)) s.within c.bound.ensures (λ i. (c.type_inv.offsets i).fits) (take s.size c.write_draft.new.bytes) c.write_draft.ensures in
    rw e at c.write_table.ensures.out_after
