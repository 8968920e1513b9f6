-- `edit::place::draft` meets its contract: the table written anew with 8 bytes changed is that of the tree with the file at its new place.
use Rattle.std.proofs.Common.{refl, arith, length}
use Rattle.edit.proofs.TableSlice.{opens-valid}
use Rattle.edit.proofs.Judged.{can-draft, is-drafted, table-drafted}
use Rattle.edit.proofs.Outcomes.{entry-fits}
use Rattle.edit.proofs.place.draft.Goals as goal

pub write_table-requires-clause-valid : goal.write_table-requires-clause-valid
write_table-requires-clause-valid c = opens-valid _ c.table.ensures.opens

pub write_table-requires-clause-held : goal.write_table-requires-clause-held
write_table-requires-clause-held c =
    let h = can-draft _ _ _ c.in-Write.number c.in-Write.size c.in-Write.writing c.in_ok-decision.was c.in-Write.is _ c.requires in
    rw c.table.ensures.nodes (omega (arith, h.long, h.held))

pub set_place-requires : goal.set_place-requires
set_place-requires c =
    let h = can-draft _ _ _ c.in-Write.number c.in-Write.size c.in-Write.writing c.in_ok-decision.was c.in-Write.is _ c.requires in
    omega (arith, entry-fits c.args.disc.now.disc.nodes c.in-Write.number (length c.args.bytes.now) h.file (omega (arith, h.long, h.held)), c.write_table.auto.bytes)

pub returns-in-Write-clause-drafted : goal.returns-in-Write-clause-drafted
returns-in-Write-clause-drafted c =
    let h = can-draft _ _ _ c.in-Write.number c.in-Write.size c.in-Write.writing c.in_ok-decision.was c.in-Write.is _ c.requires in
    is-drafted _ c.args.judged _ c.in-Write.number c.in-Write.size c.in-Write.writing c.in_ok-decision.was c.in-Write.is _ (table-drafted _ _ _ _ _ _ _ c.in-Write.writing refl h (rw c.table.ensures.nodes at c.write_table.ensures) c.set_place.ensures)
