-- `edit::moving::relocate` meets its contract: behind the tests of the new place it is the change that moves the file.
use Rattle.std.proofs.Common.{sym, ◌∙◌}
use Rattle.edit.proofs.Decisions.{behind-passed}
use Rattle.edit.proofs.Outcomes.{relocated-in-image}
use Rattle.edit.proofs.moving.relocate.Goals as goal

pub place_file-requires-clause-inside : goal.place_file-requires-clause-inside
place_file-requires-clause-inside c =
    let a = c.args in
    λ image m. rw c.relocation.ensures (relocated-in-image image a.disc.now m a.file c.requires a.new _ c.check_relocate.ensures c.in_ok-check_relocate.was)

pub returns : goal.returns
returns c =
    let j = rw c.relocation.ensures at c.place_file.ensures in
    record { draftable = j.draftable; decides = λ bytes t image m. behind-passed image _ _ _ bytes _ _ _ (sym c.check_relocate.ensures ∙ c.in_ok-check_relocate.was) (j.decides bytes t image m) }
