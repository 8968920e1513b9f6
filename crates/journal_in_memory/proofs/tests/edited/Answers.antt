use Rattle.std.proofs.Common.{◌≡◌, [], ◌∷◌, ap, sym, ◌∙◌, arith}
use Rattle.journal.specs.Disk.{Disk}
use Rattle.journal_in_memory.specs.Inner.Done.{disk_of}
use Rattle.journal_in_memory.proofs.Calls.{settled_first}
use Rattle.journal_in_memory.proofs.tests.edited.Goals as goal

pub edit-done-requires-clause-settled : goal.edit-done-requires-clause-settled
edit-done-requires-clause-settled g c =
    let files = c.new-files.result in
    let journal : files.seen.journal.items ≡ 0 ∷ [] = ap (λ (d : Disk). d.journal) c.new-files.ensures.seen ∙ c.requires.closed in
    λ known. settled_first (disk_of files.first) (disk_of files.seen) files.clip.items files.log.items _ (c.new-files.ensures.seen ∙ sym c.new-files.ensures.first) c.new-files.ensures.log
    (rw journal (omega arith)) (rw journal (λ one. absurd (omega (arith, one))))
