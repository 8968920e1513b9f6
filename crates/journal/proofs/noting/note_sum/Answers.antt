-- `noting::note_sum` meets its contract: it writes behind what is summed, and not on the gate.
use Rattle.std.proofs.Common.{◌≡◌, ◌-◌, replicate, refl, ◌∙◌, ap, arith}
use Rattle.std.proofs.lemmas.Result.{on_ok_weaker}
use Rattle.endian.specs.Bytes.{put, span}
use Rattle.journal.specs.Disk.{with_journal}
use Rattle.journal.specs.Journal.{sum_from}
use Rattle.journal.specs.Inner.Noted.{number_bytes, KeepsGate}
use Rattle.journal.proofs.Behind.{keeps_gate-steps}
use Rattle.journal.proofs.Numbers.{drop-put_all}
use Rattle.journal.proofs.OnDisk.{carried_behind}
use Rattle.journal.proofs.noting.note_sum.Goals as goal

pub returns-clause-done : goal.returns-clause-done
unfolding number_bytes
returns-clause-done g c =
    let old = (g.F.Files.state c.args.files.now).seen in
    on_ok_weaker c.write_journal.result
    (λ written known.
    let bytes : c.set_number.new.head ≡ number_bytes (sum_from 0 (span old.journal 2 (c.args.end - 2))) = c.set_number.ensures ∙ drop-put_all (replicate 8 0) 0 (number_bytes c.in_ok-sum.sum) refl ∙ ap number_bytes (c.in_ok-sum.ensures.sum known) in
    written known ∙ (λ i. with_journal (c.sum_up_to.ensures.looks.seen i) (put (c.sum_up_to.ensures.looks.seen i).journal c.args.end (bytes i))))
    c.write_journal.ensures.written

pub returns-clause-carried : goal.returns-clause-carried
returns-clause-carried g c = carried_behind KeepsGate _ _ _ c.sum_up_to.ensures.looks (keeps_gate-steps c.args.end _ _ _ (omega arith) c.write_journal.ensures.steps)
