use Rattle.std.proofs.Common.{sym, ◌∙◌, ap}
use Rattle.std.proofs.lemmas.Result.{on_ok_weaker}
use Rattle.journal.specs.Disk.{Disk}
use Rattle.journal.proofs.Carried.{then_on}
use Rattle.journal.proofs.Recovered.{comes_from_later, comes_from_end, stepped_again, nothing_left}
use Rattle.journal.proofs.Drafts.{draft_on}
use Rattle.journal.proofs.recovery.finish.Goals as goal

pub put_record-requires-clause-done : goal.put_record-requires-clause-done
put_record-requires-clause-done g c known =
    let p = c.in_ok-bring_once.ensures.pending known in
    stepped_again c.args.number (g.F.Files.state c.bring_once.new.files).seen (g.F.Files.state c.carry_out.new.files).seen p.gate_open p.can_apply (c.in_ok-carry_out.ensures.done known)

pub returns-in_err-put_record-clause-any_moment : goal.returns-in_err-put_record-clause-any_moment
returns-in_err-put_record-clause-any_moment g c known =
    let record_brought = c.in_ok-bring_once.ensures.record_text known in
    let record_carried = ap (λ (d : Disk). d.record_text) (c.in_ok-carry_out.ensures.done known) ∙ record_brought in
    let same_brought = (c.in_ok-bring_once.ensures.stays known).same in
    let same_carried = (c.in_ok-carry_out.ensures.stays known).same ∙ same_brought in
    let carried = then_on _ _ _ _ _ (c.bring_once.ensures.any_moment known) (c.carry_out.ensures.any_moment known) (λ d. comes_from_later _ _ _ d same_brought record_brought) in
    then_on _ _ _ _ _ carried (c.put_record.ensures.any_moment known) (λ d. comes_from_later _ _ _ d same_carried record_carried)

pub close-requires-clause-done : goal.close-requires-clause-done
close-requires-clause-done g c known =
    let p = c.in_ok-bring_once.ensures.pending known in
    let q = c.in_ok-carry_out.ensures.pending known in
    nothing_left c.args.number (g.F.Files.state c.bring_once.new.files).seen (g.F.Files.state c.carry_out.new.files).seen p.gate_open p.can_apply (c.in_ok-carry_out.ensures.done known)
    (g.F.Files.state c.put_record.new.files).seen (c.in_ok-bring_once.ensures.copied known) q.gate_open q.can_apply (c.in_ok-put_record.ensures.done known)

pub returns-clause-done : goal.returns-clause-done
returns-clause-done g c = on_ok_weaker c.close.result (λ kept known.
    let number = c.args.number in
    let p = c.in_ok-bring_once.ensures.pending known in
    let q = c.in_ok-carry_out.ensures.pending known in
    let nothing = nothing_left number (g.F.Files.state c.bring_once.new.files).seen (g.F.Files.state c.carry_out.new.files).seen p.gate_open p.can_apply (c.in_ok-carry_out.ensures.done known)
    (g.F.Files.state c.put_record.new.files).seen (c.in_ok-bring_once.ensures.copied known) q.gate_open q.can_apply (c.in_ok-put_record.ensures.done known) in
    kept known ∙ sym nothing ∙ (c.in_ok-put_record.ensures.stays known).same ∙ (c.in_ok-carry_out.ensures.stays known).same ∙ (c.in_ok-bring_once.ensures.stays known).same) c.close.ensures.kept

pub returns-clause-any_moment : goal.returns-clause-any_moment
returns-clause-any_moment g c known =
    let record_brought = c.in_ok-bring_once.ensures.record_text known in
    let record_carried = ap (λ (d : Disk). d.record_text) (c.in_ok-carry_out.ensures.done known) ∙ record_brought in
    let same_brought = (c.in_ok-bring_once.ensures.stays known).same in
    let same_carried = (c.in_ok-carry_out.ensures.stays known).same ∙ same_brought in
    let same_recorded = (c.in_ok-put_record.ensures.stays known).same ∙ same_carried in
    let carried = then_on _ _ _ _ _ (c.bring_once.ensures.any_moment known) (c.carry_out.ensures.any_moment known) (λ d. comes_from_later _ _ _ d same_brought record_brought) in
    let recorded = then_on _ _ _ _ _ carried (c.put_record.ensures.any_moment known) (λ d. comes_from_later _ _ _ d same_carried record_carried) in
    then_on _ _ _ _ _ recorded (c.close.ensures.any_moment known) (λ d. comes_from_end _ _ _ d same_recorded)

pub returns-in_err-carry_out-clause-keeps : goal.returns-in_err-carry_out-clause-keeps
returns-in_err-carry_out-clause-keeps g c = draft_on _ _ _ c.bring_once.ensures.keeps c.carry_out.ensures.keeps

pub returns-in_err-put_record-clause-keeps : goal.returns-in_err-put_record-clause-keeps
returns-in_err-put_record-clause-keeps g c = draft_on _ _ _ (draft_on _ _ _ c.bring_once.ensures.keeps c.carry_out.ensures.keeps) c.put_record.ensures.keeps

pub returns-clause-keeps : goal.returns-clause-keeps
returns-clause-keeps g c =
    let recorded = draft_on _ _ _ (draft_on _ _ _ c.bring_once.ensures.keeps c.carry_out.ensures.keeps) c.put_record.ensures.keeps in
    draft_on _ _ _ recorded c.close.ensures.keeps
