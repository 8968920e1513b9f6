-- `noting::write_head` meets its contract: what it writes is the head but for its first byte.
use Rattle.std.proofs.Common.{◌≡◌, ◌∙◌, drop, take, take_all, length-drop, arith}
use Rattle.journal.specs.Inner.Noted.{head_of}
use Rattle.journal.proofs.Behind.{keeps_gate-steps}
use Rattle.journal.proofs.noting.write_head.Goals as goal

pub returns-clause-done : goal.returns-clause-done
returns-clause-done g c =
    let head = c.set_head.new.head in
    let is : take 1265 (drop 1 head) ≡ head_of c.args.draft.now = take_all 1265 (drop 1 head) (omega (arith, length-drop 1 head)) ∙ c.set_head.ensures.head in
    rw is at c.write_journal.ensures.written

pub returns-clause-carried : goal.returns-clause-carried
returns-clause-carried g c = keeps_gate-steps 1 _ _ _ (omega arith) c.write_journal.ensures.steps
