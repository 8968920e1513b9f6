use Rattle.std.proofs.Common.{◌≡◌, ◌+◌, ◌≤◌, length, take, arith, length-take}
use Rattle.journal.proofs.Brought.{image_none, bring-more, image_start, image_turn}
use Rattle.journal.proofs.pieces.bring.Goals as goal

pub loop-done-init : goal.loop-done-init
loop-done-init g c = record { within = omega arith; written = λ k. image_none _ c.args.at; carried = image_start c.args.at c.args.len _; faults = omega arith }

pub returns-in_err-write_image-clause-carried : goal.returns-in_err-write_image-clause-carried
returns-in_err-write_image-clause-carried g c =
    let long : length c.read_journal.new.bytes ≤ c.min-n.result = omega (arith, c.read_journal.auto.bytes, length-take c.min-n.result c.loop-done.desk) in
    image_turn c.args.at c.args.len (c.args.at + c.loop-done.done) (length c.read_journal.new.bytes) (omega arith) (omega arith) _ _ _ _
    c.read_journal.ensures.looks c.loop-done.invariant.carried c.write_image.ensures.steps

pub loop-done-preserved : goal.loop-done-preserved
loop-done-preserved g c =
    let long : length c.read_journal.new.bytes ≤ c.min-n.result = omega (arith, c.read_journal.auto.bytes, length-take c.min-n.result c.loop-done.desk) in
    let told : length (take c.min-n.result c.loop-done.desk) ≡ c.min-n.result = omega (arith, length-take c.min-n.result c.loop-done.desk) in
    record {
      within = omega arith;
      written = λ k. bring-more _ _ _ _ c.args.from c.args.at c.loop-done.done (length (take c.min-n.result c.loop-done.desk))
          (c.loop-done.done + c.min-n.result) _ (omega arith) (omega arith) (omega arith)
          (c.loop-done.invariant.written k) c.read_journal.ensures.looks.seen (c.in_ok-read_journal.ensures.bytes k) (c.in_ok-write_image.ensures.written k);
      carried = image_turn c.args.at c.args.len (c.args.at + c.loop-done.done) (length c.read_journal.new.bytes) (omega arith) (omega arith) _ _ _ _
          c.read_journal.ensures.looks c.loop-done.invariant.carried c.write_image.ensures.steps;
      faults = omega arith;
    }
