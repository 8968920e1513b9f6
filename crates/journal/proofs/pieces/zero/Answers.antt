use Rattle.std.proofs.Common.{◌+◌, ◌≤◌, length, take, arith, length-take}
use Rattle.journal.proofs.Brought.{image_none, zero-more, image_start, image_turn}
use Rattle.journal.proofs.Carried.{looks_none}
use Rattle.journal.proofs.pieces.zero.Goals as goal

pub loop-done-init : goal.loop-done-init
loop-done-init g c = record { within = omega arith; written = λ k. image_none _ c.args.at; carried = image_start c.args.at c.args.len _; faults = omega arith }

pub returns-in_err-write_image-clause-carried : goal.returns-in_err-write_image-clause-carried
returns-in_err-write_image-clause-carried g c =
    let n = length (take c.min-n.result c.fill.new.self) in
    let long : length (take c.min-n.result c.fill.new.self) ≤ c.min-n.result = omega (arith, length-take c.min-n.result c.fill.new.self) in
    image_turn c.args.at c.args.len (c.args.at + c.loop-done.done) (length (take c.min-n.result c.fill.new.self)) (omega arith) (omega arith) _ _ _ _
    (looks_none _) c.loop-done.invariant.carried c.write_image.ensures.steps

pub loop-done-preserved : goal.loop-done-preserved
loop-done-preserved g c =
    let long : length (take c.min-n.result c.fill.new.self) ≤ c.min-n.result = omega (arith, length-take c.min-n.result c.fill.new.self) in
    record {
      within = omega arith;
      written = λ k. zero-more _ _ _ c.args.at c.loop-done.done c.min-n.result (c.loop-done.done + c.min-n.result) _ c.fill.new.self (omega arith)
          (omega arith) (omega (arith, c.fill.ensures.len)) (c.fill.ensures.after (λ y e. e))
          (c.loop-done.invariant.written k) (c.in_ok-write_image.ensures.written k);
      carried = image_turn c.args.at c.args.len (c.args.at + c.loop-done.done) (length (take c.min-n.result c.fill.new.self)) (omega arith)
          (omega arith) _ _ _ _ (looks_none _) c.loop-done.invariant.carried c.write_image.ensures.steps;
      faults = omega arith;
    }
