use Rattle.std.proofs.Common.{ℕ, ◌≡◌, ap, ◌+◌, ◌≤◌, length, take, arith, length-take}
use Rattle.journal.specs.Disk.{Disk}
use Rattle.journal.proofs.Brought.{journal_none, clip-more, journal_start, journal_turn}
use Rattle.journal.proofs.pieces.note_clip.Goals as goal

abbrev length_of_journal : Disk → ℕ
length_of_journal d = length d.journal

pub loop-done-init : goal.loop-done-init
loop-done-init g c = record {
  within = omega arith;
  place = omega arith;
  written = λ k. journal_none _ c.args.at;
  carried =
      journal_start c.args.at c.args.len _;
  faults = omega arith;
}

pub returns-in_err-write_journal-clause-carried : goal.returns-in_err-write_journal-clause-carried
returns-in_err-write_journal-clause-carried g c =
    let long : length c.read_clip.new.bytes ≤ c.min-n.result = omega (arith, c.read_clip.auto.bytes, length-take c.min-n.result c.loop-done.desk) in
    journal_turn c.args.at c.args.len (c.args.at + c.loop-done.done) (length c.read_clip.new.bytes) (omega arith) (omega arith) _ _ _ _
    c.read_clip.ensures.looks c.loop-done.invariant.carried c.write_journal.ensures.steps

pub loop-done-preserved : goal.loop-done-preserved
loop-done-preserved g c =
    let long : length c.read_clip.new.bytes ≤ c.min-n.result = omega (arith, c.read_clip.auto.bytes, length-take c.min-n.result c.loop-done.desk) in
    let told : length (take c.min-n.result c.loop-done.desk) ≡ c.min-n.result = omega (arith, length-take c.min-n.result c.loop-done.desk) in
    record {
      within = omega arith;
      place = omega (arith, c.in_ok-write_journal.ensures.long, ap length_of_journal c.read_clip.ensures.looks.seen);
      written = λ k. clip-more _ _ _ _ _ _ c.args.at c.loop-done.done (length (take c.min-n.result c.loop-done.desk))
          (c.loop-done.done + c.min-n.result) _ (omega arith) (omega arith) (omega arith) c.loop-done.invariant.carried.same_clip
          (c.loop-done.invariant.written k) c.read_clip.ensures.looks.seen (c.in_ok-read_clip.ensures.bytes k) (c.in_ok-write_journal.ensures.written k);
      carried = journal_turn c.args.at c.args.len (c.args.at + c.loop-done.done) (length c.read_clip.new.bytes) (omega arith) (omega arith) _ _ _ _
          c.read_clip.ensures.looks c.loop-done.invariant.carried c.write_journal.ensures.steps;
      faults = omega arith;
    }
