-- `Entry::put_path` meets its contract. The invariant of its loop: behind the space stands the path of a directory.
use Rattle.listing.proofs.LineParts.{step_start, after-turn, after-end}
use Rattle.listing.proofs.entries.Entry.put_path.Goals as goal

pub loop-name-init : goal.loop-name-init
loop-name-init c = step_start c.args.self.now.nested.0 _

pub loop-name-preserved : goal.loop-name-preserved
loop-name-preserved c = let around = c.args.self.now.nested in after-turn around.0 around.1 c.loop-name.invariant c.loop-name-test.true c.push_bytes.ensures c.push.ensures

pub returns : goal.returns
returns c = let around = c.args.self.now.nested in after-end around.0 around.1 c.loop-name.invariant c.loop-name-test.false c.push_text.ensures
