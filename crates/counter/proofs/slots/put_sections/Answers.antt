-- `counter::slots::put_sections` meets its contract: one part right behind another.
use Rattle.std.proofs.Common.{rules, arith, ◌≡◌, ◌+◌, length}
use Rattle.endian.proofs.Parts.{put-append}
use Rattle.counter.proofs.slots.put_sections.Goals as goal

pub returns : goal.returns
returns c =
    let t : length c.args.texts.now ≡ 7 = search rules in
    let d : length c.args.datas.now ≡ 11 = search rules in
    rw (c.put_words-2.ensures, c.put_words.ensures) (put-append c.args.slots.now c.args.at c.args.texts.now (c.args.at + 7) c.args.datas.now (omega arith) (omega arith))
