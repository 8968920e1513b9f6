use Rattle.std.proofs.Common.{◌≡◌, length-set, ◌∙◌, arith, rules}
use Rattle.std.proofs.lemmas.List.{take_rest}
use Rattle.conversation.proofs.Teams.{one_more, all_of}
use Rattle.conversation.proofs.reading.read_totals.Goals as goal

pub loop-k-preserved : goal.loop-k-preserved
loop-k-preserved c =
    let many = c.loop-k.invariant.1 in (
      one_more c.loop-k.teams c.loop-k.k _ c.loop-k.left.now _ _ (omega (arith, many)) (omega arith)
          (record {
            limit = c.in_ok-read_number.ensures;
            share = c.in_ok-read_number-2.ensures;
            taken = c.in_ok-read_number-3.ensures;
            edits = c.in_ok-read_number-4.ensures;
          })
          (take_rest c.loop-k.left.now 4) c.loop-k.invariant.0,
      length-set c.loop-k.teams c.loop-k.k _ ∙ many,
    )

pub returns : goal.returns
returns c =
    let so_far = c.loop-k.invariant.0 in
    let end : c.loop-k.k ≡ 16 = omega arith in
    all_of c.args.words.now _ _ _ c.loop-k.teams c.loop-k.left.now (omega arith) c.loop-k.invariant.1 (search rules)
    c.in_ok-read_number-5.ensures c.in_ok-read_number-6.ensures (take_rest c.args.words.now 2) (rw end at so_far)
