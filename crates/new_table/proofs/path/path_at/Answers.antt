-- `new_table::path::path_at` meets its contract: the text's length cuts it out.
use Rattle.std.proofs.Common.{◌≡◌, ◌+◌, ◌-◌, arith, drop, length}
use Rattle.tree.specs.Table.{first_text}
use Rattle.tree.proofs.Laws.Texts.{take-first_text}
use Rattle.new_table.proofs.path.path_at.Goals as goal

pub returns : goal.returns
returns c =
    let n : c.args.at + c.text_length.result - c.args.at ≡ length (first_text (drop c.args.at c.args.paths.now)) = omega (arith, c.text_length.ensures) in
    rw n (take-first_text (drop c.args.at c.args.paths.now))
