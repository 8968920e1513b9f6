-- `wish_list::paths::first_path` meets its contract: the first text is the first path.
use Rattle.std.specs.Prelude.{ℕ, ◌≡◌, List, length, take}
use native.Mathlib.Omega.{arith}
use Rattle.tree.specs.Table.{first_text}
use Rattle.tree.proofs.Laws.Texts.{take-first_text}
use Rattle.wish_list.proofs.Cutting.{ended, paths_in-first}
use Rattle.wish_list.proofs.paths.first_path.Goals as goal

text-front : (bytes : List ℕ) (n : ℕ) → n ≡ length (first_text bytes) → take n bytes ≡ first_text bytes
text-front bytes n e = rw e (take-first_text bytes)

pub text_length-requires : goal.text_length-requires
text_length-requires c = omega (arith, ended c.args.bytes.now c.requires)

pub slice_bounds-result-end : goal.slice_bounds-result-end
slice_bounds-result-end c =
    rw (text-front c.args.bytes.now c.text_length.result c.text_length.ensures) c.text_length.ensures

pub returns-clause-first : goal.returns-clause-first
returns-clause-first c =
    rw (text-front c.args.bytes.now c.text_length.result c.text_length.ensures) (paths_in-first c.args.bytes.now c.requires)

pub returns-clause-within : goal.returns-clause-within
returns-clause-within c =
    rw (text-front c.args.bytes.now c.text_length.result c.text_length.ensures) (ended c.args.bytes.now c.requires)
