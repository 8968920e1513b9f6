-- `sheet::line::Line::path` meets its contract: it counts the bytes before the first zero byte.
use Rattle.std.specs.Prelude.{◌≡◌, min, length, take}
use Rattle.std.proofs.Common.{rules, tests, sym, ◌∙◌, refl, arith}
use Rattle.std.proofs.lemmas.List.Folds.{length-prefix_len}
use Rattle.std.proofs.lemmas.Iterator.{YieldsList-from_slice, YieldsList-from_take}
use Rattle.std.proofs.lemmas.Iterator.Search.{YieldsList-from_take_while}
use Rattle.std.proofs.lemmas.Iterator.Consumers.{count_from_yields_List, YieldsList-at}
use Rattle.tree.specs.Table.{first_text}
use Rattle.sheet.proofs.Paths.{is_some_byte, path_of-line_by, prefix_len-take, path-read}
use Rattle.sheet.proofs.line.Line.path.Goals.{After-count-length}
use Rattle.sheet.proofs.line.Line.path.Goals as goal

counted : (c : After-count-length) → c.count-length.result ≡ min 1025 (length (first_text c.args.self.text.now))
counted c =
    let s = c.args.self.text.now in
    count_from_yields_List c.take_while.result c.count-length.result c.count-length.ensures.ran
    (YieldsList-from_take_while _ is_some_byte (YieldsList-at c.take_while.ensures.source (YieldsList-from_take 1025 (YieldsList-from_slice s (cc)) c.take-bytes.ensures.count)) c.take_while.ensures.closure c.take_while.ensures.done (λ x b q k. search (rules, tests)))
    ∙ length-prefix_len is_some_byte (take 1025 s) ∙ prefix_len-take 1025 s

pub returns-then-length-gt-PATH_LIMIT-clause-long : goal.returns-then-length-gt-PATH_LIMIT-clause-long
returns-then-length-gt-PATH_LIMIT-clause-long c =
    let line = c.args.self in
    (refl, rw (path_of-line_by line.asked (first_text line.text.now)) (omega (arith, counted (goal.at.returns-then-length-gt-PATH_LIMIT-clause-long c).After-count-length)))

pub returns-clause-whole : goal.returns-clause-whole
returns-clause-whole c =
    let line = c.args.self in
    path-read line.text.now c.count-length.result 1025 (counted (goal.at.returns-clause-whole c).After-count-length) (omega arith)
    ∙ sym (path_of-line_by line.asked (first_text line.text.now))
