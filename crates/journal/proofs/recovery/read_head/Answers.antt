use Rattle.std.proofs.Common.{◌≡◌, ◌∙◌, ap, [], ◌++◌, length, take, drop, length-take-le, arith}
use Rattle.std.proofs.lemmas.List.{append-nil, drop_all}
use Rattle.endian.specs.Bytes.{span}
use Rattle.journal.proofs.recovery.read_head.Goals as goal

pub returns-then-told-eq-HEAD-clause-whole : goal.returns-then-told-eq-HEAD-clause-whole
returns-then-told-eq-HEAD-clause-whole g c known long =
    let journal = (g.F.Files.state c.args.files.now).seen.journal in
    let head = c.args.head.now in
    let told : c.min-told.result ≡ 1266 = omega (arith, c.min-told.ensures, c.journal_len.ensures, long) in
    let n : length (take c.min-told.result head) ≡ 1266 = length-take-le c.min-told.result head (omega (arith, told, c.requires)) ∙ told in
    let rest : drop c.min-told.result head ≡ [] = drop_all c.min-told.result head (omega (arith, told, c.requires)) in
    (λ i. (c.in_ok-read_journal.ensures.bytes known ∙ ap (span journal 0) n) i ++ rest i) ∙ append-nil (take 1266 journal)
