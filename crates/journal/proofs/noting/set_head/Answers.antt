-- `noting::set_head` meets its contract: gate, numbers and header stand one behind the other, up to the end.
use Rattle.std.proofs.Common.{◌≡◌, ◌∷◌, [], ◌∙◌, ap, subst, refl, List, ℕ, drop, take_all, arith}
use Rattle.std.proofs.lemmas.Bool.Decides.{nat_tests}
use Rattle.endian.specs.Bytes.{put, span}
use Rattle.journal.specs.Inner.Noted.{bytes_of, copied_gate, numbers_of, FitInBytes}
use Rattle.journal.proofs.Numbers.{head_bytes}
use Rattle.journal.proofs.noting.set_head.Goals as goal
use Rattle.journal.proofs.noting.set_head.Goals.{then-draft-eq0, else-draft-eq0}

pub returns-clause-head : goal.returns-clause-head
returns-clause-head c =
    let d = c.args.draft.now in
    let gate : c.if-draft-eq0.gate ≡ copied_gate d = elim c.if-draft-eq0.branch [ then-draft-eq0 w ↦ grind (arith, nat_tests) | else-draft-eq0 w ↦ grind (arith, nat_tests) ] in
    let header : span d.header.now 0 1088 ≡ d.header.now = take_all 1088 d.header.now (omega (arith, c.requires.header)) in
    let is : c.copy.new.s ≡ put (put (put c.args.head.now 1 (copied_gate d ∷ [])) 2 (bytes_of (numbers_of d))) 178 d.header.now = cc in
    ap (λ (l : List ℕ). drop 1 l) is ∙ head_bytes c.args.head.now (copied_gate d) (numbers_of d) d.header.now 178 refl (omega arith)

pub returns-clause-fit : goal.returns-clause-fit
returns-clause-fit c = subst FitInBytes c.numbers.ensures c.set_numbers.ensures.fit
