-- `wish_list::earlier::common_length` meets its contract: it counts the pairs up to the first that differs.
use Rattle.std.specs.Prelude.{ℕ, nat_eq, ◌≡◌, refl, List, [], ◌∷◌, ◌==◌}
use Rattle.std.proofs.Common.{rules, tests, ◌∙◌}
use Rattle.std.specs.List.{zip, prefix_len}
use Rattle.std.proofs.lemmas.List.Sums.{common_prefix_len-le}
use Rattle.std.proofs.lemmas.List.Folds.{length-prefix_len}
use Rattle.std.proofs.lemmas.Iterator.{YieldsList-from_slice, YieldsList-from_zip}
use Rattle.std.proofs.lemmas.Iterator.Search.{YieldsList-from_take_while}
use Rattle.std.proofs.lemmas.Iterator.Consumers.{count_from_yields_List}
use Rattle.wish_list.specs.Inner.Earlier.{common_length}
use Rattle.wish_list.proofs.earlier.common_length.Goals as goal

prefix_len-zip : (xs ys : List ℕ) → prefix_len {X = ℕ × ℕ} (λ p. p.0 == p.1) (zip xs ys) ≡ common_length xs ys
prefix_len-zip [] ys = refl
prefix_len-zip (x ∷ xs) [] = refl
prefix_len-zip (x ∷ xs) (y ∷ ys) = rw (prefix_len-zip xs ys)

pub returns-clause-value : goal.returns-clause-value
returns-clause-value c =
    let a = c.args.a.now in
    let b = c.args.b.now in
    count_from_yields_List {B = ℕ × ℕ} c.take_while.result c.count.result c.count.ensures.ran
    (YieldsList-from_take_while _ (λ p. p.0 == p.1) (YieldsList-from_zip (YieldsList-from_slice a (cc)) (YieldsList-from_slice b (cc))) c.take_while.ensures.closure c.take_while.ensures.done (λ x b q k. search (rules, tests)))
    ∙ length-prefix_len {X = ℕ × ℕ} (λ p. p.0 == p.1) (zip a b) ∙ prefix_len-zip a b

pub returns-clause-within : goal.returns-clause-within
returns-clause-within c = rw (returns-clause-value c) (common_prefix_len-le nat_eq c.args.a.now c.args.b.now).1
