-- `cheapest_run` meets its contract: what was tried, and what is left, tell the answer.
use Rattle.std.proofs.Common.{arith, ◌∙◌, sym, ap, ⊎_elim, ◌+◌, ◌≡◌, ◌-◌, min, ◌==◌, ◌||◌, Bool, true, false, length, take, drop}
use Rattle.std.specs.List.{list_any}
use Rattle.std.proofs.lemmas.Bool.{false≢true}
use Rattle.refusal.specs.Laws.Tests.{or_left, or_right}
use Rattle.clearing.specs.Inner.Tried.{cheapest_from}
use Rattle.clearing.specs.Inner.Stretches.{runs_of}
use Rattle.clearing.specs.declared.stretch.Run.{Run}
use Rattle.clearing.specs.Clearing.{occupancy_of}
use Rattle.clearing.proofs.Laws.Opened.{open-sound}
use Rattle.clearing.proofs.Laws.FreeCandidate.{row-candidates}
use Rattle.clearing.proofs.Stretches.{runs-few, runs-under, under-both}
use Rattle.clearing.proofs.Answering.{refused-none, refused, not-tried, found, bound-all, bound-none, bound-free, bound-dear}
use Rattle.clearing.proofs.clear.cheapest_run.Goals as goal
use Rattle.clearing.proofs.clear.cheapest_run.Goals.{then-cheapest-eq0, else-cheapest-eq0+then-has_free-2, then-has_free, else-has_free, else-cheapest-eq0+else-has_free-2}

neither : (a b : Bool) → a ≡ false → b ≡ false → (a || b) ≡ false
neither false b e f = f
neither true b e f = e

pub returns-then-size-eq0 : goal.returns-then-size-eq0
returns-then-size-eq0 c = λ image i. refused-none _ _ _ c.if-size-eq0.true

pub overflow_add-count : goal.overflow_add-count
overflow_add-count c =
    let a = c.split.ensures.before in
    let b = c.split.ensures.behind in
    omega (arith, c.count-count_before.ensures, c.count-count_behind.ensures, runs-few _ c.args.size _ _ _ a, runs-few _ c.args.size _ _ _ b, a.small, b.small)

pub returns-then-count-eq0 : goal.returns-then-count-eq0
returns-then-count-eq0 c = λ image i. refused _ _ _ (omega arith) (runs_of c.split.result.before c.args.size) (runs_of c.split.result.behind c.args.size) (c.split.ensures.runs image i c.args.size (omega arith)) (omega (arith, c.if-count-eq0.true, c.count-count_before.ensures, c.count-count_behind.ensures))

pub returns-then-budget-eq0 : goal.returns-then-budget-eq0
returns-then-budget-eq0 c = λ image i. not-tried _ _ _ (omega arith) (runs_of c.split.result.before c.args.size) (runs_of c.split.result.behind c.args.size) (c.split.ensures.runs image i c.args.size (omega arith)) (λ z. c.if-count-eq0.false (omega (arith, z, c.count-count_before.ensures, c.count-count_behind.ensures))) c.if-budget-eq0.true

pub returns : goal.returns
returns c =
    λ image i.
    let xs = runs_of c.split.result.before c.args.size in
    let ys = runs_of c.split.result.behind c.args.size in
    let all = c.split.ensures.runs image i c.args.size (omega arith) in
    let a = c.split.ensures.before in
    let b = c.split.ensures.behind in
    let first : c.min-tried_before.result ≡ min c.args.budget (length xs) = omega (arith, c.min-tried.ensures, c.min-tried_before.ensures, c.count-count_before.ensures, c.count-count_behind.ensures) in
    let second : c.min-tried.result - c.min-tried_before.result ≡ min (c.args.budget - c.min-tried_before.result) (length ys) = omega (arith, first, c.min-tried.ensures, c.count-count_before.ensures, c.count-count_behind.ensures) in
    let under = under-both 4294967295 xs ys (runs-under _ _ _ _ _ _ (omega (arith, a.small)) a.full a.order) (runs-under _ _ _ _ _ _ (omega (arith, b.small)) b.full b.order) in
    let count = c.min-tried.ensures in
    let some : length xs + length ys ≡ 0 → ⊥ = λ z. c.if-count-eq0.false (omega (arith, z, c.count-count_before.ensures, c.count-count_behind.ensures)) in
    let dear : Run = record { offset = 0; cost = 4294967295 } in
    let best = c.try_first-cheapest-2.ensures ∙ ap (λ (r : Run). cheapest_from r (take (c.min-tried.result - c.min-tried_before.result) ys)) c.try_first-cheapest.ensures in
    let row = row-candidates (occupancy_of image) (open-sound image _ i.known) c.args.size (omega arith) in
    found _ _ _ (omega arith) xs ys all _ _ first second dear under (omega arith) some _ best _ _ (omega (arith, count, c.count-count_before.ensures, c.count-count_behind.ensures))
    (elim c.if-cheapest-eq0.branch [
      | then-cheapest-eq0 w ↦ w.bound-is ∙ ⊎_elim (λ e. bound-all _ _ _ (omega arith) xs ys all _ _ first second dear under (omega arith) some _ best (omega (arith, e, count, c.count-count_before.ensures, c.count-count_behind.ensures)))
          (λ e. bound-none _ _ _ (omega arith) xs ys all _ _ first second dear under (omega arith) some _ best e.1) w.if-cheapest-eq0.either
      | else-cheapest-eq0+then-has_free-2 w ↦ w.bound-is ∙ bound-free _ _ _ (omega arith) xs ys all _ _ first second dear under (omega arith) some _ best (omega (arith, w.if-cheapest-eq0.false, count, c.count-count_before.ensures, c.count-count_behind.ensures)) row
          (elim w.if-has_free.branch [
            | then-has_free v ↦ or_left _ _ (sym w.has_free.ensures ∙ v.if-has_free.true)
            | else-has_free v ↦ or_right (list_any (λ (run : Run). run.cost == 0) (drop c.min-tried_before.result xs)) _ (sym v.has_free-else-has_free.ensures ∙ sym v.value-is ∙ w.if-has_free-2.true)
          ])
      | else-cheapest-eq0+else-has_free-2 w ↦ w.bound-is ∙ w.saturating_sub.ensures ∙ bound-dear _ _ _ (omega arith) xs ys all _ _ first second dear under (omega arith) some _ best (omega (arith, w.if-cheapest-eq0.false, count, c.count-count_before.ensures, c.count-count_behind.ensures)) row
          w.if-cheapest-eq0.false.1
          (elim w.if-has_free.branch [
            | then-has_free v ↦ absurd (false≢true (sym w.if-has_free-2.false ∙ v.value-is ∙ v.if-has_free.true))
            | else-has_free v ↦ neither _ _ (sym w.has_free.ensures ∙ v.if-has_free.false) (sym v.has_free-else-has_free.ensures ∙ sym v.value-is ∙ w.if-has_free-2.false)
          ]) _ (w.floor.ensures image i)
    ])
