-- `align_up` meets its contract: the first multiple is the one from `a` on that is less than `align` further.
use Rattle.std.proofs.Common.{◌+◌, ◌-◌, ◌*◌, ◌/◌, ◌%◌, ◌<◌, ◌≤◌, ◌≡◌, ℕ, ap, ◌∙◌, arith}
use native.Mathlib.Nat.{div-lt_iff_lt-mul, suc-mul}
use native.Mathlib.Numerals.{add-one}
use Rattle.space.specs.Align.{align_up}
use Rattle.space.proofs.allocation.align_up.Goals as goal

next-multiple : (align a r : ℕ) → 0 < align → r % align ≡ 0 → a ≤ r → r < a + align → r ≡ align_up align a
unfolding align_up
next-multiple align a r z m l u =
    let whole : r ≡ r / align * align = omega arith in
    let more : (r / align + 1) * align ≡ r / align * align + align = rw (add-one (r / align)) (suc-mul (r / align) align) in
    let high : (a + (align - 1)) / align < r / align + 1 = (div-lt_iff_lt-mul {k = align} {x = a + (align - 1)} {y = r / align + 1} z).1 (omega arith) in
    let low : (a + (align - 1)) / align < r / align → ⊥ = λ h. let w = (div-lt_iff_lt-mul {k = align} {x = a + (align - 1)} {y = r / align} z).0 h in omega arith in
    let same : r / align ≡ (a + (align - 1)) / align = omega arith in
    whole ∙ ap (λ (n : ℕ). n * align) same

pub returns : goal.returns
returns c = next-multiple _ _ _ c.requires (rw c.from-2.ensures at c.next_multiple_of.ensures.multiple) (omega arith) (omega arith)
