-- A section is named just where the header, which the image holds, is refused. Assumes nothing.
use Rattle.std.specs.Prelude.{ℕ, ◌+◌, ◌-◌, ◌^◌, ◌<◌, ◌≤◌, ◌≡◌, refl, max, Bool, true, false, ◌||◌, List, [], ◌∷◌, ◌++◌, length, Some, is_some, is_err, Ok, if◌then◌else◌, nat_lt}
use Rattle.std.specs.List.{position_from, zip}
use Rattle.std.proofs.Common.{sym, ◌∙◌, ⊎_elim, arith, lt-ltb, le-ltb}
use Rattle.refusal.specs.Refusal.{refuse}
use Rattle.refusal.specs.declared.Refusal.TheVariants.{InvalidDol}
use Rattle.refusal.specs.Laws.Tests.{lt-or-le}
use Rattle.executable.specs.Dol.{largest_of, dol_header_of, file_size_of, dol_verdict_of}
use Rattle.executable.specs.Laws.DolFacts.{length-words}
use Rattle.executable.specs.Sections.{is_above, refused_section}

-- a number below the larger of two
below-max : (m a b : ℕ) → nat_lt m (max a b) ≡ (nat_lt m a || nat_lt m b)
below-max m a b =
    ⊎_elim (λ (h : m < a). rw (lt-ltb m a h, lt-ltb m (max a b) (omega arith)))
    (λ (h : a ≤ m). ⊎_elim (λ (g : m < b). rw (le-ltb m a h, lt-ltb m b g, lt-ltb m (max a b) (omega arith)))
    (λ (g : b ≤ m). rw (le-ltb m a h, le-ltb m b g, le-ltb m (max a b) (omega arith))) (lt-or-le m b)) (lt-or-le m a)

-- one is above just where the largest is
one-above : (i : ℕ) (os ss : List ℕ) → is_some (position_from is_above i (zip os ss)) ≡ nat_lt (2 ^ 32 - 1) (largest_of os ss)
unfolding largest_of
one-above i [] ss = sym (le-ltb (2 ^ 32 - 1) 0 (omega arith))
one-above i (o ∷ os) [] = sym (le-ltb (2 ^ 32 - 1) 0 (omega arith))
one-above i (o ∷ os) (s ∷ ss) = rw (below-max (2 ^ 32 - 1) (o + s) (largest_of os ss), ← one-above (i + 1) os ss) (go (nat_lt (2 ^ 32 - 1) (o + s)))
  where
    go : (t : Bool) → is_some (if t then Some i else position_from is_above (i + 1) (zip os ss)) ≡ (t || is_some (position_from is_above (i + 1) (zip os ss)))
    go true = refl
    go false = refl

-- of two rows one behind the other
largest-append : (os ss os' ss' : List ℕ) → length os ≡ length ss → largest_of (os ++ os') (ss ++ ss') ≡ max (largest_of os ss) (largest_of os' ss')
unfolding largest_of
largest-append [] [] os' ss' h = omega arith
largest-append [] (s ∷ ss) os' ss' h = absurd (omega arith)
largest-append (o ∷ os) [] os' ss' h = absurd (omega arith)
largest-append (o ∷ os) (s ∷ ss) os' ss' h = omega (arith, largest-append os ss os' ss' (omega arith))

-- LAW: 24 for a header inside the image
pub section-named : (s : List ℕ) (at : ℕ) → at + 0xE4 ≤ length s → is_some (refused_section s at) ≡ is_err (dol_verdict_of s at)
unfolding refused_section
section-named s at h =
    let d = dol_header_of s at in
    rw (
      le-ltb (length s) (at + 0xE4) h,
      one-above 0 (d.text_offsets ++ d.data_offsets) (d.text_sizes ++ d.data_sizes),
      largest-append d.text_offsets d.text_sizes d.data_offsets d.data_sizes (length-words s at 7 ∙ sym (length-words s (at + 0x90) 7)),
    ) (go (nat_lt (2 ^ 32 - 1) (file_size_of d)))
  where
    go : (t : Bool) → t ≡ is_err (refuse t InvalidDol (Ok tt))
    go true = refl
    go false = refl
