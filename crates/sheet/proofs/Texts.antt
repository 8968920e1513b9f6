-- Texts cut behind their last zero byte: the same lines stand in them, and a path is ended where it begins in them. Assumes nothing.
use Rattle.std.specs.Prelude.{ℕ, zero, suc, ◌+◌, ◌-◌, ◌<◌, ◌≤◌, ◌≡◌, ◌≢◌, refl, Bool, true, false, ◌||◌, cond, Result, Err, List, [], ◌∷◌, ◌++◌, length, take, drop, get_or}
use Rattle.std.specs.List.{list_any}
use Rattle.std.proofs.Common.{ap, ◌∙◌, sym, arith, get_or-drop, length-drop, take-append-drop, eq-eqb, eqb-true}
use Rattle.std.proofs.lemmas.List.{drop_all}
use Rattle.std.proofs.lemmas.List.Folds.{list_any_at}
use Rattle.std.proofs.lemmas.List.Recursion.{or_from_places}
use Rattle.std.proofs.lemmas.Bool.{false≢true}
use Rattle.std.proofs.lemmas.Bool.Decides.{nat_tests}
use Rattle.endian.specs.Bytes.{be32}
use Rattle.refusal.specs.declared.Refusal.{Refusal}
use Rattle.refusal.specs.declared.Refusal.TheVariants.{InvalidSheet}
use Rattle.refusal.specs.Laws.Tests.{or-false, is_false}
use Rattle.tree.specs.Table.{first_text}
use Rattle.sheet.specs.Layout.{Line, line_with, line_at, lines_from, is_zero}
use Rattle.sheet.specs.Inner.Left.{IsEnded}

is_zero-suc : (b : ℕ) → is_zero (suc b) ≡ false
is_zero-suc b = grind (arith, nat_tests)

-- ---- what stands behind the last zero byte

none_later : (rest : List ℕ) (p : ℕ) → list_any is_zero rest ≡ false → list_any is_zero (drop p rest) ≡ false
none_later rest zero e = e
none_later [] (suc p) e = refl
none_later (b ∷ rest) (suc p) e = none_later rest p (or-false (is_zero b) (list_any is_zero rest) e).1

any-cut : (rest : List ℕ) → list_any is_zero rest ≡ false → (ended : List ℕ) (p : ℕ) → list_any is_zero (drop p (ended ++ rest)) ≡ list_any is_zero (drop p ended)
any-cut rest none [] zero = none
any-cut rest none [] (suc p) = none_later rest (suc p) none
any-cut rest none (b ∷ ended) zero = ap (λ (t : Bool). is_zero b || t) (any-cut rest none ended zero)
any-cut rest none (b ∷ ended) (suc p) = any-cut rest none ended p

-- a text that is ended is the same, whatever follows
first_text-front : (s rest : List ℕ) → list_any is_zero s ≡ true → first_text (s ++ rest) ≡ first_text s
first_text-front [] rest e = absurd (false≢true e)
first_text-front (zero ∷ s) rest e = refl
first_text-front (suc b ∷ s) rest e = ap (λ (t : List ℕ). suc b ∷ t) (first_text-front s rest (rw is_zero-suc at e))

first_text-cut : (ended rest : List ℕ) (p : ℕ) → list_any is_zero (drop p ended) ≡ true → first_text (drop p (ended ++ rest)) ≡ first_text (drop p ended)
first_text-cut ended rest zero e = first_text-front ended rest e
first_text-cut [] rest (suc p) e = absurd (false≢true e)
first_text-cut (b ∷ ended) rest (suc p) e = first_text-cut ended rest p e

-- two tests of a path, which is the same where it matters
cond-same : (f : List ℕ → Result Line Refusal) (r : Result Line Refusal) (p q : List ℕ) (t : Bool) → (t ≡ true → p ≡ q) → cond t (f p) r ≡ cond t (f q) r
cond-same f r p q true same = ap f (same refl)
cond-same f r p q false same = refl

-- without it each line is the same
module _ (ended rest : List ℕ) (none : list_any is_zero rest ≡ false) (bytes : List ℕ) where
  line_at-cut : (at : ℕ) → line_at (ended ++ rest) bytes at ≡ line_at ended bytes at
  unfolding line_at
  line_at-cut at =
      let p : ℕ = be32 bytes (at + 4) in
      rw (any-cut rest none ended p)
      (cond-same (line_with (be32 bytes at) (be32 bytes (at + 8)) (be32 bytes (at + 12))) (Err InvalidSheet) _ _ (list_any is_zero (drop p ended)) (first_text-cut ended rest p))

  lines_from-cut : (at n : ℕ) → lines_from (ended ++ rest) bytes at n ≡ lines_from ended bytes at n
  unfolding lines_from
  lines_from-cut at zero = refl
  lines_from-cut at (suc n) = rw (line_at-cut at, lines_from-cut (at + 16) n)

-- LAW: the lines are the same with the texts up to their last zero byte
pub lines_from-ended : (texts ended bytes : List ℕ) → ended ≡ take (length ended) texts → ((k : ℕ) → length ended ≤ k → k < length texts → get_or texts k 0 ≢ 0) →
    (at n : ℕ) → lines_from texts bytes at n ≡ lines_from ended bytes at n
lines_from-ended texts ended bytes front behind at n =
    let m : ℕ = length ended in
    let rest : List ℕ = drop m texts in
    let none : list_any is_zero rest ≡ false =
    or_from_places (list_any is_zero) is_zero refl (λ _ _. refl) rest 0
    (λ i h. let inside : i < length texts - m = rw length-drop at h in is_false _ (λ z. behind (m + i) (omega arith) (omega arith) (sym (get_or-drop m texts i 0) ∙ eqb-true _ 0 z)))
    in
    let whole : ended ++ rest ≡ texts = ap (λ (l : List ℕ). l ++ rest) front ∙ take-append-drop m texts in
    rw (← whole) (lines_from-cut ended rest none bytes at n)

-- ---- texts that are empty, or end with a zero byte

module _ (texts : List ℕ) (ended : IsEnded texts) where
  any_inside : (p : ℕ) → p < length texts → list_any is_zero (drop p texts) ≡ true
  any_inside p h =
      let i : p + (length texts - 1 - p) ≡ length texts - 1 = omega arith in
      list_any_at is_zero (drop p texts) (length texts - 1 - p) 0 (rw length-drop (omega arith))
      (eq-eqb _ 0 (rw (get_or-drop, i) (ended (omega arith))))

  none_past : (p : ℕ) → length texts ≤ p → list_any is_zero (drop p texts) ≡ false
  none_past p h = rw (drop_all p texts h)

  -- LAW: a path is one if it begins in them
  module _ (bytes : List ℕ) (at : ℕ) where
    pub line_at-inside : be32 bytes (at + 4) < length texts →
        line_at texts bytes at ≡ line_with (be32 bytes at) (be32 bytes (at + 8)) (be32 bytes (at + 12)) (first_text (drop (be32 bytes (at + 4)) texts))
    unfolding line_at
    line_at-inside h = rw (any_inside (be32 bytes (at + 4)) h)

    pub line_at-past : length texts ≤ be32 bytes (at + 4) → line_at texts bytes at ≡ Err InvalidSheet
    unfolding line_at
    line_at-past h = rw (none_past (be32 bytes (at + 4)) h)
