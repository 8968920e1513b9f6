-- One call of `next`: the first row of those that are left, and its line. Assumes nothing.
use Rattle.std.specs.Prelude.{ℕ, ◌≡◌, refl, ⊤, Result, Ok, Err, Option, Some, None, IfOk, IfErr, IsOk, List, [], ◌∷◌, length}
use Rattle.std.specs.Result.{result_ok, result_unwrap_or}
use Rattle.std.specs.Iterator.{YieldsFirstBy, MakesProgress, item_count}
use Rattle.std.proofs.Common.{ap, ◌∙◌, sym, arith}
use Rattle.std.proofs.lemmas.Bool.{false≢true}
use Rattle.std.proofs.lemmas.List.{nil_from_length}
use Rattle.refusal.specs.declared.Refusal.{Refusal}
use Rattle.sheet.specs.declared.line.Line as declared
use Rattle.sheet.specs.Layout.{Line, line_at, in_front}
use Rattle.sheet.specs.Inner.Left.{lines_in, lines_left}
use Rattle.sheet.specs.Inner.Read.{line_of}

-- nothing is left of no rows
pub lines_left-none : (texts : List ℕ) (rows : List (List ℕ)) → length rows ≡ 0 → lines_left rows texts ≡ []
unfolding lines_in lines_left
lines_left-none texts rows h = rw (nil_from_length rows h)

module _ (texts row : List ℕ) (rest : List (List ℕ)) (good : IsOk (lines_in texts (row ∷ rest))) where
  -- what is left of rows that are lines
  left : (line : Line) × (line_at texts row 0 ≡ Ok line) × IsOk (lines_in texts rest) × (lines_left (row ∷ rest) texts ≡ line ∷ lines_left rest texts)
  unfolding lines_in lines_left
  left = go (line_at texts row 0) (lines_in texts rest) good
    where
      go : (first : Result Line Refusal) (others : Result (List Line) Refusal) → IsOk (in_front first others) →
          (line : Line) × (first ≡ Ok line) × IsOk others × (result_unwrap_or (in_front first others) [] ≡ line ∷ result_unwrap_or others [])
      go (Ok line) (Ok lines) e = (line, refl, refl, refl)
      go (Ok line) (Err c) e = absurd (false≢true e)
      go (Err c) others e = absurd (false≢true e)

  pub good-left : IsOk (lines_in texts rest)
  good-left = left.2

  pub yields-first : (lines : List Line) → lines_left (row ∷ rest) texts ≡ lines → (read : Result declared.Line Refusal) →
      IfOk read (λ line. line_at texts row 0 ≡ Ok (line_of line)) → IfErr read (λ c. line_at texts row 0 ≡ Err c) →
      (o : Option declared.Line) → o ≡ result_ok read → YieldsFirstBy (λ (line : declared.Line). line_of line) (λ (r : List Line). r) lines o (lines_left rest texts)
  yields-first lines here (Ok line) ok err o e =
      rw e (sym here ∙ left.3 ∙ ap (λ (l : Line). l ∷ lines_left rest texts) (cc (left.1, ok)))
  yields-first lines here (Err c) ok err o e = cc (left.1, err)

-- a line that was given is no longer left
pub progress : (o : Option declared.Line) (s t : List Line) → YieldsFirstBy (λ (line : declared.Line). line_of line) (λ (r : List Line). r) s o t →
    MakesProgress (λ (_ : List Line). ⊤) (item_count (λ (r : List Line). r)) s o t
progress None s t y = record { on = λ f. tt; keeps = tt; rests = λ f. f }
progress (Some line) s t y = record { on = λ f. (tt, f, omega (arith, ap length y)); keeps = tt; rests = λ f. tt }
