-- The lines in rows of 16 bytes: those that stand in the bytes that were cut into the rows, and one row taken off. Assumes nothing.
use Rattle.std.specs.Prelude.{ℕ, zero, suc, ◌+◌, ◌*◌, ◌<◌, ◌≤◌, ◌≡◌, refl, Result, Ok, Err, Some, None, IsOk, List, [], length, take, drop, get_or}
use Rattle.std.specs.Result.{result_err, result_unwrap_or}
use Rattle.std.specs.Simd.{first_chunks}
use Rattle.std.proofs.Common.{◌∙◌, arith, add-zero, get_or-take}
use Rattle.std.proofs.lemmas.List.{drop-drop, take-take, drop-take, drop_all, at_drop_more}
use Rattle.endian.specs.Bytes.{be32}
use Rattle.endian.specs.Laws.Stored.{be32-drop, be32-same}
use Rattle.refusal.specs.declared.Refusal.{Refusal}
use Rattle.sheet.specs.Layout.{Line, line_at, lines_from, in_front}
use Rattle.sheet.specs.Inner.Left.{lines_in, lines_left}

-- ---- cut into rows

-- as many rows, whatever stands behind them
first_chunks-front : (n : ℕ) (xs : List ℕ) → first_chunks 16 n (take (16 * n) xs) ≡ first_chunks 16 n xs
first_chunks-front zero xs = refl
first_chunks-front (suc n) xs =
    let m : 16 * suc n ≡ 16 + 16 * n = omega arith in
    rw (m, take-take 16 (16 + 16 * n) xs (omega arith), drop-take 16 (16 * n) xs, first_chunks-front n (drop 16 xs))

module _ (texts bytes : List ℕ) where
  number-in : (at i : ℕ) → i + 4 ≤ 16 → be32 (take 16 (drop at bytes)) i ≡ be32 bytes (at + i)
  number-in at i h =
      be32-same (take 16 (drop at bytes)) (drop at bytes) i (λ j k. get_or-take 16 (drop at bytes) (i + j) 0 (omega arith))
      ∙ be32-drop at bytes i

  line_at-row : (at : ℕ) → line_at texts (take 16 (drop at bytes)) 0 ≡ line_at texts bytes at
  unfolding line_at
  line_at-row at =
      rw (rw add-zero at (number-in at 0 (omega arith)), number-in at 4 (omega arith), number-in at 8 (omega arith), number-in at 12 (omega arith))

  lines_in-rows : (n at : ℕ) → lines_in texts (first_chunks 16 n (drop at bytes)) ≡ lines_from texts bytes at n
  unfolding lines_in lines_from
  lines_in-rows zero at = refl
  lines_in-rows (suc n) at = rw (line_at-row at, drop-drop 16 at bytes, lines_in-rows n (at + 16))

-- LAW: the lines in the rows that a span is cut into
pub lines_in-span : (texts bytes : List ℕ) (at n : ℕ) → lines_in texts (first_chunks 16 n (take (16 * n) (drop at bytes))) ≡ lines_from texts bytes at n
lines_in-span texts bytes at n = rw (first_chunks-front n (drop at bytes)) (lines_in-rows texts bytes n at)

-- ---- one row taken off

result_err-in_front : (first : Result Line Refusal) (rest : Result (List Line) Refusal) (line : Line) → first ≡ Ok line → result_err (in_front first rest) ≡ result_err rest
result_err-in_front first (Ok lines) line e = rw e
result_err-in_front first (Err c) line e = rw e

module _ (texts : List ℕ) (rows : List (List ℕ)) (i : ℕ) where
  lines_in-more : i < length rows → lines_in texts (drop i rows) ≡ in_front (line_at texts (get_or rows i []) 0) (lines_in texts (drop (i + 1) rows))
  unfolding lines_in
  lines_in-more inside = at_drop_more (lines_in texts) rows i [] inside

  pub refused-here : i < length rows → (c : Refusal) → line_at texts (get_or rows i []) 0 ≡ Err c → result_err (lines_in texts (drop i rows)) ≡ Some c
  refused-here inside c e = rw (lines_in-more inside, e)

  pub refused-next : i < length rows → (line : Line) → line_at texts (get_or rows i []) 0 ≡ Ok line → result_err (lines_in texts (drop i rows)) ≡ result_err (lines_in texts (drop (i + 1) rows))
  refused-next inside line e = rw (lines_in-more inside) (result_err-in_front _ (lines_in texts (drop (i + 1) rows)) line e)

  pub refused-none : length rows ≤ i → result_err (lines_in texts (drop i rows)) ≡ None
  unfolding lines_in
  refused-none h = rw (drop_all i rows h)

-- LAW: what they are, where they are refused for nothing
pub lines_left-good : (texts : List ℕ) (rows : List (List ℕ)) → result_err (lines_in texts rows) ≡ None → IsOk (lines_in texts rows) × (Ok (lines_left rows texts) ≡ lines_in texts rows)
unfolding lines_left
lines_left-good texts rows = go (lines_in texts rows)
  where
    go : (r : Result (List Line) Refusal) → result_err r ≡ None → IsOk r × (Ok (result_unwrap_or r []) ≡ r)
    go (Ok lines) e = (refl, refl)
    go (Err c) e = cc

pub lines_in-refused : (texts : List ℕ) (rows : List (List ℕ)) (c : Refusal) → result_err (lines_in texts rows) ≡ Some c → lines_in texts rows ≡ Err c
lines_in-refused texts rows c = go (lines_in texts rows)
  where
    go : (r : Result (List Line) Refusal) → result_err r ≡ Some c → r ≡ Err c
    go (Ok lines) e = cc
    go (Err d) e = cc
