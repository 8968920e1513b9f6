-- One bad line and there are no lines, else there are all of them. Assumes nothing.
use Rattle.std.specs.Prelude.{Result, Ok, Err, Some, ℕ, zero, suc, ◌+◌, ◌*◌, ◌<◌, ◌≡◌, refl, Bool, true, false, cond, ◌&&◌, ◌==◌, List, [], ◌∷◌, length, drop, slice_get}
use Rattle.std.specs.List.{list_any}
use Rattle.std.proofs.Common.{ap, arith}
use Rattle.refusal.specs.declared.Refusal.{Refusal}
use Rattle.refusal.specs.declared.Refusal.TheVariants.{InvalidSheet}
use Rattle.endian.specs.Bytes.{be32}
use Rattle.tree.specs.Table.{first_text}
use Rattle.sheet.specs.Layout.{Line, make_directory, make_file, move, resize, line_count, lines_offset, texts_of, has_good_header, line_with, is_zero, line_at, in_front, lines_from, sheet_lines}
use Rattle.sheet.specs.Theorem.{IsCheckedWhole, CheckedWhole}

-- ---- a line

line_with-cause : (kind offset size : ℕ) (path : List ℕ) (c : Refusal) → line_with kind offset size path ≡ Err c → c ≡ InvalidSheet
line_with-cause kind offset size path c =
    go (kind == 1 && offset == 0 && size == 0) (kind == 2 && offset == 0 && size == 0) (kind == 3 && size == 0) (kind == 4 && offset == 0)
  where
    go : (p q r s : Bool) →
        cond p (Ok (make_directory path)) (cond q (Ok (make_file path)) (cond r (Ok (move path offset)) (cond s (Ok (resize path size)) (Err InvalidSheet)))) ≡ Err c → c ≡ InvalidSheet
    go true q r s e = cc
    go false true r s e = cc
    go false false true s e = cc
    go false false false true e = cc
    go false false false false e = cc

module _ (texts bytes : List ℕ) where
  line-cause : (at : ℕ) (c : Refusal) → line_at texts bytes at ≡ Err c → c ≡ InvalidSheet
  unfolding line_at
  line-cause at c = go (list_any is_zero (drop path texts)) _ (line_with-cause (be32 bytes at) (be32 bytes (at + 8)) (be32 bytes (at + 12)) (first_text (drop path texts)) c)
    where
      path : ℕ
      path = be32 bytes (at + 4)

      go : (t : Bool) (r : Result Line Refusal) → (r ≡ Err c → c ≡ InvalidSheet) → cond t r (Err InvalidSheet) ≡ Err c → c ≡ InvalidSheet
      go true r f e = f e
      go false r f e = cc

  -- ---- the lines from a place on

  lines-bad : (n at i : ℕ) (c : Refusal) → i < n → line_at texts bytes (at + 16 * i) ≡ Err c → lines_from texts bytes at n ≡ Err InvalidSheet
  unfolding lines_from
  lines-bad zero at i c h e = absurd (omega arith)
  lines-bad (suc n) at zero c h e =
      let z : at + 16 * 0 ≡ at = omega arith in
      let x : line_at texts bytes at ≡ Err c = rw z at e in
      rw (x, line-cause at c x) refl
  lines-bad (suc n) at (suc i) c h e =
      let s : at + 16 * suc i ≡ at + 16 + 16 * i = omega arith in
      rw (lines-bad n (at + 16) i c (omega arith) (rw s at e)) (go (line_at texts bytes at) refl)
    where
      go : (r : Result Line Refusal) → line_at texts bytes at ≡ r → in_front r (Err InvalidSheet) ≡ Err InvalidSheet
      go (Ok line) x = refl
      go (Err d) x = ap Err (line-cause at d x)

  lines-cause : (n at : ℕ) (c : Refusal) → lines_from texts bytes at n ≡ Err c → c ≡ InvalidSheet
  unfolding lines_from
  lines-cause zero at c e = cc
  lines-cause (suc n) at c e = go (line_at texts bytes at) (lines_from texts bytes (at + 16) n) (line-cause at) (lines-cause n (at + 16)) e
    where
      go : (r : Result Line Refusal) (s : Result (List Line) Refusal) → ((d : Refusal) → r ≡ Err d → d ≡ InvalidSheet) → ((d : Refusal) → s ≡ Err d → d ≡ InvalidSheet) →
          in_front r s ≡ Err c → c ≡ InvalidSheet
      go (Ok line) (Ok lines) f g e = cc
      go (Ok line) (Err d) f g e = g c e
      go (Err d) s f g e = f c (let x : d ≡ c = cc in ap Err x)

  -- n of them, each as it stands in its place
  abbrev Placed : ℕ → ℕ → List Line → Type 0
  Placed n at lines = (length lines ≡ n) × ((i : ℕ) (line : Line) → slice_get lines i ≡ Some line → line_at texts bytes (at + 16 * i) ≡ Ok line)

  placed-more : (n at : ℕ) (line : Line) (lines : List Line) → line_at texts bytes at ≡ Ok line → Placed n (at + 16) lines → Placed (suc n) at (line ∷ lines)
  placed-more n at line lines e p = (ap suc p.0, each)
    where
      each : (i : ℕ) (l : Line) → slice_get (line ∷ lines) i ≡ Some l → line_at texts bytes (at + 16 * i) ≡ Ok l
      each zero l q = let z : at + 16 * 0 ≡ at = omega arith in rw z cc
      each (suc i) l q = let s : at + 16 * suc i ≡ at + 16 + 16 * i = omega arith in rw s (p.1 i l q)

  lines-good : (n at : ℕ) (lines : List Line) → lines_from texts bytes at n ≡ Ok lines → Placed n at lines
  unfolding lines_from
  lines-good zero at [] e = (refl, λ i line q. cc)
  lines-good zero at (line ∷ lines) e = cc
  lines-good (suc n) at lines e = go (line_at texts bytes at) (lines_from texts bytes (at + 16) n) refl (lines-good n (at + 16)) lines e
    where
      go : (r : Result Line Refusal) (s : Result (List Line) Refusal) → line_at texts bytes at ≡ r → ((rest : List Line) → s ≡ Ok rest → Placed n (at + 16) rest) →
          (ls : List Line) → in_front r s ≡ Ok ls → Placed (suc n) at ls
      go (Ok line) (Ok rest) x f ls e = let y : line ∷ rest ≡ ls = cc in rw (← y) (placed-more n at line rest x (f rest refl))
      go (Ok line) (Err d) x f ls e = cc
      go (Err d) s x f ls e = cc

  lines-whole : (n at : ℕ) (lines : List Line) → Placed n at lines → lines_from texts bytes at n ≡ Ok lines
  unfolding lines_from
  lines-whole zero at [] p = refl
  lines-whole zero at (line ∷ lines) p = absurd (omega (arith, p.0))
  lines-whole (suc n) at [] p = absurd (omega (arith, p.0))
  lines-whole (suc n) at (line ∷ lines) p =
      let z : at + 16 * 0 ≡ at = omega arith in
      let here : line_at texts bytes at ≡ Ok line = rw z at (p.1 0 line refl) in
      let later : lines_from texts bytes (at + 16) n ≡ Ok lines =
      lines-whole n (at + 16) lines
      (omega (arith, p.0), λ i l q. let s : at + 16 * suc i ≡ at + 16 + 16 * i = omega arith in rw s at (p.1 (suc i) l q)) in
      rw (here, later) refl

-- ---- the theorem

pub checked-whole : CheckedWhole
unfolding sheet_lines
checked-whole sheet =
    go (has_good_header sheet) refl
  where
    lines : Result (List Line) Refusal
    lines = lines_from (texts_of sheet) sheet (lines_offset sheet) (line_count sheet)

    go : (t : Bool) → has_good_header sheet ≡ t → IsCheckedWhole sheet
    go true x = record {
      bad = λ i c h e. rw x (lines-bad (texts_of sheet) sheet (line_count sheet) (lines_offset sheet) i c h e);
      header = λ e. cc;
      good = λ ls e. let y : lines ≡ Ok ls = rw x at e in let p = lines-good (texts_of sheet) sheet (line_count sheet) (lines_offset sheet) ls y in record { header = x; count = p.0; each = p.1 };
      whole = λ ls p. rw x (lines-whole (texts_of sheet) sheet (line_count sheet) (lines_offset sheet) ls (p.count, p.each));
      only = λ c e. lines-cause (texts_of sheet) sheet (line_count sheet) (lines_offset sheet) c (rw x at e);
    }
    go false x = record {
      bad = λ i c h e. rw x refl;
      header = λ e. rw x refl;
      good = λ ls e. let y : ◌≡◌ {A = Result (List Line) Refusal} (Err InvalidSheet) (Ok ls) = rw x at e in cc;
      whole = λ ls p. let y : false ≡ true = rw x at p.header in cc;
      only = λ c e. let y : ◌≡◌ {A = Result (List Line) Refusal} (Err InvalidSheet) (Err c) = rw x at e in cc;
    }
