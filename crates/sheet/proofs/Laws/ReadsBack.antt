-- What is written reads back: header, lines, paths. Assumes nothing.
use Rattle.std.specs.Prelude.{ℕ, suc, ◌+◌, ◌*◌, ◌^◌, ◌<◌, ◌≤◌, ◌≡◌, Ok, refl, true, List, [], ◌∷◌, ◌++◌, length, drop}
use Rattle.std.specs.List.{All}
use Rattle.std.proofs.Common.{sym, ap, ◌∙◌, arith, add-zero, append_assoc, length-append}
use Rattle.std.proofs.lemmas.List.{take_all}
use borrow.Author.Tests.{le-leb}
use Rattle.endian.specs.Bytes.{be32}
use Rattle.endian.specs.Laws.Stored.{be32-drop, be32-value}
use Rattle.tree.proofs.Laws.WrittenEntries.{drop_past}
use Rattle.sheet.specs.Layout.{Line, make_directory, make_file, move, resize, path_of, line_count, lines_offset, texts_offset, texts_length, has_good_header, texts_of, line_at, lines_from, sheet_lines}
use Rattle.sheet.specs.Theorem.{ReadsBack}
use Rattle.sheet.specs.Written.{kind_of, new_offset, new_size, line_bytes, lines_bytes, texts_bytes, sheet_with, IsWritable}
use Rattle.sheet.proofs.Laws.Asked.{line-enough}

-- ---- a line

kind-small : (line : Line) → kind_of line < 2 ^ 32
kind-small (make_directory path) = omega arith
kind-small (make_file path) = omega arith
kind-small (move path offset) = omega arith
kind-small (resize path size) = omega arith

module _ (texts bytes : List ℕ) (at o : ℕ) (line : Line) (q r : List ℕ) (e : drop at bytes ≡ line_bytes o line ++ q) (t : drop o texts ≡ path_of line ++ (0 ∷ r)) (w : IsWritable line) (small : o < 2 ^ 32) where
  number : (i : ℕ) → be32 bytes (at + i) ≡ be32 (line_bytes o line ++ q) i
  number i = sym (be32-drop at bytes i) ∙ ap (λ (l : List ℕ). be32 l i) e

  line-back : line_at texts bytes at ≡ Ok line
  unfolding be32
  line-back =
      let place : be32 bytes (at + 4) ≡ o = number 4 ∙ be32-value o small in
      line-enough texts bytes at line (record {
        kind = rw (add-zero at) at (number 0) ∙ be32-value (kind_of line) (kind-small line);
        offset = number 8 ∙ be32-value (new_offset line) w.offset;
        size = number 12 ∙ be32-value (new_size line) w.size;
        plain = w.bytes;
        behind = r;
        path = rw place t;
      })

-- ---- all lines

length-lines_bytes : (o : ℕ) (lines : List Line) → length (lines_bytes o lines) ≡ 16 * length lines
unfolding lines_bytes
length-lines_bytes o [] = refl
length-lines_bytes o (line ∷ lines) = omega (arith, length-lines_bytes (o + (length (path_of line) + 1)) lines)

lines-back : (texts bytes : List ℕ) (at o : ℕ) (lines : List Line) (r : List ℕ) → drop at bytes ≡ lines_bytes o lines ++ r → drop o texts ≡ texts_bytes lines →
    o + length (texts_bytes lines) < 2 ^ 32 → All IsWritable lines → lines_from texts bytes at (length lines) ≡ Ok lines
unfolding lines_from lines_bytes texts_bytes
lines-back texts bytes at o [] r e t small w = refl
lines-back texts bytes at o (line ∷ lines) r e t small w =
    let o' : ℕ = o + (length (path_of line) + 1) in
    let e' : drop at bytes ≡ line_bytes o line ++ (lines_bytes o' lines ++ r) = e in
    let l : length (path_of line ++ (0 ∷ texts_bytes lines)) ≡ length (path_of line) + suc (length (texts_bytes lines)) = length-append (path_of line) _ in
    let next : drop (at + 16) bytes ≡ lines_bytes o' lines ++ r = drop_past at (at + 16) bytes (line_bytes o line) _ e' refl in
    let behind : drop o' texts ≡ texts_bytes lines =
    drop_past o o' texts (path_of line ++ (0 ∷ [])) (texts_bytes lines) (t ∙ sym (append_assoc (path_of line) (0 ∷ []) (texts_bytes lines)))
    (omega (arith, length-append (path_of line) (0 ∷ []))) in
    let rest : lines_from texts bytes (at + 16) (length lines) ≡ Ok lines =
    lines-back texts bytes (at + 16) o' lines r next behind (omega arith) (λ k d h. w (suc k) d (omega arith)) in
    let one : line_at texts bytes at ≡ Ok line =
    line-back texts bytes at o line _ (texts_bytes lines) e' t (w 0 line (omega arith)) (omega arith) in
    rw (one, rest) refl

-- ---- the theorem

module _ (lines : List Line) (w : All IsWritable lines) (few : length lines ≤ 1024) (small : length (texts_bytes lines) < 2 ^ 32) where
  abbrev n : ℕ
  n = length lines

  abbrev sheet : List ℕ
  sheet = sheet_with lines

  abbrev rows : List ℕ
  rows = lines_bytes 0 lines

  abbrev texts : List ℕ
  texts = texts_bytes lines

  sheet-length : length sheet ≡ 16 + 16 * n + length texts
  unfolding sheet_with
  sheet-length = omega (arith, length-append rows texts, length-lines_bytes 0 lines)

  count-back : line_count sheet ≡ n
  unfolding sheet_with be32
  count-back = be32-value n (omega arith)

  offset-back : lines_offset sheet ≡ 16
  unfolding sheet_with be32
  offset-back = refl

  texts_offset-back : texts_offset sheet ≡ 16 + 16 * n
  unfolding sheet_with be32
  texts_offset-back = be32-value (16 + 16 * n) (omega arith)

  texts_length-back : texts_length sheet ≡ length texts
  unfolding sheet_with be32
  texts_length-back = be32-value (length texts) small

  header-back : has_good_header sheet ≡ true
  header-back =
      rw (
        count-back,
        offset-back,
        texts_offset-back,
        texts_length-back,
        le-leb 16 (length sheet) (omega (arith, sheet-length)),
        le-leb n 1024 few,
        le-leb (16 + 16 * n) (length sheet) (omega (arith, sheet-length)),
        le-leb (16 + 16 * n + length texts) (length sheet) (omega (arith, sheet-length)),
      )
      refl

  rows-place : drop 16 sheet ≡ rows ++ texts
  unfolding sheet_with
  rows-place = refl

  texts-back : texts_of sheet ≡ texts
  unfolding texts_of
  texts-back =
      rw (texts_offset-back, texts_length-back, drop_past 16 (16 + 16 * n) sheet rows texts rows-place (omega (arith, length-lines_bytes 0 lines)))
      (take_all (length texts) texts (omega arith))

  back : sheet_lines sheet ≡ Ok lines
  unfolding sheet_lines
  back = rw (header-back, texts-back, offset-back, count-back) (lines-back texts sheet 16 0 lines texts rows-place refl (omega arith) w)

pub reads-back : ReadsBack
reads-back lines w few small = back lines w few small
