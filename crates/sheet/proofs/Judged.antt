-- A sheet judged: what it is refused for by its header, and else its lines, as the parts that were cut out of it have them. Assumes nothing.
use Rattle.std.specs.Prelude.{ℕ, ◌+◌, ◌*◌, ◌/◌, ◌<◌, ◌≤◌, ◌≡◌, ◌≢◌, true, leb, Err, List, length, take, get_or}
use Rattle.std.specs.Simd.{first_chunks}
use Rattle.std.proofs.Common.{ap, sym, arith, leb-true}
use Rattle.std.proofs.lemmas.Bool.{le-leb}
use Rattle.endian.specs.Bytes.{span}
use Rattle.endian.specs.Laws.Stored.{length-span}
use Rattle.refusal.specs.declared.Refusal.TheVariants.{InvalidSheet}
use Rattle.refusal.specs.Laws.Tests.{and_left, and_right, is_false}
use Rattle.sheet.specs.Layout.{line_count, lines_offset, texts_offset, texts_length, has_good_header, texts_of, sheet_lines}
use Rattle.sheet.specs.Inner.Left.{lines_in}
use Rattle.sheet.proofs.Rows.{lines_in-span}
use Rattle.sheet.proofs.Texts.{lines_from-ended}

-- what a good header says
pub record IsGood (sheet : List ℕ) : Type 0 where
  pub header : 16 ≤ length sheet
  pub few : line_count sheet ≤ 1024
  pub lines : lines_offset sheet + 16 * line_count sheet ≤ length sheet
  pub texts : texts_offset sheet + texts_length sheet ≤ length sheet

module _ (sheet : List ℕ) where
  fits : has_good_header sheet ≡ true → IsGood sheet
  fits e =
      let three = and_left _ (leb (texts_offset sheet + texts_length sheet) (length sheet)) e in
      let two = and_left _ (leb (lines_offset sheet + 16 * line_count sheet) (length sheet)) three in
      record {
        header = leb-true _ _ (and_left (leb 16 (length sheet)) _ two);
        few = leb-true _ _ (and_right (leb 16 (length sheet)) _ two);
        lines = leb-true _ _ (and_right _ (leb (lines_offset sheet + 16 * line_count sheet) (length sheet)) three);
        texts = leb-true _ _ (and_right _ (leb (texts_offset sheet + texts_length sheet) (length sheet)) e);
      }

  good : IsGood sheet → has_good_header sheet ≡ true
  good f = rw (le-leb _ _ f.header, le-leb _ _ f.few, le-leb _ _ f.lines, le-leb _ _ f.texts)

  -- LAW: any other is refused
  pub refused : (IsGood sheet → ⊥) → Err InvalidSheet ≡ sheet_lines sheet
  unfolding sheet_lines
  refused h = rw (is_false (has_good_header sheet) (λ e. h (fits e)))

  -- LAW: the lines, as they stand in the parts
  module _ (f : IsGood sheet) (lines texts ended : List ℕ) (rows : List (List ℕ)) where
    pub lines_in-sheet : lines ≡ span sheet (lines_offset sheet) (16 * line_count sheet) → texts ≡ span sheet (texts_offset sheet) (texts_length sheet) →
        rows ≡ first_chunks 16 (length lines / 16) lines → ended ≡ take (length ended) texts → ((k : ℕ) → length ended ≤ k → k < length texts → get_or texts k 0 ≢ 0) →
        lines_in ended rows ≡ sheet_lines sheet
    unfolding sheet_lines texts_of
    lines_in-sheet l t r front behind =
        let at : ℕ = lines_offset sheet in
        let n : ℕ = line_count sheet in
        let long : length lines / 16 ≡ n = omega (arith, ap length l, length-span sheet at (16 * n) f.lines) in
        rw (good f, r, long, l, lines_in-span ended sheet at n, ← t) (sym (lines_from-ended texts ended sheet front behind at n))
