-- What is asked of a sheet, by the numbers that are written there: of its header, and of each line, no more and no less. Assumes nothing.
use Rattle.std.specs.Prelude.{Ok, Err, ℕ, zero, suc, ◌+◌, ◌*◌, ◌^◌, ◌<◌, ◌≡◌, refl, Bool, true, false, cond, ◌&&◌, ◌==◌, nat_le, List, [], ◌∷◌, ◌++◌, length, take, drop}
use Rattle.std.specs.List.{All, list_any}
use Rattle.std.proofs.Common.{ap, ◌∙◌, arith}
use Rattle.std.proofs.Math.Dec.{eqb-suc-zero}
use borrow.Author.Tests.{eqb-true, le-leb}
use Rattle.endian.specs.Bytes.{be32, be32_bytes}
use Rattle.endian.specs.Laws.Stored.{be32-value}
use Rattle.refusal.specs.declared.Refusal.TheVariants.{InvalidSheet}
use Rattle.refusal.specs.Laws.Tests.{and_left, and_right, or_right}
use Rattle.tree.specs.Table.{first_text}
use Rattle.sheet.specs.Layout.{Line, make_directory, make_file, move, resize, path_of, has_good_header, texts_offset, texts_length, texts_of, line_with, is_zero, line_at}
use Rattle.sheet.specs.Written.{kind_of, new_offset, new_size}

-- ---- the header

-- LAW: a header of these four numbers, whatever follows it
pub header-asked : (count lines texts size : ℕ) (rest : List ℕ) → count < 2 ^ 32 → lines < 2 ^ 32 → texts < 2 ^ 32 → size < 2 ^ 32 →
    let sheet : List ℕ = be32_bytes count ++ (be32_bytes lines ++ (be32_bytes texts ++ (be32_bytes size ++ rest))) in
    has_good_header sheet ≡ (nat_le count 1024 && nat_le (lines + 16 * count) (length sheet) && nat_le (texts + size) (length sheet))
unfolding be32
header-asked count lines texts size rest c l t s =
    let sheet : List ℕ = be32_bytes count ++ (be32_bytes lines ++ (be32_bytes texts ++ (be32_bytes size ++ rest))) in
    rw (be32-value count c, be32-value lines l, be32-value texts t, be32-value size s, le-leb 16 (length sheet) (omega arith)) refl

-- LAW: the texts are the bytes that stand there, no more and no fewer
pub texts-asked : (sheet before texts behind : List ℕ) → sheet ≡ before ++ (texts ++ behind) → texts_offset sheet ≡ length before → texts_length sheet ≡ length texts →
    texts_of sheet ≡ texts
unfolding texts_of
texts-asked sheet before texts behind e o n = rw (o, n, e) (go before)
  where
    front : (xs : List ℕ) → take (length xs) (xs ++ behind) ≡ xs
    front [] = refl
    front (x ∷ xs) = ap (λ (l : List ℕ). x ∷ l) (front xs)

    go : (xs : List ℕ) → take (length texts) (drop (length xs) (xs ++ (texts ++ behind))) ≡ texts
    go [] = front texts
    go (x ∷ xs) = go xs

-- ---- a line

-- at a place of some bytes: the numbers of what it asks for, and its path in the texts, up to the first zero byte there
pub record IsLine (texts bytes : List ℕ) (at : ℕ) (line : Line) : Type 0 where
  pub kind : be32 bytes at ≡ kind_of line
  pub offset : be32 bytes (at + 8) ≡ new_offset line
  pub size : be32 bytes (at + 12) ≡ new_size line
  pub plain : All (λ b. 0 < b) (path_of line)
  pub behind : List ℕ
  pub path : drop (be32 bytes (at + 4)) texts ≡ path_of line ++ (0 ∷ behind)

-- four fields are those of a line
record Fields (k o n : ℕ) (text : List ℕ) (line : Line) : Type 0 where
  pub kind : k ≡ kind_of line
  pub offset : o ≡ new_offset line
  pub size : n ≡ new_size line
  pub path : text ≡ path_of line

fields-asked : (kind offset size : ℕ) (path : List ℕ) (line : Line) → line_with kind offset size path ≡ Ok line → Fields kind offset size path line
fields-asked kind offset size path line =
    go (kind == 1 && offset == 0 && size == 0) (kind == 2 && offset == 0 && size == 0) (kind == 3 && size == 0) (kind == 4 && offset == 0) refl refl refl refl
  where
    go : (p q r s : Bool) → (kind == 1 && offset == 0 && size == 0) ≡ p → (kind == 2 && offset == 0 && size == 0) ≡ q → (kind == 3 && size == 0) ≡ r → (kind == 4 && offset == 0) ≡ s →
        cond p (Ok (make_directory path)) (cond q (Ok (make_file path)) (cond r (Ok (move path offset)) (cond s (Ok (resize path size)) (Err InvalidSheet)))) ≡ Ok line →
        Fields kind offset size path line
    go true q r s a b c d e =
        let x : make_directory path ≡ line = cc in
        rw (← x) (record {
          kind = eqb-true kind 1 (and_left (kind == 1) (offset == 0) (and_left (kind == 1 && offset == 0) (size == 0) a));
          offset = eqb-true offset 0 (and_right (kind == 1) (offset == 0) (and_left (kind == 1 && offset == 0) (size == 0) a));
          size = eqb-true size 0 (and_right (kind == 1 && offset == 0) (size == 0) a);
          path = refl;
        })
    go false true r s a b c d e =
        let x : make_file path ≡ line = cc in
        rw (← x) (record {
          kind = eqb-true kind 2 (and_left (kind == 2) (offset == 0) (and_left (kind == 2 && offset == 0) (size == 0) b));
          offset = eqb-true offset 0 (and_right (kind == 2) (offset == 0) (and_left (kind == 2 && offset == 0) (size == 0) b));
          size = eqb-true size 0 (and_right (kind == 2 && offset == 0) (size == 0) b);
          path = refl;
        })
    go false false true s a b c d e =
        let x : move path offset ≡ line = cc in
        rw (← x) (record {
          kind = eqb-true kind 3 (and_left (kind == 3) (size == 0) c);
          offset = refl;
          size = eqb-true size 0 (and_right (kind == 3) (size == 0) c);
          path = refl;
        })
    go false false false true a b c d e =
        let x : resize path size ≡ line = cc in
        rw (← x) (record {
          kind = eqb-true kind 4 (and_left (kind == 4) (offset == 0) d);
          offset = eqb-true offset 0 (and_right (kind == 4) (offset == 0) d);
          size = refl;
          path = refl;
        })
    go false false false false a b c d e = cc

fields-back : (line : Line) → line_with (kind_of line) (new_offset line) (new_size line) (path_of line) ≡ Ok line
fields-back (make_directory path) = refl
fields-back (make_file path) = refl
fields-back (move path offset) = refl
fields-back (resize path size) = refl

-- up to the first zero byte, where there is one
text-ended : (s : List ℕ) → list_any is_zero s ≡ true → (rest : List ℕ) × (s ≡ first_text s ++ (0 ∷ rest))
text-ended [] e = cc
text-ended (zero ∷ s) e = (s, refl)
text-ended (suc b ∷ s) e =
    let later : list_any is_zero s ≡ true = rw (eqb-suc-zero b) at e in
    let r = text-ended s later in
    (r.0, ap (λ (l : List ℕ). suc b ∷ l) r.1)

text-plain : (s : List ℕ) → All (λ b. 0 < b) (first_text s)
text-plain [] k d h = absurd (omega arith)
text-plain (zero ∷ s) k d h = absurd (omega arith)
text-plain (suc b ∷ s) zero d h = omega arith
text-plain (suc b ∷ s) (suc k) d h = text-plain s k d (omega arith)

path-ended : (path rest : List ℕ) → list_any is_zero (path ++ (0 ∷ rest)) ≡ true
path-ended [] rest = refl
path-ended (b ∷ path) rest = or_right (is_zero b) _ (path-ended path rest)

path-back : (path rest : List ℕ) → All (λ b. 0 < b) path → first_text (path ++ (0 ∷ rest)) ≡ path
path-back [] rest h = refl
path-back (zero ∷ path) rest h = absurd (omega (arith, h 0 0 (omega arith)))
path-back (suc b ∷ path) rest h = ap (λ (l : List ℕ). suc b ∷ l) (path-back path rest (λ k d l. h (suc k) d (omega arith)))

module _ (texts bytes : List ℕ) (at : ℕ) (line : Line) where
  abbrev text : List ℕ
  text = drop (be32 bytes (at + 4)) texts

  -- LAW: no less is asked
  pub line-asked : line_at texts bytes at ≡ Ok line → IsLine texts bytes at line
  unfolding line_at
  line-asked = go (list_any is_zero text) refl
    where
      go : (t : Bool) → list_any is_zero text ≡ t →
          cond t (line_with (be32 bytes at) (be32 bytes (at + 8)) (be32 bytes (at + 12)) (first_text text)) (Err InvalidSheet) ≡ Ok line → IsLine texts bytes at line
      go true e q =
          let f = fields-asked (be32 bytes at) (be32 bytes (at + 8)) (be32 bytes (at + 12)) (first_text text) line q in
          let r = text-ended text e in
          record {
            kind = f.kind;
            offset = f.offset;
            size = f.size;
            plain = rw f.path at (text-plain text);
            behind = r.0;
            path = r.1 ∙ ap (λ (l : List ℕ). l ++ (0 ∷ r.0)) f.path;
          }
      go false e q = cc

  -- LAW: and no more
  pub line-enough : IsLine texts bytes at line → line_at texts bytes at ≡ Ok line
  unfolding line_at
  line-enough l =
      rw (l.path, path-ended (path_of line) l.behind, l.kind, l.offset, l.size, path-back (path_of line) l.behind l.plain) (fields-back line)
