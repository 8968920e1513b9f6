-- The path of a line: the bytes up to the first zero byte, as many as are looked at. Assumes nothing.
use Rattle.std.specs.Prelude.{ℕ, zero, suc, ◌<◌, ◌≡◌, refl, Bool, true, not, eqb, List, [], ◌∷◌, length, take, min}
use Rattle.std.specs.List.{prefix_len}
use Rattle.std.proofs.Common.{arith}
use Rattle.std.proofs.lemmas.Bool.Decides.{nat_tests}
use Rattle.tree.specs.Table.{first_text}
use Rattle.tree.proofs.Laws.Texts.{take-first_text}
use Rattle.sheet.specs.declared.line.Asked.{Asked}
use Rattle.sheet.specs.declared.line.Asked.TheVariants.{MakeDirectory, MakeFile, Move, Resize}
use Rattle.sheet.specs.Layout.{path_of}
use Rattle.sheet.specs.Inner.Read.{line_by}

-- whatever it asks for
pub path_of-line_by : (asked : Asked) (path : List ℕ) → path_of (line_by asked path) ≡ path
path_of-line_by MakeDirectory path = refl
path_of-line_by MakeFile path = refl
path_of-line_by (Move offset) path = refl
path_of-line_by (Resize size) path = refl

abbrev pub is_some_byte : ℕ → Bool
is_some_byte b = not (eqb b 0)

-- LAW: the bytes before the first zero byte are counted, among so many
pub prefix_len-take : (n : ℕ) (s : List ℕ) → prefix_len is_some_byte (take n s) ≡ min n (length (first_text s))
prefix_len-take zero s = omega arith
prefix_len-take (suc n) [] = omega arith
prefix_len-take (suc n) (zero ∷ s) = omega arith
prefix_len-take (suc n) (suc b ∷ s) =
    let some : is_some_byte (suc b) ≡ true = grind (arith, nat_tests) in
    rw (some, prefix_len-take n s) (omega arith)

-- LAW: and are the path, where fewer than so many are found
pub path-read : (s : List ℕ) (m n : ℕ) → m ≡ min n (length (first_text s)) → m < n → take m s ≡ first_text s
path-read s m n e h = let l : m ≡ length (first_text s) = omega arith in rw l (take-first_text s)
