-- Numbers in a list of bytes, highest byte first, and bytes put over a part of a list. A byte past the end reads as 0.
use Rattle.std.specs.Prelude.{ℕ, ◌+◌, ◌*◌, ◌/◌, ◌%◌, ◌<◌, Bool, true, false, ◌&&◌, List, [], ◌∷◌, ◌++◌, length, take, drop, ◌==◌, slice_index}

-- the number in the 3 bytes at `at`
unfoldable pub be24 : List ℕ → ℕ → ℕ
be24 s at = slice_index s at * 65536 + slice_index s (at + 1) * 256 + slice_index s (at + 2)

-- the number in the 4 bytes at `at`
unfoldable pub be32 : List ℕ → ℕ → ℕ
be32 s at = slice_index s at * 16777216 + slice_index s (at + 1) * 65536 + slice_index s (at + 2) * 256 + slice_index s (at + 3)

-- a number in 3 bytes, and in 4
abbrev pub be24_bytes : ℕ → List ℕ
be24_bytes n = n / 65536 % 256 ∷ n / 256 % 256 ∷ n % 256 ∷ []

abbrev pub be32_bytes : ℕ → List ℕ
be32_bytes n = n / 16777216 % 256 ∷ n / 65536 % 256 ∷ n / 256 % 256 ∷ n % 256 ∷ []

-- the list with the bytes bs from `at` on, where they fit; all others are as they were
unfoldable pub put : List ℕ → ℕ → List ℕ → List ℕ
put s at bs = take at s ++ (bs ++ drop (at + length bs) s)

-- the n bytes from `at` on
abbrev pub span : List ℕ → ℕ → ℕ → List ℕ
span s at n = take n (drop at s)

-- the same bytes, one by one
unfoldable pub are_same_bytes : List ℕ → List ℕ → Bool
are_same_bytes [] [] = true
are_same_bytes [] (y ∷ ys) = false
are_same_bytes (x ∷ xs) [] = false
are_same_bytes (x ∷ xs) (y ∷ ys) = x == y && are_same_bytes xs ys

-- every element is a byte
abbrev pub AllBytes : List ℕ → Type 0
AllBytes s = (i : ℕ) → slice_index s i < 256
