-- A number in a line of a listing: in base ten, without leading zeros. Assumes nothing: these are definitions.
use Rattle.std.specs.Prelude.{ℕ, zero, suc, ◌+◌, ◌/◌, ◌%◌, List, [], ◌∷◌, ◌++◌, if◌then◌else◌, nat_lt}

-- the digits of n, where f of them are enough
unfoldable pub digits : ℕ → ℕ → List ℕ
digits zero n = []
digits (suc f) n = if nat_lt n 10 then (0x30 + n) ∷ [] else digits f (n / 10) ++ ((0x30 + n % 10) ∷ [])

-- n has n digits at most, but for 0, which has one
abbrev pub decimal : ℕ → List ℕ
decimal n = digits (suc n) n

-- a number in a line, behind a space
abbrev pub number_field : ℕ → List ℕ
number_field n = 0x20 ∷ decimal n
