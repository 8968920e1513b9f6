-- The sum of a journal: of bytes one behind the other, and of bytes of which one is another. Assumes nothing.
use Rattle.std.proofs.Common.{◌≡◌, ◌≢◌, ℕ, ◌+◌, ◌*◌, ◌%◌, ◌^◌, ◌<◌, List, [], ◌∷◌, ◌++◌, refl, sym, ◌∙◌, arith}
use Rattle.std.proofs.Math.Nat.{mod-lt}
use Rattle.journal.specs.Journal.{sum_from}

pub sum_from-append : (sum : ℕ) (l m : List ℕ) → sum_from sum (l ++ m) ≡ sum_from (sum_from sum l) m
unfolding sum_from
sum_from-append sum [] m = refl
sum_from-append sum (byte ∷ l) m = sum_from-append ((sum * 0x9E3779B97F4A7C15 + byte + 1) % 2 ^ 64) l m

-- it has its place in 8 bytes
pub sum_from-small : (sum : ℕ) (l : List ℕ) → sum < 2 ^ 64 → sum_from sum l < 2 ^ 64
unfolding sum_from
sum_from-small sum [] small = small
sum_from-small sum (byte ∷ l) small = sum_from-small ((sum * 0x9E3779B97F4A7C15 + byte + 1) % 2 ^ 64) l (mod-lt (sum * 0x9E3779B97F4A7C15 + byte + 1) (omega arith))

-- ---- one byte is another

-- the factor is odd
next-same : (s t c : ℕ) → s < 2 ^ 64 → t < 2 ^ 64 → (s * 0x9E3779B97F4A7C15 + c + 1) % 2 ^ 64 ≡ (t * 0x9E3779B97F4A7C15 + c + 1) % 2 ^ 64 → s ≡ t
next-same s t c small small' same = omega arith

byte-same : (n a b : ℕ) → a < 256 → b < 256 → (n + a + 1) % 2 ^ 64 ≡ (n + b + 1) % 2 ^ 64 → a ≡ b
byte-same n a b small small' same = omega arith

sum_from-same : (s t : ℕ) (l : List ℕ) → s < 2 ^ 64 → t < 2 ^ 64 → sum_from s l ≡ sum_from t l → s ≡ t
unfolding sum_from
sum_from-same s t [] small small' same = same
sum_from-same s t (byte ∷ l) small small' same =
    next-same s t byte small small'
    (sum_from-same ((s * 0x9E3779B97F4A7C15 + byte + 1) % 2 ^ 64) ((t * 0x9E3779B97F4A7C15 + byte + 1) % 2 ^ 64) l
    (mod-lt (s * 0x9E3779B97F4A7C15 + byte + 1) (omega arith)) (mod-lt (t * 0x9E3779B97F4A7C15 + byte + 1) (omega arith)) same)

-- the sums of two lists that differ in one byte differ
pub sum_from-another : (sum : ℕ) (front rest : List ℕ) (a b : ℕ) → a < 256 → b < 256 → a ≢ b → sum_from sum (front ++ (a ∷ rest)) ≢ sum_from sum (front ++ (b ∷ rest))
unfolding sum_from
sum_from-another sum front rest a b small small' other same =
    let n : ℕ = sum_from sum front * 0x9E3779B97F4A7C15 in
    other (byte-same n a b small small'
    (sum_from-same ((n + a + 1) % 2 ^ 64) ((n + b + 1) % 2 ^ 64) rest (mod-lt (n + a + 1) (omega arith)) (mod-lt (n + b + 1) (omega arith))
    (sym (sum_from-append sum front (a ∷ rest)) ∙ same ∙ sum_from-append sum front (b ∷ rest))))
