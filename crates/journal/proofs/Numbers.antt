-- Numbers in 8 bytes one behind the other, and each read back. Assumes nothing.
use Rattle.std.proofs.Common.{◌≡◌, ℕ, zero, suc, ◌+◌, ◌*◌, ◌/◌, ◌%◌, ◌^◌, ◌<◌, ◌≤◌, List, [], ◌∷◌, ◌++◌, length, get_or, take, drop, refl, sym, ◌∙◌, ap, arith, append_assoc, length-append, drop_at, add_assoc, length-take-le}
use Rattle.std.proofs.lemmas.List.{take_more, append-nil, drop_all}
use Rattle.std.specs.List.{flat_map}
use Rattle.std.proofs.lemmas.Grind.{flat_map-append}
use Rattle.endian.specs.Bytes.{put, be32}
use Rattle.endian.specs.Laws.Stored.{be32-value, be32-drop}
use Rattle.journal.specs.Journal.{number_at}
use Rattle.journal.specs.Inner.Noted.{number_bytes, bytes_of, FitInBytes}
use Rattle.journal.proofs.Torn.{put-behind}

pub length-number_bytes : (n : ℕ) → length (number_bytes n) ≡ 8
unfolding number_bytes
length-number_bytes n = refl

pub length-bytes_of : (ns : List ℕ) → length (bytes_of ns) ≡ 8 * length ns
unfolding bytes_of
length-bytes_of [] = refl
length-bytes_of (n ∷ ns) = length-append (number_bytes n) (flat_map number_bytes ns) ∙ omega (arith, length-bytes_of ns, length-number_bytes n)

-- the first number
pub number_first : (n : ℕ) (rest : List ℕ) → n < 2 ^ 64 → number_at (number_bytes n ++ rest) 0 ≡ n
unfolding number_bytes be32
number_first n rest small =
    let high : be32 (number_bytes n ++ rest) 0 ≡ n / 2 ^ 32 = be32-value (n / 2 ^ 32) (omega arith) in
    let low : be32 (number_bytes n ++ rest) 4 ≡ n % 2 ^ 32 = be32-value (n % 2 ^ 32) (omega arith) in
    omega (arith, high, low)

be32_behind : (p s : List ℕ) (i : ℕ) → be32 (p ++ s) (length p + i) ≡ be32 s i
be32_behind p s i = sym (be32-drop (length p) (p ++ s) i) ∙ ap (λ (l : List ℕ). be32 l i) (drop_at p s (length p) refl)

pub number_behind : (p s : List ℕ) (i : ℕ) → number_at (p ++ s) (length p + i) ≡ number_at s i
number_behind p s i = rw (be32_behind p s i, add_assoc, be32_behind p s (i + 4))

-- a number behind others
pub number_at-bytes_of : (p ns rest : List ℕ) (k : ℕ) → FitInBytes ns → k < length ns → number_at (p ++ (bytes_of ns ++ rest)) (length p + 8 * k) ≡ get_or ns k 0
unfolding bytes_of
number_at-bytes_of p [] rest k fit lt = absurd (omega arith)
number_at-bytes_of p (n ∷ ns) rest zero fit lt =
    rw (append_assoc (number_bytes n) (bytes_of ns) rest) (number_behind p (number_bytes n ++ (bytes_of ns ++ rest)) 0 ∙ number_first n (bytes_of ns ++ rest) (fit 0))
number_at-bytes_of p (n ∷ ns) rest (suc k) fit lt =
    let e : length p + 8 * suc k ≡ length (p ++ number_bytes n) + 8 * k = omega (arith, length-append p (number_bytes n), length-number_bytes n) in
    let split : p ++ ((number_bytes n ++ bytes_of ns) ++ rest) ≡ (p ++ number_bytes n) ++ (bytes_of ns ++ rest) = simp append_assoc in
    rw (e, split) (number_at-bytes_of (p ++ number_bytes n) ns rest k (λ i. fit (suc i)) (omega arith))

bytes_of-more : (ns : List ℕ) (k : ℕ) → k < length ns → bytes_of (take (k + 1) ns) ≡ bytes_of (take k ns) ++ number_bytes (get_or ns k 0)
unfolding bytes_of
bytes_of-more ns k lt = ap (flat_map number_bytes) (take_more ns k 0 lt) ∙ flat_map-append number_bytes (take k ns) (get_or ns k 0 ∷ []) ∙ ap (λ (l : List ℕ). flat_map number_bytes (take k ns) ++ l) (append-nil (number_bytes (get_or ns k 0)))

-- one number more
pub put-bytes_of_more : (s : List ℕ) (at : ℕ) (ns : List ℕ) (k : ℕ) → at ≤ length s → k < length ns
    → put (put s at (bytes_of (take k ns))) (at + 8 * k) (number_bytes (get_or ns k 0)) ≡ put s at (bytes_of (take (k + 1) ns))
put-bytes_of_more s at ns k le lt =
    rw (bytes_of-more ns k lt) (put-behind s at (bytes_of (take k ns)) (at + 8 * k) (number_bytes (get_or ns k 0)) le (omega (arith, length-bytes_of (take k ns), length-take-le k ns (omega arith))))

-- ---- bytes put up to the end

pub drop-put_all : (s : List ℕ) (at : ℕ) (bs : List ℕ) → at + length bs ≡ length s → drop at (put s at bs) ≡ bs
unfolding put
drop-put_all s at bs long =
    drop_at (take at s) (bs ++ drop (at + length bs) s) at (length-take-le at s (omega arith)) ∙ ap (λ (l : List ℕ). bs ++ l) (drop_all (at + length bs) s (omega arith)) ∙ append-nil bs

-- the second gate, the numbers and the header
pub head_bytes : (s : List ℕ) (gate : ℕ) (ns header : List ℕ) (end : ℕ) → end ≡ 2 + 8 * length ns → end + length header ≡ length s
    → drop 1 (put (put (put s 1 (gate ∷ [])) 2 (bytes_of ns)) end header) ≡ gate ∷ (bytes_of ns ++ header)
head_bytes s gate ns header end is long =
    let l : length (bytes_of ns) ≡ 8 * length ns = length-bytes_of ns in
    let both : put (put s 1 (gate ∷ [])) 2 (bytes_of ns) ≡ put s 1 (gate ∷ bytes_of ns) = put-behind s 1 (gate ∷ []) 2 (bytes_of ns) (omega arith) refl in
    let all : put (put s 1 (gate ∷ bytes_of ns)) end header ≡ put s 1 (gate ∷ (bytes_of ns ++ header)) = put-behind s 1 (gate ∷ bytes_of ns) end header (omega arith) (omega arith) in
    rw (both, all) (drop-put_all s 1 (gate ∷ (bytes_of ns ++ header)) (omega (arith, length-append (bytes_of ns) header)))
