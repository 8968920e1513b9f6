-- Hexadecimal text in lower case: in parts, and as what it was read from.
use Rattle.std.proofs.Common.{◌≡◌, ℕ, zero, suc, ◌+◌, ◌*◌, ◌/◌, ◌%◌, ◌<◌, ◌==◌, Bool, true, false, ◌&&◌, ◌||◌, inl, inr, List, [], ◌∷◌, ◌++◌, length, slice_index, Option, Some, None, Result, Ok, Err, refl, sym, ap, subst, ◌∙◌, arith}
use Rattle.std.proofs.lemmas.Bool.{and_parts, cases_lt, eqb-true}
use Rattle.std.specs.Char.{is_ascii_uppercase}
use Rattle.std.specs.Result.{result_unwrap_or}
use Rattle.hex.specs.Hex.{decode_of, decode_pairs, digit_or_error, hex_digit_value, encode_lower, encode_with, lower_digits, pair_value, value_at, ◌>>=◌}
use Rattle.hex.specs.declared.error.FromHexError.{FromHexError}
use Rattle.hex.proofs.HexLemmas.{decode_of-ok, decode_of-even}
use Rattle.conversation.specs.Lines.{hex_word}

pub encode_lower-append : (xs ys : List ℕ) → encode_lower (xs ++ ys) ≡ encode_lower xs ++ encode_lower ys
unfolding encode_with
encode_lower-append [] ys = refl
encode_lower-append (b ∷ rest) ys =
    ap (λ l. slice_index lower_digits (b / 16) ∷ slice_index lower_digits (b % 16) ∷ l) (encode_lower-append rest ys)

-- ---- a digit that was read is the one that is written of its value

abbrev is_same : ℕ → Option ℕ → Bool
is_same c (Some v) = is_ascii_uppercase c || (slice_index lower_digits v == c)
is_same c None = true

-- of all below n
abbrev all_same : ℕ → Bool
all_same zero = true
all_same (suc n) = is_same n (hex_digit_value n) && all_same n

all_same-at : (n c : ℕ) → all_same n ≡ true → c < n → is_same c (hex_digit_value c) ≡ true
all_same-at zero c h lt = absurd (omega arith)
all_same-at (suc n) c h lt =
    let parts = and_parts (is_same n (hex_digit_value n)) (all_same n) h in
    elim (cases_lt c n) [
      | inl below ↦ all_same-at n c parts.1 below
      | inr top ↦
          let e : c ≡ n = omega arith in
          rw e parts.0
    ]

all_same-103 : all_same 103 ≡ true
all_same-103 = refl

digit_below : (c v : ℕ) → hex_digit_value c ≡ Some v → c < 103
digit_below c v h = grind (arith)

value_below : (c v : ℕ) → hex_digit_value c ≡ Some v → v < 16
value_below c v h = grind (arith)

or_false : (p q : Bool) → p ≡ false → (p || q) ≡ true → q ≡ true
or_false true q low h = cc low
or_false false q low h = h

same_digit : (c v : ℕ) → hex_digit_value c ≡ Some v → is_ascii_uppercase c ≡ false → slice_index lower_digits v ≡ c
same_digit c v h low =
    let t = all_same-at 103 c all_same-103 (digit_below c v h) in
    let same = subst (λ (o : Option ℕ). is_same c o ≡ true) h t in
    eqb-true (slice_index lower_digits v) c (or_false (is_ascii_uppercase c) _ low same)

-- ---- text that was read is the one that is written of its bytes

bind_ok : {A B : Type 0} (r : Result A FromHexError) (f : A → Result B FromHexError) (y : B)
    → (r >>= f) ≡ Ok y → (x : A) × (r ≡ Ok x) × (f x ≡ Ok y)
bind_ok (Ok x) f y h = (x, refl, h)
bind_ok (Err e) f y h = cc h

digit_read : (c i : ℕ) (o : Option ℕ) (v : ℕ) → digit_or_error c i o ≡ Ok v → o ≡ Some v
digit_read c i (Some w) v h = ap Some (ap (λ (r : Result ℕ FromHexError). result_unwrap_or r 0) h)
digit_read c i None v h = cc h

encode_lower-read : (i : ℕ) (text bytes : List ℕ) → decode_pairs i text ≡ Ok bytes
    → ((k : ℕ) → k < length text → is_ascii_uppercase (slice_index text k) ≡ false) → encode_lower bytes ≡ text
unfolding decode_pairs encode_with
encode_lower-read i [] bytes h low =
    let e : [] ≡ bytes = ap (λ (r : Result (List ℕ) FromHexError). result_unwrap_or r []) h in
    rw (← e) refl
encode_lower-read i (a ∷ []) bytes h low = cc h
encode_lower-read i (a ∷ b ∷ rest) bytes h low =
    let p0 = bind_ok (pair_value a b i) _ bytes h in
    let p1 = bind_ok (value_at a i) _ p0.0 p0.1 in
    let p2 = bind_ok (value_at b (i + 1)) _ p0.0 p1.2 in
    let p3 = bind_ok (decode_pairs (i + 2) rest) _ bytes p0.2 in
    let ih = encode_lower-read (i + 2) rest p3.0 p3.1 (λ k lt. low (suc (suc k)) (omega arith)) in
    let e : p0.0 ∷ p3.0 ≡ bytes = ap (λ (r : Result (List ℕ) FromHexError). result_unwrap_or r []) p3.2 in
    let byte : p1.0 * 16 + p2.0 ≡ p0.0 = ap (λ (r : Result ℕ FromHexError). result_unwrap_or r 0) p2.2 in
    let read_high = digit_read a i (hex_digit_value a) p1.0 p1.1 in
    let read_low = digit_read b (i + 1) (hex_digit_value b) p2.0 p2.1 in
    let small : p2.0 < 16 = value_below b p2.0 read_low in
    let high : p0.0 / 16 ≡ p1.0 = omega (arith, byte, small) in
    let rest_of : p0.0 % 16 ≡ p2.0 = omega (arith, byte, small) in
    let first = same_digit a p1.0 read_high (low 0 (omega arith)) in
    let second = same_digit b p2.0 read_low (low 1 (omega arith)) in
    rw (← e, high, rest_of, first, second, ih) refl

hex_word-some : (bytes : List ℕ) → 0 < length bytes → hex_word bytes ≡ encode_lower bytes
hex_word-some [] h = absurd (omega arith)
hex_word-some (b ∷ rest) h = refl

pub hex_word-read : (word bytes : List ℕ) → decode_of word ≡ Ok bytes → 0 < length word
    → ((k : ℕ) → k < length word → is_ascii_uppercase (slice_index word k) ≡ false) → hex_word bytes ≡ word
hex_word-read word bytes h some low =
    let ok = decode_of-ok word bytes h in
    let twice = ok.2 in
    hex_word-some bytes (omega (arith, twice)) ∙ encode_lower-read 0 word bytes (sym (decode_of-even word ok.0) ∙ h) low
