-- A number that is read, as the text that is written of it.
use Rattle.std.proofs.Common.{◌≡◌, ◌≢◌, ℕ, ◌≤◌, ◌^◌, List, length, get_or, ap, ◌∙◌, arith}
use Rattle.std.specs.Prelude.{Ok}
use Rattle.std.specs.Fmt.{decimal}
use Rattle.std.specs.Str.Parse.{AllDigits, digits_value, ParsesUnsigned}
use Rattle.std.proofs.lemmas.Str.Parse.{IsNumeralModel, numerals_by_value, tells_digits, parse_plain}
use Rattle.std.proofs.lemmas.Fmt.{decimal-digits_value}

own : IsNumeralModel (AllDigits 10) (digits_value 10)
own = numerals_by_value (AllDigits 10) tells_digits

pub decimal_read : (k : ℕ) (word : List ℕ) (n : ℕ) → 2 ^ k ≤ 2 ^ 64 → ParsesUnsigned {E = ℕ} k 10 word (Ok n)
    → get_or word 0 0 ≢ 43 → (get_or word 0 0 ≡ 48 → length word ≡ 1) → decimal n ≡ word
decimal_read k word n top read no_sign no_zero =
    let p = parse_plain own {E = ℕ} k word (Ok n) read no_sign in
    ap decimal p.1 ∙ decimal-digits_value own word p.0.0 p.0.1 no_zero (omega (arith, p.0.2, top))
