-- Numbers in base ten from a second side: the digits of a number, read, spell it; each is `0` to `9`; and only 0 begins with `0`.
-- Assumes nothing.
use Rattle.std.specs.Prelude.{ℕ, zero, suc, ◌+◌, ◌-◌, ◌*◌, ◌/◌, ◌%◌, ◌<◌, ◌≤◌, ◌≡◌, refl, Bool, true, false, cond, ◌&&◌, List, [], ◌∷◌, ◌++◌, length, get_or, ltb, leb}
use Rattle.std.proofs.Common.{sym, ap, ◌∙◌, arith, ltb-true, ltb-false, lt-ltb, le-ltb, le-leb, length-append}
use Rattle.std.proofs.Math.ListN.{get_or-append}
use Rattle.listing.specs.Decimal.{digits, decimal}
use Rattle.std.specs.List.{list_all}

-- ---- a number and its last digit

digits-small : (f n : ℕ) → n < 10 → digits (suc f) n ≡ (0x30 + n) ∷ []
unfolding digits
digits-small f n h = rw (lt-ltb n 10 h)

digits_more : (f n : ℕ) → 10 ≤ n → digits (suc f) n ≡ digits f (n / 10) ++ ((0x30 + n % 10) ∷ [])
unfolding digits
digits_more f n h = rw (le-ltb n 10 h)

-- how many more there could be does not matter
digits-enough : (f g n : ℕ) → n < f → n < g → digits f n ≡ digits g n
digits-enough zero g n h l = absurd (omega arith)
digits-enough (suc f) zero n h l = absurd (omega arith)
digits-enough (suc f) (suc g) n h l = go (ltb n 10) refl (digits-enough f g (n / 10))
  where
    go : (t : Bool) → ltb n 10 ≡ t → (n / 10 < f → n / 10 < g → digits f (n / 10) ≡ digits g (n / 10)) → digits (suc f) n ≡ digits (suc g) n
    go true e ih = digits-small f n (ltb-true n 10 e) ∙ sym (digits-small g n (ltb-true n 10 e))
    go false e ih =
        let q : 10 ≤ n = ltb-false n 10 e in
        digits_more f n q ∙ ap (λ (s : List ℕ). s ++ ((0x30 + n % 10) ∷ [])) (ih (omega arith) (omega arith)) ∙ sym (digits_more g n q)

pub decimal-small : (n : ℕ) → n < 10 → decimal n ≡ (0x30 + n) ∷ []
decimal-small n h = digits-small n n h

pub decimal-more : (n : ℕ) → 10 ≤ n → decimal n ≡ decimal (n / 10) ++ ((0x30 + n % 10) ∷ [])
decimal-more n h = digits_more n n h ∙ ap (λ (s : List ℕ). s ++ ((0x30 + n % 10) ∷ [])) (digits-enough n (suc (n / 10)) (n / 10) (omega arith) (omega arith))

-- ---- read back

-- the number that digits spell, behind others that spell m
unfoldable pub spelled : ℕ → List ℕ → ℕ
spelled m [] = m
spelled m (d ∷ ds) = spelled (10 * m + (d - 0x30)) ds

spelled-append : (m : ℕ) (a b : List ℕ) → spelled m (a ++ b) ≡ spelled (spelled m a) b
unfolding spelled
spelled-append m [] b = refl
spelled-append m (d ∷ a) b = spelled-append (10 * m + (d - 0x30)) a b

spelled-one : (m d : ℕ) → spelled m (d ∷ []) ≡ 10 * m + (d - 0x30)
unfolding spelled
spelled-one m d = refl

digits-spell : (f n : ℕ) → n < f → spelled 0 (digits f n) ≡ n
digits-spell zero n h = absurd (omega arith)
digits-spell (suc f) n h = go (ltb n 10) refl (digits-spell f (n / 10))
  where
    go : (t : Bool) → ltb n 10 ≡ t → (n / 10 < f → spelled 0 (digits f (n / 10)) ≡ n / 10) → spelled 0 (digits (suc f) n) ≡ n
    go true e ih = rw (digits-small f n (ltb-true n 10 e), spelled-one 0 (0x30 + n)) (omega arith)
    go false e ih =
        let q : 10 ≤ n = ltb-false n 10 e in
        rw (digits_more f n q, spelled-append 0 (digits f (n / 10)) ((0x30 + n % 10) ∷ []), ih (omega arith), spelled-one (n / 10) (0x30 + n % 10)) (omega arith)

pub decimal-spells : (n : ℕ) → spelled 0 (decimal n) ≡ n
decimal-spells n = digits-spell (suc n) n (omega arith)

-- ---- `0` to `9`

abbrev pub is_digit : ℕ → Bool
is_digit b = leb 0x30 b && leb b 0x39

list_all_append : (a b : List ℕ) → list_all is_digit a ≡ true → list_all is_digit b ≡ true → list_all is_digit (a ++ b) ≡ true
list_all_append [] b p q = q
list_all_append (d ∷ a) b p q = go (is_digit d) p (list_all_append a b)
  where
    go : (t : Bool) → (t && list_all is_digit a) ≡ true → (list_all is_digit a ≡ true → list_all is_digit b ≡ true → list_all is_digit (a ++ b) ≡ true) → (t && list_all is_digit (a ++ b)) ≡ true
    go true r ih = ih r q
    go false r ih = r

digit-is : (n : ℕ) → n < 10 → list_all is_digit ((0x30 + n) ∷ []) ≡ true
digit-is n h = rw (le-leb 0x30 (0x30 + n) (omega arith), le-leb (0x30 + n) 0x39 (omega arith))

digits-digits : (f n : ℕ) → list_all is_digit (digits f n) ≡ true
unfolding digits
digits-digits zero n = refl
digits-digits (suc f) n = go (ltb n 10) refl (digits-digits f (n / 10))
  where
    go : (t : Bool) → ltb n 10 ≡ t → list_all is_digit (digits f (n / 10)) ≡ true → list_all is_digit (cond t ((0x30 + n) ∷ []) (digits f (n / 10) ++ ((0x30 + n % 10) ∷ []))) ≡ true
    go true e ih = digit-is n (ltb-true n 10 e)
    go false e ih = list_all_append (digits f (n / 10)) ((0x30 + n % 10) ∷ []) ih (digit-is (n % 10) (omega arith))

pub decimal-digits : (n : ℕ) → list_all is_digit (decimal n) ≡ true
decimal-digits n = digits-digits (suc n) n

-- ---- only 0 begins with `0`

digits-some : (f n : ℕ) → n < f → 0 < length (digits f n)
digits-some zero n h = absurd (omega arith)
digits-some (suc f) n h = go (ltb n 10) refl
  where
    go : (t : Bool) → ltb n 10 ≡ t → 0 < length (digits (suc f) n)
    go true e = rw (digits-small f n (ltb-true n 10 e)) (omega arith)
    go false e = rw (digits_more f n (ltb-false n 10 e)) (omega (arith, length-append (digits f (n / 10)) ((0x30 + n % 10) ∷ [])))

digits-first : (f n : ℕ) → n < f → get_or (digits f n) 0 0 ≡ 0x30 → n ≡ 0
digits-first zero n h e = absurd (omega arith)
digits-first (suc f) n h e = go (ltb n 10) refl (digits-first f (n / 10))
  where
    go : (t : Bool) → ltb n 10 ≡ t → (n / 10 < f → get_or (digits f (n / 10)) 0 0 ≡ 0x30 → n / 10 ≡ 0) → n ≡ 0
    go true t≡ ih = omega (arith, rw (digits-small f n (ltb-true n 10 t≡)) at e)
    go false t≡ ih =
        let q : 10 ≤ n = ltb-false n 10 t≡ in
        let l : n / 10 < f = omega arith in
        let first : get_or (digits f (n / 10)) 0 0 ≡ 0x30 = sym (get_or-append (digits f (n / 10)) ((0x30 + n % 10) ∷ []) 0 0 (digits-some f (n / 10) l)) ∙ (rw (digits_more f n q) at e) in
        omega (arith, ih l first)

pub decimal-first : (n : ℕ) → get_or (decimal n) 0 0 ≡ 0x30 → n ≡ 0
decimal-first n e = digits-first (suc n) n (omega arith) e

-- ---- some numbers

pub vectors : (decimal 0 ≡ 0x30 ∷ []) × (decimal 9 ≡ 0x39 ∷ []) × (decimal 10 ≡ 0x31 ∷ 0x30 ∷ []) × (decimal 16384 ≡ 0x31 ∷ 0x36 ∷ 0x33 ∷ 0x38 ∷ 0x34 ∷ [])
unfolding digits
vectors = (refl, refl, refl, refl)
