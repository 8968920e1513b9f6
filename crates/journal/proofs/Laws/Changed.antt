-- A journal in which a byte is another than the one that was noted. Assumes nothing.
use Rattle.std.proofs.Common.{◌≡◌, ◌≢◌, ⊎_elim, ℕ, zero, suc, ◌+◌, ◌-◌, ◌<◌, ◌≤◌, ◌&&◌, nat_le, true, false, List, [], ◌∷◌, ◌++◌, length, take, drop, refl, sym, ◌∙◌, ap, arith, append_assoc, length-append, length-drop, length-take-le, take-append-drop}
use Rattle.std.proofs.lemmas.Bool.{and_parts, eqb-true, false_from_ne_true, cases_lt}
use Rattle.std.proofs.lemmas.List.{take-append-le, drop-append-le}
use Rattle.endian.specs.Bytes.{span, be32}
use Rattle.journal.specs.Journal.{number_at, sum_from, noted_end, is_whole}
use Rattle.journal.proofs.Numbers.{number_behind}
use Rattle.journal.proofs.Sums.{sum_from-another}

-- a list up to a byte and on from it
take-past : (f rest : List ℕ) (b m n : ℕ) → n ≡ length f + suc m → take n (f ++ (b ∷ rest)) ≡ f ++ (b ∷ take m rest)
take-past [] rest b m zero is = absurd (omega (arith, is))
take-past [] rest b m (suc n) is = let e : n ≡ m = omega (arith, is) in ap (λ (k : ℕ). b ∷ take k rest) e
take-past (x ∷ f) rest b m zero is = absurd (omega (arith, is))
take-past (x ∷ f) rest b m (suc n) is = ap (λ (l : List ℕ). x ∷ l) (take-past f rest b m n (omega (arith, is)))

-- eight bytes of which one is another are another number
number-another : (q rest : List ℕ) (a b : ℕ) → length q < 8 → number_at (q ++ (b ∷ rest)) 0 ≡ number_at (q ++ (a ∷ rest)) 0 → a ≡ b
unfolding be32
number-another [] rest a b few same = omega arith
number-another (x0 ∷ []) rest a b few same = omega arith
number-another (x0 ∷ x1 ∷ []) rest a b few same = omega arith
number-another (x0 ∷ x1 ∷ x2 ∷ []) rest a b few same = omega arith
number-another (x0 ∷ x1 ∷ x2 ∷ x3 ∷ []) rest a b few same = omega arith
number-another (x0 ∷ x1 ∷ x2 ∷ x3 ∷ x4 ∷ []) rest a b few same = omega arith
number-another (x0 ∷ x1 ∷ x2 ∷ x3 ∷ x4 ∷ x5 ∷ []) rest a b few same = omega arith
number-another (x0 ∷ x1 ∷ x2 ∷ x3 ∷ x4 ∷ x5 ∷ x6 ∷ []) rest a b few same = omega arith
number-another (x0 ∷ x1 ∷ x2 ∷ x3 ∷ x4 ∷ x5 ∷ x6 ∷ x7 ∷ q) rest a b few same = absurd (omega arith)

module _ (front rest : List ℕ) (a b : ℕ) (behind_gates : 2 ≤ length front) where
  abbrev noted : List ℕ
  noted = front ++ (a ∷ rest)

  abbrev changed : List ℕ
  changed = front ++ (b ∷ rest)

  -- the number behind the byte is the same
  number-behind : (at : ℕ) → length front < at → number_at changed at ≡ number_at noted at
  number-behind at lt = past b ∙ sym (past a)
    where
      past : (c : ℕ) → number_at (front ++ (c ∷ rest)) at ≡ number_at rest (at - (length front + 1))
      past c =
          let p : List ℕ = front ++ (c ∷ []) in
          let e : length p + (at - (length front + 1)) ≡ at = omega (arith, length-append front (c ∷ [])) in
          let joined : p ++ rest ≡ front ++ (c ∷ rest) = append_assoc front (c ∷ []) rest in
          rw (e, joined) at (number_behind p rest (at - (length front + 1)))

  -- what is summed, where the byte is in it
  summed : (c end : ℕ) → length front < end → span (front ++ (c ∷ rest)) 2 (end - 2) ≡ drop 2 front ++ (c ∷ take (end - (length front + 1)) rest)
  summed c end lt =
      let f : List ℕ = drop 2 front in
      let n : end - 2 ≡ length f + suc (end - (length front + 1)) = omega (arith, length-drop 2 front) in
      ap (λ (l : List ℕ). take (end - 2) l) (drop-append-le 2 front (c ∷ rest) behind_gates) ∙ take-past f rest c (end - (length front + 1)) (end - 2) n

  -- and where it is behind it
  summed_before : (c end : ℕ) → end ≤ length front → span (front ++ (c ∷ rest)) 2 (end - 2) ≡ take (end - 2) (drop 2 front)
  summed_before c end le =
      ap (λ (l : List ℕ). take (end - 2) l) (drop-append-le 2 front (c ∷ rest) behind_gates)
      ∙ take-append-le (end - 2) (drop 2 front) (c ∷ rest) (omega (arith, length-drop 2 front))

  -- the number in which the byte is
  number-in : (end : ℕ) → end ≤ length front → length front < end + 8 → number_at changed end ≡ number_at noted end → a ≡ b
  number-in end le lt same =
      number-another (drop end front) rest a b (omega (arith, length-drop end front)) (sym (at_end b) ∙ same ∙ at_end a)
    where
      at_end : (c : ℕ) → number_at (front ++ (c ∷ rest)) end ≡ number_at (drop end front ++ (c ∷ rest)) 0
      at_end c =
          let p : List ℕ = take end front in
          let e : length p + 0 ≡ end = omega (arith, length-take-le end front le) in
          let joined : p ++ (drop end front ++ (c ∷ rest)) ≡ front ++ (c ∷ rest) = sym (append_assoc p (drop end front) (c ∷ rest)) ∙ ap (λ (l : List ℕ). l ++ (c ∷ rest)) (take-append-drop end front) in
          rw (e, joined) at (number_behind p (drop end front ++ (c ∷ rest)) 0)

  whole_sum : (journal : List ℕ) (end : ℕ) → noted_end journal ≡ end → is_whole journal ≡ true → number_at journal end ≡ sum_from 0 (span journal 2 (end - 2))
  whole_sum journal end is whole = rw is at (eqb-true _ _ (and_parts (nat_le 1266 (noted_end journal) && nat_le (noted_end journal + 8) (length journal)) _ whole).1)

  -- a byte that is another is noticed, unless it is one of those that say where the sum stands
  pub changed_noticed : a < 256 → b < 256 → a ≢ b → is_whole noted ≡ true → noted_end changed ≡ noted_end noted → length front < noted_end noted + 8 → is_whole changed ≡ false
  changed_noticed small small' other whole same_end lt =
      let end : ℕ = noted_end noted in
      let was : number_at noted end ≡ sum_from 0 (span noted 2 (end - 2)) = whole_sum noted end refl whole in
      false_from_ne_true (is_whole changed) (λ still.
      let is : number_at changed end ≡ sum_from 0 (span changed 2 (end - 2)) = whole_sum changed end same_end still in
      ⊎_elim
      (λ inside.
      sum_from-another 0 (drop 2 front) (take (end - (length front + 1)) rest) a b small small' other
      (ap (sum_from 0) (sym (summed a end inside)) ∙ sym was ∙ sym (number-behind end inside) ∙ is ∙ ap (sum_from 0) (summed b end inside)))
      (λ past. other (number-in end past lt (is ∙ ap (sum_from 0) (summed_before b end past ∙ sym (summed_before a end past)) ∙ sym was)))
      (cases_lt (length front) end))
