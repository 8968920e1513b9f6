-- The head of a journal, where its gates may differ, and as the front of the whole. Assumes nothing.
use Rattle.std.proofs.Common.{◌≡◌, refl, sym, ◌∙◌, ap, ℕ, ◌+◌, ◌-◌, ◌*◌, ◌^◌, ◌<◌, ◌≤◌, ◌==◌, min, ◌&&◌, nat_le, true, false, List, [], ◌∷◌, length, take, drop, get_or, arith, length-take, length-drop, length-take-le, get_or-drop}
use Rattle.std.proofs.lemmas.Bool.{and_parts, false_from_ne_true}
use Rattle.std.proofs.lemmas.List.{get_or-take, take-take, drop-take}
use Rattle.endian.specs.Bytes.{span, are_same_bytes}
use Rattle.endian.specs.Laws.Stored.{be32-same, length-span, same-eq, span_ext}
use Rattle.journal.specs.Journal.{number_at, copying_in, step_in, steps_in, record_count, is_owner, head_applies, copying_fits, steps_fit, sum_from, noted_end, is_whole}

-- two heads that agree behind the gates
pub record SameHead (l m : List ℕ) : Type 0 where
  pub long_first : 1266 ≤ length l
  pub long_second : 1266 ≤ length m
  pub each : (i : ℕ) → 2 ≤ i → i < 1266 → get_or l i 0 ≡ get_or m i 0

-- the front of a journal has its head
head-take : (journal : List ℕ) → 1266 ≤ length journal → SameHead (take 1266 journal) journal
head-take journal long = record {
  long_first = let e : length (take 1266 journal) ≡ 1266 = length-take-le 1266 journal long in omega arith;
  long_second = long;
  each = λ i from to. get_or-take 1266 journal i 0 to;
}

pub head_of : (head journal : List ℕ) → head ≡ take 1266 journal → length head ≡ 1266 → SameHead head journal
head_of head journal is long = rw is (head-take journal (omega (arith, length-take 1266 journal, ap length is, long)))

-- behind the gates all is the same
pub head_behind : (l m : List ℕ) → drop 2 l ≡ drop 2 m → 1266 ≤ length m → SameHead l m
head_behind l m same long = record {
  long_first = omega (arith, length-drop 2 l, length-drop 2 m, ap length same);
  long_second = long;
  each = λ i from to. let e : 2 + (i - 2) ≡ i = omega arith in
      rw e at (sym (get_or-drop 2 l (i - 2) 0) ∙ ap (λ (k : List ℕ). get_or k (i - 2) 0) same ∙ get_or-drop 2 m (i - 2) 0);
}

module _ (l m : List ℕ) (same : SameHead l m) where
  pub number_same : (at : ℕ) → 2 ≤ at → at + 8 ≤ 1266 → number_at l at ≡ number_at m at
  number_same at from to =
      let high = be32-same l m at (λ i lt. same.each (at + i) (omega arith) (omega arith)) in
      let low = be32-same l m (at + 4) (λ i lt. same.each (at + 4 + i) (omega arith) (omega arith)) in
      λ i. high i * 2 ^ 32 + low i

  pub copying_same : copying_in l ≡ copying_in m
  copying_same = λ i. record { from = number_same 34 (omega arith) (omega arith) i; to = number_same 42 (omega arith) (omega arith) i; len = number_same 50 (omega arith) (omega arith) i }

  step_same : (k : ℕ) → k < 5 → step_in l k ≡ step_in m k
  step_same k few = λ i. record {
    at = number_same (58 + 24 * k) (omega arith) (omega arith) i;
    len = number_same (66 + 24 * k) (omega arith) (omega arith) i;
    from = number_same (74 + 24 * k) (omega arith) (omega arith) i;
  }

  pub steps_same : steps_in l ≡ steps_in m
  steps_same = λ i. step_same 0 (omega arith) i ∷ step_same 1 (omega arith) i ∷ step_same 2 (omega arith) i ∷ step_same 3 (omega arith) i ∷ step_same 4 (omega arith) i ∷ []

  pub record_count_same : record_count l ≡ record_count m
  record_count_same = number_same 18 (omega arith) (omega arith)

  pub noted_end_same : noted_end l ≡ noted_end m
  noted_end_same =
      let from = number_same 74 (omega arith) (omega arith) in
      let len = number_same 66 (omega arith) (omega arith) in
      λ i. from i + len i

  pub owner_same : (number : ℕ) (image : List ℕ) → is_owner l number image ≡ is_owner m number image
  owner_same number image =
      let front = span_ext l m 178 0x428 (omega (arith, same.long_first)) (omega (arith, same.long_second)) (λ i lt. same.each (178 + i) (omega arith) (omega arith)) in
      let back = span_ext l m 1250 0x10 (omega (arith, same.long_first)) (omega (arith, same.long_second)) (λ i lt. same.each (1250 + i) (omega arith) (omega arith)) in
      rw (number_same 2 (omega arith) (omega arith), number_same 10 (omega arith) (omega arith), front, back) refl

-- whose a journal is, as its head and the first bytes of an image tell
module _ (head header image : List ℕ) (number : ℕ) (is : header ≡ take 0x440 image) where
  pub owner_by_header : is_owner head number image
      ≡ (number_at head 2 == length image && number_at head 10 == number && are_same_bytes (span header 0 0x428) (span head 178 0x428) && are_same_bytes (span header 0x430 0x10) (span head 1250 0x10))
  owner_by_header =
      let front : span header 0 0x428 ≡ span image 0 0x428 = ap (λ (l : List ℕ). take 0x428 l) is ∙ take-take 0x428 0x440 image (omega arith) in
      let back : span header 0x430 0x10 ≡ span image 0x430 0x10 = ap (λ (l : List ℕ). take 0x10 (drop 0x430 l)) is ∙ ap (λ (l : List ℕ). take 0x10 l) (drop-take 0x430 0x10 image) ∙ take-take 0x10 0x10 (drop 0x430 image) (omega arith) in
      rw (front, back) refl

  -- a header that is cut short is nobody's
  pub owner_short : length head ≡ 1266 → length header < 0x440 → is_owner head number image ≡ false
  owner_short long short = false_from_ne_true (is_owner head number image) (λ yes.
      let last : are_same_bytes (span image 0x430 0x10) (span head 1250 0x10) ≡ true = (and_parts _ _ yes).1 in
      let same : length (span image 0x430 0x10) ≡ length (span head 1250 0x10) = ap length (same-eq _ _ last) in
      let back : length (span head 1250 0x10) ≡ 0x10 = length-span head 1250 0x10 (omega (arith, long)) in
      let few : length (span image 0x430 0x10) ≤ length image - 0x430 = simp (length-take, length-drop) (omega arith) in
      let most : length header ≡ min 0x440 (length image) = ap length is ∙ length-take 0x440 image in
      omega (arith, same, back, few, most))

-- whether a journal can be carried out, as its head tells
pub applies_by_head : (head journal : List ℕ) (number : ℕ) (image : List ℕ) → head ≡ take 1266 journal → length head ≡ 1266
    → head_applies journal number image ≡ (is_owner head number image && copying_fits (length image) (copying_in head) && steps_fit journal (length image) (steps_in head) && (nat_le (record_count head) 4097 && nat_le (1266 + (record_count head - 1)) (length journal)))
applies_by_head head journal number image is long =
    let same : SameHead head journal = head_of head journal is long in
    let owner = owner_same head journal same number image in
    let copying = copying_same head journal same in
    let steps = steps_same head journal same in
    let count = record_count_same head journal same in
    sym (λ i. owner i && copying_fits (length image) (copying i) && steps_fit journal (length image) (steps i) && (nat_le (count i) 4097 && nat_le (1266 + (count i - 1)) (length journal)))

-- whether it is whole, as its head tells where to look
pub whole_by_head : (head journal : List ℕ) → head ≡ take 1266 journal → length head ≡ 1266
    → is_whole journal ≡ (nat_le 1266 (noted_end head) && nat_le (noted_end head + 8) (length journal) && number_at journal (noted_end head) == sum_from 0 (span journal 2 (noted_end head - 2)))
whole_by_head head journal is long =
    let end : noted_end journal ≡ noted_end head = sym (noted_end_same head journal (head_of head journal is long)) in
    λ i. nat_le 1266 (end i) && nat_le (end i + 8) (length journal) && number_at journal (end i) == sum_from 0 (span journal 2 (end i - 2))
