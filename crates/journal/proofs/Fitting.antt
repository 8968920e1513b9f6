-- What the tests of a journal's copy and steps tell. Assumes nothing.
use Rattle.std.proofs.Common.{◌≡◌, ◌⊎◌, inl, inr, ⊎_elim, ℕ, ◌+◌, ◌≤◌, ◌==◌, ◌&&◌, true, nat_le, List, length, leb-true, eqb-true}
use Rattle.std.proofs.lemmas.Bool.{and_parts, or_cases}
use Rattle.journal.specs.declared.plan.Copying.{Copying}
use Rattle.journal.specs.declared.plan.Step.{Step}
use Rattle.journal.specs.Journal.{can_write, is_apart, copying_fits, has_source, step_fits, head_len}

-- in the image, behind the header or in one of the fields that edits write
abbrev pub IsPlace : ℕ → ℕ → ℕ → Type 0
IsPlace long at n = (at + n ≤ long) × ((0x440 ≤ at) ⊎ ((0x428 ≤ at) × (at + n ≤ 0x430)))

pub can_write-place : (long at n : ℕ) → can_write long at n ≡ true → IsPlace long at n
can_write-place long at n can =
    let p = and_parts (nat_le (at + n) long) _ can in
    (leb-true (at + n) long p.0, ⊎_elim (λ behind. inl (leb-true 0x440 at behind)) (λ field. inr (in_field field)) (or_cases (nat_le 0x440 at) _ p.1))
  where
    in_field : (nat_le 0x428 at && nat_le (at + n) 0x430) ≡ true → (0x428 ≤ at) × (at + n ≤ 0x430)
    in_field field = let q = and_parts (nat_le 0x428 at) (nat_le (at + n) 0x430) field in (leb-true 0x428 at q.0, leb-true (at + n) 0x430 q.1)

-- no byte, or a place for it and a source apart
pub copying_fits-place : (long : ℕ) (copy : Copying) → copying_fits long copy ≡ true
    → (copy.len ≡ 0) ⊎ (IsPlace long copy.to copy.len × (copy.from + copy.len ≤ long) × ((copy.from + copy.len ≤ copy.to) ⊎ (copy.to + copy.len ≤ copy.from)))
copying_fits-place long copy fits =
    ⊎_elim (λ none. inl (eqb-true copy.len 0 none))
    (λ some.
    let p = and_parts (can_write long copy.to copy.len && nat_le (copy.from + copy.len) long) (is_apart copy) some in
    let q = and_parts (can_write long copy.to copy.len) (nat_le (copy.from + copy.len) long) p.0 in
    inr (
      can_write-place long copy.to copy.len q.0,
      leb-true (copy.from + copy.len) long q.1,
      ⊎_elim (λ up. inl (leb-true (copy.from + copy.len) copy.to up)) (λ down. inr (leb-true (copy.to + copy.len) copy.from down))
          (or_cases (nat_le (copy.from + copy.len) copy.to) (nat_le (copy.to + copy.len) copy.from) p.1),
    ))
    (or_cases (copy.len == 0) _ fits)

-- no byte, or a place for it, and a source in the journal or zeros
pub step_fits-place : (journal : List ℕ) (long : ℕ) (s : Step) → step_fits journal long s ≡ true
    → (s.len ≡ 0) ⊎ (IsPlace long s.at s.len × ((s.from ≡ 0) ⊎ ((head_len ≤ s.from) × (s.from + s.len ≤ length journal))))
step_fits-place journal long s fits =
    ⊎_elim (λ none. inl (eqb-true s.len 0 none))
    (λ some. let p = and_parts (can_write long s.at s.len) (has_source journal s) some in inr (can_write-place long s.at s.len p.0, source p.1))
    (or_cases (s.len == 0) _ fits)
  where
    source : has_source journal s ≡ true → (s.from ≡ 0) ⊎ ((head_len ≤ s.from) × (s.from + s.len ≤ length journal))
    source has =
        ⊎_elim (λ zeros. inl (eqb-true s.from 0 zeros))
        (λ bytes. let q = and_parts (nat_le head_len s.from) (nat_le (s.from + s.len) (length journal)) bytes in
        inr (leb-true head_len s.from q.0, leb-true (s.from + s.len) (length journal) q.1))
        (or_cases (s.from == 0) _ has)
