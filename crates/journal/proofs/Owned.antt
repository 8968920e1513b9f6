-- What copies and steps write leaves an image the journal's. Assumes nothing.
use Rattle.std.proofs.Common.{◌≡◌, ◌⊎◌, inl, inr, ⊎_elim, ℕ, ◌+◌, ◌≤◌, ◌<◌, ◌==◌, ◌&&◌, Bool, true, List, [], ◌∷◌, length, get_or, drop, sym, ◌∙◌, ap, arith, ext_get_or, length-take, length-drop}
use Rattle.std.proofs.lemmas.Bool.{and_parts}
use Rattle.endian.specs.Bytes.{span, are_same_bytes}
use Rattle.endian.specs.Laws.Stored.{get_d-span}
use Rattle.journal.specs.declared.plan.Copying.{Copying}
use Rattle.journal.specs.declared.plan.Step.{Step}
use Rattle.journal.specs.Journal.{number_at, is_owner, applies, can_write, copying_in, steps_in, step_fits, copying_fits, steps_fit, record_fits, is_whole}
use Rattle.journal.specs.Disk.{Torn}
use Rattle.journal.specs.Inner.Carried.{IsCovered, LooseBytes}
use Rattle.journal.proofs.Copies.{cases_in, torn_none}
use Rattle.journal.proofs.Fitting.{IsPlace, can_write-place, copying_fits-place, step_fits-place}

-- two lists of one length that agree on a span have the same span, past the end too
span_same : (s t : List ℕ) (at n : ℕ) → length s ≡ length t → ((i : ℕ) → i < n → get_or s (at + i) 0 ≡ get_or t (at + i) 0) → span s at n ≡ span t at n
span_same s t at n long same =
    ext_get_or 0 (span s at n) (span t at n) (omega (arith, length-take n (drop at s), length-take n (drop at t), length-drop at s, length-drop at t))
    (λ i lt. let small : i < n = omega (arith, length-take n (drop at s)) in get_d-span s at n i small ∙ same i small ∙ sym (get_d-span t at n i small))

-- a place in the header that no edit writes
abbrev IsKept : ℕ → Type 0
IsKept i = (i < 0x428) ⊎ ((0x430 ≤ i) × (i < 0x440))

-- whose the journal is stands in the length and in those places
owner_of : List ℕ → ℕ → ℕ → List ℕ → List ℕ → Bool
owner_of journal number long front rest =
    number_at journal 2 == long && number_at journal 10 == number
    && are_same_bytes front (span journal 178 0x428) && are_same_bytes rest (span journal 1250 0x10)

module _ (journal image image' : List ℕ) (number : ℕ) where
  owner-kept : length image' ≡ length image → ((i : ℕ) → IsKept i → get_or image' i 0 ≡ get_or image i 0)
      → is_owner journal number image' ≡ is_owner journal number image
  unfolding owner_of
  owner-kept long same =
      let front : span image' 0 0x428 ≡ span image 0 0x428 = span_same image' image 0 0x428 long (λ i lt. same (0 + i) (inl (omega arith))) in
      let rest : span image' 0x430 0x10 ≡ span image 0x430 0x10 =
      span_same image' image 0x430 0x10 long (λ i lt. same (0x430 + i) (inr (omega arith, omega arith))) in
      λ k. owner_of journal number (long k) (front k) (rest k)

  applies-kept : length image' ≡ length image → is_owner journal number image' ≡ is_owner journal number image
      → applies journal number image' ≡ applies journal number image
  applies-kept long owner = λ k. owner k && copying_fits (long k) (copying_in journal) && steps_fit journal (long k) (steps_in journal) && record_fits journal && is_whole journal

  not_kept : (long at n i : ℕ) → IsPlace long at n → at ≤ i → i < at + n → IsKept i → ⊥
  not_kept long at n i place le lt kept = grind arith

  torn-kept : (at n i : ℕ) → IsPlace (length image) at n → Torn at n image image' → IsKept i → get_or image' i 0 ≡ get_or image i 0
  torn-kept at n i place torn kept =
      ⊎_elim (λ inside. absurd (not_kept (length image) at n i place inside.0 inside.1 kept)) (⊎_elim (torn.below i) (torn.above i)) (cases_in at n i)

  not_covered : (source : List ℕ) (long : ℕ) (steps : List Step) (i : ℕ) → steps_fit source long steps ≡ true → IsCovered steps i → IsKept i → ⊥
  unfolding steps_fit
  not_covered source long [] i fits covered kept = covered
  not_covered source long (s ∷ steps) i fits covered kept =
      let p = and_parts (step_fits source long s) (steps_fit source long steps) fits in
      ⊎_elim
      (λ here. ⊎_elim (λ (none : s.len ≡ 0). absurd (omega (arith, here.0, here.1))) (λ place. not_kept long s.at s.len i place.0 here.0 here.1 kept)
      (step_fits-place source long s p.0))
      (λ there. not_covered source long steps i p.1 there kept)
      covered

  pub owner_torn : (at n : ℕ) → can_write (length image) at n ≡ true → Torn at n image image' → is_owner journal number image' ≡ is_owner journal number image
  owner_torn at n can torn = owner-kept torn.same_length (λ i. torn-kept at n i (can_write-place (length image) at n can) torn)

  pub owner_copied : (copy : Copying) → copying_fits (length image) copy ≡ true → Torn copy.to copy.len image image'
      → is_owner journal number image' ≡ is_owner journal number image
  owner_copied copy fits torn =
      owner-kept torn.same_length
      (λ i kept. ⊎_elim
      (λ (none : copy.len ≡ 0). ap (λ (s : List ℕ). get_or s i 0) (torn_none copy.to image image' (rw none at torn)))
      (λ place. torn-kept copy.to copy.len i place.0 torn kept)
      (copying_fits-place (length image) copy fits))

  -- the steps may be those of another journal
  pub owner_loose : (source : List ℕ) (steps : List Step) → steps_fit source (length image) steps ≡ true → LooseBytes steps image image'
      → is_owner journal number image' ≡ is_owner journal number image
  owner_loose source steps fits loose =
      owner-kept loose.same_length (λ i kept. ⊎_elim (λ same. same) (λ covered. absurd (not_covered source (length image) steps i fits covered kept))
      (loose.each i))

  pub applies-torn : (copy : Copying) → copying_fits (length image) copy ≡ true → Torn copy.to copy.len image image'
      → applies journal number image' ≡ applies journal number image
  applies-torn copy fits torn = applies-kept torn.same_length (owner_copied copy fits torn)

  pub applies-loose : (source : List ℕ) (steps : List Step) → steps_fit source (length image) steps ≡ true → LooseBytes steps image image'
      → applies journal number image' ≡ applies journal number image
  applies-loose source steps fits loose = applies-kept loose.same_length (owner_loose source steps fits loose)
