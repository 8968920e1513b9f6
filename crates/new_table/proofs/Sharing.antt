-- The loop that compares two paths: how many bytes of shared directories are found so far. Assumes nothing.
use Rattle.std.specs.Prelude.{ℕ, zero, suc, ◌+◌, ◌<◌, ◌≤◌, ◌≡◌, refl, true, false, cond, List, [], ◌∷◌, length, drop, get_or, eqb}
use Rattle.std.proofs.Common.{arith, drop-cons, eq-eqb, eqb-true}
use Rattle.std.proofs.lemmas.List.{drop_all}
use Rattle.refusal.specs.Laws.Tests.{is_false}
use Rattle.wish_list.specs.Paths.{is_slash}
use Rattle.new_table.specs.Inner.Steps.{shared_from, shared_bytes}

-- n bytes are shared directories among the first i, which are the same in both
pub record Sharing (before path : List ℕ) (i n : ℕ) : Type 0 where
  pub within : n ≤ i
  pub more : 0 < shared_bytes (drop i before) (drop i path) → shared_bytes before path ≡ i + shared_bytes (drop i before) (drop i path)
  pub last : shared_bytes (drop i before) (drop i path) ≡ 0 → shared_bytes before path ≡ n

-- the step at byte i
module _ (before path : List ℕ) (i n : ℕ) (s : Sharing before path i n) (in_before : i < length before) (in_path : i < length path) where
  here : shared_bytes (drop i before) (drop i path) ≡ cond (eqb (get_or before i 0) (get_or path i 0)) (shared_from (get_or path i 0) (shared_bytes (drop (suc i) before) (drop (suc i) path))) 0
  unfolding shared_bytes
  here = rw (drop-cons before i 0 in_before, drop-cons path i 0 in_path) refl

  pub sharing-differ : (get_or before i 0 ≡ get_or path i 0 → ⊥) → shared_bytes before path ≡ n
  sharing-differ d =
      let e : eqb (get_or before i 0) (get_or path i 0) ≡ false = is_false _ (λ h. d (eqb-true _ _ h)) in
      s.last (rw (here, e) refl)

  same : get_or before i 0 ≡ get_or path i 0 → shared_bytes (drop i before) (drop i path) ≡ shared_from (get_or path i 0) (shared_bytes (drop (suc i) before) (drop (suc i) path))
  same e = rw (here, eq-eqb (get_or before i 0) (get_or path i 0) e) refl

  pub sharing-slash : (i' n' : ℕ) → i' ≡ i + 1 → n' ≡ i + 1 → get_or before i 0 ≡ get_or path i 0 → get_or path i 0 ≡ 0x2F → Sharing before path i' n'
  sharing-slash i' n' p q e z =
      let k : i' ≡ suc i = omega arith in
      let l : n' ≡ suc i = omega arith in
      rw (k, l) (go (shared_bytes (drop (suc i) before) (drop (suc i) path)) refl)
    where
      one : is_slash (get_or path i 0) ≡ true
      one = eq-eqb (get_or path i 0) 0x2F z

      go : (r : ℕ) → shared_bytes (drop (suc i) before) (drop (suc i) path) ≡ r → Sharing before path (suc i) (suc i)
      go zero q =
          let f : shared_bytes (drop i before) (drop i path) ≡ 1 = rw (same e, q, one) refl in
          record { within = omega arith; more = λ h. absurd (omega arith); last = λ h. omega (arith, s.more (omega arith)) }
      go (suc r) q =
          let f : shared_bytes (drop i before) (drop i path) ≡ suc (suc r) = rw (same e, q) refl in
          record { within = omega arith; more = λ h. omega (arith, s.more (omega arith)); last = λ h. absurd (omega arith) }

  pub sharing-more : (i' : ℕ) → i' ≡ i + 1 → get_or before i 0 ≡ get_or path i 0 → (get_or path i 0 ≡ 0x2F → ⊥) → Sharing before path i' n
  sharing-more i' p e z =
      let k : i' ≡ suc i = omega arith in
      rw k (go (shared_bytes (drop (suc i) before) (drop (suc i) path)) refl)
    where
      none : is_slash (get_or path i 0) ≡ false
      none = is_false _ (λ h. z (eqb-true _ _ h))

      go : (r : ℕ) → shared_bytes (drop (suc i) before) (drop (suc i) path) ≡ r → Sharing before path (suc i) n
      go zero q =
          let f : shared_bytes (drop i before) (drop i path) ≡ 0 = rw (same e, q, none) refl in
          record { within = omega (arith, s.within); more = λ h. absurd (omega arith); last = λ h. s.last f }
      go (suc r) q =
          let f : shared_bytes (drop i before) (drop i path) ≡ suc (suc r) = rw (same e, q) refl in
          record { within = omega (arith, s.within); more = λ h. omega (arith, s.more (omega arith)); last = λ h. absurd (omega arith) }

-- past the end of one of them
pub sharing-all : (before path : List ℕ) (i n : ℕ) → Sharing before path i n → (length before ≤ i) → shared_bytes before path ≡ n
unfolding shared_bytes
sharing-all before path i n s h = s.last (rw (drop_all i before h) refl)

shared_bytes-none : (before : List ℕ) → shared_bytes before [] ≡ 0
unfolding shared_bytes
shared_bytes-none [] = refl
shared_bytes-none (a ∷ before) = refl

pub sharing-all_path : (before path : List ℕ) (i n : ℕ) → Sharing before path i n → (length path ≤ i) → shared_bytes before path ≡ n
sharing-all_path before path i n s h = s.last (rw (drop_all i path h) (shared_bytes-none (drop i before)))
