-- Places of texts that are kept while a name is looked for: 32 of them, and the text at each that is there differs from the name.
use Prim.Native.Nat.{ℕ, ◌<◌}
use mathlib.Core.Path.{◌≡◌, sym, ◌∙◌}
use mathlib.Core.Bool.{false}
use mathlib.Core.List.{List}
use mathlib.Core.Logic.{⊎_elim}
use native.Mathlib.Omega.{arith}
use lib.ListN.{length, get_or, set, replicate, length-set, length-replicate, get_or-replicate}
use lib.Seq.{get_or-set_same, get_or-set_other}
use Rattle.std.specs.Prelude.{Option, Some, None}
use Rattle.refusal.specs.Laws.Tests.{lt-or-le}
use Rattle.endian.specs.Bytes.{are_same_bytes}
use Rattle.table.specs.Inner.Texts.{text_at}

pub record Unlike (T nm : List ℕ) (s : List (Option ℕ)) : Type 0 where
  pub slots : length s ≡ 32
  pub each : (i at : ℕ) → i < 32 → get_or s i None ≡ Some at → are_same_bytes (text_at T at) nm ≡ false

pub unlike-start : (T nm : List ℕ) → Unlike T nm (replicate 32 None)
unlike-start T nm = record { slots = length-replicate {A = Option ℕ} 32 None; each = λ i at l h. let e = sym (get_or-replicate {A = Option ℕ} 32 i None None l) ∙ h in cc }

pub unlike-turn : (T nm : List ℕ) (s : List (Option ℕ)) (i place : ℕ) → Unlike T nm s → i < 32 → are_same_bytes (text_at T place) nm ≡ false → Unlike T nm (set s i (Some place))
unlike-turn T nm s i place u l e = record {
  slots = length-set s i (Some place) ∙ u.slots;
  each = λ j at b. ⊎_elim (λ ji. other j at b (λ q. omega arith)) (λ ij. ⊎_elim (λ q. other j at b (λ r. omega arith)) (λ q. let f : j ≡ i = omega arith in rw f (here at)) (lt-or-le i j)) (lt-or-le j i);
}
  where
    here : (at : ℕ) → get_or (set s i (Some place)) i None ≡ Some at → are_same_bytes (text_at T at) nm ≡ false
    here at h =
        let s : Some place ≡ Some at = sym (get_or-set_same s i (Some place) None (omega (arith, u.slots))) ∙ h in
        let f : at ≡ place = cc in
        rw f e

    other : (j at : ℕ) → j < 32 → (j ≡ i → ⊥) → get_or (set s i (Some place)) j None ≡ Some at → are_same_bytes (text_at T at) nm ≡ false
    other j at b n = rw (get_or-set_other s i j (Some place) None n) (u.each j at b)
