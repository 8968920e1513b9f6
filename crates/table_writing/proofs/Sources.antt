-- A table that can be written anew, seen as its bytes: its entries stand in it. Assumes nothing.
use Rattle.std.specs.Prelude.{ℕ, ◌≡◌, ◌+◌, ◌-◌, ◌*◌, ◌≤◌, ◌<◌, List, length, take, drop}
use Rattle.std.proofs.Common.{ap, sym, ◌∙◌, arith}
use Rattle.tree.specs.Table.{count, kind, name_offset, first_text, name_at}
use Rattle.table_writing.specs.Inner.Valid.{name_size, IsValid}
use Rattle.table_writing.proofs.Nesting.{count-is}
use Rattle.tree.proofs.Laws.Texts.{take-first_text}

pub counted : (tab value : List ℕ) (n : ℕ) → IsValid tab n → tab ≡ value → n ≡ count value
counted tab value n v e = sym (count-is tab n v) ∙ ap count e

pub valid-seen : (tab value : List ℕ) (n : ℕ) → IsValid tab n → tab ≡ value → IsValid value (count value)
valid-seen tab value n v e = rw (← (counted tab value n v e), ← e) v

-- entry k
pub record Held (tab : List ℕ) (n k : ℕ) : Type 0 where
  pub inside : k < n
  pub few : n ≤ 16384
  pub whole : 12 * k + 12 ≤ length tab
  pub known : kind tab k ≤ 1

pub held : (tab value : List ℕ) (n k : ℕ) → IsValid tab n → tab ≡ value → k < count value → Held tab n k
held tab value n k v e h =
    let c = counted tab value n v e in
    let inside : k < n = omega arith in
    record { inside = inside; few = v.few; whole = omega (arith, v.whole); known = v.kinds k inside }

-- its name
module _ (tab value : List ℕ) (n k : ℕ) (v : IsValid tab n) (e : tab ≡ value) (some : 0 < k) (h : k < count value) (offset : ℕ) (read : offset ≡ name_offset tab k) where
  pub name-held : 12 * n + offset + length (first_text (drop (12 * n + offset) tab)) < length tab
  unfolding name_size name_at
  name-held = rw read (v.named k some (held tab value n k v e h).inside)

  pub name-read : (len : ℕ) → len ≡ length (first_text (drop (12 * n + offset) tab)) → take (12 * n + offset + len - (12 * n + offset)) (drop (12 * n + offset) tab) ≡ name_at value (count value) (name_offset value k)
  unfolding name_at
  name-read len l =
      let z : 12 * n + offset + len - (12 * n + offset) ≡ len = omega arith in
      rw (z, l, take-first_text (drop (12 * n + offset) tab), read, ← (counted tab value n v e), ← e)
