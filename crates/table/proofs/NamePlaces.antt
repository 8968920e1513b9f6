-- Where the names of an accepted table stand in it. Assumes nothing.
use Prim.Native.Nat.{ℕ, zero, suc, ◌+◌, ◌*◌, ◌<◌}
use mathlib.Core.Path.{◌≡◌, refl}
use mathlib.Core.List.{List}
use native.Mathlib.Omega.{arith}
use lib.ListN.{length}
use Rattle.tree.specs.Table.{count, name_offset, name_place}
use Rattle.tree.specs.Inner.Accepted.{IsAccepted}

pub place_is : (tab : List ℕ) (k : ℕ) → (k ≡ 0 → ⊥) → name_place tab k ≡ 12 * count tab + name_offset tab k
place_is tab zero h = absurd (h refl)
place_is tab (suc k) h = refl

pub place_inside : {tab : List ℕ} {words : ℕ} → IsAccepted tab words → (k : ℕ) → 0 < k → k < count tab → name_place tab k < length tab
place_inside {tab} a k h l = rw (place_is tab k (λ e. omega arith)) (a.offsets k h l)
