-- The names of an accepted table as texts of it: each has its zero byte in the table. Assumes nothing.
use Prim.Native.Nat.{ℕ, ◌+◌, ◌-◌, ◌<◌}
use mathlib.Core.Path.{◌≡◌, sym, ◌∙◌}
use mathlib.Core.List.{List}
use native.Mathlib.Omega.{arith}
use lib.ListN.{length, get_or, take, drop}
use Rattle.tree.specs.Table.{empty_root, count, name_of, name_at, nodes_of, name_place, first_text}
use Rattle.tree.specs.Inner.Accepted.{IsAccepted}
use Rattle.table.specs.Inner.Texts.{text_at}
use Rattle.table.proofs.Nodes.{name-is}
use Rattle.table.proofs.NamePlaces.{place_is}
use Rattle.tree.proofs.Laws.Texts.{take-first_text}

-- the name of an entry past the root is the text at its place
pub name-there : (tab : List ℕ) (k : ℕ) → 0 < k → k < count tab → name_of (get_or (nodes_of tab) k empty_root) ≡ text_at tab (name_place tab k)
name-there tab k h l = rw (place_is tab k (λ e. omega arith)) (name-is tab k h l)

pub name-ended : {tab : List ℕ} {words : ℕ} → IsAccepted tab words → (k : ℕ) → 0 < k → k < count tab → name_place tab k + length (text_at tab (name_place tab k)) < length tab
unfolding name_at
name-ended {tab} a k h l = rw (place_is tab k (λ e. omega arith)) (a.names k h l)

-- the bytes of the table from the name's place on, as many as its text has
pub name-cut : (tab : List ℕ) (k place n : ℕ) → 0 < k → k < count tab → place ≡ name_place tab k → n ≡ length (text_at tab place)
    → take (place + n - place) (drop place tab) ≡ name_of (get_or (nodes_of tab) k empty_root)
name-cut tab k place n h l p e =
    let m : place + n - place ≡ length (first_text (drop place tab)) = omega (arith, e) in
    let f : name_of (get_or (nodes_of tab) k empty_root) ≡ text_at tab place = rw p (name-there tab k h l) in
    rw m (take-first_text (drop place tab) ∙ sym f)
