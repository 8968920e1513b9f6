-- What a table that opens gives: it is accepted, and its names have no zero byte. Assumes nothing.
use Prim.Native.Nat.{ℕ, zero, suc, ◌<◌}
use mathlib.Core.Path.{◌≡◌, refl, ap}
use mathlib.Core.List.{List, [], ◌∷◌}
use lib.ListN.{get_or, drop}
use native.Mathlib.Omega.{arith}
use Rattle.tree.specs.Table.{count, empty_root, name_of, nodes_of, name_place, first_text}
use Rattle.tree.specs.Inner.Accepted.{IsAccepted}
use Rattle.table.proofs.Nodes.{opened, root-name}
use Rattle.table.proofs.Ended.{name-there}
use Rattle.table.specs.Inner.Held.{IsTable}

-- accepted, with some number of words
pub record Read (tab : List ℕ) : Type 0 where
  pub words : ℕ
  pub is : IsAccepted tab words

pub read-held : (tab : List ℕ) → IsTable tab → Read tab
read-held tab h = record { words = h.opens.words; is = opened tab h.bytes h.opens }

-- a text ends where its bytes end
up-twice : (s : List ℕ) → first_text (first_text s) ≡ first_text s
up-twice [] = refl
up-twice (zero ∷ s) = refl
up-twice (suc b ∷ s) = ap (λ (t : List ℕ). suc b ∷ t) (up-twice s)

pub whole-name : (tab : List ℕ) (k : ℕ) → k < count tab → first_text (name_of (get_or (nodes_of tab) k empty_root)) ≡ name_of (get_or (nodes_of tab) k empty_root)
whole-name tab zero h = rw (root-name tab 0 refl)
whole-name tab (suc k) h = rw (name-there tab (suc k) (omega arith) h) (up-twice (drop (name_place tab (suc k)) tab))
