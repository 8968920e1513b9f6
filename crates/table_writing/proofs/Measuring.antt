-- The size of the entries before k, over the turns of the loop that measures. Assumes nothing.
use Prim.Native.Nat.{ℕ, ◌+◌, ◌-◌, ◌*◌, ◌≤◌, ◌<◌}
use mathlib.Core.Path.{◌≡◌, sym, ap, ◌∙◌}
use mathlib.Core.List.{List, tail}
use native.Mathlib.Omega.{arith}
use borrow.Author.Tests.{lt-ltb, le-ltb}
use lib.ListN.{length, get_or}
use Rattle.tree.specs.Table.{name_of, empty_root, count, name_offset, name_at, nodes_of, texts_of, encode}
use Rattle.tree.proofs.Laws.WrittenEntries.{length-encode}
use Rattle.tree.proofs.Laws.Accepted.{length-nodes_of, name_of-node_at}
use Rattle.tree.proofs.Laws.Size.{size_to, size-root, size-next, size-whole}
use Rattle.tree.proofs.Laws.Writing.{start-inside, start-end}
use Rattle.std.specs.Prelude.{Ok, Err}
use Rattle.refusal.specs.declared.Refusal.TheVariants.{LimitOrMemory}
use Rattle.table_writing.specs.Inner.Valid.{IsValid, name_size}
use Rattle.table_writing.specs.Inner.Measure.{measure_of}
use Rattle.table_writing.proofs.Nesting.{count-is, node_at_lem}

-- the length of a name that was read
pub name-length : (tab : List ℕ) (n k : ℕ) (name : List ℕ) → n ≡ count tab → name ≡ name_at tab (count tab) (name_offset tab k) → length name ≡ name_size tab n k
unfolding name_size
name-length tab n k name e r = rw e (ap length r)

-- the entries before k of a table of n are measured, and their texts do not pass the limit
pub record Upto (tab : List ℕ) (n size k : ℕ) : Type 0 where
  pub valid : IsValid tab n
  pub low : 0 < k
  pub high : k ≤ n
  pub sized : size ≡ size_to (nodes_of tab) k
  pub short : size ≤ 12 * k + 1048576

pub measure-root : (tab : List ℕ) (n size : ℕ) → IsValid tab n → size ≡ 12 → Upto tab n size 1
measure-root tab n size v e = record { valid = v; low = omega arith; high = v.some; sized = e ∙ sym (size-root (nodes_of tab)); short = omega arith }

module _ (tab : List ℕ) (n size k : ℕ) (u : Upto tab n size k) where
  entries : length (nodes_of tab) ≡ n
  entries = length-nodes_of tab ∙ count-is tab n u.valid

  module _ (name : ℕ) (more : k < n) (e : name ≡ name_size tab n k) where
    named : name ≡ length (name_of (get_or (nodes_of tab) k empty_root))
    unfolding name_size
    named = rw (node_at_lem tab n k u.valid u.low more, name_of-node_at tab n k) e

    pub measure-next : (size' : ℕ) → size' ≡ size + 12 + name + 1 → name < 1048576 - (size - 12 * k) → Upto tab n size' (k + 1)
    measure-next size' f h =
        let next = size-next (nodes_of tab) k u.low (omega (arith, entries)) in
        record { valid = u.valid; low = omega arith; high = omega arith; sized = omega (arith, u.sized, named); short = omega (arith, u.sized, u.short) }

    pub measure-past : 1048576 - (size - 12 * k) ≤ name → Err LimitOrMemory ≡ measure_of tab
    unfolding measure_of
    measure-past h =
        rw (lt-ltb 1048576 (length (texts_of (tail (nodes_of tab))))
        (omega (arith, u.sized, named, start-inside (nodes_of tab) k u.low (omega (arith, entries)))))

  pub measure-whole : n ≤ k → Ok size ≡ measure_of tab
  unfolding measure_of
  measure-whole h =
      let z : k ≡ length (nodes_of tab) = omega (arith, u.high, entries) in
      let s : size ≡ size_to (nodes_of tab) (length (nodes_of tab)) = rw z at u.sized in
      rw (le-ltb 1048576 (length (texts_of (tail (nodes_of tab)))) (omega (arith, u.short, start-end (nodes_of tab))), s, size-whole (nodes_of tab))

-- where the texts' size is known at once
module _ (tab : List ℕ) (texts : ℕ) (e : texts ≡ length (texts_of (tail (nodes_of tab)))) where
  pub texts-past : 1048576 < texts → Err LimitOrMemory ≡ measure_of tab
  unfolding measure_of
  texts-past h = rw (lt-ltb 1048576 (length (texts_of (tail (nodes_of tab)))) (omega (arith, e)))

  pub texts-whole : (n : ℕ) → n ≡ count tab → texts ≤ 1048576 → Ok (12 * n + texts) ≡ measure_of tab
  unfolding measure_of
  texts-whole n c h =
      let s : 12 * n + texts ≡ length (encode (nodes_of tab)) = omega (arith, e, length-encode (nodes_of tab), length-nodes_of tab) in
      rw (le-ltb 1048576 (length (texts_of (tail (nodes_of tab)))) (omega (arith, e)), s)
