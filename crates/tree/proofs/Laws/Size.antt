-- The size of a written table, entry by entry, and with one entry more. Assumes nothing.
use Rattle.std.specs.Prelude.{ℕ, suc, ◌+◌, ◌-◌, ◌*◌, ◌<◌, ◌≡◌, length, get_or, take, drop}
use Rattle.std.proofs.Common.{sym, ap, ◌∙◌, arith, length-append, take-append-drop}
use mathlib.Core.List.{List, ◌∷◌, ◌++◌, tail}
use Rattle.tree.specs.Table.{Node, directory, name_of, empty_root, texts_of, encode}
use Rattle.tree.specs.Inner.WellFormed.{IsWellFormed}
use Rattle.tree.specs.Insert.{splice, insert_at}
use Rattle.tree.proofs.Laws.InsertLaws.{length-insert}
use Rattle.tree.proofs.Laws.PatchLaws.{texts-splice, tail-splice, length-tail}
use Rattle.tree.proofs.Laws.WellNested.{next-bounds}
use Rattle.tree.proofs.Laws.Writing.{texts-append, text_start, start_first, start-next, start-end}
use Rattle.tree.proofs.Laws.WrittenEntries.{length-encode}

-- ---- entry by entry

-- the records of the entries before k, and their texts
abbrev pub size_to : List Node → ℕ → ℕ
size_to nodes k = 12 * k + text_start nodes k

pub size-root : (nodes : List Node) → size_to nodes 1 ≡ 12
size-root nodes = omega (arith, start_first nodes)

pub size-next : (nodes : List Node) (k : ℕ) → 0 < k → k < length nodes → size_to nodes (k + 1) ≡ size_to nodes k + (12 + length (name_of (get_or nodes k empty_root)) + 1)
size-next nodes k h l = omega (arith, start-next nodes k h l)

pub size-whole : (nodes : List Node) → size_to nodes (length nodes) ≡ length (encode nodes)
size-whole nodes = omega (arith, start-end nodes, length-encode nodes)

-- ---- one entry more

module _ (nodes : List Node) (p q : ℕ) (nm : List ℕ) (new : Node) (w : IsWellFormed nodes) (dir : get_or nodes p empty_root ≡ directory nm q) (p<n : p < length nodes) where
  tail-is : tail (insert_at p new nodes) ≡ splice p new 1 (q - 1) (tail nodes)
  unfolding insert_at
  tail-is = let b = next-bounds nodes p q nm w dir p<n in rw dir (tail-splice p new q nodes (omega arith) b.1)

  pub texts-grow : length (texts_of (tail (insert_at p new nodes))) ≡ length (texts_of (tail nodes)) + suc (length (name_of new))
  texts-grow =
      let b = next-bounds nodes p q nm w dir p<n in
      let xs : List Node = tail nodes in
      let j : ℕ = q - 1 in
      let l : suc (length xs) ≡ length nodes = length-tail nodes (omega arith) in
      let e : length (texts_of xs) ≡ length (texts_of (take j xs)) + length (texts_of (drop j xs)) =
      ap length (ap texts_of (sym (take-append-drop j xs)) ∙ texts-append (take j xs) (drop j xs)) ∙ length-append (texts_of (take j xs)) (texts_of (drop j xs)) in
      rw (tail-is, texts-splice p new 1 j xs (omega arith), length-append (texts_of (take j xs)) (name_of new ++ (0 ∷ texts_of (drop j xs))), length-append (name_of new) (0 ∷ texts_of (drop j xs))) (omega arith)

  pub size-insert : length (encode (insert_at p new nodes)) ≡ length (encode nodes) + (12 + length (name_of new) + 1)
  size-insert = omega (arith, length-encode (insert_at p new nodes), length-encode nodes, length-insert nodes p q nm new w dir p<n, texts-grow)
