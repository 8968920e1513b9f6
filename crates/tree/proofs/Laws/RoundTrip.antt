-- What is written reads as what was written, and is accepted exactly if the tree is within the limits. Assumes nothing.
use Rattle.std.specs.Prelude.{Ok}
use Rattle.std.specs.Prelude.{ℕ, suc, ◌+◌, ◌-◌, ◌*◌, ◌^◌, ◌<◌, ◌≤◌, ◌≡◌, Bool, not, get_or}
use Rattle.std.proofs.Math.Path.{refl}
use Rattle.std.proofs.Common.{ap, ◌∙◌, arith, length-append, drop_at}
use Rattle.std.proofs.Math.Bool.{true, false}
use mathlib.Core.List.{List, [], ◌∷◌, ◌++◌, tail, nil≢cons}
use borrow.Author.Tests.{ltb-false, le-ltb, lt-leb, not-false}
use Rattle.std.proofs.Math.ListN.{length}
use Rattle.std.proofs.Math.Dec.{ltb}
use Rattle.endian.specs.Bytes.{be32}
use Rattle.endian.specs.Laws.Stored.{be32-value}
use Rattle.refusal.specs.declared.Refusal.TheVariants.{LimitOrMemory}
use Rattle.refusal.specs.Refusal.{refuse}
use Rattle.refusal.specs.Laws.Chains.{refuse-passed}
use Rattle.tree.specs.Table.{Node, directory, kind, size_or_next, count, nodes_from, nodes_of, entries_verdict, walk, check, node_bytes, entries_bytes, texts_of, encode, is_shallow_from, is_shallow, limits}
use Rattle.tree.specs.Inner.WellFormed.{IsSound, IsWellFormed}
use Rattle.tree.proofs.Laws.WrittenEntries.{length-node_bytes, length-entries_bytes, entries-accepted, Reads, reads, reads-nodes, reads-walk, last-append, last-text, not-is_unended}

-- ---- a table that stores any parents, those of the entries of `parents`: nothing reads them

unfoldable pub encode_with : List Node → List Node → List ℕ
encode_with parents [] = []
encode_with parents (root ∷ xs) = node_bytes 0 0 root ++ (entries_bytes parents 1 0 xs ++ texts_of xs)

-- a written table stores its own
pub encode-own : (nodes : List Node) → encode nodes ≡ encode_with nodes nodes
unfolding encode encode_with
encode-own [] = refl
encode-own (root ∷ xs) = refl

pub length-encode_with : (parents nodes : List Node) → length (encode_with parents nodes) ≡ 12 * length nodes + length (texts_of (tail nodes))
unfolding encode_with texts_of
length-encode_with parents [] = refl
length-encode_with parents (r ∷ xs) =
    omega (arith, length-append (node_bytes 0 0 r) (entries_bytes parents 1 0 xs ++ texts_of xs), length-node_bytes 0 0 r, length-append (entries_bytes parents 1 0 xs) (texts_of xs), length-entries_bytes parents 1 0 xs)

-- ---- the whole table, of the root and the entries xs

abbrev whole : List Node → List Node
whole xs = directory [] (suc (length xs)) ∷ xs

module _ (parents xs : List Node) (few : suc (length xs) < 2 ^ 32) where
  abbrev tab : List ℕ
  tab = encode_with parents (whole xs)

  abbrev front : List ℕ
  front = node_bytes 0 0 (directory [] (suc (length xs))) ++ entries_bytes parents 1 0 xs

  front_length : length front ≡ 12 * suc (length xs) + 0
  front_length = omega (arith, length-append (node_bytes 0 0 (directory [] (suc (length xs)))) (entries_bytes parents 1 0 xs), length-entries_bytes parents 1 0 xs)

  texts-length : length tab - 12 * suc (length xs) ≡ length (texts_of xs)
  texts-length = omega (arith, length-encode_with parents (whole xs))

  tab-kind : kind tab 0 ≡ 1
  unfolding encode_with
  tab-kind = refl

  tab-next : size_or_next tab 0 ≡ suc (length xs)
  unfolding encode_with be32
  tab-next = be32-value (suc (length xs)) few

  tab-count : count tab ≡ suc (length xs)
  unfolding count
  tab-count = omega (arith, tab-next)

  pred-count : suc (length xs) - 1 ≡ length xs
  pred-count = omega arith

  tab-entries : entries_verdict tab 1 (length xs) ≡ Ok tt
  unfolding encode_with
  tab-entries = entries-accepted parents tab 1 0 xs (texts_of xs) refl

  tab-last : 12 * suc (length xs) < length tab → get_or tab (length tab - 1) 0 ≡ 0
  unfolding encode_with
  tab-last h = last-append front (texts_of xs) (omega (arith, texts-length)) ∙ last-text xs

  module _ (g : IsSound (suc (length xs)) (suc (length xs) ∷ []) 1 xs) where
    tab-reads : length (texts_of xs) ≤ 2 ^ 24 → Reads tab (suc (length xs)) 1 xs
    unfolding encode_with
    tab-reads texts =
        reads parents tab (suc (length xs)) 1 0 (suc (length xs) ∷ []) (texts_of xs) xs refl (drop_at front (texts_of xs) _ front_length) (omega arith) few g

    back : length (texts_of xs) ≤ 2 ^ 24 → nodes_of tab ≡ whole xs
    unfolding nodes_of
    back texts = rw (tab-count, pred-count) (ap (λ (l : List Node). directory [] (suc (length xs)) ∷ l) (reads-nodes tab (suc (length xs)) 1 xs (tab-reads texts)))

    judged : (words : ℕ) → check tab words ≡ limits (whole xs) words
    unfolding check limits is_shallow
    judged words =
        simp (
          tab-count,
          le-ltb (length tab) 12 (omega (arith, length-encode_with parents (whole xs))),
          tab-kind,
          pred-count,
          tab-entries,
          not-is_unended tab (suc (length xs)) tab-last,
          texts-length,
          tab-next,
          lt-leb (suc (length xs)) 0 (omega arith),
        )
        (ap (refuse (ltb 16384 (suc (length xs))) LimitOrMemory) (go (ltb 1048576 (length (texts_of xs))) refl))
      where
        go : (t : Bool) → ltb 1048576 (length (texts_of xs)) ≡ t →
            refuse t LimitOrMemory (refuse (ltb words (4 * (suc (length xs) + 2))) LimitOrMemory (walk tab (suc (length xs)) (suc (length xs) ∷ []) 1 (nodes_from tab (suc (length xs)) 1 (length xs)))) ≡
            refuse t LimitOrMemory (refuse (ltb words (4 * (suc (length xs) + 2))) LimitOrMemory (refuse (not (is_shallow_from (suc (length xs) ∷ []) 1 xs)) LimitOrMemory (Ok tt)))
        go true e = refl
        go false e =
            let h : length (texts_of xs) ≤ 1048576 = ltb-false 1048576 (length (texts_of xs)) e in
            let r : Reads tab (suc (length xs)) 1 xs = tab-reads (omega arith) in
            rw (reads-nodes tab (suc (length xs)) 1 xs r, reads-walk tab (suc (length xs)) 1 (suc (length xs) ∷ []) xs r g)

-- whatever parents are stored
pub nodes_of-encode_with : (parents nodes : List Node) → IsWellFormed nodes → length nodes < 2 ^ 32 → length (texts_of (tail nodes)) ≤ 2 ^ 24 → nodes_of (encode_with parents nodes) ≡ nodes
nodes_of-encode_with parents [] w few texts = cc w.root
nodes_of-encode_with parents (x ∷ xs) w few texts = rw w.root (back parents xs few w.sound texts)

pub check-encode_with : (parents nodes : List Node) (words : ℕ) → IsWellFormed nodes → length nodes < 2 ^ 32 → check (encode_with parents nodes) words ≡ limits nodes words
check-encode_with parents [] words w few = absurd (nil≢cons w.root)
check-encode_with parents (x ∷ xs) words w few = rw w.root (judged parents xs few w.sound words)

pub round_trip : (nodes : List Node) → IsWellFormed nodes → length nodes < 2 ^ 32 → length (texts_of (tail nodes)) ≤ 2 ^ 24 → nodes_of (encode nodes) ≡ nodes
round_trip nodes w few texts = rw encode-own (nodes_of-encode_with nodes nodes w few texts)

pub check-limits : (nodes : List Node) (words : ℕ) → IsWellFormed nodes → length nodes < 2 ^ 32 → check (encode nodes) words ≡ limits nodes words
check-limits nodes words w few = rw encode-own (check-encode_with nodes nodes words w few)

-- ---- within the limits

pub record Within (nodes : List Node) (words : ℕ) : Type 0 where
  pub few : length nodes ≤ 16384
  pub texts : length (texts_of (tail nodes)) ≤ 2 ^ 20
  pub room : 4 * (length nodes + 2) ≤ words
  pub depth : is_shallow nodes ≡ true

pub within-limits : (nodes : List Node) (words : ℕ) → limits nodes words ≡ Ok tt → Within nodes words
unfolding limits
within-limits nodes words e =
    let e₁ = refuse-passed (ltb 16384 (length nodes)) LimitOrMemory _ e in
    let e₂ = refuse-passed (ltb 1048576 (length (texts_of (tail nodes)))) LimitOrMemory _ e₁.1 in
    let e₃ = refuse-passed (ltb words (4 * (length nodes + 2))) LimitOrMemory _ e₂.1 in
    let e₄ = refuse-passed (not (is_shallow nodes)) LimitOrMemory _ e₃.1 in
    record { few = ltb-false _ _ e₁.0; texts = ltb-false _ _ e₂.0; room = ltb-false _ _ e₃.0; depth = not-false (is_shallow nodes) e₄.0 }

pub limits-within : (nodes : List Node) (words : ℕ) → Within nodes words → limits nodes words ≡ Ok tt
unfolding limits
limits-within nodes words w =
    simp (le-ltb 16384 (length nodes) w.few, le-ltb 1048576 (length (texts_of (tail nodes))) w.texts, le-ltb words (4 * (length nodes + 2)) w.room, w.depth)

-- a tree within the limits: its table is accepted, and reads as the tree
pub written-accepted : (nodes : List Node) (words : ℕ) → IsWellFormed nodes → limits nodes words ≡ Ok tt → check (encode nodes) words ≡ Ok tt
written-accepted nodes words w l = check-limits nodes words w (omega (arith, (within-limits nodes words l).few)) ∙ l

pub written-reads : (nodes : List Node) (words : ℕ) → IsWellFormed nodes → limits nodes words ≡ Ok tt → nodes_of (encode nodes) ≡ nodes
written-reads nodes words w l = let i : Within nodes words = within-limits nodes words l in round_trip nodes w (omega arith) (omega arith)
