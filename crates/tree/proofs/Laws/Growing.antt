-- A tree that grows by inserts passes no limit that it passed before: what is too large on the way is too large at the end. Assumes nothing.
use Rattle.std.specs.Prelude.{Ok, Err}
use Rattle.std.specs.Prelude.{ℕ, suc, ◌+◌, ◌*◌, ◌<◌, ◌≤◌, ◌≡◌, refl, ◌⊎◌, Bool, true, false, not, length, get_or, ltb}
use Rattle.std.proofs.Common.{sym, ◌∙◌, inl, inr, arith}
use mathlib.Core.List.{List, tail}
use Rattle.refusal.specs.declared.Refusal.TheVariants.{LimitOrMemory}
use Rattle.refusal.specs.Refusal.{refuse}
use Rattle.tree.specs.Table.{Node, directory, name_of, empty_root, texts_of, encode, is_shallow, limits}
use Rattle.tree.specs.Inner.WellFormed.{IsGoodName, IsWellFormed}
use Rattle.tree.specs.Insert.{insert_at}
use Rattle.tree.proofs.Laws.InsertLaws.{Fresh, length-insert, insert-sound, insert-is_shallow}
use Rattle.tree.proofs.Laws.InsertWalk.{depth_ok}
use Rattle.tree.specs.Inner.Depths.{depth_of}
use Rattle.refusal.specs.Laws.Tests.{and_right}
use Rattle.tree.proofs.Laws.RoundTrip.{Within, within-limits, limits-within}
use Rattle.tree.proofs.Laws.WrittenEntries.{length-encode}
use Rattle.tree.proofs.Laws.Size.{texts-grow}

-- F is a tree that M grew into
pub record Bigger (M F : List Node) : Type 0 where
  pub well : IsWellFormed F
  pub entries : length M ≤ length F
  pub texts : length (texts_of (tail M)) ≤ length (texts_of (tail F))
  pub depth : is_shallow F ≡ true → is_shallow M ≡ true

pub bigger-same : (M : List Node) → IsWellFormed M → Bigger M M
bigger-same M w = record { well = w; entries = omega arith; texts = omega arith; depth = λ e. e }

pub bigger-trans : (A B C : List Node) → Bigger A B → Bigger B C → Bigger A C
bigger-trans A B C a b = record { well = b.well; entries = omega arith; texts = omega arith; depth = λ e. a.depth (b.depth e) }

pub bigger-insert : (nodes : List Node) (p q : ℕ) (nm : List ℕ) (new : Node) → IsWellFormed nodes → get_or nodes p empty_root ≡ directory nm q → p < length nodes → IsGoodName (name_of new) → Fresh q new →
    Bigger nodes (insert_at p new nodes)
bigger-insert nodes p q nm new w dir p<n named fresh = record {
  well = insert-sound nodes p q nm new w dir p<n named fresh;
  entries = omega (arith, length-insert nodes p q nm new w dir p<n);
  texts = omega (arith, texts-grow nodes p q nm new w dir p<n);
  depth = λ e. and_right (depth_ok (suc (depth_of nodes p)) new) (is_shallow nodes) (sym (insert-is_shallow nodes p q nm new w dir p<n named fresh) ∙ e);
}

pub bigger-limits : (M F : List Node) (words : ℕ) → Bigger M F → limits F words ≡ Ok tt → limits M words ≡ Ok tt
bigger-limits M F words b e =
    let i : Within F words = within-limits F words e in
    limits-within M words record { few = omega arith; texts = omega arith; room = omega arith; depth = b.depth i.depth }

pub bigger-encode : (M F : List Node) → Bigger M F → length (encode M) ≤ length (encode F)
bigger-encode M F b = omega (arith, length-encode M, length-encode F)

-- the limits have one cause
pub limits-either : (nodes : List Node) (words : ℕ) → (limits nodes words ≡ Ok tt) ⊎ (limits nodes words ≡ Err LimitOrMemory)
unfolding limits
limits-either nodes words = go (ltb 16384 (length nodes)) (ltb 1048576 (length (texts_of (tail nodes)))) (ltb words (4 * (length nodes + 2))) (not (is_shallow nodes))
  where
    go : (a b c d : Bool) → (refuse a LimitOrMemory (refuse b LimitOrMemory (refuse c LimitOrMemory (refuse d LimitOrMemory (Ok tt)))) ≡ Ok tt) ⊎ (refuse a LimitOrMemory (refuse b LimitOrMemory (refuse c LimitOrMemory (refuse d LimitOrMemory (Ok tt)))) ≡ Err LimitOrMemory)
    go true b c d = inr refl
    go false true c d = inr refl
    go false false true d = inr refl
    go false false false true = inr refl
    go false false false false = inl refl
