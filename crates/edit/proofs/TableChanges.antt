-- A change of the table alone as a plan: refused where there was no room for the table, and judged where it stands in the bytes. Assumes nothing.
use Rattle.std.specs.Prelude.{Result, Ok, Err}
use Rattle.space.specs.Used.{no_region}
use Rattle.refusal.specs.Refusal.{Verdict, first}
use Prim.Native.Nat.{ℕ, ◌<◌}
use mathlib.Core.Path.{◌≡◌, sym, ap, ◌∙◌}
use mathlib.Core.Logic.{⊎_elim}
use mathlib.Core.List.{List}
use native.Mathlib.Omega.{arith}
use borrow.Author.Tests.{lt-ltb}
use lib.ListN.{length}
use Rattle.refusal.specs.declared.Refusal.{Refusal}
use Rattle.refusal.specs.declared.Refusal.TheVariants.{LimitOrMemory}
use Rattle.tree.specs.Table.{Node, encode, limits}
use Rattle.tree.proofs.Laws.Growing.{Bigger, bigger-limits, bigger-encode, limits-either}
use Rattle.table_writing.specs.Inner.Growth.{tree_in, Stands, IsBuilt}
use Rattle.table_writing.proofs.StandingTable.{size_is, front}
use Rattle.edit_rules.specs.Change.{change, place_verdict}
use Rattle.edit_rules.specs.Edits.{table_change, plan_verdict}
use Rattle.opened.specs.Opening.{Disc}
use Rattle.opened.specs.Inner.Disc.{Opened}
use Rattle.edit.specs.declared.decision.Decision.{Decision}
use Rattle.edit.specs.declared.decision.Decision.TheVariants as decision
use Rattle.edit.specs.Inner.Decision.{Decides, nothing_besides}
use Rattle.edit.proofs.Puts.{span-start}
use Rattle.edit.proofs.Decisions.{nothing-inside, nothing-apart, refused-decided, write-decided}
use Rattle.edit.proofs.Images.{table-tests, place-fits}

-- ---- a tree that could not be built: what it grows into cannot be written either

unbuilt : (M F : List Node) (words room k : ℕ) (x : Disc) → Bigger M F → (limits M words ≡ Ok tt → room < length (encode M)) → plan_verdict (change k (table_change F)) x words room ≡ Err LimitOrMemory
unfolding place_verdict
unbuilt M F words room k x b h = table-tests F no_region x words room ∙ ⊎_elim fits past (limits-either F words)
  where
    past : limits F words ≡ Err LimitOrMemory → first (limits F words) (place_verdict x room (length (encode F)) no_region) ≡ Err LimitOrMemory
    past e = rw e

    fits : limits F words ≡ Ok tt → first (limits F words) (place_verdict x room (length (encode F)) no_region) ≡ Err LimitOrMemory
    fits e = rw (e, lt-ltb room (length (encode F)) (omega (arith, h (bigger-limits M F words b e), bigger-encode M F b)))

pub unbuilt-decides : (M F : List Node) (d : Opened) (k : ℕ) (s after : List ℕ) (c : Refusal) → Bigger M F → IsBuilt M d.words s s (Err c) → Decides (change k (table_change F)) d (length s) after (Err c)
unbuilt-decides M F d k s after c g b image m = refused-decided image d.disc d.words (length s) after (change k (table_change F)) c (unbuilt M F d.words (length s) k d.disc g b.1 ∙ ap Err (sym b.0))

-- ---- a table that stands in the bytes: its place on the disc

module _ (s : List ℕ) (size k : ℕ) (d : Opened) (st : Stands s size d.words) (v : Verdict) (judged : v ≡ place_verdict d.disc (length s) size no_region) where
  place-only : plan_verdict (change k (table_change (tree_in s size))) d.disc d.words (length s) ≡ v
  place-only = table-tests (tree_in s size) no_region d.disc d.words (length s) ∙ rw (st.within, ← (size_is s size d.words st)) (sym judged)

  pub place-refuses : (c : Refusal) → v ≡ Err c → Decides (change k (table_change (tree_in s size))) d (length s) s (Err c)
  place-refuses c e image m = refused-decided image d.disc d.words (length s) s (change k (table_change (tree_in s size))) c (place-only ∙ e)

  pub place-writes : v ≡ Ok tt → Decides (change k (table_change (tree_in s size))) d (length s) s (Ok (decision.Write k size nothing_besides))
  place-writes e image m =
      write-decided image d.disc d.words (length s) s k (tree_in s size) size nothing_besides
      (record {
        table = place-fits image d.words m.known d.disc m.is (length s) size no_region (sym judged ∙ e);
        inside = nothing-inside (length image);
      })
      nothing-apart
      (place-only ∙ e)
      (span-start s (encode (tree_in s size)) s size (sym (front s size d.words st)) (omega (arith, size_is s size d.words st, st.held)) (size_is s size d.words st))

-- ---- the tree by another name

pub same-decides : (T F : List Node) (d : Opened) (k j n m : ℕ) (s : List ℕ) (r : Result Decision Refusal) → T ≡ F → k ≡ j → n ≡ m → Decides (change k (table_change T)) d n s r → Decides (change j (table_change F)) d m s r
same-decides T F d k j n m s r e q l h = rw (e, q, l) at h
