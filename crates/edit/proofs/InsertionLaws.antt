-- What the tests of an insert leave, and an insert as a plan. Assumes nothing.
use Rattle.std.specs.Prelude.{Result, Ok, Err, is_ok}
use Rattle.refusal.specs.Refusal.{Verdict}
use Rattle.refusal.specs.declared.Refusal.{Refusal}
use Prim.Native.Nat.{ℕ, ◌<◌, ◌^◌}
use mathlib.Core.Path.{◌≡◌, refl, sym, ◌∙◌}
use mathlib.Core.Bool.{Bool, true, false, not}
use mathlib.Core.List.{List}
use borrow.Author.Tests.{leb-false}
use native.Mathlib.Omega.{arith}
use lib.Dec.{leb}
use lib.ListN.{length, get_or}
use Rattle.refusal.specs.declared.Refusal.TheVariants.{NoSuchEntry, UnsafeName, ExpectedDirectory, AlreadyExists, InvalidNameByte}
use Rattle.refusal.specs.Laws.Chains.{refuse-passed}
use Rattle.tree.specs.Table.{Node, empty_root, is_plain, is_safe, limits}
use Rattle.tree.specs.Inner.WellFormed.{IsGoodName, IsWellFormed}
use Rattle.tree.specs.Lookup.{is_directory, child_of}
use Rattle.tree.proofs.Laws.Growing.{bigger-same}
use Rattle.tree.proofs.Laws.Renumbered.{directory-is}
use Rattle.tree.proofs.Laws.RoundTrip.{within-limits}
use Rattle.tree.proofs.Laws.WellNested.{next-bounds}
use Rattle.edit_rules.specs.Change.{change}
use Rattle.edit_rules.specs.Edits.{table_change, new_number, insert_verdict, plan_behind, plan_of}
use Rattle.opened.specs.Inner.Disc.{Opened}
use Rattle.edit.specs.declared.decision.Decision.{Decision}
use Rattle.edit.specs.Inner.Decision.{Decides}
use Rattle.edit.proofs.Decisions.{behind-passed, behind-refused}
use Rattle.table_writing.specs.Inner.Growth.{IsDirectory, tree_with_child, IsBuilt}
use Rattle.table_writing.proofs.GrowthLaws.{bigger-tree_with_child}
use Rattle.edit.proofs.TableChanges.{unbuilt-decides}
use Rattle.table_writing.specs.Inner.Kind.{kind_is_directory}
use Rattle.table_writing.specs.declared.kind.Kind.{Kind}
use Rattle.table_writing.specs.declared.kind.Kind.TheVariants as kind
use Rattle.edit.specs.Asked.{insertion}

not-off : (t : Bool) → not t ≡ false → t ≡ true
not-off true e = refl
not-off false e = let z : ◌≡◌ {A = ℕ} 0 1 = cc in absurd (omega arith)

pub insert-allows : (nodes : List Node) (p : ℕ) (nm : List ℕ) → insert_verdict nodes p nm ≡ Ok tt → IsDirectory nodes p × IsGoodName nm
unfolding insert_verdict
insert-allows nodes p nm e =
    let a = refuse-passed (leb (length nodes) p) NoSuchEntry _ e in
    let b = refuse-passed (not (is_safe nm)) UnsafeName _ a.1 in
    let d = refuse-passed (not (is_directory (get_or nodes p empty_root))) ExpectedDirectory _ b.1 in
    let f = refuse-passed (is_ok (child_of nodes p nm)) AlreadyExists _ d.1 in
    let g = refuse-passed (not (is_plain nm)) InvalidNameByte _ f.1 in
    (record { inside = leb-false (length nodes) p a.0; kind = not-off _ d.0 }, (not-off _ g.0, not-off _ b.0))

-- the number that a new entry gets fits 32 bits
pub number-small : (nodes : List Node) (words p : ℕ) → IsWellFormed nodes → limits nodes words ≡ Ok tt → IsDirectory nodes p → new_number nodes p < 2 ^ 32
number-small nodes words p w l dir =
    let x = directory-is (get_or nodes p empty_root) dir.kind in
    omega (arith, (next-bounds nodes p _ x.0 w x.1 dir.inside).1, (within-limits nodes words l).few)

-- ---- the plan: what is added, behind the tests

module _ (k : Kind) (d : Opened) (p : ℕ) (nm : List ℕ) (v : Verdict) (judged : v ≡ insert_verdict d.disc.nodes p nm) where
  plan-is : plan_of (insertion k p nm) d.disc ≡ plan_behind (insert_verdict d.disc.nodes p nm) (change (new_number d.disc.nodes p) (table_change (tree_with_child d.disc.nodes (kind_is_directory k) p nm)))
  plan-is = go k
    where
      go : (x : Kind) → plan_of (insertion x p nm) d.disc ≡ plan_behind (insert_verdict d.disc.nodes p nm) (change (new_number d.disc.nodes p) (table_change (tree_with_child d.disc.nodes (kind_is_directory x) p nm)))
      go kind.Directory = refl
      go kind.File = refl

  pub tests-refuse : (room : ℕ) (bytes : List ℕ) (c : Refusal) → v ≡ Err c → Decides (plan_of (insertion k p nm) d.disc) d room bytes (Err c)
  tests-refuse room bytes c e image m = rw plan-is (behind-refused image d.disc d.words room bytes (insert_verdict d.disc.nodes p nm) _ c (sym judged ∙ e))

  module _ (passed : v ≡ Ok tt) where
    abbrev N : List Node
    N = tree_with_child d.disc.nodes (kind_is_directory k) p nm

    pub allowed : IsDirectory d.disc.nodes p × IsGoodName nm
    allowed = insert-allows d.disc.nodes p nm (sym judged ∙ passed)

    pub tests-pass : (room : ℕ) (bytes : List ℕ) (r : Result Decision Refusal) → Decides (change (new_number d.disc.nodes p) (table_change N)) d room bytes r → Decides (plan_of (insertion k p nm) d.disc) d room bytes r
    tests-pass room bytes r h image m = rw plan-is (behind-passed image d.disc d.words room bytes (insert_verdict d.disc.nodes p nm) _ r (sym judged ∙ passed) (h image m))

    module _ (w : IsWellFormed d.disc.nodes) (room : ℕ) (s after : List ℕ) (held : length s ≡ room) (c : Refusal) where
      -- the tree as it is could not be built
      pub not-started : IsBuilt d.disc.nodes d.words s s (Err c) → Decides (plan_of (insertion k p nm) d.disc) d room after (Err c)
      not-started b =
          rw (← held)
          (tests-pass (length s) after (Err c) (unbuilt-decides d.disc.nodes N d (new_number d.disc.nodes p) s after c (bigger-tree_with_child d.disc.nodes (kind_is_directory k) p nm w allowed.0 allowed.1) b))

      -- nor with the new entry
      pub not-grown : (T : List Node) (words : ℕ) → T ≡ d.disc.nodes → words ≡ d.words → IsBuilt (tree_with_child T (kind_is_directory k) p nm) words s s (Err c) → Decides (plan_of (insertion k p nm) d.disc) d room after (Err c)
      not-grown T words e l b =
          rw (← held)
          (tests-pass (length s) after (Err c)
          (unbuilt-decides N N d (new_number d.disc.nodes p) s after c (bigger-same N (bigger-tree_with_child d.disc.nodes (kind_is_directory k) p nm w allowed.0 allowed.1).well) (rw (e, l) at b)))
