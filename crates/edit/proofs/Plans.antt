-- Make-directories as a plan: its tests that need no memory, the tree and the entry that it comes to, and what is decided once there was room
-- for the table, or none. Assumes nothing.
use Rattle.std.specs.Prelude.{Result, Ok, Err}
use Prim.Native.Nat.{ℕ, ◌<◌, ◌≤◌, ◌^◌}
use mathlib.Core.Path.{◌≡◌, refl, sym, ap}
use mathlib.Core.Bool.{Bool, true, false}
use mathlib.Core.List.{List, []}
use native.Mathlib.Omega.{arith}
use borrow.Author.Tests.{le-ltb, leb-false}
use lib.Dec.{ltb, leb}
use lib.ListN.{length}
use Rattle.refusal.specs.declared.Refusal.{Refusal}
use Rattle.refusal.specs.declared.Refusal.TheVariants.{LimitOrMemory, NoSuchEntry}
use Rattle.refusal.specs.Refusal.{refuse}
use Rattle.refusal.specs.Laws.Chains.{refuse-passed}
use Rattle.tree.specs.Table.{Node}
use Rattle.tree.specs.Inner.WellFormed.{IsWellFormed}
use Rattle.tree.specs.Lookup.{components}
use Rattle.tree.proofs.Laws.InsertedList.{well-nested}
use Rattle.tree.proofs.Laws.Growing.{Bigger, bigger-same}
use Rattle.tree.proofs.Laws.RoundTrip.{within-limits}
use Rattle.edit_rules.specs.Change.{Plan, change}
use Rattle.edit_rules.specs.Edits.{Made, stopped, made, make, table_change, plan_behind, plan_made, plan_make_directories, plan_verdict}
use Rattle.edit_rules.specs.Inner.Troubles.{made_verdict, trouble_of}
use Rattle.edit_rules.proofs.Laws.Troubles.{make-trouble}
use Rattle.edit_rules.proofs.Laws.MadeTree.{make-grows}
use Rattle.opened.specs.Inner.Disc.{Opened}
use Rattle.edit.specs.declared.decision.Decision.{Decision}
use Rattle.edit.specs.Inner.Decision.{Decides}
use Rattle.table_writing.specs.declared.growing.Growing.{Growing}
use Rattle.table_writing.specs.Inner.Growth.{IsBuilt}
use Rattle.table_writing.specs.Inner.Growing.{growing_tree}
use Rattle.edit.proofs.Decisions.{refused-decided}
use Rattle.edit.proofs.TableChanges.{unbuilt-decides, same-decides}
use Rattle.edit.specs.Inner.Walk.{path_trouble, path_verdict}
use Rattle.edit.specs.Inner.Making.{made_tree, made_entry, Reaches}
use Rattle.edit.proofs.Turns.{all_made}

module _ (d : Opened) (start : ℕ) (path : List ℕ) where
  abbrev nodes : List Node
  nodes = d.disc.nodes

  abbrev whole : Made
  whole = make nodes [] start false (components path)

  abbrev plan : Plan
  plan = plan_make_directories nodes start path

  -- ---- the tests that need no memory

  pub path-short : IsWellFormed nodes → length path ≤ 1024 →
      path_trouble nodes start path ≡ path_verdict nodes start path
  unfolding path_verdict
  path-short w h = rw (le-ltb 1024 (length path) h) (go (leb (length nodes) start) refl)
    where
      go : (t : Bool) → leb (length nodes) start ≡ t → refuse t NoSuchEntry (trouble_of nodes start start 0 false (components path)) ≡ refuse t NoSuchEntry (made_verdict whole)
      go true e = refl
      go false e = sym (make-trouble nodes start (components path) (well-nested nodes w) (leb-false (length nodes) start e))

  pub path-refused : (room : ℕ) (bytes : List ℕ) (c : Refusal) → path_verdict nodes start path ≡ Err c → Decides plan d room bytes (Err c)
  unfolding path_verdict plan_make_directories
  path-refused room bytes c e image m = refused-decided image d.disc d.words room bytes plan c (go (ltb 1024 (length path)) (leb (length nodes) start) whole e)
    where
      go : (a b : Bool) (x : Made) → refuse a LimitOrMemory (refuse b NoSuchEntry (made_verdict x)) ≡ Err c →
          plan_verdict (plan_behind (refuse a LimitOrMemory (refuse b NoSuchEntry (Ok tt))) (plan_made x)) d.disc d.words room ≡ Err c
      go true b x q = q
      go false true x q = q
      go false false (stopped d) q = q
      go false false (made F j true) q = q
      go false false (made F j false) q = let z : ◌≡◌ {A = ℕ} 0 1 = cc in absurd (omega arith)

  -- ---- once they are passed: the tree that is made, and the entry where the path leads

  module _ (p : path_verdict nodes start path ≡ Ok tt) where
    passed : (leb (length nodes) start ≡ false) × (ltb 1024 (length path) ≡ false) × (made_verdict whole ≡ Ok tt)
    unfolding path_verdict
    passed =
        let a = refuse-passed (ltb 1024 (length path)) LimitOrMemory _ p in
        let b = refuse-passed (leb (length nodes) start) NoSuchEntry _ a.1 in
        (b.0, a.0, b.1)

    pub starts-inside : start < length nodes
    starts-inside = leb-false (length nodes) start passed.0

    pub makes-all : made_verdict whole ≡ Ok tt
    makes-all = passed.2

    plan-is : plan ≡ change (made_entry whole) (table_change (made_tree whole))
    unfolding plan_make_directories
    plan-is = rw (passed.0, passed.1) (go whole makes-all)
      where
        go : (x : Made) → made_verdict x ≡ Ok tt → plan_made x ≡ change (made_entry x) (table_change (made_tree x))
        go x e = ap plan_made (all_made x e)

    grows : IsWellFormed nodes → Bigger nodes (made_tree whole) × (made_entry whole < length (made_tree whole))
    grows w = make-grows nodes [] start false (components path) (made_tree whole) (made_entry whole) w starts-inside tt (all_made whole makes-all)

    module _ (w : IsWellFormed nodes) (room : ℕ) (after : List ℕ) where
      -- there was no room for a tree on the way
      no_room : (M : List Node) (s : List ℕ) → length s ≡ room → (c : Refusal) → Bigger M (made_tree whole) → IsBuilt M d.words s s (Err c) → Decides plan d room after (Err c)
      no_room M s l c g b = rw (plan-is, ← l) (unbuilt-decides M (made_tree whole) d (made_entry whole) s after c g b)

      -- not for the tree as it is
      pub start-refused : (s : List ℕ) → length s ≡ room → (c : Refusal) → IsBuilt nodes d.words s s (Err c) → Decides plan d room after (Err c)
      start-refused s l c b = no_room nodes s l c (grows w).0 b

      -- the walk along the path, in a table that starts as the tree
      module _ (T : List Node) (same : T ≡ nodes) (held : ℕ) (long : held ≡ room) (g : Growing) (lent : g.words ≡ d.words) where
        pub made-refused : (s : List ℕ) → length s ≡ room → (c : Refusal) → Reaches (make T [] start false (components path)) held g (Err c) → Decides plan d room after (Err c)
        made-refused s l c h =
            let r : Reaches whole (length s) g (Err c) = rw (same, long, ← l) at h in
            no_room (made_tree whole) s l c (bigger-same (made_tree whole) (grows w).0.well) (rw lent at r)

        module _ (k : ℕ) (h : Reaches (make T [] start false (components path)) held g (Ok k)) where
          made_at : Reaches whole held g (Ok k)
          made_at = rw same at h

          pub made-small : k < 2 ^ 32
          made-small =
              let a = made_at in
              let i = within-limits (growing_tree g) g.words g.stands.within in
              omega (arith, a.0, (grows w).1, i.few, ap length a.1)

          pub made-placed : (n : ℕ) (r : Result Decision Refusal) → n ≡ room → Decides (change k (table_change (growing_tree g))) d n after r → Decides plan d room after r
          made-placed n r l h =
              let a = made_at in
              rw plan-is (same-decides (growing_tree g) (made_tree whole) d k (made_entry whole) n room after r a.1 a.0 l h)
