-- Where the bytes of an entry of an accepted table stand, by its kind. Assumes nothing.
use Rattle.std.specs.Prelude.{ℕ, ◌<◌, ◌≡◌, Bool, true, false, not, eqb, List, get_or}
use Rattle.std.proofs.Common.{sym, ap, ◌∙◌, arith}
use borrow.Author.Tests.{eqb-true, not-false, eq-eqb}
use Rattle.tree.specs.Table.{empty_root, count, kind, offset_or_parent, nodes_of}
use Rattle.tree.specs.Lookup.{is_directory}
use Rattle.table.specs.Inner.Held.{IsTable}
use Rattle.table.specs.Inner.Fields.{offset_of}
use Rattle.table.proofs.Nodes.{opened, file-is, is-directory}

module _ (tab : List ℕ) (h : IsTable tab) (k : ℕ) (inside : k < count tab) (t : Bool) (e : t ≡ is_directory (get_or (nodes_of tab) k empty_root)) where
  by-kind : not (eqb (kind tab k) 0) ≡ t
  by-kind = is-directory (opened tab h.bytes h.opens) k inside ∙ sym e

  pub of-directory : t ≡ true → kind tab k ≡ 0 → ⊥
  of-directory f z =
      let q : false ≡ true = rw (eq-eqb (kind tab k) 0 z) at (by-kind ∙ f) in
      let w : ◌≡◌ {A = ℕ} 0 1 = cc in omega arith

  pub of-file : t ≡ false → kind tab k ≡ 0
  of-file f = eqb-true (kind tab k) 0 (not-false (eqb (kind tab k) 0) (by-kind ∙ f))

  -- its offset is the field of the record
  pub file-offset : t ≡ false → offset_of (get_or (nodes_of tab) k empty_root) ≡ offset_or_parent tab k
  file-offset f = ap offset_of (file-is (opened tab h.bytes h.opens) k inside (of-file f))
