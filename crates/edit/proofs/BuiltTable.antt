-- The tree of a disc written anew, as the code builds it: past a limit, too long for the bytes, or standing in them. Assumes nothing.
use Rattle.std.specs.Prelude.{Result, Ok, Err}
use Prim.Native.Nat.{ℕ, ◌≤◌, ◌<◌, ◌^◌}
use mathlib.Core.Path.{◌≡◌, refl, ap, ◌∙◌}
use mathlib.Core.List.{List}
use native.Mathlib.Omega.{arith}
use lib.ListN.{length}
use Rattle.refusal.specs.Refusal.{Verdict}
use Rattle.refusal.specs.declared.Refusal.{Refusal}
use Rattle.refusal.specs.declared.Refusal.TheVariants.{LimitOrMemory}
use Rattle.tree.specs.Table.{encode, limits}
use Rattle.tree.specs.Inner.WellFormed.{IsWellFormed}
use Rattle.tree.proofs.Laws.WrittenEntries.{length-encode}
use Rattle.tree.proofs.Laws.RoundTrip.{within-limits}
use Rattle.table_writing.specs.Inner.Measure.{measure_of}
use Rattle.space.specs.declared.region.DiscRegion.{DiscRegion}
use Rattle.opened.specs.Opening.{nodes_in}
use Rattle.opened.specs.Inner.Prepared.{IsOpenImage}
use Rattle.opened.specs.Inner.Disc.{Opened, IsTableOf}
use Rattle.table_writing.specs.Inner.Growth.{tree_in, Stands, IsBuilt}
use Rattle.table_writing.proofs.StandingTable.{built-stands}
use Rattle.edit_rules.specs.Change.{place_verdict}
use Rattle.edit.specs.Inner.Decision.{value_behind, judged_size}
use Rattle.edit.proofs.Images.{table-past, table-sized}
use Rattle.edit.proofs.Discs.{nodes_are}
use Rattle.edit.proofs.TableSlice.{past-cause, limits-past, limits-passed}

well-open : (image : List ℕ) (words : ℕ) → IsOpenImage image words → IsWellFormed (nodes_in image)
unfolding nodes_in
well-open image words known = known.reads.table.well

pub well-disc : (d : Opened) (tab : List ℕ) → IsTableOf d tab → IsWellFormed d.disc.nodes
well-disc d tab t = rw (nodes_are t.image d t.means) at (well-open t.image d.words t.means.known)

-- ---- the tree, measured

module _ (d : Opened) (tab : List ℕ) (t : IsTableOf d tab) (r : Result ℕ Refusal) (measured : r ≡ measure_of tab) where
  pub past-limits : (c : Refusal) → r ≡ Err c → limits d.disc.nodes d.words ≡ Err LimitOrMemory
  past-limits c e = rw (nodes_are t.image d t.means) at (limits-past t.image tab t.is d.words t.means.known r measured c e)

  pub past-never : (c : Refusal) (room : ℕ) → r ≡ Err c → limits d.disc.nodes d.words ≡ Ok tt → room < length (encode d.disc.nodes)
  past-never c room e p = let q = past-limits c e in let z : ◌≡◌ {A = ℕ} 0 1 = cc in absurd (omega arith)

  -- refused, as it is judged
  pub judged-past : (c : Refusal) → r ≡ Err c → (room : ℕ) (place : DiscRegion) → Err c ≡ judged_size d room place
  judged-past c e room place = ap Err (past-cause t.image tab t.is d.words t.means.known r measured c e) ∙ table-past d.disc.nodes place d.disc d.words room (past-limits c e)

  module _ (n : ℕ) (sized : r ≡ Ok n) where
    both : (limits d.disc.nodes d.words ≡ Ok tt) × (n ≡ length (encode d.disc.nodes))
    both = rw (nodes_are t.image d t.means) at (limits-passed t.image tab t.is d.words t.means.known r measured n sized)

    pub within-limit : limits d.disc.nodes d.words ≡ Ok tt
    within-limit = both.0

    pub size-measured : n ≡ length (encode d.disc.nodes)
    size-measured = both.1

    pub table-small : length (encode d.disc.nodes) ≤ 2 ^ 24
    table-small = let l = within-limits d.disc.nodes d.words both.0 in omega (arith, length-encode d.disc.nodes, l.few, l.texts)

    -- judged by its place
    pub judged-sized : (room : ℕ) (place : DiscRegion) (v : Verdict) → v ≡ place_verdict d.disc room n place → value_behind v n ≡ judged_size d room place
    judged-sized room place v p = table-sized d.disc.nodes place d.disc d.words room n v both.0 both.1 p

-- ---- the tree, written

module _ (d : Opened) (tab : List ℕ) (t : IsTableOf d tab) (s after : List ℕ) (size : ℕ) (built : IsBuilt d.disc.nodes d.words s after (Ok size)) where
  pub started : Stands after size d.words × (tree_in after size ≡ d.disc.nodes)
  started = built-stands d.disc.nodes d.words s after (Ok size) size (well-disc d tab t) built refl
