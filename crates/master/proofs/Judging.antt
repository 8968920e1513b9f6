-- What a new master is refused for, test by test. Assumes nothing.
use Rattle.std.specs.Prelude.{Ok, Err, ℕ, suc, ◌^◌, ◌<◌, ◌≤◌, ◌≡◌, true, false, List, [], length}
use Rattle.std.proofs.Common.{arith, ◌∙◌, lt-ltb, le-ltb}
use Rattle.refusal.specs.declared.Refusal.{Refusal}
use Rattle.refusal.specs.declared.Refusal.TheVariants.{LimitOrMemory, NotEnoughSpace}
use Rattle.tree.specs.Table.{limits}
use Rattle.tree.proofs.Laws.RoundTrip.{within-limits}
use Rattle.tree.proofs.Laws.WrittenEntries.{length-encode}
use Rattle.wish_list.specs.Paths.{paths_in, list_verdict}
use Rattle.wish_list.specs.Tree.{Wish, wishes, below}
use Rattle.wish_list.proofs.Laws.Below.{below-files, length-tree}
use Rattle.wish_list.proofs.Laws.NameTexts.{length-wishes, wishes-named}
use Rattle.wish_list.proofs.Laws.AcceptedPaths.{list-accepted}
use Rattle.placement.specs.Placement.{is_placeable}
use Rattle.master.specs.Master.{Master, nodes_at, table_size, first_free, before_place, master_verdict}

module _ (m : Master) (room words bytes : ℕ) where
  pub refused-list : (c : Refusal) → list_verdict m.paths (length m.sizes) ≡ Err c → master_verdict m room words bytes ≡ Err c
  unfolding master_verdict before_place
  refused-list c e = rw e

  module _ (listed : list_verdict m.paths (length m.sizes) ≡ Ok tt) where
    pub refused-limits : (c : Refusal) → limits (nodes_at m []) words ≡ Err c → master_verdict m room words bytes ≡ Err c
    unfolding master_verdict before_place
    refused-limits c e = rw (listed, e)

    module _ (limited : limits (nodes_at m []) words ≡ Ok tt) where
      pub refused-bytes : bytes < table_size m → master_verdict m room words bytes ≡ Err LimitOrMemory
      unfolding master_verdict before_place
      refused-bytes h = rw (listed, limited, lt-ltb bytes (table_size m) h)

      module _ (fits : table_size m ≤ bytes) where
        pub refused-room : room < m.disc_end → master_verdict m room words bytes ≡ Err LimitOrMemory
        unfolding master_verdict before_place
        refused-room h = rw (listed, limited, le-ltb bytes (table_size m) fits, lt-ltb room m.disc_end h)

        module _ (holds : m.disc_end ≤ room) where
          pub refused-place : is_placeable (first_free m) m.disc_end m.sizes ≡ false → master_verdict m room words bytes ≡ Err NotEnoughSpace
          unfolding master_verdict before_place
          refused-place e = rw (listed, limited, le-ltb bytes (table_size m) fits, le-ltb room m.disc_end holds, e)

          pub granted : is_placeable (first_free m) m.disc_end m.sizes ≡ true → master_verdict m room words bytes ≡ Ok tt
          unfolding master_verdict before_place
          granted e = rw (listed, limited, le-ltb bytes (table_size m) fits, le-ltb room m.disc_end holds, e)

-- ---- a list within the limits has few files, and words for an offset of each

pub record Few (m : Master) (words : ℕ) : Type 0 where
  pub files : length m.sizes ≤ 16384
  pub offsets : length m.sizes ≤ words
  pub table : table_size m ≤ 2 ^ 24

pub few : (m : Master) (words : ℕ) → list_verdict m.paths (length m.sizes) ≡ Ok tt → limits (nodes_at m []) words ≡ Ok tt → Few m words
few m words listed limited =
    let w = within-limits (nodes_at m []) words limited in
    let ws : List Wish = wishes (paths_in m.paths) m.sizes [] in
    let a = list-accepted m.paths (length m.sizes) listed in
    let f : length ws ≤ below 0 [] ws = below-files [] ws (wishes-named (paths_in m.paths) m.sizes []) in
    let l : length ws ≡ length m.sizes = length-wishes (paths_in m.paths) m.sizes [] ∙ a.counted in
    let t : length (nodes_at m []) ≡ suc (below 0 [] ws) = length-tree ws in
    record { files = omega (arith, w.few); offsets = omega (arith, w.room); table = omega (arith, length-encode (nodes_at m []), w.few, w.texts) }
