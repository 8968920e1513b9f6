-- The limits of the tree with one entry more, by the numbers that the code reads and compares.
-- Assumes nothing.
use Rattle.std.specs.Prelude.{Ok, Err}
use Prim.Native.Nat.{ℕ, ◌+◌, ◌-◌, ◌*◌, ◌≤◌, ◌<◌}
use mathlib.Core.Path.{◌≡◌, sym, ap, ◌∙◌}
use mathlib.Core.Bool.{Bool, true, false, not}
use mathlib.Core.List.{List}
use native.Mathlib.Omega.{arith}
use lib.ListN.{length}
use Rattle.endian.specs.Bytes.{be32}
use Rattle.refusal.specs.declared.Refusal.TheVariants.{LimitOrMemory}
use Rattle.refusal.specs.Refusal.{refuse}
use Rattle.tree.specs.Table.{limits}
use Rattle.tree.specs.Inner.WellFormed.{IsGoodName}
use Rattle.tree.specs.Inner.Depths.{depth_of}
use Rattle.tree.proofs.Laws.WellNested.{not-empty}
use Rattle.tree.proofs.Laws.WrittenEntries.{length-encode}
use Rattle.table_writing.specs.Inner.Growth.{tree_in, Stands, IsDirectory, tree_with_child, is_depth_allowed}
use Rattle.table_writing.proofs.StandingTable.{inside, entry-held, size_is, count-is, texts-are}
use Rattle.table_writing.proofs.GrowthLaws.{too_many, too_long, too_few, depth-decides}

pub count_held : (s : List ℕ) (size words : ℕ) → Stands s size words → 12 ≤ length s
count_held s size words st = omega (arith, entry-held s size words st 0 (not-empty _ st.well))

module _ (s : List ℕ) (size words n : ℕ) (st : Stands s size words) (read : n ≡ be32 s 8) where
  count : n ≡ length (tree_in s size)
  count = read ∙ count-is s size words st

  pub entries_fit : 12 * n ≤ size
  entries_fit = omega (arith, count, size_is s size words st, length-encode (tree_in s size))

  pub texts-fit : size - 12 * n ≤ 1048576
  texts-fit = omega (arith, count, texts-are s size words st, (inside s size words st).texts)

  module _ (is : Bool) (p : ℕ) (nm : List ℕ) (dir : IsDirectory (tree_in s size) p) (good : IsGoodName nm) where
    pub past-count : 16384 ≤ n → Err LimitOrMemory ≡ limits (tree_with_child (tree_in s size) is p nm) words
    past-count h = sym (too_many (tree_in s size) is p nm st.well dir good words (inside s size words st) (omega (arith, count)))

    module _ (few : n < 16384) where
      pub past-texts : 1048576 - (size - 12 * n) ≤ length nm → Err LimitOrMemory ≡ limits (tree_with_child (tree_in s size) is p nm) words
      past-texts h =
          sym (too_long (tree_in s size) is p nm st.well dir good words (inside s size words st) (omega (arith, count)) (omega (arith, count, texts-are s size words st)))

      module _ (short : length nm < 1048576 - (size - 12 * n)) where
        pub past_words : words < 4 * (n + 3) → Err LimitOrMemory ≡ limits (tree_with_child (tree_in s size) is p nm) words
        past_words h =
            sym (too_few (tree_in s size) is p nm st.well dir good words (inside s size words st) (omega (arith, count)) (omega (arith, count, texts-are s size words st)) (omega (arith, count)))

        module _ (room : 4 * (n + 3) ≤ words) (t : Bool) (shallow : t ≡ is_depth_allowed is (depth_of (tree_in s size) p)) where
          by-depth : limits (tree_with_child (tree_in s size) is p nm) words ≡ refuse (not t) LimitOrMemory (Ok tt)
          by-depth =
              depth-decides (tree_in s size) is p nm st.well dir good words (inside s size words st) t (omega (arith, count)) (omega (arith, count, texts-are s size words st)) (omega (arith, count)) shallow

          pub not-too-deep : t ≡ true → Ok tt ≡ limits (tree_with_child (tree_in s size) is p nm) words
          not-too-deep e = sym (by-depth ∙ ap (λ (x : Bool). refuse (not x) LimitOrMemory (Ok tt)) e)

          pub too-deep : t ≡ false → Err LimitOrMemory ≡ limits (tree_with_child (tree_in s size) is p nm) words
          too-deep e = sym (by-depth ∙ ap (λ (x : Bool). refuse (not x) LimitOrMemory (Ok tt)) e)
