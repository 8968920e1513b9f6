-- The table of an open image as it is read: it is valid, and it is measured.
-- Assumes nothing.
use Rattle.std.specs.Prelude.{Result, Ok, Err}
use Rattle.refusal.specs.declared.Refusal.{Refusal}
use Prim.Native.Nat.{ℕ}
use mathlib.Core.Path.{◌≡◌, sym, ap, ◌∙◌}
use mathlib.Core.List.{List}
use lib.ListN.{length}
use Rattle.refusal.specs.declared.Refusal.TheVariants.{LimitOrMemory}
use Rattle.tree.specs.Table.{count, encode, limits}
use Rattle.table_writing.specs.Inner.Measure.{measure_of}
use Rattle.table_writing.specs.Inner.Valid.{IsValid}
use Rattle.table_writing.specs.Laws.Accepted.{accepted-valid}
use Rattle.opened.specs.Opening.{table_of, nodes_in}
use Rattle.opened.specs.Inner.Prepared.{IsOpenImage}
use Rattle.opened.proofs.Words.{Opens}
use Rattle.edit.proofs.Images.{measured-cause, measured-past, measured-size}

pub opens-valid : (tab : List ℕ) → Opens tab → IsValid tab (count tab)
opens-valid tab o = accepted-valid tab o.words o.passed

module _ (image tab : List ℕ) (is : tab ≡ table_of image) where
  module _ (words : ℕ) (known : IsOpenImage image words) (r : Result ℕ Refusal) (measured : r ≡ measure_of tab) where
    pub past-cause : (cause : Refusal) → r ≡ Err cause → cause ≡ LimitOrMemory
    past-cause cause e = measured-cause tab cause (sym measured ∙ e)

    pub limits-past : (cause : Refusal) → r ≡ Err cause → limits (nodes_in image) words ≡ Err LimitOrMemory
    limits-past cause e = measured-past image words known (ap measure_of (sym is) ∙ sym measured ∙ e ∙ ap Err (past-cause cause e))

    pub limits-passed : (n : ℕ) → r ≡ Ok n → (limits (nodes_in image) words ≡ Ok tt) × (n ≡ length (encode (nodes_in image)))
    limits-passed n e = measured-size image words known n (ap measure_of (sym is) ∙ sym measured ∙ e)
