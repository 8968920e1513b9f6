-- A change written, after its three writes.
use Prim.Native.Nat.{ℕ}
use mathlib.Core.Path.{◌≡◌}
use mathlib.Core.List.{List}
use lib.ListN.{replicate}
use Rattle.endian.specs.Bytes.{put, span}
use Rattle.header.specs.Verdicts.{fst_offset, fst_size}
use Rattle.edit.specs.declared.decision.Writing.{Writing}
use Rattle.edit_rules.specs.Change.{image_with_table}
use Rattle.edit.specs.Inner.Decision.{written_with}

pub all-written : (w : Writing) (image bytes image₁ image₂ image₃ : List ℕ) (f s size : ℕ) → f ≡ fst_offset image → s ≡ fst_size image →
    image₁ ≡ put image w.place.offset (span image w.old.offset w.kept) → image₂ ≡ image_with_table f s (span bytes 0 size) image₁ →
    image₃ ≡ put image₂ w.lost.offset (replicate w.lost.size 0) → image₃ ≡ written_with w (span bytes 0 size) image
unfolding written_with
all-written w image bytes image₁ image₂ image₃ f s size e g h i j = rw (← e, ← g, ← h, ← i) j
