-- The places that the header gives, held to an image whose length alone is known. Assumes nothing: this is a definition.
use Rattle.std.specs.Prelude.{Ok, ℕ, ◌-◌, ◌^◌, List, nat_lt}
use Rattle.refusal.specs.declared.Refusal.TheVariants.{InvalidBounds}
use Rattle.refusal.specs.Refusal.{Verdict, refuse}
use Rattle.header.specs.Verdicts.{fst_offset, disc_end, table_end}

-- of a whole image, with its own length, this is `bounds_verdict`
unfoldable pub bounds_within : List ℕ → ℕ → Verdict
bounds_within header image-length =
    refuse (nat_lt (fst_offset header) 0x440) InvalidBounds
    (refuse (nat_lt (2 ^ 32 - 1) (disc_end header)) InvalidBounds
    (refuse (nat_lt (disc_end header) (table_end header)) InvalidBounds
    (refuse (nat_lt image-length (disc_end header)) InvalidBounds
    (Ok tt))))
