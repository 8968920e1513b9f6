-- The digits of a number written: a single one, or those before the last and the last. Assumes nothing.
use Prim.Native.Nat.{ℕ, ◌+◌, ◌<◌, ◌≤◌, ◌/◌, ◌%◌}
use mathlib.Core.Path.{◌≡◌}
use mathlib.Core.List.{[], ◌∷◌}
use Rattle.listing.specs.Decimal.{decimal}
use Rattle.listing.specs.declared.buffer.TextBuffer.{TextBuffer}
use Rattle.listing.specs.Laws.DecimalLaws.{decimal-small, decimal-more}
use Rattle.listing.specs.Inner.Writing.{Appends}
use Rattle.listing.proofs.Joining.{appends-join}

pub appends-digit : (t u : TextBuffer) (n d : ℕ) → n < 10 → d ≡ 0x30 + n → Appends t u (d ∷ []) → Appends t u (decimal n)
appends-digit t u n d h e f = rw (decimal-small n h) (rw e at f)

pub appends-digits : (t u v : TextBuffer) (n d : ℕ) → 10 ≤ n → Appends t u (decimal (n / 10)) → d ≡ 0x30 + n % 10 → Appends u v (d ∷ []) → Appends t v (decimal n)
appends-digits t u v n d h f e g = rw (decimal-more n h) (appends-join f (rw e at g))
