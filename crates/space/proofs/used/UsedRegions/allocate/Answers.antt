-- `UsedRegions::allocate` meets its contract: one law for each of the answers.
use Rattle.std.proofs.Common.{sym, ◌∙◌, arith}
use Rattle.space.specs.Laws.AllocateLaws.{power-positive}
use Rattle.space.proofs.Powers.{one-bit}
use Rattle.space.proofs.Choice.{no_power, place-is}
use Rattle.space.proofs.used.UsedRegions.allocate.Goals as goal

pub returns-then-not-is_power_of_two : goal.returns-then-not-is_power_of_two
returns-then-not-is_power_of_two c = no_power _ _ _ (one-bit 32 _ (omega arith) ∙ sym c.is_power_of_two.ensures ∙ c.if-not-is_power_of_two.true)

pub find_largest-requires : goal.find_largest-requires
find_largest-requires c = power-positive _ (one-bit 32 _ (omega arith) ∙ sym c.is_power_of_two.ensures ∙ c.if-not-is_power_of_two.false)

pub returns : goal.returns
returns c =
    c.ok_or.ensures.value ∙
    place-is _ _ _ _ (one-bit 32 _ (omega arith) ∙ sym c.is_power_of_two.ensures ∙ c.if-not-is_power_of_two.false) c.find_largest.ensures
