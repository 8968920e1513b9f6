-- What the tests of the record give where they pass. Assumes nothing: these are definitions.
use Rattle.std.specs.Prelude.{Result, Ok, Err, ℕ, ◌+◌, ◌-◌, ◌^◌, nat_lt, if◌then◌else◌}
use Rattle.refusal.specs.declared.Refusal.{Refusal}
use Rattle.refusal.specs.declared.Refusal.TheVariants.{TotalsOutOfRange, TakenAboveLimit, FreeBelowShares}
use Rattle.totals.specs.declared.team.Team.{Team}
use Rattle.totals.specs.declared.SpaceChange.{SpaceChange}

-- what a team has taken after an edit of its own, or 27, or 28 where so much is kept for the others
abbrev pub taken_after : Team → SpaceChange → ℕ → Result ℕ Refusal
taken_after m change kept =
    if nat_lt (m.limit + change.before) (m.taken + change.after) then Err TakenAboveLimit
    else if nat_lt change.free kept then Err FreeBelowShares
    else Ok (m.taken + change.after - change.before)

-- how many bytes are used after it, or 25
abbrev pub used_after : ℕ → SpaceChange → Result ℕ Refusal
used_after used change =
    if nat_lt (used + change.after) change.before then Err TotalsOutOfRange
    else if nat_lt (2 ^ 32 - 1) (used + change.after - change.before) then Err TotalsOutOfRange
    else Ok (used + change.after - change.before)

-- how many edits of a team are accepted with one more, or 25
abbrev pub edits_after : Team → Result ℕ Refusal
edits_after m = if nat_lt (2 ^ 32 - 1) (m.edits + 1) then Err TotalsOutOfRange else Ok (m.edits + 1)
