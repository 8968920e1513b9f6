-- The records that the worked edits are handed. Assumes nothing: these are definitions.
use Rattle.std.specs.Prelude.{ℕ, ◌-◌, ◌^◌, List, [], ◌∷◌, ◌++◌, length, replicate}
use Rattle.totals.specs.declared.team.Team.{Team}
use Rattle.totals.specs.Totals.{new_team}
use Rattle.disc.specs.Calls.{totals_of}
use Rattle.edit_rules.specs.Edits.{Account, account}

-- the highest number that a record holds
abbrev pub most : ℕ
most = 2 ^ 32 - 1

abbrev pub team : ℕ → ℕ → ℕ → ℕ → Team
team limit share taken edits = record { limit = limit; share = share; taken = taken; edits = edits }

-- the first of 16 teams; the others may take nothing, and nothing is kept for them
abbrev pub teams : List Team → List Team
teams first = first ++ replicate (16 - length first) (new_team 0 0)

-- ---- team 0 alone edits, and may take whatever there is

-- it has taken so many bytes by so many edits
abbrev pub teams_after : ℕ → ℕ → List Team
teams_after taken edits = teams (team most 0 taken edits ∷ [])

-- a record that holds these bytes, of which it has taken none
abbrev pub handed : ℕ → ℕ → ℕ → Account
handed used largest edits = account (record { used = used; largest = largest; teams = teams_after 0 edits }) 0

-- the image's own
abbrev pub own : List ℕ → Account
own image = account (totals_of image (teams_after 0 0)) 0
