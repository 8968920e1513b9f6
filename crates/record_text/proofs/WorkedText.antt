-- The text of three records, by computing; the first two are those of docs/GUIDE.md, For the desk and Teams. Assumes nothing.
use Rattle.std.specs.Prelude.{ℕ, ◌-◌, ◌^◌, ◌≡◌, refl, List, [], ◌∷◌, replicate, codes}
use Rattle.totals.specs.declared.team.Team.{Team}
use Rattle.totals.specs.Totals.{new_team}
use Rattle.listing.specs.Decimal.{digits}
use Rattle.record_text.specs.declared.Listed.{Listed}
use Rattle.record_text.specs.Text.{team_lines, record_text}

-- a team without a limit
abbrev pub open_team : ℕ → Team
open_team edits = record { limit = 2 ^ 32 - 1; share = 0; taken = 0; edits = edits }

-- wherever its name stands
abbrev pub listed : ℕ × ℕ → ℕ → List ℕ → Listed
listed place number name = record { number = number; name = record { ref_ptr = place; now = name } }

pub without-teams :
    record_text [] (record { used = 1626; largest = 6144; teams = replicate 16 (open_team 2) })
    ≡ codes "counter record 1\nused 1626 largest 6144 edits 2\n"
unfolding record_text digits
without-teams = refl

pub with-teams : (p q : ℕ × ℕ) →
    record_text (listed p 0 (codes "art") ∷ listed q 1 (codes "sound") ∷ [])
    (record { used = 1640; largest = 6144; teams = open_team 0 ∷ record { limit = 7168; share = 6000; taken = 14; edits = 1 } ∷ replicate 14 (new_team 0 0) })
    ≡ codes "counter record 2\nused 1640 largest 6144 teams 2\nteam 0 limit none share 0 taken 0 edits 0 name art\nteam 1 limit 7168 share 6000 taken 14 edits 1 name sound\n"
unfolding record_text team_lines digits
with-teams p q = refl

-- one without a name and with a limit of nothing, and a number that none of the sixteen has
pub without-names : (p q : ℕ × ℕ) →
    record_text (listed p 15 [] ∷ listed q 16 (codes "x") ∷ []) (record { used = 0; largest = 0; teams = replicate 16 (new_team 0 70) })
    ≡ codes "counter record 2\nused 0 largest 0 teams 2\nteam 15 limit 0 share 70 taken 0 edits 0\nteam 16 limit 0 share 0 taken 0 edits 0 name x\n"
unfolding record_text team_lines digits
without-names p q = refl
