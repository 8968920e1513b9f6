-- The teams of a record, read from the words that are left.
use Rattle.std.proofs.Common.{◌≡◌, ℕ, ◌+◌, ◌<◌, ◌≤◌, List, [], ◌∷◌, ◌++◌, length, map, take, drop, set, Bor, refl, sym, ap, ◌∙◌, append_assoc, arith}
use Rattle.std.proofs.lemmas.List.{take_more_set, map-append, append-nil}
use Rattle.std.proofs.lemmas.Grind.{flat_map-append}
use Rattle.std.proofs.Math.Seq.{take-length}
use Rattle.std.specs.Prelude.{slice_index_or}
use Rattle.std.specs.List.{flat_map}
use Rattle.std.specs.Fmt.{decimal}
use Rattle.totals.specs.declared.team.Team.{Team}
use Rattle.conversation.specs.Lines.{team_numbers, texts}

abbrev pub Words : Type 0
Words = List (Bor (List ℕ))

abbrev pub word : Words → ℕ → List ℕ
word words k = (slice_index_or words k (record { ref_ptr = (0, 0); now = [] })).now

-- the words of these teams
abbrev pub team_words : List Team → List (List ℕ)
team_words teams = map decimal (flat_map team_numbers teams)

pub record IsTeamOf (left : Words) (t : Team) : Type 0 where
  pub limit : decimal t.limit ≡ word left 0
  pub share : decimal t.share ≡ word left 1
  pub taken : decimal t.taken ≡ word left 2
  pub edits : decimal t.edits ≡ word left 3

four_of : (a b c d : Bor (List ℕ)) (rest : Words) (t : Team) → IsTeamOf (a ∷ b ∷ c ∷ d ∷ rest) t
    → team_words (t ∷ []) ++ texts rest ≡ texts (a ∷ b ∷ c ∷ d ∷ rest)
four_of a b c d rest t is = rw (is.limit, is.share, is.taken, is.edits) refl

four : (left : Words) (t : Team) → 4 ≤ length left → IsTeamOf left t → team_words (t ∷ []) ++ texts (drop 4 left) ≡ texts left
four [] t long is = absurd (omega arith)
four (a ∷ []) t long is = absurd (omega arith)
four (a ∷ b ∷ []) t long is = absurd (omega arith)
four (a ∷ b ∷ c ∷ []) t long is = absurd (omega arith)
four (a ∷ b ∷ c ∷ d ∷ rest) t long is = four_of a b c d rest t is

pub one_more : (teams : List Team) (k : ℕ) (t : Team) (left others : Words) (all : List (List ℕ)) → k < length teams → 4 ≤ length left
    → IsTeamOf left t → others ≡ drop 4 left → team_words (take k teams) ++ texts left ≡ all
    → team_words (take (k + 1) (set teams k t)) ++ texts others ≡ all
one_more teams k t left others all within long is rest so_far =
    let front = team_words (take k teams) in
    ap (λ ts. team_words ts ++ texts others) (take_more_set teams k t within)
    ∙ ap (λ ns. map decimal ns ++ texts others) (flat_map-append team_numbers (take k teams) (t ∷ []))
    ∙ ap (λ ws. ws ++ texts others) (map-append decimal (flat_map team_numbers (take k teams)) (flat_map team_numbers (t ∷ [])))
    ∙ append_assoc front (team_words (t ∷ [])) (texts others)
    ∙ ap (λ ws. front ++ (team_words (t ∷ []) ++ texts ws)) rest
    ∙ ap (λ ws. front ++ ws) (four left t long is)
    ∙ so_far

pub all_of : (words others : Words) (used largest : ℕ) (teams : List Team) (left : Words) → 2 ≤ length words → length teams ≡ 16
    → length left ≡ 0 → decimal used ≡ word words 0 → decimal largest ≡ word words 1 → others ≡ drop 2 words
    → team_words (take 16 teams) ++ texts left ≡ texts others
    → decimal used ∷ decimal largest ∷ team_words teams ≡ texts words
all_of [] others used largest teams left two many none first second rest so_far = absurd (omega arith)
all_of (a ∷ []) others used largest teams left two many none first second rest so_far = absurd (omega arith)
all_of (a ∷ b ∷ words) others used largest teams (c ∷ left) two many none first second rest so_far = absurd (omega arith)
all_of (a ∷ b ∷ words) others used largest teams [] two many none first second rest so_far =
    let every : take 16 teams ≡ teams = rw (← many) (take-length teams) in
    let same : team_words teams ≡ texts words =
    ap team_words (sym every) ∙ sym (append-nil (team_words (take 16 teams))) ∙ so_far ∙ ap texts rest in
    rw (first, second, same) refl
