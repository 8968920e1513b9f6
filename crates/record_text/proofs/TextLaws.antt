-- The text and its parts: a name that is there or not, the lines one by one, the two forms. Assumes nothing.
use Rattle.std.specs.Prelude.{ℕ, ◌+◌, ◌<◌, ◌≡◌, refl, List, [], ◌∷◌, ◌++◌, length, take, codes, slice_index_or}
use Rattle.std.proofs.Common.{sym, ap, ◌∙◌, arith, append_assoc, append-nil}
use Rattle.std.proofs.lemmas.List.{take_more}
use Rattle.totals.specs.declared.Totals.{Totals}
use Rattle.totals.specs.Totals.{team_of}
use Rattle.listing.specs.Lines.{line_feed}
use Rattle.record_text.specs.declared.Listed.{Listed}
use Rattle.record_text.specs.Text.{named, beginning, name_part, team_line, team_lines, record_text}

pub unnamed : (name : List ℕ) → length name ≡ 0 → name_part name ≡ []
unnamed [] e = refl
unnamed (b ∷ name) e = absurd (omega arith)

pub named-part : (name : List ℕ) → (length name ≡ 0 → ⊥) → codes " name " ++ name ≡ name_part name
named-part [] e = absurd (e refl)
named-part (b ∷ name) e = refl

-- ---- lines

team_lines-append : (ls ms : List Listed) (t : Totals) → team_lines (ls ++ ms) t ≡ team_lines ls t ++ team_lines ms t
unfolding team_lines
team_lines-append [] ms t = refl
team_lines-append (l ∷ ls) ms t = ap (λ (s : List ℕ). team_line l (team_of t l.number) ++ s) (team_lines-append ls ms t) ∙ sym (append_assoc (team_line l (team_of t l.number)) (team_lines ls t) (team_lines ms t))

pub team_lines-none : (t : Totals) → team_lines [] t ≡ []
unfolding team_lines
team_lines-none t = refl

team_lines-one : (l : Listed) (t : Totals) → team_lines (l ∷ []) t ≡ team_line l (team_of t l.number)
unfolding team_lines
team_lines-one l t = append-nil (team_line l (team_of t l.number))

pub team_lines-more : (ls : List Listed) (t : Totals) (i : ℕ) (l : Listed) → i < length ls →
    team_lines (take i ls) t ++ team_line (slice_index_or ls i l) (team_of t (slice_index_or ls i l).number) ≡ team_lines (take (i + 1) ls) t
team_lines-more ls t i l h =
    let m : Listed = slice_index_or ls i l in
    ap (λ (s : List ℕ). team_lines (take i ls) t ++ s) (sym (team_lines-one m t)) ∙ sym (team_lines-append (take i ls) (m ∷ []) t) ∙ ap (λ (ms : List Listed). team_lines ms t) (sym (take_more ls i l h))

-- ---- the two forms

pub record_text-bare : (ls : List Listed) (t : Totals) → length ls ≡ 0 → beginning 1 t ++ named (codes " edits") (team_of t 0).edits ++ line_feed ≡ record_text ls t
unfolding record_text
record_text-bare [] t e = refl
record_text-bare (l ∷ ls) t e = absurd (omega arith)

regrouped : (a b c d : List ℕ) → a ++ (b ++ c) ++ d ≡ a ++ b ++ c ++ d
regrouped a b c d = ap (λ (s : List ℕ). s ++ d) (sym (append_assoc a b c))

pub record_text-teams : (ls : List Listed) (t : Totals) → (length ls ≡ 0 → ⊥) → beginning 2 t ++ (named (codes " teams") (length ls) ++ line_feed) ++ team_lines ls t ≡ record_text ls t
unfolding record_text
record_text-teams [] t e = absurd (e refl)
record_text-teams (l ∷ ls) t e = regrouped (beginning 2 t) (named (codes " teams") (length (l ∷ ls))) line_feed (team_lines (l ∷ ls) t)
