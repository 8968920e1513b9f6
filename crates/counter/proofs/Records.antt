-- A record in its 66 slots: one turn of each loop that reads or writes it, and that each undoes the other. Assumes nothing.
use Rattle.std.proofs.Common.{◌≡◌, ℕ, zero, suc, ◌+◌, ◌*◌, ◌<◌, ◌≤◌, List, [], ◌∷◌, ◌++◌, length, get_or, set, take, drop, refl, sym, ap, ◌∙◌, add-one, append_assoc, append-nil, length-append, length-take-le, drop-cons, drop_of_length-le, take_all, take_at, get_or-append-add, arith}
use Rattle.std.proofs.lemmas.List.{take_more, set_at}
use Rattle.std.proofs.Math.Seq.{append_snoc}
use Rattle.std.proofs.lemmas.Grind.{flat_map-append}
use Rattle.std.specs.List.{flat_map}
use Rattle.endian.specs.Bytes.{put}
use Rattle.endian.specs.Laws.Stored.{length-put}
use Rattle.totals.specs.declared.team.Team.{Team}
use Rattle.totals.specs.declared.Totals.{Totals}
use Rattle.counter.specs.Replies.{team_words, totals_words, team_at, teams_at, totals_in}

-- ---- reading

teams-snoc : (ws : List ℕ) (at n : ℕ) → teams_at ws at (suc n) ≡ teams_at ws at n ++ (team_at ws (at + 4 * n) ∷ [])
unfolding teams_at
teams-snoc ws at zero = let e : at + 4 * zero ≡ at = omega arith in rw e
teams-snoc ws at (suc n) = let e : at + 4 + 4 * n ≡ at + 4 * suc n = omega arith in ap (λ (l : List Team). team_at ws at ∷ l) (rw e at (teams-snoc ws (at + 4) n))

length-teams : (ws : List ℕ) (at n : ℕ) → length (teams_at ws at n) ≡ n
unfolding teams_at
length-teams ws at zero = refl
length-teams ws at (suc n) = ap suc (length-teams ws (at + 4) n)

-- the first k places hold the first k teams, and the others what they held
pub record IsRead (slots : List ℕ) (before : List Team) (k : ℕ) (teams : List Team) : Type 0 where
  pub within : k ≤ length before
  pub filled : teams ≡ teams_at slots 2 k ++ drop k before

pub read-turn : (ws : List ℕ) (before teams : List Team) (k : ℕ) (m : Team) → IsRead ws before k teams → k < length before → m ≡ team_at ws (2 + 4 * k) → IsRead ws before (k + 1) (set teams k m)
read-turn ws before teams k m so-far h e = record {
  within = omega arith;
  filled = rw (so-far.filled, e, add-one k, drop-cons before k m h, teams-snoc ws 2 k) (set_at (teams_at ws 2 k) _ _ _ k (length-teams ws 2 k) ∙ sym (append_snoc (teams_at ws 2 k) _ _));
}

pub read-end : (ws : List ℕ) (before teams : List Team) (k : ℕ) → IsRead ws before k teams → length before ≡ 16 → 16 ≤ k → teams ≡ teams_at ws 2 16
read-end ws before teams k done n h =
    let e : k ≡ 16 = omega (arith, done.within) in
    done.filled ∙ rw (e, drop_of_length-le before {i = 16} (omega arith)) (append-nil (teams_at ws 2 16))

-- the words of n teams are the 4 * n slots from `at` on
words-read : (ws : List ℕ) (at n : ℕ) → at + 4 * n ≤ length ws → flat_map team_words (teams_at ws at n) ≡ take (4 * n) (drop at ws)
unfolding teams_at
words-read ws at zero h = refl
words-read ws at (suc n) h =
    let e : 4 * suc n ≡ suc (suc (suc (suc (4 * n)))) = omega arith in
    let a : at + 1 ≡ suc at = omega arith in
    let b : at + 2 ≡ suc (suc at) = omega arith in
    let c : at + 3 ≡ suc (suc (suc at)) = omega arith in
    let d : at + 4 ≡ suc (suc (suc (suc at))) = omega arith in
    let later : flat_map team_words (teams_at ws (at + 4) n) ≡ take (4 * n) (drop (at + 4) ws) = words-read ws (at + 4) n (omega arith) in
    rw (e, drop-cons ws at 0 (omega arith), drop-cons ws (suc at) 0 (omega arith), drop-cons ws (suc (suc at)) 0 (omega arith), drop-cons ws (suc (suc (suc at))) 0 (omega arith), later, a, b, c, d) refl

pub all-slots : (ws : List ℕ) → length ws ≡ 66 → totals_words (totals_in ws) ≡ ws
all-slots ws h =
    let d : List ℕ = drop 2 ws in
    let whole : ws ≡ get_or ws 0 0 ∷ get_or ws 1 0 ∷ drop 2 ws = drop-cons ws 0 0 (omega arith) ∙ ap (λ (l : List ℕ). get_or ws 0 0 ∷ l) (drop-cons ws 1 0 (omega arith)) in
    let few : length (drop 2 ws) ≤ 64 = omega (arith, ap length whole) in
    ap (λ (l : List ℕ). get_or ws 0 0 ∷ get_or ws 1 0 ∷ l) (words-read ws 2 16 (omega arith) ∙ take_all 64 (drop 2 ws) few) ∙ sym whole

-- ---- writing

-- up to the end of what was put
take_put : (s : List ℕ) (at : ℕ) (a : List ℕ) → at + length a ≤ length s → take (at + length a) (put s at a) ≡ take at s ++ a
unfolding put
take_put s at a h =
    let l : length (take at s ++ a) ≡ at + length a = length-append (take at s) a ∙ ap (λ (k : ℕ). k + length a) (length-take-le at s (omega arith)) in
    rw (← append_assoc (take at s) a (drop (at + length a) s)) (take_at (take at s ++ a) _ (at + length a) l)

-- so many teams are written
pub record IsWritten (t : Totals) (k : ℕ) (slots : List ℕ) : Type 0 where
  pub room : length slots ≡ 66
  pub words : take (2 + 4 * k) slots ≡ t.used ∷ t.largest ∷ flat_map team_words (take k t.teams)

pub write-turn : (t : Totals) (k : ℕ) (slots after ws : List ℕ) (none : Team) → IsWritten t k slots → k < length t.teams → length t.teams ≡ 16 → ws ≡ team_words (get_or t.teams k none) → after ≡ put slots (2 + 4 * k) ws → IsWritten t (k + 1) after
write-turn t k slots after ws none so-far h many words put-is =
    let m : Team = get_or t.teams k none in
    let e : 2 + 4 * (k + 1) ≡ 2 + 4 * k + 4 = omega arith in
    let fits : 2 + 4 * k + 4 ≤ length slots = omega (arith, so-far.room) in
    let more : flat_map team_words (take (k + 1) t.teams) ≡ flat_map team_words (take k t.teams) ++ team_words m =
    ap (flat_map team_words) (take_more t.teams k none h) ∙ flat_map-append team_words (take k t.teams) (m ∷ []) ∙ ap (λ (l : List ℕ). flat_map team_words (take k t.teams) ++ l) (append-nil (team_words m)) in
    record {
      room = rw (put-is, words) (length-put slots (2 + 4 * k) (team_words m) fits ∙ so-far.room);
      words = rw (put-is, words, e, more) (take_put slots (2 + 4 * k) (team_words m) fits ∙ ap (λ (l : List ℕ). l ++ team_words m) so-far.words);
    }

pub write-end : (t : Totals) (slots : List ℕ) (k : ℕ) → IsWritten t k slots → length t.teams ≡ 16 → 16 ≤ k → slots ≡ totals_words t
write-end t slots k done many h =
    let all : take (2 + 4 * k) slots ≡ slots = take_all (2 + 4 * k) slots (omega (arith, done.room)) in
    sym all ∙ done.words ∙ ap (λ (l : List Team). t.used ∷ t.largest ∷ flat_map team_words l) (take_all k t.teams (omega (arith, many)))

-- ---- a record that was written is read back

team-here : (before behind : List ℕ) (m : Team) → team_at (before ++ (team_words m ++ behind)) (length before) ≡ m
team-here before behind m =
    let ws : List ℕ = team_words m ++ behind in
    let at : length before + 0 ≡ length before = omega arith in
    rw (rw at at (get_or-append-add before ws 0 0), get_or-append-add before ws 1 0, get_or-append-add before ws 2 0, get_or-append-add before ws 3 0) refl

teams-here : (before : List ℕ) (teams : List Team) → teams_at (before ++ flat_map team_words teams) (length before) (length teams) ≡ teams
unfolding teams_at
teams-here before [] = refl
teams-here before (m ∷ teams) =
    let behind : List ℕ = flat_map team_words teams in
    let next : length (before ++ team_words m) ≡ length before + 4 = length-append before (team_words m) in
    let later : teams_at (before ++ (team_words m ++ behind)) (length before + 4) (length teams) ≡ teams =
    rw (append_assoc before (team_words m) behind, next) at (teams-here (before ++ team_words m) teams) in
    rw (team-here before behind m, later) refl

pub read-back : (t : Totals) → length t.teams ≡ 16 → totals_in (totals_words t) ≡ t
read-back t many =
    let teams : teams_at (totals_words t) 2 16 ≡ t.teams = rw many at (teams-here (t.used ∷ t.largest ∷ []) t.teams) in
    rw teams refl
