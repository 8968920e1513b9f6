-- The paths of accepted wishes rise, and so do those of all entries of their tree; no file is used as a directory. Assumes nothing.
use Rattle.std.specs.Prelude.{ℕ, zero, suc, ◌-◌, ◌<◌, ◌≡◌, refl, true, false, List, [], ◌∷◌, ◌++◌, length, drop, get_or}
use Rattle.std.specs.List.{list_any}
use Rattle.std.proofs.Common.{sym, ◌∙◌, arith, length-drop}
use Rattle.std.proofs.lemmas.Bool.{false≢true}
use Rattle.std.proofs.lemmas.List.Folds.{list_any_at}
use Rattle.refusal.specs.Laws.Tests.{is_false}
use Rattle.tree.specs.Table.{is_safe}
use Rattle.tree.specs.Inner.WellFormed.{IsGoodName}
use Rattle.wish_list.specs.Paths.{is_below, is_used_by, names_of}
use Rattle.wish_list.specs.Tree.{wishes, common}
use Rattle.wish_list.proofs.Laws.Below.{common-less}
use Rattle.wish_list.proofs.Laws.Sound.{AllGoodNames, good-rest}
use Rattle.wish_list.proofs.Laws.NameTexts.{names_of-named}
use Rattle.wish_list.proofs.Laws.AcceptedPaths.{HasPassed, HaveAllPassed, names_of-good}
use Rattle.master.proofs.Entries.{front_of, paths_below, paths_with, entry_paths}
use Rattle.master.proofs.Laws.Order.{Begins, below-trans, below-longer, below-front}
use Rattle.master.proofs.Laws.Parents.{front-more}
use Rattle.master.proofs.Laws.NewPathsFiles.{join-names_of, front-join}
use Rattle.master.proofs.Laws.OrderNames.{AllWhole, joined, joined-behind, names_of-whole, common-last}
use mathlib.Core.List.{tail}

-- ---- texts that rise, the first of them above `last`

abbrev pub Rise : List ℕ → List (List ℕ) → Type 0
Rise last [] = Unit {0}
Rise last (text ∷ texts) = (is_below last text ≡ true) × Rise text texts

rise-from : (last : List ℕ) (texts : List (List ℕ)) (j : ℕ) → Rise last texts → j < length texts → is_below last (get_or texts j []) ≡ true
rise-from last [] j r h = absurd (omega arith)
rise-from last (text ∷ texts) zero r h = r.0
rise-from last (text ∷ texts) (suc j) r h = below-trans last text (get_or texts j []) r.0 (rise-from text texts j r.1 (omega arith))

pub rise-at : (last : List ℕ) (texts : List (List ℕ)) (i j : ℕ) → Rise last texts → i < j → j < length texts → is_below (get_or texts i []) (get_or texts j []) ≡ true
rise-at last [] i j r h l = absurd (omega arith)
rise-at last (text ∷ texts) i zero r h l = absurd (omega arith)
rise-at last (text ∷ texts) zero (suc j) r h l = rise-from text texts j r.1 (omega arith)
rise-at last (text ∷ texts) (suc i) (suc j) r h l = rise-at text texts i j r.1 (omega arith) (omega arith)

-- ---- the accepted paths

rise-rest : (last : List ℕ) (before paths : List (List ℕ)) → HaveAllPassed (last ∷ before) paths → Rise last paths
rise-rest last before [] p = tt
rise-rest last before (path ∷ paths) p = ((p.0).in_order, rise-rest path (last ∷ before) paths p.1)

-- a file is no directory of a later one
any-none : (path : List ℕ) (files : List (List ℕ)) (i : ℕ) → i < length files → list_any (λ file. is_used_by file path) files ≡ false → is_used_by (get_or files i []) path ≡ false
any-none path files i h e = is_false (is_used_by (get_or files i []) path) (λ u. false≢true (sym e ∙ list_any_at (λ file. is_used_by file path) files i [] h u))

unused-behind : (before paths : List (List ℕ)) (i j : ℕ) → HaveAllPassed before paths → i < length before → j < length paths → is_used_by (get_or before i []) (get_or paths j []) ≡ false
unused-behind before [] i j p h l = absurd (omega arith)
unused-behind before (path ∷ paths) i zero p h l = any-none path before i h (p.0).unused
unused-behind before (path ∷ paths) i (suc j) p h l = unused-behind (path ∷ before) paths (suc i) j p.1 (omega arith) (omega arith)

pub unused-at : (before paths : List (List ℕ)) (i j : ℕ) → HaveAllPassed before paths → i < j → j < length paths → is_used_by (get_or paths i []) (get_or paths j []) ≡ false
unused-at before [] i j p h l = absurd (omega arith)
unused-at before (path ∷ paths) i zero p h l = absurd (omega arith)
unused-at before (path ∷ paths) zero (suc j) p h l = unused-behind (path ∷ before) paths zero j p.1 (omega arith) (omega arith)
unused-at before (path ∷ paths) (suc i) (suc j) p h l = unused-at (path ∷ before) paths i j p.1 (omega arith) (omega arith)

-- ---- the entries of one file

-- the first of paths_below
abbrev first_below : List ℕ → List (List ℕ) → List ℕ
first_below front [] = front
first_below front (name ∷ []) = front ++ name
first_below front (name ∷ next ∷ names) = front ++ (name ++ (0x2F ∷ []))

-- a good name has a byte
named : (name : List ℕ) → IsGoodName name → (b : ℕ) × (rest : List ℕ) × (name ≡ b ∷ rest)
unfolding is_safe
named [] g = absurd (false≢true g.1)
named (b ∷ rest) g = (b, rest, refl)

first-above : (front : List ℕ) (names : List (List ℕ)) → 0 < length names → AllGoodNames names → is_below front (first_below front names) ≡ true
first-above front [] h g = absurd (omega arith)
first-above front (name ∷ []) h g = let n = named name g.0 in rw n.2 (below-longer front n.0 n.1)
first-above front (name ∷ next ∷ names) h g = let n = named name g.0 in rw n.2 (below-longer front n.0 (n.1 ++ (0x2F ∷ [])))

rise-below : (last front : List ℕ) (names : List (List ℕ)) (texts : List (List ℕ)) → 0 < length names → AllGoodNames names → is_below last (first_below front names) ≡ true → Rise (front ++ joined names) texts →
    Rise last (paths_below front names ++ texts)
unfolding paths_below
rise-below last front [] texts h g b r = absurd (omega arith)
rise-below last front (name ∷ []) texts h g b r = (b, r)
rise-below last front (name ∷ next ∷ names) texts h g b r =
    let e : List ℕ = front ++ (name ++ (0x2F ∷ [])) in
    (b, rise-below e e (next ∷ names) texts (omega arith) g.1 (first-above e (next ∷ names) (omega arith) g.1) (rw (joined-behind front name next names) r))

-- ---- the entries of all files

-- the first new entry of a file is above the file before it
first-new : (last path : List ℕ) (n : ℕ) (names : List (List ℕ)) → n < length names → joined names ≡ path → is_below last path ≡ true → (suc n < length names → Begins last (front_of (suc n) names) → ⊥) →
    is_below last (first_below (front_of n names) (drop n names)) ≡ true
first-new last path n names h e b f = go (drop n names) refl (length-drop n names)
  where
    go : (rest : List (List ℕ)) → drop n names ≡ rest → length rest ≡ length names - n → is_below last (first_below (front_of n names) rest) ≡ true
    go [] r l = absurd (omega arith)
    go (name ∷ []) r l = let p : front_of n names ++ name ≡ path = rw r at (front-join n names h) ∙ e in rw p b
    go (name ∷ next ∷ rest) r l =
        let front : List ℕ = front_of n names in
        let front≡ : front_of (suc n) names ≡ front ++ (name ++ (0x2F ∷ [])) = front-more n names name (next ∷ rest) r in
        let path≡ : (front ++ (name ++ (0x2F ∷ []))) ++ joined (next ∷ rest) ≡ path = joined-behind front name next rest ∙ rw r at (front-join n names h) ∙ e in
        below-front last (front ++ (name ++ (0x2F ∷ []))) (joined (next ∷ rest)) (rw path≡ b) (rw front≡ at (f (omega arith)))

file-rises : (last path : List ℕ) (names before : List (List ℕ)) (texts : List (List ℕ)) → AllWhole names → joined names ≡ last → HasPassed before path → is_below last path ≡ true → Rise path texts →
    Rise last (paths_with names (names_of path) ++ texts)
file-rises last path names before texts a e p b r =
    let own : List (List ℕ) = names_of path in
    let n : ℕ = common names own in
    let h : n < length own = common-less names own (names_of-named path) in
    let l : length (drop n own) ≡ length own - n = length-drop n own in
    let path≡ : front_of n own ++ joined (drop n own) ≡ path = front-join n own h ∙ join-names_of path in
    rise-below last (front_of n own) (drop n own) texts (omega arith) (good-rest n own (names_of-good before path p))
    (first-new last path n own h (join-names_of path) b (λ g s. common-last names own a (names_of-whole path) g (rw e s)))
    (rw path≡ r)

rise-behind : (last : List ℕ) (before paths : List (List ℕ)) (sizes offsets : List ℕ) → HaveAllPassed (last ∷ before) paths → Rise last (entry_paths (names_of last) (wishes paths sizes offsets))
unfolding entry_paths wishes
rise-behind last before [] sizes offsets p = tt
rise-behind last before (path ∷ paths) sizes offsets p =
    file-rises last path (names_of last) (last ∷ before) (entry_paths (names_of path) (wishes paths (tail sizes) (tail offsets))) (names_of-whole last) (join-names_of last) p.0 (p.0).in_order
    (rise-behind path (last ∷ before) paths (tail sizes) (tail offsets) p.1)

-- an accepted path has a byte
above-empty : (before : List (List ℕ)) (path : List ℕ) → HasPassed before path → is_below [] path ≡ true
above-empty before [] p = absurd (no_byte (names_of-good before [] p))
  where
    no_byte : AllGoodNames ([] ∷ []) → ⊥
    no_byte g = let n = named [] g.0 in let z : ◌≡◌ {A = ℕ} 0 1 = cc (n.2) in omega arith
above-empty before (b ∷ path) p = refl

pub entries-rise : (paths : List (List ℕ)) (sizes offsets : List ℕ) → HaveAllPassed [] paths → Rise [] (entry_paths [] (wishes paths sizes offsets))
unfolding entry_paths wishes
entries-rise [] sizes offsets p = tt
entries-rise (path ∷ paths) sizes offsets p =
    file-rises [] path [] [] (entry_paths (names_of path) (wishes paths (tail sizes) (tail offsets))) tt refl p.0 (above-empty [] path p.0)
    (rise-behind path [] paths (tail sizes) (tail offsets) p.1)

pub paths-rise : (paths : List (List ℕ)) → HaveAllPassed [] paths → Rise [] paths
paths-rise [] p = tt
paths-rise (path ∷ paths) p = (above-empty [] path p.0, rise-rest path [] paths p.1)
