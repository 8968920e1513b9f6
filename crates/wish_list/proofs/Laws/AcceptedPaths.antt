-- What the tests of a wish list's paths give where none refuses: good names, one path for each size, a well-formed tree. Assumes nothing.
use Rattle.std.specs.Prelude.{Ok, ℕ, suc, ◌^◌, ◌<◌, ◌≤◌, ◌≡◌, true, false, not, List, [], ◌∷◌, length, ltb, get_or}
use Rattle.std.specs.List.{list_all, list_any}
use Rattle.std.proofs.Common.{ltb-false}
use Rattle.std.proofs.lemmas.Bool.{not-false}
use mathlib.Core.List.{tail}
use Rattle.refusal.specs.declared.Refusal.TheVariants.{LimitOrMemory, InvalidNameByte, UnsafeName, AlreadyExists}
use Rattle.refusal.specs.Laws.Chains.{refuse-passed, first-passed}
use Rattle.refusal.specs.Laws.Tests.{and_left, and_right}
use Rattle.tree.specs.Table.{is_plain, is_safe}
use Rattle.tree.specs.Inner.WellFormed.{IsWellFormed}
use Rattle.wish_list.specs.Paths.{paths_in, has_rest, ends_verdict, names_of, is_used_by, is_in_order, path_verdict, paths_verdict, list_verdict}
use Rattle.wish_list.specs.Tree.{wishes, tree}
use Rattle.wish_list.proofs.Judging.{ends-passed}
use Rattle.wish_list.proofs.Laws.Sound.{AllGoodNames, AllGoodWishes, tree-sound}
use Rattle.wish_list.proofs.Laws.NameTexts.{names_of-named}

-- ---- what each path has passed

pub record HasPassed (before : List (List ℕ)) (path : List ℕ) : Type 0 where
  pub short : length path ≤ 1024
  pub safe : list_all is_safe (names_of path) ≡ true
  pub plain : list_all is_plain (names_of path) ≡ true
  pub in_order : is_in_order before path ≡ true
  pub unused : list_any (λ file. is_used_by file path) before ≡ false

-- each with those before it, listed from the last to the first
abbrev pub HaveAllPassed : List (List ℕ) → List (List ℕ) → Type 0
HaveAllPassed before [] = Unit {0}
HaveAllPassed before (path ∷ paths) = HasPassed before path × HaveAllPassed (path ∷ before) paths

path-passed : (before : List (List ℕ)) (path : List ℕ) → path_verdict before path ≡ Ok tt → HasPassed before path
unfolding path_verdict
path-passed before path e =
    let e₁ = refuse-passed (ltb 1024 (length path)) LimitOrMemory _ e in
    let e₂ = refuse-passed (not (list_all is_safe (names_of path))) UnsafeName _ e₁.1 in
    let e₃ = refuse-passed (not (list_all is_plain (names_of path))) InvalidNameByte _ e₂.1 in
    let e₄ = refuse-passed (not (is_in_order before path)) AlreadyExists _ e₃.1 in
    let e₅ = refuse-passed (list_any (λ file. is_used_by file path) before) AlreadyExists _ e₄.1 in
    record {
      short = ltb-false 1024 (length path) e₁.0;
      safe = not-false _ e₂.0;
      plain = not-false _ e₃.0;
      in_order = not-false _ e₄.0;
      unused = e₅.0;
    }

paths-passed : (before paths : List (List ℕ)) → paths_verdict before paths ≡ Ok tt → HaveAllPassed before paths
unfolding paths_verdict
paths-passed before [] e = tt
paths-passed before (path ∷ paths) e =
    let p = first-passed (path_verdict before path) (paths_verdict (path ∷ before) paths) e in
    (path-passed before path p.0, paths-passed (path ∷ before) paths p.1)

pub record IsAccepted (bytes : List ℕ) (n : ℕ) : Type 0 where
  pub ended : has_rest bytes ≡ false
  pub counted : length (paths_in bytes) ≡ n
  pub passed : HaveAllPassed [] (paths_in bytes)

pub list-accepted : (bytes : List ℕ) (n : ℕ) → list_verdict bytes n ≡ Ok tt → IsAccepted bytes n
unfolding list_verdict
list-accepted bytes n e =
    let p = first-passed (ends_verdict bytes n) (paths_verdict [] (paths_in bytes)) e in
    let o = ends-passed bytes n p.0 in
    record { ended = o.0; counted = o.1; passed = paths-passed [] (paths_in bytes) p.1 }

-- ---- the names are good

good_names : (names : List (List ℕ)) → list_all is_safe names ≡ true → list_all is_plain names ≡ true → AllGoodNames names
good_names [] s p = tt
good_names (name ∷ names) s p = ((and_left _ _ p, and_left _ _ s), good_names names (and_right _ _ s) (and_right _ _ p))

pub names_of-good : (before : List (List ℕ)) (path : List ℕ) → HasPassed before path → AllGoodNames (names_of path)
names_of-good before path p = good_names (names_of path) p.safe p.plain

-- ---- the tree is well formed where each size and offset fits 4 bytes

abbrev pub AllWords : List ℕ → Type 0
AllWords s = (i : ℕ) → get_or s i 0 < 2 ^ 32

tail_words : (s : List ℕ) → AllWords s → AllWords (tail s)
tail_words [] a i = a 0
tail_words (x ∷ s) a i = a (suc i)

wishes-good : (before paths : List (List ℕ)) (sizes offsets : List ℕ) → HaveAllPassed before paths → AllWords sizes → AllWords offsets → AllGoodWishes (wishes paths sizes offsets)
unfolding wishes
wishes-good before [] sizes offsets p a b = tt
wishes-good before (path ∷ paths) sizes offsets p a b = (
  record { named = names_of-named path; good = names_of-good before path p.0; offset_fits = b 0; size_fits = a 0 },
  wishes-good (path ∷ before) paths (tail sizes) (tail offsets) p.1 (tail_words sizes a) (tail_words offsets b),
)

pub accepted-sound : (bytes sizes offsets : List ℕ) → list_verdict bytes (length sizes) ≡ Ok tt → AllWords sizes → AllWords offsets → IsWellFormed (tree (wishes (paths_in bytes) sizes offsets))
accepted-sound bytes sizes offsets e a b =
    tree-sound (wishes (paths_in bytes) sizes offsets) (wishes-good [] (paths_in bytes) sizes offsets (list-accepted bytes (length sizes) e).passed a b)
