-- A path cut by the place of its last `/`. Assumes nothing.
use Rattle.std.specs.Prelude.{ℕ, ◌+◌, ◌<◌, ◌≤◌, ◌≡◌, ◌≢◌, false, List, [], ◌∷◌, ◌++◌, length, take, drop, get_or}
use Rattle.std.specs.List.{list_any}
use Rattle.std.proofs.Common.{sym, ap, ◌∙◌, arith, length-drop, get_or-drop, take-append-drop}
use Rattle.std.proofs.lemmas.List.{drop_more}
use Rattle.std.proofs.lemmas.List.Elements.{All-from_get_or}
use Rattle.std.proofs.lemmas.List.Folds.{list_any_none}
use borrow.Author.Tests.{ne_eqb}
use Rattle.sheet_run.specs.Lines.{is_slash, name_in, parent_path}
use Rattle.sheet_run.proofs.Laws.CutAtLast.{name_in-whole, parent_path-none, cut-there}

-- no byte of these is one
plain-reads : (s : List ℕ) → ((k : ℕ) → k < length s → get_or s k 0 ≢ 0x2F) → list_any is_slash s ≡ false
plain-reads s clear = list_any_none is_slash s (All-from_get_or (λ b. is_slash b ≡ false) s 0 (λ k h. ne_eqb (get_or s k 0) 0x2F (clear k h)))

-- there is one at i, and none behind it
pub cut-at : (path : List ℕ) (i : ℕ) → i < length path → get_or path i 0 ≡ 0x2F → ((k : ℕ) → i + 1 ≤ k → k < length path → get_or path k 0 ≢ 0x2F) →
    (parent_path path ≡ take i path) × (name_in path ≡ drop (i + 1) path)
cut-at path i h here behind =
    let name : List ℕ = drop (i + 1) path in
    let plain : list_any is_slash name ≡ false =
    plain-reads name (λ k l. rw get_or-drop (behind (i + 1 + k) (omega arith) (omega (arith, length-drop (i + 1) path)))) in
    let e : path ≡ take i path ++ (0x2F ∷ name) =
    sym (take-append-drop i path) ∙ ap (λ (l : List ℕ). take i path ++ l) (drop_more path i 0 h ∙ ap (λ (b : ℕ). b ∷ name) here) in
    let c = cut-there (take i path) name plain in
    (ap parent_path e ∙ c.0, ap name_in e ∙ c.1)

-- there is none
pub cut-nowhere : (path : List ℕ) → ((k : ℕ) → k < length path → get_or path k 0 ≢ 0x2F) → (parent_path path ≡ []) × (name_in path ≡ path)
cut-nowhere path clear = let plain = plain-reads path clear in (parent_path-none path plain, name_in-whole path plain)
