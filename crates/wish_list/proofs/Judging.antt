-- The tests of a path and of all paths, in parts. Assumes nothing.
use Rattle.std.specs.Prelude.{Ok, Err, ℕ, ◌+◌, ◌-◌, ◌<◌, ◌≤◌, ◌≡◌, refl, Bool, true, false, not, ◌||◌, ◌==◌, nat_lt, List, [], ◌∷◌, length, take, drop}
use Rattle.std.specs.List.{list_all, count_by}
use Rattle.std.proofs.Common.{◌∙◌, arith}
use Rattle.std.proofs.lemmas.List.{take_rest}
use Rattle.std.proofs.lemmas.Bool.{eqb-true, not-false}
use Rattle.std.proofs.lemmas.Bool.Decides.{nat_tests}
use Rattle.refusal.specs.declared.Refusal.{Refusal}
use Rattle.refusal.specs.declared.Refusal.TheVariants.{MissingNullTerminator, LimitOrMemory, InvalidNameByte, UnsafeName}
use Rattle.refusal.specs.Refusal.{Verdict, refuse, first}
use Rattle.refusal.specs.Laws.Chains.{refuse-passed}
use Rattle.refusal.specs.Laws.Tests.{or-false}
use Rattle.tree.specs.Table.{is_safe, is_plain}
use Rattle.wish_list.specs.Paths.{paths_in, is_zero, has_rest, names_of, ends_verdict, path_verdict, paths_verdict}
use Rattle.wish_list.specs.Inner.Earlier.{form_verdict, order_verdict}
use Rattle.wish_list.proofs.Cutting.{length-paths_in}

pub path_verdict-parts : (before : List (List ℕ)) (path : List ℕ) → path_verdict before path ≡ first (form_verdict path) (order_verdict before path)
unfolding path_verdict form_verdict order_verdict
path_verdict-parts before path = go (nat_lt 1024 (length path)) (not (list_all is_safe (names_of path))) (not (list_all is_plain (names_of path))) (order_verdict before path)
  where
    go : (s t u : Bool) (v : Verdict) →
        refuse s LimitOrMemory (refuse t UnsafeName (refuse u InvalidNameByte v)) ≡ first (refuse s LimitOrMemory (refuse t UnsafeName (refuse u InvalidNameByte (Ok tt)))) v
    go true t u v = refl
    go false true u v = refl
    go false false true v = refl
    go false false false v = refl

pub form-short : (path : List ℕ) → form_verdict path ≡ Ok tt → length path ≤ 1024
unfolding form_verdict
form-short path h = let t = (refuse-passed (nat_lt 1024 (length path)) LimitOrMemory _ h).0 in grind (arith, nat_tests)

pub form-some : (path : List ℕ) → form_verdict path ≡ Ok tt → 0 < length path
unfolding form_verdict is_safe
form-some [] h = let z : ◌≡◌ {A = ℕ} 0 1 = cc in absurd (omega arith)
form-some (b ∷ path) h = omega arith

-- ---- all paths

-- what is left behind a path, as a slice of its length
pub behind-first : (rest path : List ℕ) (k : ℕ) → paths_in rest ≡ path ∷ paths_in (drop k rest) → paths_in rest ≡ path ∷ paths_in (take (length rest - k) (drop k rest))
behind-first rest path k e = rw (take_rest rest k) e

module _ (rest path after : List ℕ) (e : paths_in rest ≡ path ∷ paths_in after) where
  pub left-next : (n count : ℕ) → n + length (paths_in rest) ≡ count → n + 1 + length (paths_in after) ≡ count
  left-next n count h = let l = rw e at h in omega arith

  module _ (before : List (List ℕ)) (all : Verdict) (h : all ≡ paths_verdict before (paths_in rest)) where
    pub judged-next : path_verdict before path ≡ Ok tt → all ≡ paths_verdict (path ∷ before) (paths_in after)
    unfolding paths_verdict
    judged-next p = h ∙ rw (e, p)

    pub judged-stop : (cause : Refusal) → path_verdict before path ≡ Err cause → all ≡ Err cause
    unfolding paths_verdict
    judged-stop cause p = h ∙ rw (e, p)

pub judged-end : (before : List (List ℕ)) (rest : List ℕ) (all : Verdict) → all ≡ paths_verdict before (paths_in rest) → length (paths_in rest) ≡ 0 → all ≡ Ok tt
unfolding paths_verdict
judged-end before rest all h l = h ∙ none (paths_in rest) l
  where
    none : (paths : List (List ℕ)) → length paths ≡ 0 → paths_verdict before paths ≡ Ok tt
    none [] l = refl
    none (path ∷ paths) l = absurd (omega arith)

-- where their ends are in order, there are as many as sizes
pub ends-passed : (bytes : List ℕ) (n : ℕ) → ends_verdict bytes n ≡ Ok tt → (has_rest bytes ≡ false) × (length (paths_in bytes) ≡ n)
ends-passed bytes n h =
    let t = (refuse-passed (has_rest bytes || not (count_by is_zero bytes == n)) MissingNullTerminator (Ok tt) h).0 in
    let o = or-false (has_rest bytes) (not (count_by is_zero bytes == n)) t in
    (o.0, length-paths_in bytes ∙ eqb-true (count_by is_zero bytes) n (not-false (count_by is_zero bytes == n) o.1))
