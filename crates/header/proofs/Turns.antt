-- One turn of the loop over the fields: the answer of those that are left. Assumes nothing.
use Rattle.std.specs.Prelude.{Ok, is_err}
use Rattle.refusal.specs.Refusal.{Verdict}
use Prim.Native.Nat.{ℕ, suc, ◌+◌, ◌<◌, ◌≤◌}
use mathlib.Core.Path.{◌≡◌, ◌∙◌}
use mathlib.Core.Bool.{true, false}
use mathlib.Core.List.{List}
use native.Mathlib.Omega.{arith}
use native.Mathlib.Numerals.{add-one}
use lib.ListN.{length, drop, drop_of_length-le}
use lib.Seq.{drop-cons}
use Rattle.refusal.specs.Refusal.{first}
use Rattle.refusal.specs.Laws.Chains.{first-stop, first-go}
use Rattle.header.specs.Fields.{place, fields}
use Rattle.header.specs.Inner.Judged.{field_at}
use Rattle.header.specs.Verdicts.{field_verdict, all_fields_verdict}
use Rattle.header.specs.Laws.Tiling.{fields-count}

module _ (image : List ℕ) (k : ℕ) where
  pub fields-end : 21 ≤ k → all_fields_verdict image (drop k fields) ≡ Ok tt
  unfolding all_fields_verdict
  fields-end h = let l : length fields ≤ k = omega (arith, fields-count) in rw (drop_of_length-le fields {i = k} l)

  module _ (v : Verdict) (h : k < 21) (e : v ≡ field_verdict image (field_at k)) where
    turn : all_fields_verdict image (drop k fields) ≡ first v (all_fields_verdict image (drop (suc k) fields))
    unfolding all_fields_verdict
    turn = let l : k < length fields = omega (arith, fields-count) in rw (drop-cons fields k (place 0 0) l, e)

    pub fields-stop : is_err v ≡ true → all_fields_verdict image (drop k fields) ≡ v
    fields-stop r = turn ∙ first-stop v (all_fields_verdict image (drop (suc k) fields)) r

    pub fields_go : is_err v ≡ false → all_fields_verdict image (drop k fields) ≡ all_fields_verdict image (drop (k + 1) fields)
    fields_go r = rw (add-one k) (turn ∙ first-go v (all_fields_verdict image (drop (suc k) fields)) r)
