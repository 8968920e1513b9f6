-- The paths that came before, as they are kept: what they say of the next path, and that they are kept with it. Assumes nothing.
use Rattle.std.specs.Prelude.{Ok, Err, ℕ, ◌+◌, ◌<◌, ◌≤◌, ◌≡◌, refl, Bool, true, false, not, ◌&&◌, List, [], ◌∷◌, length, take, ◌==◌, slice_index, slice_index_or, slice_set}
use Rattle.std.specs.List.{list_any}
use Rattle.std.proofs.Common.{ap, sym, ◌∙◌, ⊎_elim, arith}
use Rattle.std.proofs.Math.Bool.{and-or_distrib_right}
use Rattle.std.proofs.Math.Seq.{take-length}
use Rattle.std.proofs.lemmas.List.{get_or-set_same, get_or-set_other}
use Rattle.endian.specs.Bytes.{are_same_bytes}
use Rattle.endian.specs.Laws.Stored.{same_refl}
use Rattle.refusal.specs.declared.Refusal.TheVariants.{AlreadyExists}
use Rattle.refusal.specs.Refusal.{refuse}
use Rattle.refusal.specs.Laws.Chains.{refuse-passed}
use Rattle.refusal.specs.Laws.Tests.{or-false, lt-or-le}
use Rattle.wish_list.specs.Paths.{is_below, is_used_by, is_in_order}
use Rattle.wish_list.specs.Inner.Earlier.{common_length, order_verdict, last_of, is_one_of, IsKept}
use Rattle.wish_list.proofs.Order.{below-later, below-itself, used-itself, bytes-front, common-within_last, take-common, used-common, bytes-common}

is_in_order-last : (before : List (List ℕ)) (path : List ℕ) → 0 < length path → is_in_order before path ≡ is_below (last_of before) path
is_in_order-last [] [] h = absurd (omega arith)
is_in_order-last [] (y ∷ path) h = refl
is_in_order-last (last ∷ before) path h = refl

module _ (last path : List ℕ) (b : is_below last path ≡ true) where
  none_later : (before : List (List ℕ)) → list_any (λ file. is_below last file) before ≡ false → list_any (λ file. is_below path file) before ≡ false
  none_later [] h = refl
  none_later (file ∷ before) h =
      let t = or-false (is_below last file) _ h in
      rw (below-later last path file b t.0, none_later before t.1)

  any-used : (before : List (List ℕ)) → list_any (λ file. is_below last file) before ≡ false → list_any (λ file. is_used_by file last) before ≡ false →
      list_any (λ file. is_used_by file path) before ≡ (is_one_of before (take (common_length last path) last) && (slice_index path (common_length last path) == 0x2F))
  any-used [] h g = refl
  any-used (file ∷ before) h g =
      let t = or-false (is_below last file) _ h in
      let u = or-false (is_used_by file last) _ g in
      rw (used-common last path file b t.0 u.0, any-used before t.1 u.1) (sym (and-or_distrib_right (are_same_bytes file (take (common_length last path) last)) (is_one_of before (take (common_length last path) last)) (slice_index path (common_length last path) == 0x2F)))

  one_of-front : (before : List (List ℕ)) (n : ℕ) → list_any (λ file. is_below last file) before ≡ false → common_length last path < n → n ≤ length path →
      is_one_of before (take n path) ≡ false
  one_of-front [] n h m w = refl
  one_of-front (file ∷ before) n h m w =
      let t = or-false (is_below last file) _ h in
      rw (bytes-common last path file n b t.0 m w, one_of-front before n t.1 m w)

module _ (before : List (List ℕ)) (last path : List ℕ) (marks : List Bool) (some : 0 < length path) (k : IsKept before last marks) where
  pub order_verdict-behind : is_below last path ≡ false → Err AlreadyExists ≡ order_verdict before path
  unfolding order_verdict
  order_verdict-behind h = rw (is_in_order-last before path some, ← k.is_last, h)

  order_verdict-below : is_below last path ≡ true → (t : Bool) → t ≡ (slice_index_or marks (common_length last path) false && slice_index path (common_length last path) == 0x2F) →
      order_verdict before path ≡ refuse t AlreadyExists (Ok tt)
  unfolding order_verdict
  order_verdict-below h t e =
      rw (is_in_order-last before path some, ← k.is_last, h, any-used last path h before k.none_behind k.none_around, e, k.marked (common_length last path) (common-within_last last path))

  none_used : Ok tt ≡ order_verdict before path → list_any (λ file. is_used_by file path) before ≡ false
  unfolding order_verdict
  none_used v = (refuse-passed (list_any (λ file. is_used_by file path) before) AlreadyExists (Ok tt) (refuse-passed (not (is_in_order before path)) AlreadyExists _ (sym v)).1).0

  -- a path that is behind them: refused where the test holds, and else passed
  pub order_verdict-around : is_below last path ≡ true → (t : Bool) (n : ℕ) → n ≡ common_length last path → t ≡ (slice_index_or marks n false && slice_index path n == 0x2F) → t ≡ true →
      Err AlreadyExists ≡ order_verdict before path
  order_verdict-around h t n m e y = sym (order_verdict-below h t (rw m at e) ∙ ap (λ (b : Bool). refuse b AlreadyExists (Ok tt)) y)

  pub order_verdict-passed : is_below last path ≡ true → (t : Bool) (n : ℕ) → n ≡ common_length last path → t ≡ (slice_index_or marks n false && slice_index path n == 0x2F) → t ≡ false →
      Ok tt ≡ order_verdict before path
  order_verdict-passed h t n m e y = sym (order_verdict-below h t (rw m at e) ∙ ap (λ (b : Bool). refuse b AlreadyExists (Ok tt)) y)

  -- LAW: a path that is not refused is kept as the last one
  pub kept-with : is_below last path ≡ true → Ok tt ≡ order_verdict before path → (shared : ℕ) → shared ≡ common_length last path → (now : List Bool) → length path < length now →
      ((n : ℕ) → n < shared + 1 → slice_index_or now n false ≡ slice_index_or marks n false) →
      ((n : ℕ) → shared + 1 ≤ n → n < length path → slice_index_or now n false ≡ false) →
      IsKept (path ∷ before) path (slice_set now (length path) true)
  kept-with h v shared e now room same cleared = record {
    is_last = refl;
    none_behind = rw (below-itself path) (none_later last path h before k.none_behind);
    none_around = rw (used-itself path) (none_used v);
    marked = λ n w. ⊎_elim (λ (l : n < length path). rw (bytes-front path n l) (get_or-set_other now (length path) n true false (λ d. omega arith) ∙ front n l))
        (λ (l : length path ≤ n). let d : n ≡ length path = omega arith in rw (d, take-length path, same_refl path) (get_or-set_same now (length path) true false room))
        (lt-or-le n (length path));
  }
    where
      front : (n : ℕ) → n < length path → slice_index_or now n false ≡ is_one_of before (take n path)
      front n l =
          ⊎_elim (λ (m : n < shared + 1). same n m ∙ k.marked n (omega (arith, common-within_last last path)) ∙ ap (is_one_of before) (take-common last path n h (omega arith)))
          (λ (m : shared + 1 ≤ n). cleared n m l ∙ sym (one_of-front last path h before n k.none_behind (omega arith) (omega arith)))
          (lt-or-le n (shared + 1))
