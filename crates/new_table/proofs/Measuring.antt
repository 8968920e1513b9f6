-- The loop that measures: what is measured and what is left make the whole. Assumes nothing.
use Rattle.std.specs.Prelude.{ℕ, suc, ◌+◌, ◌-◌, ◌*◌, ◌<◌, ◌≤◌, ◌≡◌, refl, true, false, List, [], ◌∷◌, length, take, drop, get_or}
use Rattle.std.specs.List.{list_all}
use Rattle.std.proofs.Common.{sym, ◌∙◌, arith, drop-drop, length-drop, le-leb}
use Rattle.std.proofs.lemmas.Bool.{lt-leb}
use Rattle.std.proofs.lemmas.List.{drop_all, take_rest}
use Rattle.refusal.specs.Laws.Tests.{and-false}
use Rattle.tree.specs.Table.{first_text, name_at}
use Rattle.tree.proofs.Laws.Texts.{name-ends}
use Rattle.wish_list.specs.Paths.{paths_in}
use Rattle.wish_list.proofs.Cutting.{paths_in-next}
use Rattle.new_table.specs.Inner.Steps.{slashes, shared_bytes, own_part, entries_behind, texts_behind, is_shallow_path, is_small}

-- bytes that end in a zero byte end each path
pub text-ends : (s : List ℕ) (at : ℕ) → at < length s → get_or s (length s - 1) 0 ≡ 0 → at + length (first_text (drop at s)) < length s
unfolding name_at
text-ends s at h z =
    let a : 12 * 0 + at ≡ at = omega arith in
    rw a at (name-ends s 0 at (omega arith) z).0

-- the part of a path behind the shared directories
pub own-is : (before p : List ℕ) (r : ℕ) → r ≡ shared_bytes before p → take (length p - r) (drop r p) ≡ own_part before p
own-is before p r e = rw e (take_rest p (shared_bytes before p))

-- ---- what was measured before the path at `at`, behind the path `before`

pub record Measured (s before : List ℕ) (at entries texts : ℕ) : Type 0 where
  pub reached : at ≤ length s
  pub few : entries ≤ 16384
  pub short : texts ≤ 1048576
  pub entries_left : entries + entries_behind before (paths_in (drop at s)) ≡ suc (entries_behind [] (paths_in s))
  pub texts_left : texts + texts_behind before (paths_in (drop at s)) ≡ texts_behind [] (paths_in s)
  pub shallow_left : list_all is_shallow_path (paths_in (drop at s)) ≡ list_all is_shallow_path (paths_in s)

-- the path p at `at`
module _ (s before p : List ℕ) (at entries texts : ℕ) (m : Measured s before at entries texts) (inside : at < length s) (ended : get_or s (length s - 1) 0 ≡ 0) (here : p ≡ first_text (drop at s)) where
  next_at : drop (suc (length p)) (drop at s) ≡ drop (at + suc (length p)) s
  next_at = drop-drop (suc (length p)) at s

  fits : at + length p < length s
  fits = rw here (text-ends s at inside ended)

  left : paths_in (drop at s) ≡ p ∷ paths_in (drop (at + suc (length p)) s)
  left =
      let l : length (drop at s) ≡ length s - at = length-drop at s in
      rw (← next_at, here) (paths_in-next (drop at s) (omega (arith, text-ends s at inside ended)))

  pub too_deep : 64 < slashes p → is_small (paths_in s) ≡ false
  unfolding is_small
  too_deep h =
      let e : list_all is_shallow_path (paths_in s) ≡ false = sym m.shallow_left ∙ rw left (rw (lt-leb (slashes p) 64 h)) in
      rw e (rw and-false (and-false _))

  entries_next : entries + (suc (slashes (own_part before p)) + entries_behind p (paths_in (drop (at + suc (length p)) s))) ≡ suc (entries_behind [] (paths_in s))
  unfolding entries_behind
  entries_next = rw left at m.entries_left

  texts_next : texts + (suc (length (own_part before p)) + texts_behind p (paths_in (drop (at + suc (length p)) s))) ≡ texts_behind [] (paths_in s)
  unfolding texts_behind
  texts_next = rw left at m.texts_left

  pub too_many : 16384 < entries + suc (slashes (own_part before p)) → is_small (paths_in s) ≡ false
  unfolding is_small
  too_many h = rw (lt-leb (suc (entries_behind [] (paths_in s))) 16384 (omega (arith, entries_next))) refl

  pub too_long : 1048576 < texts + suc (length (own_part before p)) → is_small (paths_in s) ≡ false
  unfolding is_small
  too_long h = rw (lt-leb (texts_behind [] (paths_in s)) 1048576 (omega (arith, texts_next))) (and-false _)

  pub measured-more : (at' entries' texts' : ℕ) → at' ≡ at + suc (length p) → entries' ≡ entries + suc (slashes (own_part before p)) → texts' ≡ texts + suc (length (own_part before p)) →
      slashes p ≤ 64 → entries' ≤ 16384 → texts' ≤ 1048576 → Measured s p at' entries' texts'
  measured-more at' entries' texts' a e t depth few short =
      rw a record {
        reached = omega (arith, fits);
        few = few;
        short = short;
        entries_left = omega (arith, entries_next);
        texts_left = omega (arith, texts_next);
        shallow_left = rw (← m.shallow_left, left, le-leb (slashes p) 64 depth) refl;
      }

-- all of them
pub measured-all : (s before : List ℕ) (at entries texts : ℕ) → Measured s before at entries texts → length s ≤ at →
    (is_small (paths_in s) ≡ true) × (entries ≡ suc (entries_behind [] (paths_in s))) × (texts ≡ texts_behind [] (paths_in s))
unfolding is_small entries_behind texts_behind paths_in
measured-all s before at entries texts m h =
    let d : drop at s ≡ [] = drop_all at s h in
    let e : entries + 0 ≡ suc (entries_behind [] (paths_in s)) = rw d at m.entries_left in
    let t : texts + 0 ≡ texts_behind [] (paths_in s) = rw d at m.texts_left in
    let a : true ≡ list_all is_shallow_path (paths_in s) = rw d at m.shallow_left in
    (rw (le-leb (suc (entries_behind [] (paths_in s))) 16384 (omega (arith, m.few)), le-leb (texts_behind [] (paths_in s)) 1048576 (omega (arith, m.short))) (sym a), omega arith, omega arith)
