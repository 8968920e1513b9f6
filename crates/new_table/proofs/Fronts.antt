-- The paths before a place, and those behind it. Assumes nothing.
use Rattle.std.specs.Prelude.{ℕ, suc, ◌+◌, ◌-◌, ◌<◌, ◌≤◌, ◌≡◌, refl, Bool, true, false, cond, List, [], ◌∷◌, ◌++◌, length, take, drop, get_or}
use Rattle.std.specs.List.{list_all}
use Rattle.std.proofs.Common.{sym, ap, ◌∙◌, ⊎_elim, arith, eqb-true, leb-true, take-append-drop, get_or-take, length-take-le, length-append, append_assoc, take_at}
use Rattle.std.proofs.lemmas.List.{nil_from_length}
use Rattle.endian.specs.Bytes.{span}
use Rattle.endian.specs.Laws.Stored.{get_d-span}
use Rattle.refusal.specs.Laws.Tests.{is_false, lt-or-le, and_left, and_right}
use Rattle.wish_list.specs.Paths.{is_zero, paths_in, onto_path}
use Rattle.wish_list.proofs.Cutting.{length-onto_path}
use Rattle.new_table.specs.Inner.Cuts.{IsCut, IsPathBefore}
use Rattle.new_table.specs.Inner.Steps.{slashes, entries_behind, texts_behind, is_shallow_path}
use Rattle.new_table.proofs.Drafting.{cut-part}

-- ---- the paths in two parts of bytes

abbrev pub Ended : List ℕ → Type 0
Ended s = get_or s (length s - 1) 0 ≡ 0

onto_path-append : (x : ℕ) (ps qs : List (List ℕ)) → 0 < length ps → onto_path x (ps ++ qs) ≡ onto_path x ps ++ qs
onto_path-append x [] qs h = absurd (omega arith)
onto_path-append x (p ∷ ps) qs h = refl

ended-rest : (x y : ℕ) (s : List ℕ) → Ended (x ∷ y ∷ s) → Ended (y ∷ s)
ended-rest x y s e =
    let a : suc (suc (length s)) - 1 ≡ suc (length s) = omega arith in
    let b : suc (length s) - 1 ≡ length s = omega arith in
    rw b (rw a at e)

some-paths : (s : List ℕ) → 0 < length s → Ended s → 0 < length (paths_in s)
unfolding paths_in
some-paths [] h e = absurd (omega arith)
some-paths (x ∷ []) h e = rw e (omega arith)
some-paths (x ∷ y ∷ s) h e = go (is_zero x) (some-paths (y ∷ s) (omega arith) (ended-rest x y s e))
  where
    go : (t : Bool) → 0 < length (paths_in (y ∷ s)) → 0 < length (cond t ([] ∷ paths_in (y ∷ s)) (onto_path x (paths_in (y ∷ s))))
    go true ih = omega arith
    go false ih = omega (arith, length-onto_path x (paths_in (y ∷ s)))

paths_in-append : (s r : List ℕ) → Ended s → paths_in (s ++ r) ≡ paths_in s ++ paths_in r
unfolding paths_in
paths_in-append [] r e = refl
paths_in-append (x ∷ []) r e = rw e refl
paths_in-append (x ∷ y ∷ s) r e = go (is_zero x) (some-paths (y ∷ s) (omega arith) (ended-rest x y s e)) (paths_in-append (y ∷ s) r (ended-rest x y s e))
  where
    go : (t : Bool) → 0 < length (paths_in (y ∷ s)) → paths_in ((y ∷ s) ++ r) ≡ paths_in (y ∷ s) ++ paths_in r →
        cond t ([] ∷ paths_in ((y ∷ s) ++ r)) (onto_path x (paths_in ((y ∷ s) ++ r))) ≡ cond t ([] ∷ paths_in (y ∷ s)) (onto_path x (paths_in (y ∷ s))) ++ paths_in r
    go true h ih = rw ih refl
    go false h ih = rw ih (onto_path-append x (paths_in (y ∷ s)) (paths_in r) h)

abbrev NoZero : List ℕ → Type 0
NoZero s = (i : ℕ) → i < length s → get_or s i 0 ≡ 0 → ⊥

paths_in-path : (p r : List ℕ) → NoZero p → paths_in (p ++ (0 ∷ r)) ≡ p ∷ paths_in r
unfolding paths_in
paths_in-path [] r f = refl
paths_in-path (x ∷ p) r f =
    let z : is_zero x ≡ false = is_false (is_zero x) (λ e. f 0 (omega arith) (eqb-true x 0 e)) in
    rw z (ap (onto_path x) (paths_in-path p r (λ i h. f (suc i) (omega arith))))

-- ---- a place behind a zero byte, and the path before it

pub record At (s : List ℕ) (end : ℕ) (path : List ℕ) : Type 0 where
  pub within : end ≤ length s
  pub ended : 0 < end → get_or s (end - 1) 0 ≡ 0
  pub before : IsPathBefore s end path

module _ (s : List ℕ) (end : ℕ) (path : List ℕ) (a : At s end path) where
  front-ended : Ended (take end s)
  front-ended =
      let l : length (take end s) ≡ end = length-take-le end s a.within in
      ⊎_elim (λ (h : 0 < end). rw l (get_or-take end s (end - 1) 0 (omega arith) ∙ a.ended h))
      (λ (h : end ≤ 0). let z : end ≡ 0 = omega arith in rw z refl) (lt-or-le 0 end)

  both : paths_in s ≡ paths_in (take end s) ++ paths_in (drop end s)
  both = ap paths_in (sym (take-append-drop end s)) ∙ paths_in-append (take end s) (drop end s) front-ended

  module _ (some : 0 < end) where
    abbrev pub start : ℕ
    start = end - suc (length path)

    reach : start + suc (length path) ≡ end
    reach = omega (arith, (a.before).within some)

    behind : drop start s ≡ path ++ (0 ∷ drop end s)
    behind =
        let c : IsCut s 0 0 start (end - 1) = (a.before).cut some in
        let e : suc (end - 1) ≡ end = omega arith in
        let l : end - 1 - start ≡ length path = omega (arith, reach) in
        let d : drop start s ≡ span s start (end - 1 - start) ++ (0 ∷ drop (suc (end - 1)) s) = cut-part 0 s start (end - 1) c.before (omega (arith, a.within)) (a.ended some) in
        rw (← (a.before).bytes some) at (rw (e, l) at d)

    plain : NoZero path
    plain i h e =
        let c : IsCut s 0 0 start (end - 1) = (a.before).cut some in
        let b : get_or path i 0 ≡ get_or s (start + i) 0 = ap (λ (l : List ℕ). get_or l i 0) ((a.before).bytes some) ∙ get_d-span s start (length path) i h in
        c.none (start + i) (omega arith) (omega (arith, reach)) (sym b ∙ e)

    pub rest-is : paths_in (drop start s) ≡ path ∷ paths_in (drop end s)
    rest-is = ap paths_in behind ∙ paths_in-path path (drop end s) plain

    -- the place before it
    start-within : start ≤ length s
    start-within = omega (arith, a.within)

    start-ended : 0 < start → get_or s (start - 1) 0 ≡ 0
    start-ended h = ((a.before).cut some).cut h

    front : take end s ≡ take start s ++ (path ++ (0 ∷ []))
    front =
        let w : s ≡ (take start s ++ (path ++ (0 ∷ []))) ++ drop end s =
        sym (take-append-drop start s) ∙ rw behind (rw (append_assoc (take start s) (path ++ (0 ∷ [])) (drop end s), append_assoc path (0 ∷ []) (drop end s)) refl) in
        let l : length (take start s ++ (path ++ (0 ∷ []))) ≡ end =
        omega (arith, length-append (take start s) (path ++ (0 ∷ [])), length-append path (0 ∷ []), length-take-le start s start-within, reach) in
        ap (take end) w ∙ take_at (take start s ++ (path ++ (0 ∷ []))) (drop end s) end l

    front-is : paths_in (take end s) ≡ paths_in (take start s) ++ (path ∷ [])
    unfolding paths_in
    front-is =
        let l : length (take start s) ≡ start = length-take-le start s start-within in
        let e : Ended (take start s) =
        ⊎_elim (λ (h : 0 < start). rw l (get_or-take start s (start - 1) 0 (omega arith) ∙ start-ended h))
        (λ (h : start ≤ 0). let z : start ≡ 0 = omega arith in rw z refl) (lt-or-le 0 start) in
        ap paths_in front ∙ paths_in-append (take start s) (path ++ (0 ∷ [])) e ∙ ap (λ (l : List (List ℕ)). paths_in (take start s) ++ l) (paths_in-path path [] plain)

-- ---- the path before a place is the last one there

last_or : List ℕ → List (List ℕ) → List ℕ
last_or b [] = b
last_or b (p ∷ ps) = last_or p ps

last_or-push : (b : List ℕ) (ps : List (List ℕ)) (q : List ℕ) → last_or b (ps ++ (q ∷ [])) ≡ q
unfolding last_or
last_or-push b [] q = refl
last_or-push b (p ∷ ps) q = last_or-push p ps q

last-is : (s : List ℕ) (end : ℕ) (path : List ℕ) → At s end path → last_or [] (paths_in (take end s)) ≡ path
unfolding last_or paths_in
last-is s end path a =
    ⊎_elim (λ (h : 0 < end). ap (last_or []) (front-is s end path a h) ∙ last_or-push [] (paths_in (take (end - suc (length path)) s)) path)
    (λ (h : end ≤ 0). let z : end ≡ 0 = omega arith in rw z (sym (nil_from_length path ((a.before).first z)))) (lt-or-le 0 end)

entries-append : (b : List ℕ) (ps qs : List (List ℕ)) → entries_behind b (ps ++ qs) ≡ entries_behind b ps + entries_behind (last_or b ps) qs
unfolding entries_behind last_or
entries-append b [] qs = omega arith
entries-append b (p ∷ ps) qs = omega (arith, entries-append p ps qs)

texts-append : (b : List ℕ) (ps qs : List (List ℕ)) → texts_behind b (ps ++ qs) ≡ texts_behind b ps + texts_behind (last_or b ps) qs
unfolding texts_behind last_or
texts-append b [] qs = omega arith
texts-append b (p ∷ ps) qs = omega (arith, texts-append p ps qs)

shallow-last : (ps qs : List (List ℕ)) (q : List ℕ) → list_all is_shallow_path ((ps ++ (q ∷ [])) ++ qs) ≡ true → is_shallow_path q ≡ true
shallow-last [] qs q e = and_left (is_shallow_path q) _ e
shallow-last (p ∷ ps) qs q e = shallow-last ps qs q (and_right (is_shallow_path p) _ e)

module _ (s : List ℕ) (end : ℕ) (path : List ℕ) (a : At s end path) where
  pub entries-most : entries_behind path (paths_in (drop end s)) ≤ entries_behind [] (paths_in s)
  entries-most =
      let e : entries_behind [] (paths_in s) ≡ entries_behind [] (paths_in (take end s)) + entries_behind (last_or [] (paths_in (take end s))) (paths_in (drop end s)) =
      ap (entries_behind []) (both s end path a) ∙ entries-append [] (paths_in (take end s)) (paths_in (drop end s)) in
      let f : entries_behind [] (paths_in s) ≡ entries_behind [] (paths_in (take end s)) + entries_behind path (paths_in (drop end s)) = rw (last-is s end path a) at e in
      omega arith

  pub texts-most : texts_behind path (paths_in (drop end s)) ≤ texts_behind [] (paths_in s)
  texts-most =
      let e : texts_behind [] (paths_in s) ≡ texts_behind [] (paths_in (take end s)) + texts_behind (last_or [] (paths_in (take end s))) (paths_in (drop end s)) =
      ap (texts_behind []) (both s end path a) ∙ texts-append [] (paths_in (take end s)) (paths_in (drop end s)) in
      let f : texts_behind [] (paths_in s) ≡ texts_behind [] (paths_in (take end s)) + texts_behind path (paths_in (drop end s)) = rw (last-is s end path a) at e in
      omega arith

  pub shallow-at : list_all is_shallow_path (paths_in s) ≡ true → slashes path ≤ 64
  shallow-at e =
      ⊎_elim
      (λ (h : 0 < end).
      let f : list_all is_shallow_path ((paths_in (take (end - suc (length path)) s) ++ (path ∷ [])) ++ paths_in (drop end s)) ≡ true = rw (both s end path a, front-is s end path a h) at e in
      leb-true (slashes path) 64 (shallow-last (paths_in (take (end - suc (length path)) s)) (paths_in (drop end s)) path f))
      (λ (h : end ≤ 0). let z : end ≡ 0 = omega arith in rw (nil_from_length path ((a.before).first z)) (omega arith)) (lt-or-le 0 end)

  -- at the start, if no path is left
  pub at-start : length (paths_in s) ≤ length (paths_in (drop end s)) → end ≡ 0
  at-start h =
      let n : length (paths_in s) ≡ length (paths_in (take end s)) + length (paths_in (drop end s)) = ap length (both s end path a) ∙ length-append (paths_in (take end s)) (paths_in (drop end s)) in
      ⊎_elim
      (λ (q : 0 < end). let m : 0 < length (paths_in (take end s)) = some-paths (take end s) (omega (arith, length-take-le end s a.within)) (front-ended s end path a) in absurd (omega arith))
      (λ (q : end ≤ 0). omega arith) (lt-or-le 0 end)

-- all of them
pub at-end : (s path : List ℕ) → get_or s (length s - 1) 0 ≡ 0 → IsPathBefore s (length s) path → At s (length s) path
at-end s path e p = record { within = omega arith; ended = λ h. e; before = p }

-- the next one before it
pub at-before : (s : List ℕ) (end : ℕ) (path : List ℕ) (a : At s end path) (some : 0 < end) (end' : ℕ) (before : List ℕ) → end' ≡ end - suc (length path) → IsPathBefore s end' before → At s end' before
at-before s end path a some end' before e p =
    let w : end' ≤ length s = omega (arith, start-within s end path a some) in
    record { within = w; ended = rw e (start-ended s end path a some); before = p }
