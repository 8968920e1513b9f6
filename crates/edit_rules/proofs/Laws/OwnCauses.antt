-- The causes of the record's tests are theirs alone: what an edit's own tests refuse has a number of at most 26. Assumes nothing.
use Rattle.std.specs.Prelude.{Result, Ok, Err, ℕ, ◌+◌, ◌*◌, ◌-◌, ◌^◌, ◌≤◌, ◌==◌, ◌&&◌, ◌||◌, nat_lt, nat_le, Bool, true, false, not, cond, is_ok, List, [], ◌∷◌, length, slice_index_or}
use mathlib.Core.List.{tail}
use Rattle.std.proofs.Common.{arith}
use Rattle.refusal.specs.declared.Refusal.{Refusal}
use Rattle.refusal.specs.declared.Refusal.TheVariants.{LimitOrMemory, InvalidNameByte, UnsafeName, NoSuchEntry, ExpectedFile, ExpectedDirectory, AlreadyExists, OverlappingMove, NotEnoughSpace, InvalidAlignment, TableAboveMaximum}
use Rattle.refusal.specs.Refusal.{Verdict, number_of, refuse, first}
use Rattle.tree.specs.Table.{Node, empty_root, is_plain, is_safe, texts_of, is_shallow, encode, limits}
use Rattle.tree.specs.Lookup.{is_directory, components, is_staying, is_going_back, child_of}
use Rattle.tree.specs.Insert.{insert_at, empty_file, empty_directory}
use Rattle.space.specs.declared.region.DiscRegion.{DiscRegion}
use Rattle.space.specs.Used.{no_region}
use Rattle.space.specs.MaxRegionSize.{max_region_size}
use Rattle.space.specs.Allocate.{largest_rest, is_power_of_two, rest_or_refusal, allocation_of}
use Rattle.opened.specs.Opening.{region_of, Disc, free_of}
use Rattle.edit_rules.specs.Change.{Change, is_above_maximum, place_verdict, table_verdict, Plan, nothing, change, filled}
use Rattle.edit_rules.specs.Edits.{Edit, insert_file, insert_directory, make_directories, move_file, resize_file, fill_file, rewrite, table_change, plan_behind, new_number, insert_verdict, plan_insert, Made, stopped, made, made_step_back, if_found, make, plan_made, plan_make_directories, file_verdict, is_overlapping, relocation_change, relocate_verdict, plan_move, resize_change, plan_elsewhere, plan_resize, clip_verdict, plan_fill, plan_of, plan_verdict}

abbrev pub IsOwn : {A : Type 0} → Result A Refusal → Type 0
IsOwn (Ok a) = Unit {0}
IsOwn (Err c) = number_of c ≤ 26

own-refuse : (t : Bool) (c : Refusal) (v : Verdict) → number_of c ≤ 26 → IsOwn v → IsOwn (refuse t c v)
own-refuse true c v h k = h
own-refuse false c v h k = k

own-first : (a b : Verdict) → IsOwn a → IsOwn b → IsOwn (first a b)
own-first (Ok _) b h k = k
own-first (Err c) b h k = h

-- ---- make-directories' walk

abbrev OwnMade : Made → Type 0
OwnMade (stopped c) = number_of c ≤ 26
OwnMade (made nodes k bad) = Unit {0}

made-cond : (t : Bool) (x y : Made) → OwnMade x → OwnMade y → OwnMade (cond t x y)
made-cond true x y h k = h
made-cond false x y h k = k

made-back : (trail : List ℕ) (f : ℕ → List ℕ → Made) → ((j : ℕ) (rest : List ℕ) → OwnMade (f j rest)) → OwnMade (made_step_back trail f)
made-back [] f h = omega arith
made-back (j ∷ rest) f h = h j rest

made-found : (r : Result ℕ Refusal) (f : ℕ → Made) (missing : Made) → ((j : ℕ) → OwnMade (f j)) → OwnMade missing → OwnMade (if_found r f missing)
made-found (Ok j) f missing h k = h j
made-found (Err c) f missing h k = k

own-made : (cs : List (List ℕ)) (nodes : List Node) (trail : List ℕ) (k : ℕ) (bad : Bool) → OwnMade (make nodes trail k bad cs)
unfolding make
own-made [] nodes trail k bad = made-cond (is_directory (slice_index_or nodes k empty_root)) (made nodes k bad) (stopped ExpectedDirectory) tt (omega arith)
own-made (c ∷ cs) nodes trail k bad =
    let here : Made = make nodes trail k bad cs in
    let back : ℕ → List ℕ → Made = λ j rest. make nodes rest j bad cs in
    let found : ℕ → Made = λ j. make nodes (k ∷ trail) j bad cs in
    let grown : Made = make (insert_at k (empty_directory c (new_number nodes k)) nodes) (k ∷ trail) (new_number nodes k) (bad || not (is_plain c)) cs in
    let new : Made = cond (is_safe c) grown (stopped UnsafeName) in
    let old : Made = if_found (child_of nodes k c) found new in
    let up : Made = made_step_back trail back in
    made-cond (is_directory (slice_index_or nodes k empty_root)) (cond (is_staying c) here (cond (is_going_back c) up old)) (stopped ExpectedDirectory)
    (made-cond (is_staying c) here (cond (is_going_back c) up old) (own-made cs nodes trail k bad)
    (made-cond (is_going_back c) up old (made-back trail back (λ j rest. own-made cs nodes rest j bad))
    (made-found (child_of nodes k c) found new (λ j. own-made cs nodes (k ∷ trail) j bad)
    (made-cond (is_safe c) grown (stopped UnsafeName) (own-made cs (insert_at k (empty_directory c (new_number nodes k)) nodes) (k ∷ trail) (new_number nodes k) (bad || not (is_plain c))) (omega arith)))))
    (omega arith)

-- ---- an allocation

own-found : (b : DiscRegion) → IsOwn (rest_or_refusal b)
own-found b = go (b.size == 0)
  where
    go : (t : Bool) → IsOwn (cond t (Err NotEnoughSpace) (Ok b))
    go true = omega arith
    go false = tt

own-allocation : (align wish : ℕ) (free : List DiscRegion) → IsOwn (allocation_of align wish free)
unfolding allocation_of
own-allocation align wish free = go (is_power_of_two align)
  where
    b : DiscRegion
    b = largest_rest align wish no_region free

    go : (t : Bool) → IsOwn (cond t (rest_or_refusal b) (Err InvalidAlignment))
    go true = own-found b
    go false = omega arith

-- ---- plans

module _ (d : Disc) (words bytes : ℕ) where
  abbrev OwnPlan : Plan → Type 0
  OwnPlan p = IsOwn (plan_verdict p d words bytes)

  own-limits : (nodes : List Node) → IsOwn (limits nodes words)
  unfolding limits
  own-limits nodes =
      own-refuse (nat_lt 16384 (length nodes)) LimitOrMemory _ (omega arith)
      (own-refuse (nat_lt 1048576 (length (texts_of (tail nodes)))) LimitOrMemory _ (omega arith)
      (own-refuse (nat_lt words (4 * (length nodes + 2))) LimitOrMemory _ (omega arith)
      (own-refuse (not (is_shallow nodes)) LimitOrMemory (Ok tt) (omega arith) tt)))

  own-place : (size : ℕ) (place : DiscRegion) → IsOwn (place_verdict d bytes size place)
  unfolding place_verdict
  own-place size place =
      own-refuse (nat_lt bytes size) LimitOrMemory _ (omega arith)
      (own-refuse (is_above_maximum d size) TableAboveMaximum _ (omega arith)
      (own-refuse (nat_lt (max_region_size d.start d.table_size (free_of d)) size) NotEnoughSpace _ (omega arith)
      (own-refuse (nat_lt 0 place.size && nat_lt place.offset (d.start + size)) NotEnoughSpace (Ok tt) (omega arith) tt)))

  own-change : (k : ℕ) (c : Change) → OwnPlan (change k c)
  unfolding table_verdict
  own-change k c = own-first (limits c.nodes words) (place_verdict d bytes (length (encode c.nodes)) c.place) (own-limits c.nodes) (own-place (length (encode c.nodes)) c.place)

  own-behind : (v : Verdict) (p : Plan) → IsOwn v → OwnPlan p → OwnPlan (plan_behind v p)
  own-behind (Ok _) p h k = k
  own-behind (Err c) p h k = h

  own-cond : (t : Bool) (p q : Plan) → OwnPlan p → OwnPlan q → OwnPlan (cond t p q)
  own-cond true p q h k = h
  own-cond false p q h k = k

  own-plan_made : (m : Made) → OwnMade m → OwnPlan (plan_made m)
  own-plan_made (stopped c) h = h
  own-plan_made (made nodes k true) h = omega arith
  own-plan_made (made nodes k false) h = own-change k (table_change nodes)

  own-insert : (new : ℕ → Node) (nodes : List Node) (p : ℕ) (nm : List ℕ) → OwnPlan (plan_insert new nodes p nm)
  unfolding insert_verdict
  own-insert new nodes p nm = own-behind (insert_verdict nodes p nm) (change (new_number nodes p) (table_change (insert_at p (new (new_number nodes p)) nodes))) tests (own-change (new_number nodes p) (table_change (insert_at p (new (new_number nodes p)) nodes)))
    where
      tests : IsOwn (insert_verdict nodes p nm)
      tests =
          own-refuse (nat_le (length nodes) p) NoSuchEntry _ (omega arith)
          (own-refuse (not (is_safe nm)) UnsafeName _ (omega arith)
          (own-refuse (not (is_directory (slice_index_or nodes p empty_root))) ExpectedDirectory _ (omega arith)
          (own-refuse (is_ok (child_of nodes p nm)) AlreadyExists _ (omega arith)
          (own-refuse (not (is_plain nm)) InvalidNameByte (Ok tt) (omega arith) tt))))

  own-file : (nodes : List Node) (k : ℕ) → IsOwn (file_verdict nodes k)
  own-file nodes k = own-refuse (nat_le (length nodes) k) NoSuchEntry _ (omega arith) (own-refuse (is_directory (slice_index_or nodes k empty_root)) ExpectedFile (Ok tt) (omega arith) tt)

  module _ (free : List DiscRegion) (nodes : List Node) (k : ℕ) where
    own-relocate : (old new : DiscRegion) → IsOwn (relocate_verdict free old new)
    own-relocate old new = own-refuse (is_overlapping old new) OverlappingMove _ (omega arith) (own-refuse (nat_lt (max_region_size new.offset 0 free) new.size) NotEnoughSpace (Ok tt) (omega arith) tt)

    own-elsewhere : (old : DiscRegion) (n : ℕ) (r : Result DiscRegion Refusal) → IsOwn r → OwnPlan (plan_elsewhere nodes free k old n r)
    own-elsewhere old n (Err c) h = h
    own-elsewhere old n (Ok r) h =
        let new : DiscRegion = record { offset = r.offset; size = n } in
        own-behind (relocate_verdict free old new) (change k (relocation_change nodes k old new)) (own-relocate old new) (own-change k (relocation_change nodes k old new))

    own-move : (to : ℕ) → OwnPlan (plan_move free nodes k to)
    unfolding plan_move
    own-move to =
        let old : DiscRegion = region_of (slice_index_or nodes k empty_root) in
        let new : DiscRegion = record { offset = to; size = old.size } in
        own-behind (first (file_verdict nodes k) (relocate_verdict free old new)) (change k (relocation_change nodes k old new)) (own-first (file_verdict nodes k) (relocate_verdict free old new) (own-file nodes k) (own-relocate old new)) (own-change k (relocation_change nodes k old new))

    own-resize : (n : ℕ) → OwnPlan (plan_resize free nodes k n)
    unfolding plan_resize
    own-resize n =
        let old : DiscRegion = region_of (slice_index_or nodes k empty_root) in
        let here : Plan = change k (resize_change nodes k old n) in
        let away : Plan = plan_elsewhere nodes free k old n (allocation_of 0x8000 n free) in
        let t : Bool = nat_le n old.size || nat_le n (max_region_size old.offset old.size free) in
        own-behind (file_verdict nodes k) (cond (n == old.size) nothing (cond t here away)) (own-file nodes k)
        (own-cond (n == old.size) nothing (cond t here away) tt (own-cond t here away (own-change k (resize_change nodes k old n)) (own-elsewhere old n (allocation_of 0x8000 n free) (own-allocation 0x8000 n free))))

    own-fill : (clip : List ℕ) → OwnPlan (plan_fill free nodes k clip)
    unfolding plan_fill
    own-fill clip =
        own-behind (clip_verdict nodes k (length clip)) (filled k clip (plan_resize free nodes k (length clip)))
        (own-first (file_verdict nodes k) (refuse (nat_lt (2 ^ 32 - 1) (length clip)) NotEnoughSpace (Ok tt)) (own-file nodes k) (own-refuse (nat_lt (2 ^ 32 - 1) (length clip)) NotEnoughSpace (Ok tt) (omega arith) tt)) (own-resize (length clip))

  own-make-directories : (nodes : List Node) (start : ℕ) (path : List ℕ) → OwnPlan (plan_make_directories nodes start path)
  unfolding plan_make_directories
  own-make-directories nodes start path =
      let m : Made = make nodes [] start false (components path) in
      let later : Verdict = refuse (nat_le (length nodes) start) NoSuchEntry (Ok tt) in
      own-behind (refuse (nat_lt 1024 (length path)) LimitOrMemory later) (plan_made m) (own-refuse (nat_lt 1024 (length path)) LimitOrMemory later (omega arith) (own-refuse (nat_le (length nodes) start) NoSuchEntry (Ok tt) (omega arith) tt)) (own-plan_made m (own-made (components path) nodes [] start false))

  -- LAW
  pub own-causes : (ed : Edit) → IsOwn (plan_verdict (plan_of ed d) d words bytes)
  own-causes (insert_file p nm) = own-insert (λ q. empty_file nm) d.nodes p nm
  own-causes (insert_directory p nm) = own-insert (empty_directory nm) d.nodes p nm
  own-causes (make_directories start path) = own-make-directories d.nodes start path
  own-causes (move_file k to) = own-move (free_of d) d.nodes k to
  own-causes (resize_file k n) = own-resize (free_of d) d.nodes k n
  own-causes (fill_file k clip) = own-fill (free_of d) d.nodes k clip
  own-causes rewrite = own-change 0 (table_change d.nodes)
