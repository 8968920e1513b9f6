-- Of every edit whose tests pass: the change in its plan is safe to write, and copies what lies behind the table; and a clip goes behind the table
-- that the plan before it leaves. Assumes nothing.
use Rattle.std.specs.Prelude.{Result, Ok, Err, ℕ, ◌+◌, ◌-◌, ◌^◌, ◌<◌, ◌≤◌, ◌≡◌, refl, Bool, true, false, cond, ◌||◌, List, [], length, get_or, eqb, ltb, leb}
use Rattle.std.proofs.Common.{sym, ap, subst, ◌∙◌, arith, ltb-false, leb-false}
use Rattle.std.proofs.lemmas.Bool.{eqb-false}
use Rattle.endian.specs.Bytes.{AllBytes}
use Rattle.refusal.specs.declared.Refusal.{Refusal}
use Rattle.refusal.specs.declared.Refusal.TheVariants.{LimitOrMemory, NoSuchEntry, NotEnoughSpace}
use Rattle.refusal.specs.Refusal.{Verdict, refuse, first}
use Rattle.refusal.specs.Laws.Chains.{refuse-passed, first-passed}
use Rattle.refusal.specs.Laws.Tests.{or-false}
use Rattle.header.specs.Verdicts.{disc_end, table_end}
use Rattle.header.specs.Laws.FieldTests.{Bounded}
use Rattle.tree.specs.Table.{Node, file, empty_root}
use Rattle.tree.specs.Inner.WellFormed.{IsWellFormed}
use Rattle.tree.specs.Lookup.{is_directory, components}
use Rattle.tree.specs.Insert.{insert_at, empty_file, empty_directory}
use Rattle.space.specs.declared.region.DiscRegion.{DiscRegion}
use Rattle.space.specs.MaxRegionSize.{max_region_size}
use Rattle.space.specs.Allocate.{allocation_of}
use Rattle.opened.specs.Opening.{nodes_in, free_space_of, region_of, opening, disc_of}
use Rattle.edit_rules.specs.Change.{Change, Plan, refused, nothing, change, filled}
use Rattle.edit_rules.specs.Edits.{Edit, Account, insert_file, insert_directory, make_directories, move_file, resize_file, fill_file, rewrite, table_change, plan_behind, new_number, insert_verdict, plan_insert, Made, stopped, made, make, plan_made, plan_make_directories, file_verdict, relocation_change, relocate_verdict, plan_move, resize_change, plan_elsewhere, plan_resize, clip_verdict, plan_fill, plan_of, plan_verdict, plan_tree, plan_image, verdict_of}
use Rattle.edit_rules.proofs.Laws.Accepted.{accepted}
use Rattle.edit_rules.proofs.Laws.Puts.{Fits}
use Rattle.ledger.specs.Ledger.{first_ledger, ledger_with}
use Rattle.ledger.specs.Runs.{IsPassable}
use Rattle.ledger.proofs.Laws.Written.{Safe}
use Rattle.ledger.proofs.Laws.Apart.{Has}
use Rattle.ledger.proofs.Laws.Opened.{Opened, opened}
use Rattle.ledger.proofs.Laws.Room.{room}
use Rattle.ledger.proofs.Laws.Kept.{Kept, opened-kept, table-safe}
use Rattle.ledger.proofs.Laws.Placed.{place_in, place-lies, resized-placed}
use Rattle.ledger.proofs.Laws.Making.{made-good}
use Rattle.ledger.proofs.Laws.TableEdits.{insertable, inserted-well}
use Rattle.ledger.proofs.Laws.PlaceEdits.{is-file, free-else, put-else, small_size, free-here, small-offset, step-resize}
use Rattle.ledger.proofs.Laws.Clipped.{with_clip}
use Rattle.ledger.proofs.Laws.Arrives as arrives
use Rattle.ledger.proofs.Laws.FillEdits.{fill_is, fill_shows}
use Rattle.ledger.proofs.Laws.FillEdits as fills
use Rattle.ledger.proofs.Laws.Sequence.{start}

-- a change that is safe to write, and copies what lies behind the table
pub record SafeChange (c : Change) (image : List ℕ) : Type 0 where
  pub safe : Safe c image
  pub source : 0 < c.kept → table_end image ≤ c.old.offset

-- bytes that go behind the table of an image, and fit
pub record FitsBehind (image : List ℕ) (at : ℕ) (bs : List ℕ) : Type 0 where
  pub bounds : Bounded image
  pub behind : 0 < length bs → table_end image ≤ at
  pub fits : Fits image at (length bs)

-- where the clip goes, behind the plan p
abbrev pub clip_offset : Plan → List ℕ → ℕ → ℕ
clip_offset p image k = (region_of (get_or (plan_tree p (nodes_in image)) k empty_root)).offset

-- what the plan writes
abbrev pub IsSafePlan : List ℕ → Plan → Type 0
IsSafePlan image (refused v) = Unit {0}
IsSafePlan image nothing = Unit {0}
IsSafePlan image (change k c) = SafeChange c image
IsSafePlan image (filled k clip p) = IsSafePlan image p × FitsBehind (plan_image p image) (clip_offset p image k) clip

module _ (image : List ℕ) (words bytes : ℕ) (b : AllBytes image) (e : opening image words ≡ Ok tt) where
  lent : words ≤ words
  lent = omega arith

  K : Kept words image (first_ledger image)
  K = start image words words lent b e

  o : Opened image
  o = opened image words e b

  abbrev IsSafe : Plan → Type 0
  IsSafe p = plan_verdict p (disc_of image) words bytes ≡ Ok tt → IsSafePlan image p

  safe-plan_behind : (v : Verdict) (p : Plan) → (v ≡ Ok tt → IsSafe p) → IsSafe (plan_behind v p)
  safe-plan_behind (Ok _) p f = f refl
  safe-plan_behind (Err c) p f = λ u. tt

  safe-cond : (a : Bool) (p q : Plan) → (a ≡ true → IsSafe p) → (a ≡ false → IsSafe q) → IsSafe (cond a p q)
  safe-cond true p q f g = f refl
  safe-cond false p q f g = g refl

  -- ---- only the table is written

  on-table : (k : ℕ) (new : List Node) → IsWellFormed new → IsSafe (change k (table_change new))
  on-table k new well u = record {
    safe = table-safe words image (first_ledger image) K words lent new well (room (table_change new) image words bytes o u);
    source = λ z. absurd (omega arith);
  }

  insert-file : (p : ℕ) (nm : List ℕ) → IsSafe (plan_insert (λ q. empty_file nm) (nodes_in image) p nm)
  insert-file p nm =
      safe-plan_behind (insert_verdict (nodes_in image) p nm) _ (λ v.
      on-table (new_number (nodes_in image) p) (insert_at p (empty_file nm) (nodes_in image)) (inserted-well (nodes_in image) p nm o.well (insertable (nodes_in image) p nm v) (empty_file nm) (omega arith, omega arith) refl))

  insert-directory : (p : ℕ) (nm : List ℕ) → IsSafe (plan_insert (empty_directory nm) (nodes_in image) p nm)
  insert-directory p nm =
      let q : ℕ = new_number (nodes_in image) p in
      safe-plan_behind (insert_verdict (nodes_in image) p nm) _ (λ v.
      on-table q (insert_at p (empty_directory nm q) (nodes_in image)) (inserted-well (nodes_in image) p nm o.well (insertable (nodes_in image) p nm v) (empty_directory nm q) refl refl))

  make-directories : (from : ℕ) (path : List ℕ) → IsSafe (plan_make_directories (nodes_in image) from path)
  unfolding plan_make_directories
  make-directories from path =
      safe-plan_behind (refuse (ltb 1024 (length path)) LimitOrMemory (refuse (leb (length (nodes_in image)) from) NoSuchEntry (Ok tt))) _ (λ v.
      let v₁ = refuse-passed (ltb 1024 (length path)) LimitOrMemory _ v in
      let v₂ = refuse-passed (leb (length (nodes_in image)) from) NoSuchEntry (Ok tt) v₁.1 in
      go (make (nodes_in image) [] from false (components path)) refl (leb-false _ _ v₂.0))
    where
      go : (m : Made) → make (nodes_in image) [] from false (components path) ≡ m → from < length (nodes_in image) → IsSafe (plan_made m)
      go (stopped c) q h = λ u. tt
      go (made new k true) q h = λ u. tt
      go (made new k false) q h = on-table k new (made-good (nodes_in image) from (components path) new k o.well h q)

  -- ---- a file's place is changed

  module _ (k : ℕ) (is_file : is_directory (get_or (nodes_in image) k empty_root) ≡ false) where
    to-other : (new : DiscRegion) → relocate_verdict (free_space_of image) (place_in image k) new ≡ Ok tt → new.offset < 2 ^ 32 → new.size < 2 ^ 32 → IsSafe (change k (relocation_change (nodes_in image) k (place_in image k) new))
    to-other new v ho hn u = record {
      safe = (put-else words image (first_ledger image) K words bytes lent k is_file new v ho hn u).safe;
      source = λ z. (place-lies words image (first_ledger image) K k is_file (place_in image k).offset (omega arith, omega arith)).0;
    }

    stay : (n : ℕ) → n < 2 ^ 32 → (n ≡ (place_in image k).size → ⊥) → (leb n (place_in image k).size || leb n (max_region_size (place_in image k).offset (place_in image k).size (free_space_of image))) ≡ true →
        IsSafe (change k (resize_change (nodes_in image) k (place_in image k) n))
    stay n hn d v u =
        let new : DiscRegion = record { offset = (place_in image k).offset; size = n } in
        let free = free-here words image (first_ledger image) K words bytes lent k is_file n v in
        let c : Change = resize_change (nodes_in image) k (place_in image k) n in
        record {
          safe = (resized-placed words image (first_ledger image) K words lent k is_file new free refl (small-offset words image (first_ledger image) K words bytes lent k is_file n free d) hn (room c image words bytes o u)).safe;
          source = λ z. absurd (omega arith);
        }

    found : (n : ℕ) → n < 2 ^ 32 → (place_in image k).size < n → (a : Result DiscRegion Refusal) → IsSafe (plan_elsewhere (nodes_in image) (free_space_of image) k (place_in image k) n a)
    found n hn d (Err c) = λ u. tt
    found n hn d (Ok r) =
        let new : DiscRegion = record { offset = r.offset; size = n } in
        safe-plan_behind (relocate_verdict (free_space_of image) (place_in image k) new) _ (λ v.
        to-other new v (omega (arith, o.bounds.small, (free-else words image (first_ledger image) K words bytes lent k is_file new v r.offset (omega arith, omega arith)).1)) hn)

  move : (k to : ℕ) → to < 2 ^ 32 → IsSafe (plan_move (free_space_of image) (nodes_in image) k to)
  unfolding plan_move
  move k to h =
      let new : DiscRegion = record { offset = to; size = (place_in image k).size } in
      safe-plan_behind (first (file_verdict (nodes_in image) k) (relocate_verdict (free_space_of image) (place_in image k) new)) _ (λ v.
      let v₁ = first-passed (file_verdict (nodes_in image) k) _ v in
      let is_file = is-file (nodes_in image) k v₁.0 in
      to-other k is_file new v₁.1 h (small_size words image (first_ledger image) K words bytes lent k is_file))

  resize : (k n : ℕ) → n < 2 ^ 32 → IsSafe (plan_resize (free_space_of image) (nodes_in image) k n)
  unfolding plan_resize
  resize k n h =
      let old : DiscRegion = place_in image k in
      let t : Bool = leb n old.size || leb n (max_region_size old.offset old.size (free_space_of image)) in
      let in₁ : Plan = change k (resize_change (nodes_in image) k old n) in
      let in₂ : Plan = plan_elsewhere (nodes_in image) (free_space_of image) k old n (allocation_of 0x8000 n (free_space_of image)) in
      safe-plan_behind (file_verdict (nodes_in image) k) _ (λ v.
      let is_file = is-file (nodes_in image) k v in
      safe-cond (eqb n old.size) nothing (cond t in₁ in₂) (λ q u. tt)
      (λ q. safe-cond t in₁ in₂ (stay k is_file n h (eqb-false n old.size q))
      (λ g. found k is_file n h (leb-false n old.size (or-false (leb n old.size) _ g).0) (allocation_of 0x8000 n (free_space_of image)))))

  -- ---- a fill: the clip goes where the file lies after the resize

  module _ (k : ℕ) (clip : List ℕ) (h : AllBytes clip) (v : clip_verdict (nodes_in image) k (length clip) ≡ Ok tt) where
    abbrev n : ℕ
    n = length clip

    abbrev p : Plan
    p = plan_resize (free_space_of image) (nodes_in image) k n

    abbrev image' : List ℕ
    image' = plan_image p image

    small-clip : n < 2 ^ 32
    small-clip = omega (arith, ltb-false 0xFFFFFFFF n (refuse-passed (ltb 0xFFFFFFFF n) NotEnoughSpace (Ok tt) (first-passed (file_verdict (nodes_in image) k) _ v).1).0)

    module _ (u : plan_verdict p (disc_of image) words bytes ≡ Ok tt) where
      K' : Kept words image' (ledger_with (resize_file k n) (first_ledger image))
      K' = step-resize words image (first_ledger image) K words bytes lent k n small-clip u

      o' : Opened image'
      o' = opened-kept words image' (ledger_with (resize_file k n) (first_ledger image)) K'

      tree : nodes_in image' ≡ plan_tree p (nodes_in image)
      tree = (arrives.resize image words bytes words (first_ledger image) K lent k n small-clip u).0

      tree-clipped : nodes_in (with_clip image' k clip) ≡ plan_tree p (nodes_in image)
      unfolding plan_fill
      tree-clipped =
          let t = fills.fill words image (first_ledger image) K words bytes lent k clip h (rw v u) in
          ap nodes_in (sym (fill_is words image (first_ledger image) K words bytes lent k clip h v u)) ∙ t.0 ∙ rw v

      shows : (nm : List ℕ) × (get_or (nodes_in image') k empty_root ≡ file nm (place_in image' k).offset n)
      shows =
          let s = fill_shows words image (first_ledger image) K words bytes lent k clip h v u in
          (s.0, ap (λ (xs : List Node). get_or xs k empty_root) (tree ∙ sym tree-clipped) ∙ s.1)

      is_file' : is_directory (get_or (nodes_in image') k empty_root) ≡ false
      is_file' = ap is_directory shows.1

      size' : (place_in image' k).size ≡ n
      size' = ap (λ (x : Node). (region_of x).size) shows.1

      lies : (i : ℕ) → Has (place_in image' k) i → (table_end image' ≤ i) × (i < disc_end image')
      lies = place-lies words image' (ledger_with (resize_file k n) (first_ledger image)) K' k is_file'

      clip-fits : FitsBehind image' (clip_offset p image k) clip
      clip-fits = subst (λ (xs : List Node). FitsBehind image' (region_of (get_or xs k empty_root)).offset clip) tree (record {
        bounds = o'.bounds;
        behind = λ z. (lies (place_in image' k).offset (omega arith, omega (arith, size'))).0;
        fits = λ z. omega (arith, o'.bounds.image_holds, size', (lies ((place_in image' k).offset + n - 1) (omega arith, omega (arith, size'))).1);
      })

  fill : (k : ℕ) (clip : List ℕ) → AllBytes clip → IsSafe (plan_fill (free_space_of image) (nodes_in image) k clip)
  unfolding plan_fill
  fill k clip h = safe-plan_behind (clip_verdict (nodes_in image) k (length clip)) _ (λ v u. (resize k (length clip) (small-clip k clip h v) u, clip-fits k clip h v u))

  -- LAW: whatever the edit, its plan is safe if its own tests pass
  pub safe-plan : (ed : Edit) → IsPassable ed → plan_verdict (plan_of ed (disc_of image)) (disc_of image) words bytes ≡ Ok tt → IsSafePlan image (plan_of ed (disc_of image))
  safe-plan (insert_file p nm) h = insert-file p nm
  safe-plan (insert_directory p nm) h = insert-directory p nm
  safe-plan (make_directories from path) h = make-directories from path
  safe-plan (move_file k to) h = move k to h
  safe-plan (resize_file k n) h = resize k n h
  safe-plan (fill_file k clip) h = fill k clip h
  safe-plan rewrite h = on-table 0 (nodes_in image) o.well

-- LAW: and so is that of an accepted one
pub safe-accepted : (ed : Edit) (a : Account) (image : List ℕ) (words bytes : ℕ) → IsPassable ed → AllBytes image → verdict_of ed a image words bytes ≡ Ok tt → IsSafePlan image (plan_of ed (disc_of image))
safe-accepted ed a image words bytes h b v = let p = accepted ed a image words bytes v in safe-plan image words bytes b p.opens ed h p.own
