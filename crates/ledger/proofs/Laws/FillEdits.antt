-- A fill keeps image and ledger, and its tree arrives: it is a resize, and then a clip of the file's size put over the file. Assumes nothing.
use Rattle.std.specs.Prelude.{Ok}
use Rattle.std.specs.Prelude.{ℕ, zero, suc, ◌^◌, ◌<◌, ◌≤◌, ◌≡◌, refl, false, List, [], ◌∷◌, length, get_or, set, ltb, leb}
use Rattle.std.proofs.Common.{sym, ap, ◌∙◌, arith, ltb-false, leb-false, set-set}
use Rattle.std.proofs.lemmas.List.{length-map}
use Rattle.std.proofs.Math.ListN.{get_or-map}
use Rattle.endian.specs.Bytes.{AllBytes}
use Rattle.refusal.specs.declared.Refusal.TheVariants.{NotEnoughSpace, NoSuchEntry}
use Rattle.refusal.specs.Laws.Chains.{refuse-passed, first-passed}
use Rattle.tree.specs.Table.{Node, file, directory, empty_root}
use Rattle.tree.specs.Lookup.{is_directory}
use Rattle.tree.specs.Insert.{node_at_place, set_place}
use Rattle.tree.proofs.Laws.PlaceLaws.{set_place-at}
use Rattle.opened.specs.Opening.{nodes_in, free_space_of, used_of, region_of, disc_of}
use Rattle.edit_rules.specs.Change.{Plan, filled}
use Rattle.edit_rules.specs.Edits.{resize_file, fill_file, file_verdict, clip_verdict, plan_resize, plan_fill, plan_verdict, plan_tree, plan_image}
use Rattle.ledger.specs.Ledger.{Ledger, node_without_place, files_before, history_of, refilled_history, lowered_history, ledger_with}
use Rattle.ledger.proofs.Laws.Bare.{before-node_without_place}
use Rattle.ledger.proofs.Laws.Kept.{Kept}
use Rattle.ledger.proofs.Laws.Placed.{number_in, place_in}
use Rattle.ledger.proofs.Laws.PlaceEdits.{is-file, file-of, step-resize}
use Rattle.ledger.proofs.Laws.Plans.{Good, good-plan_behind}
use Rattle.ledger.proofs.Laws.ProgramKept.{ProgramKept, kept_trans}
use Rattle.ledger.proofs.Laws.Arrives.{Arrives, arrives-plan_behind, resize}
use Rattle.ledger.proofs.Laws.Layout.{Lays}
use Rattle.ledger.proofs.Laws.Clipped.{with_clip, Shown, clip-shown, tree-clipped, program-clipped, layout-clipped, used-clipped, free-clipped, clipped-kept}

-- an entry that is set is not one of those before it
before-set : (k : ℕ) (xs : List Node) (y : Node) → files_before k (set xs k y) ≡ files_before k xs
unfolding files_before
before-set zero xs y = refl
before-set (suc k) [] y = refl
before-set (suc k) (file nm o n ∷ xs) y = ap suc (before-set k xs y)
before-set (suc k) (directory nm n ∷ xs) y = before-set k xs y

before-set_place : (k o n : ℕ) (nodes : List Node) → files_before k (set_place k o n nodes) ≡ files_before k nodes
unfolding set_place
before-set_place k o n nodes = before-set k nodes _

-- an entry that without its place is a file of n bytes
node_without_place-file : (x y : Node) (n : ℕ) → is_directory y ≡ false → node_without_place x ≡ node_at_place 0 n (node_without_place y) → (is_directory x ≡ false) × ((region_of x).size ≡ n)
node_without_place-file (file a o m) (file b p q) n d e = (refl, cc)
node_without_place-file (directory a m) (file b p q) n d e = let z : ◌≡◌ {A = ℕ} 0 1 = cc in absurd (omega arith)
node_without_place-file x (directory b q) n d e = let z : ◌≡◌ {A = ℕ} 0 1 = cc in absurd (omega arith)

module _ (w : ℕ) (image : List ℕ) (l : Ledger) (K : Kept w image l) (words bytes : ℕ) (lent : words ≤ w) (k : ℕ) (clip : List ℕ) (b : AllBytes clip) where
  abbrev n : ℕ
  n = length clip

  abbrev p : Plan
  p = plan_resize (free_space_of image) (nodes_in image) k n

  abbrev image' : List ℕ
  image' = plan_image p image

  module _ (v : clip_verdict (nodes_in image) k n ≡ Ok tt) (u : plan_verdict p (disc_of image) words bytes ≡ Ok tt) where
    verdicts : (file_verdict (nodes_in image) k ≡ Ok tt) × (n < 2 ^ 32)
    verdicts =
        let t = first-passed (file_verdict (nodes_in image) k) _ v in
        (t.0, omega (arith, ltb-false 0xFFFFFFFF n (refuse-passed (ltb 0xFFFFFFFF n) NotEnoughSpace (Ok tt) t.1).0))

    K' : Kept w image' (ledger_with (resize_file k n) l)
    K' = step-resize w image l K words bytes lent k n verdicts.1 u

    arrived : (nodes_in image' ≡ plan_tree p (nodes_in image)) × ProgramKept image image' × Lays p image image'
    arrived = resize image words bytes w l K lent k n verdicts.1 u

    -- the file there has the clip's length
    there : (is_directory (get_or (nodes_in image') k empty_root) ≡ false) × ((place_in image' k).size ≡ n)
    there =
        let i : k < length l.nodes = rw (← K.shape) (rw (length-map (nodes_in image) node_without_place) (leb-false (length (nodes_in image)) k (refuse-passed (leb (length (nodes_in image)) k) NoSuchEntry _ verdicts.0).0)) in
        let a : node_without_place (get_or (nodes_in image') k empty_root) ≡ get_or (set_place k 0 n l.nodes) k empty_root = sym (get_or-map node_without_place (nodes_in image') k empty_root) ∙ ap (λ (xs : List Node). get_or xs k empty_root) K'.shape in
        let c : get_or l.nodes k empty_root ≡ node_without_place (get_or (nodes_in image) k empty_root) = ap (λ (xs : List Node). get_or xs k empty_root) (sym K.shape) ∙ get_or-map node_without_place (nodes_in image) k empty_root in
        node_without_place-file (get_or (nodes_in image') k empty_root) (get_or (nodes_in image) k empty_root) n (is-file (nodes_in image) k verdicts.0) (a ∙ set_place-at 0 n k l.nodes i ∙ ap (node_at_place 0 n) c)

    number_is : number_in image' k ≡ files_before k l.nodes
    number_is = sym (before-node_without_place k (nodes_in image')) ∙ ap (files_before k) K'.shape ∙ before-set_place k 0 n l.nodes

    fill-kept : Kept w (with_clip image' k clip) (ledger_with (fill_file k clip) l)
    fill-kept =
        rw (number_is, set-set l.histories (files_before k l.nodes) (lowered_history n (history_of l k)) (refilled_history clip (history_of l k))) at
        (clipped-kept w image' (ledger_with (resize_file k n) l) K' k there.0 clip b (sym there.1) (history_of l k))

    -- with the resize's tree
    fill-arrived : (nodes_in (with_clip image' k clip) ≡ nodes_in image') × ProgramKept image (with_clip image' k clip) × Lays p image (with_clip image' k clip)
    fill-arrived = (
      tree-clipped w image' (ledger_with (resize_file k n) l) K' k there.0 clip b (sym there.1),
      kept_trans image image' (with_clip image' k clip) arrived.1 (program-clipped w image' (ledger_with (resize_file k n) l) K' k there.0 clip b (sym there.1)),
      layout-clipped w image' (ledger_with (resize_file k n) l) K' k there.0 clip b (sym there.1) image p arrived.2,
    )

    -- LAW: the file as it is then
    pub fill_shows : (nm : List ℕ) × (get_or (nodes_in (with_clip image' k clip)) k empty_root ≡ file nm (place_in image' k).offset n) × Shown (with_clip image' k clip) (place_in image' k).offset clip
    fill_shows =
        let x = file-of (get_or (nodes_in image') k empty_root) there.0 in
        let e : get_or (nodes_in (with_clip image' k clip)) k empty_root ≡ get_or (nodes_in image') k empty_root = ap (λ (xs : List Node). get_or xs k empty_root) fill-arrived.0 in
        (x.0, e ∙ (rw there.1 at x.1), clip-shown w image' (ledger_with (resize_file k n) l) K' k there.0 clip b (sym there.1))

    pub fill_is : plan_image (plan_fill (free_space_of image) (nodes_in image) k clip) image ≡ with_clip image' k clip
    unfolding plan_fill
    fill_is = rw (v, ← arrived.0)

    -- LAW: what is used and what is free are the resize's
    pub fill-used : used_of (plan_image (plan_fill (free_space_of image) (nodes_in image) k clip) image) ≡ used_of image'
    fill-used = rw fill_is (used-clipped w image' (ledger_with (resize_file k n) l) K' k there.0 clip b (sym there.1))

    pub fill-free : free_space_of (plan_image (plan_fill (free_space_of image) (nodes_in image) k clip) image) ≡ free_space_of image'
    fill-free = rw fill_is (free-clipped w image' (ledger_with (resize_file k n) l) K' k there.0 clip b (sym there.1))

  pub step-fill : Good w image words bytes (plan_fill (free_space_of image) (nodes_in image) k clip) (ledger_with (fill_file k clip) l)
  unfolding plan_fill
  step-fill = good-plan_behind w image words bytes (clip_verdict (nodes_in image) k n) (filled k clip p) _ (λ v u. rw (← (arrived v u).0) (fill-kept v u))

  pub fill : Arrives image words bytes (plan_fill (free_space_of image) (nodes_in image) k clip)
  unfolding plan_fill
  fill = arrives-plan_behind image words bytes (clip_verdict (nodes_in image) k n) (filled k clip p) (λ v u. rw (← (arrived v u).0) (fill-arrived v u))
