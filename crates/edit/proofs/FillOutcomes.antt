-- What a fill decides on, as what its plan comes to: the clip first, and then what the resize writes besides. Assumes nothing.
use Rattle.std.specs.Prelude.{Result, Ok, Err}
use Prim.Native.Nat.{ℕ, ◌<◌, ◌≤◌}
use mathlib.Core.Path.{◌≡◌, refl, sym, ap, subst, ◌∙◌}
use mathlib.Core.List.{List, []}
use native.Mathlib.Omega.{arith}
use borrow.Author.Tests.{le-ltb, lt-ltb}
use lib.ListN.{length, get_or}
use Rattle.endian.specs.Bytes.{put, span}
use Rattle.endian.specs.Laws.Stored.{length-span}
use Rattle.refusal.specs.declared.Refusal.{Refusal}
use Rattle.refusal.specs.declared.Refusal.TheVariants.{NotEnoughSpace}
use Rattle.tree.specs.Table.{empty_root}
use Rattle.space.specs.declared.region.DiscRegion.{DiscRegion}
use Rattle.opened.specs.Opening.{nodes_in, free_space_of, region_of, Disc, disc_of, free_of}
use Rattle.opened.specs.Inner.Prepared.{IsOpenImage}
use Rattle.edit_rules.specs.Change.{Plan, filled}
use Rattle.edit_rules.specs.Edits.{file_verdict, clip_verdict, plan_sized, plan_resize, plan_fill, plan_verdict, plan_image}
use Rattle.edit_rules.proofs.Laws.Puts.{put-length}
use Rattle.opened.specs.Inner.Disc.{Opened, Means}
use Rattle.edit.specs.declared.file.File.{File}
use Rattle.edit.specs.Inner.Files.{IsFile, file_with_number}
use Rattle.edit.proofs.Files.{FoundFile, file-found, file-refused}
use Rattle.edit.specs.declared.decision.Writing.{Writing}
use Rattle.edit.specs.declared.decision.Decision.{Decision}
use Rattle.edit.specs.declared.decision.Decision.TheVariants as decision
use Rattle.edit.specs.Inner.Decision.{value_behind, written_with, Fits, IsSetApart, carried_image, IsDecided, DecidedAs}
use Rattle.edit.proofs.Decisions.{behind-refused-with}
use Rattle.edit.proofs.Discs.{nodes_are}
use Rattle.edit.specs.Inner.Filling.{uncopied_writing, with_clip, IsClear}
use Rattle.edit.proofs.Clips.{clipped_image-put, clip-first, offset-kept, size-kept}
use Rattle.edit.proofs.Places.{clip-stays, never-clip, clip-clear}

-- ---- what a resize comes to, and the clip

-- the rest, behind the clip
rest-fits : (image t clip : List ℕ) (room : ℕ) (w : Writing) → IsClear image (length t) w (length clip) → Fits image room (length t) w → Fits (put image w.place.offset clip) room (length t) (uncopied_writing w)
rest-fits image t clip room w k g =
    let n : length (put image w.place.offset clip) ≡ length image = put-length image w.place.offset clip k.into in
    record {
      table = rw (n, offset-kept image t clip room w k g, size-kept image t clip room w k g) g.table;
      inside = record {
        copied = record { from = λ z. absurd (omega arith); into = λ z. absurd (omega arith) };
        zeroed = rw n g.inside.zeroed;
      };
    }

rest-apart : (w : Writing) → IsSetApart w → IsSetApart (uncopied_writing w)
rest-apart w a = record { apart = λ z. absurd (omega arith); copy_behind = λ z. absurd (omega arith); lost_behind = a.lost_behind }

module _ (image : List ℕ) (words room : ℕ) (bytes clip : List ℕ) (known : IsOpenImage image words) (k : ℕ) (f : IsFile (nodes_in image) k) (old : DiscRegion)
    (here : region_of (get_or (nodes_in image) k empty_root) ≡ old) (long : length bytes ≡ room) where
  abbrev sized : Plan
  sized = plan_sized (free_space_of image) (nodes_in image) k old (length clip)

  filled-refused : (c : Refusal) → IsDecided sized image (disc_of image) words room bytes (Err c) → DecidedAs (plan_verdict sized (disc_of image) words room) (filled k clip sized) image room bytes clip (Err c)
  filled-refused c h = record { fits = tt; apart = tt; carries = tt; answer = h.answer; after = rw (← h.answer) }

  -- the clip goes where the file lies then
  filled-decided : (d : Decision) → IsDecided sized image (disc_of image) words room bytes (Ok d) → DecidedAs (plan_verdict sized (disc_of image) words room) (filled k clip sized) image room bytes clip (Ok (with_clip d (record { number = k; place = old })))
  filled-decided decision.Nothing h =
      let s = clip-stays image words known k f old here (length clip) bytes h.carries in
      record {
        fits = s.0.into;
        apart = s.0.behind;
        carries = rw s.1 refl;
        answer = h.answer;
        after =
            clipped_image-put image old.offset clip
            ∙ (rw (← h.answer, s.1) (ap (λ (r : DiscRegion). put image r.offset clip) (sym here)));
      }
  filled-decided (decision.Clip n at) h = absurd (never-clip image words known k f old here (length clip) bytes n at h.carries)
  filled-decided (decision.Write n size w) h =
      let s = clip-clear image words known k f old here (length clip) room n size bytes clip w (omega (arith, h.fits.1.table.held)) h.carries (sym h.answer) in
      let t : List ℕ = span bytes 0 size in
      let l : length t ≡ size = length-span bytes 0 size (omega (arith, h.fits.1.table.held)) in
      let c : IsClear image (length t) w (length clip) = rw l s.0 in
      let g : Fits image room (length t) w = rw l h.fits.1 in
      let r : Fits (put image w.place.offset clip) room size (uncopied_writing w) = rw l at (rest-fits image t clip room w c g) in
      let i : carried_image (Ok (decision.Write n size w)) bytes [] image ≡ plan_image sized image = rw (← h.answer) at h.after in
      record {
        fits = (s.0.into, rw (clipped_image-put image w.place.offset clip) r);
        apart = (λ z. omega (arith, s.0.old-table z, h.fits.1.table.behind-header), rest-apart w h.apart.1);
        carries = s.2;
        answer = h.answer;
        after =
            ap (written_with (uncopied_writing w) t) (clipped_image-put image w.place.offset clip)
            ∙ clip-first image t clip room w c g
            ∙ (rw (← h.answer, s.1) (ap (λ (x : List ℕ). put x w.place.offset clip) i));
      }

-- ---- by what the code found, on a disc that the image means

module _ (image : List ℕ) (d : Opened) (m : Means image d) (bytes after clip : List ℕ) (k : ℕ) (r : Result File Refusal) (read : r ≡ value_behind (file_verdict d.disc.nodes k) (file_with_number d.disc.nodes k)) where
  abbrev plan : Plan
  plan = plan_fill (free_of d.disc) d.disc.nodes k clip

  abbrev Fills : Result Decision Refusal → Type 0
  Fills x = DecidedAs (plan_verdict plan d.disc d.words (length bytes)) plan image (length bytes) after clip x

  fill-refused : (c : Refusal) → clip_verdict d.disc.nodes k (length clip) ≡ Err c → Fills (Err c)
  unfolding plan_fill
  fill-refused c e = behind-refused-with image d.disc d.words (length bytes) after clip (clip_verdict d.disc.nodes k (length clip)) _ c e

  pub no-file-to-fill : (c : Refusal) → r ≡ Err c → Fills (Err c)
  no-file-to-fill c e = fill-refused c (rw (file-refused d.disc.nodes k r c read e))

  module _ (f : File) (found : r ≡ Ok f) where
    file : FoundFile d.disc.nodes k f
    file = file-found d.disc.nodes k r f read found

    pub clip-too-long : 0xFFFFFFFF < length clip → Fills (Err NotEnoughSpace)
    clip-too-long h = fill-refused NotEnoughSpace (rw (file.passed, lt-ltb 0xFFFFFFFF (length clip) h))

    module _ (long : length after ≡ length bytes) (n : ℕ) (short : length clip ≤ 0xFFFFFFFF) (e : n ≡ length clip) where
      plan-is : plan ≡ filled k clip (plan_sized (free_of d.disc) d.disc.nodes k f.place (length clip))
      unfolding plan_fill plan_resize
      plan-is = rw (file.passed, le-ltb 0xFFFFFFFF (length clip) short, file.place)

      nodes : nodes_in image ≡ d.disc.nodes
      nodes = nodes_are image d m

      abbrev Sized : Result Decision Refusal → Type 0
      Sized x = IsDecided (plan_sized (free_of d.disc) d.disc.nodes f.number f.place n) image d.disc d.words (length bytes) after x

      -- the resize to the clip's length, and the fill, on a disc
      abbrev SizedOn : Result Decision Refusal → Disc → Type 0
      SizedOn x y = IsDecided (plan_sized (free_of y) y.nodes k f.place (length clip)) image y d.words (length bytes) after x

      abbrev FilledOn : Result Decision Refusal → Disc → Type 0
      FilledOn x y =
          DecidedAs (plan_verdict (plan_sized (free_of y) y.nodes k f.place (length clip)) y d.words (length bytes)) (filled k clip (plan_sized (free_of y) y.nodes k f.place (length clip))) image (length bytes) after clip x

      -- the resize, as one of the image
      sized-is : (x : Result Decision Refusal) → Sized x → SizedOn x (disc_of image)
      sized-is x h = subst (SizedOn x) (sym m.is) (rw (file.number, e) at h)

      -- the fill, as one of the disc
      fills : (x : Result Decision Refusal) → FilledOn x (disc_of image) → Fills x
      fills x h = rw plan-is (subst (FilledOn x) m.is h)

      is : IsFile (nodes_in image) k
      is = rw nodes file.is

      here : region_of (get_or (nodes_in image) k empty_root) ≡ f.place
      here = rw nodes file.place

      pub not-resized : (c : Refusal) → Sized (Err c) → Fills (Err c)
      not-resized c h = fills (Err c) (filled-refused image d.words (length bytes) after clip m.known k is f.place here long c (sized-is (Err c) h))

      pub filled-by : (x y : Decision) → Sized (Ok x) → y ≡ with_clip x f → Fills (Ok y)
      filled-by x y h u =
          let q : f ≡ record { number = k; place = f.place } = ap (λ (i : ℕ). record { number = i; place = f.place }) file.number in
          rw (u, q) (fills (Ok (with_clip x (record { number = k; place = f.place }))) (filled-decided image d.words (length bytes) after clip m.known k is f.place here long x (sized-is (Ok x) h)))
