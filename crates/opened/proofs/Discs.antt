-- The disc that an image means, from its parts. Assumes nothing.
use Prim.Native.Nat.{ℕ, ◌+◌, ◌<◌, ◌^◌}
use Rattle.std.specs.Prelude.{◌≡◌, List, length}
use Rattle.std.proofs.Common.{sym, ap, ◌∙◌, arith}
use Rattle.endian.specs.Bytes.{be32, span}
use Rattle.header.specs.Verdicts.{dol_offset, fst_offset, disc_end}
use Rattle.space.specs.declared.region.DiscRegion.{DiscRegion}
use Rattle.space.specs.Free.{free_regions}
use Rattle.space.specs.Used.{total_size}
use Rattle.space.specs.Inner.Sort.{SameSums, regions_in}
use Rattle.space.specs.Inner.Words.{IsSortedDisjoint}
use Rattle.space.specs.Laws.SortLaws.{same_total}
use Rattle.tree.specs.Table.{nodes_of}
use Rattle.tree.proofs.Laws.Accepted.{length-nodes_of}
use Rattle.table.specs.Inner.Reading.{Opens}
use Rattle.executable.specs.Program.{program_behind}
use Rattle.opened.specs.Opening.{table_of, nodes_in, regions_behind_table, used_in, Disc, disc_of, free_of}
use Rattle.opened.specs.Inner.Prepared.{IsOpen}
use Rattle.opened.proofs.Laws.OpeningLaws.{table-accepted}
use Rattle.opened.proofs.Words.{free-below, sorted-below}
use Rattle.opened.specs.Inner.Parts.{HasParts}
use Rattle.opened.specs.Inner.Disc.{Opened, disc_in, opened_in, Means, IsTableOf}
use Rattle.opened.specs.Inner.Backed.{IsBacked}
use Rattle.opened.proofs.Opens.{head_opens}
use Rattle.opened.proofs.Heads.{start_is, size_is, maximum_is, user_is, disc_is}

-- ---- the parts of an image that opens

module _ (image header table program : List ℕ) (long : ℕ) (h : HasParts image header table program long) (w : List ℕ) (m : ℕ) (o : IsOpen image w m) (own : DiscRegion) (p : own ≡ program_behind image) where
  table_there : table ≡ table_of image
  table_there = h.table_is (head_opens image (length w) o.known.reads)

  disc_same : disc_in header table own ≡ disc_of image
  unfolding nodes_in used_in regions_behind_table
  disc_same = rw (start_is image header long h.head, size_is image header long h.head, maximum_is image header long h.head, user_is image header long h.head, disc_is image header long h.head, table_there, p)

  pub backed : IsBacked header table own w m
  backed = record { image = image; known = o; table_is = table_there; disc_is = disc_same }

  pub means : Means image (opened_in header table own (length w))
  means = record { known = o.known; is = sym disc_same; table_is = sym table_there }

-- ---- what the words hold

module _ (header table : List ℕ) (own : DiscRegion) (w : List ℕ) (m : ℕ) (b : IsBacked header table own w m) where
  pub opens_backed : Opens table
  opens_backed = rw b.table_is (record { words = length w; passed = table-accepted b.image (length w) b.known.known.passed })

  module _ (d : Opened) (v : opened_in header table own (length w) ≡ d) where
    pub shown : disc_of b.image ≡ d.disc
    shown = sym b.disc_is ∙ ap (λ (x : Opened). x.disc) v

    pub free_backed : (e : ℕ) → e ≡ d.disc.end → free_regions e (regions_in w 0 m) ≡ free_of d.disc
    free_backed e q =
        free-below b.image w m e b.known (q ∙ ap (λ (x : Disc). x.end) (sym shown)) ∙ ap free_of shown

    pub means_backed : Means b.image d
    means_backed =
        let n : length w ≡ d.words = ap (λ (x : Opened). x.words) v in
        record { known = rw n at b.known.known; is = shown; table_is = sym b.table_is ∙ ap (λ (x : Opened). x.table) v }

    pub lent_is : length w ≡ d.words
    lent_is = ap (λ (x : Opened). x.words) v

    pub sorted_backed : (e : ℕ) → e ≡ d.disc.end → IsSortedDisjoint w m e
    sorted_backed e q = sorted-below b.image w m e b.known (q ∙ ap (λ (x : Disc). x.end) (sym shown))

    pub sums_backed : SameSums (regions_in w 0 m) d.disc.used
    sums_backed = rw (ap (λ (x : Disc). x.used) shown) at b.known.used.sums

    pub used_backed : total_size (regions_in w 0 m) ≡ total_size d.disc.used
    used_backed = same_total (regions_in w 0 m) d.disc.used sums_backed

    pub entries_backed : (n : ℕ) → n ≡ be32 table 8 → n ≡ length d.disc.nodes
    entries_backed n e =
        (e ∙ ap (λ (l : List ℕ). be32 l 8) b.table_is)
        ∙ b.known.known.reads.table.root-next
        ∙ sym (length-nodes_of (table_of b.image))
        ∙ ap (λ (l : List ℕ). length (nodes_of l)) (sym b.table_is)
        ∙ ap (λ (x : Opened). length x.disc.nodes) v

    pub table_fits : d.disc.start + length table < 2 ^ 32
    table_fits =
        let k = b.known.known.reads in
        let s : fst_offset b.image ≡ d.disc.start = ap (λ (x : Disc). x.start) shown in
        rw (← s, b.table_is) (omega (arith, k.size, k.bounds.table, k.bounds.small))

    pub table_backed : IsTableOf d table
    table_backed = record { image = b.image; means = means_backed; is = b.table_is }

    -- LAW: the words hold the used regions of every image that means the disc
    pub open_backed : (image : List ℕ) → Means image d → IsOpen image w m
    open_backed image i =
        let s : disc_of b.image ≡ disc_of image = shown ∙ sym i.is in
        let e : disc_end b.image ≡ disc_end image = ap (λ (x : Disc). x.end) s in
        let u : used_in b.image ≡ used_in image = ap (λ (x : Disc). x.used) s in
        record {
          known = rw lent_is i.known;
          used = record {
            sorted = rw e at b.known.used.sorted;
            free = rw (e, u) at b.known.used.free;
            sums = rw u at b.known.used.sums;
          };
        }

-- ---- the parts that are cut from an image

module _ (image t : List ℕ) where
  pub cut_program : (at : ℕ) → at ≡ dol_offset image → t ≡ span image at 0xE4 → t ≡ span image (dol_offset image) 0xE4
  cut_program at p e = rw (← p) e
