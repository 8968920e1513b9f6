-- A record of an open disc: the regions in its words tell the largest free one. Assumes nothing.
use Rattle.std.specs.Prelude.{ℕ, ◌+◌, ◌-◌, ◌<◌, ◌^◌, ◌≡◌, List}
use Rattle.std.proofs.Common.{◌∙◌, arith}
use Rattle.header.specs.Verdicts.{disc_end, table_end}
use Rattle.space.specs.Free.{largest_size}
use Rattle.space.specs.Used.{total_size}
use Rattle.space.specs.Inner.Sort.{regions_in}
use Rattle.totals.specs.declared.team.Team.{Team}
use Rattle.totals.specs.declared.Totals.{Totals}
use Rattle.space.specs.Inner.Scan.{longest_from}
use Rattle.space.specs.Laws.LargestLaws.{largest-now}
use Rattle.opened.specs.Opening.{used_in, regions_behind_table, free_space_of}
use Rattle.opened.specs.Inner.Prepared.{IsOpen}
use Rattle.opened.proofs.Laws.OpeningLaws.{used-regions}
use Rattle.opened.specs.Inner.Disc.{Opened, Means}
use Rattle.opened.proofs.Laws.Meant.{start_meant, room_meant, end_meant, total_meant}
use Rattle.disc.specs.Calls.{totals_of}

largest-is : (image w : List ℕ) (m : ℕ) → IsOpen image w m → longest_from (disc_end image) 0 (record { offset = 0; size = 0 }) (table_end image) 0 (regions_in w 1 (m - 1)) ≡ largest_size (free_space_of image)
unfolding used_in
largest-is image w m o =
    largest-now w m (disc_end image) (table_end image) (regions_behind_table image) o.used.sorted (omega (arith, o.known.reads.bounds.after-header)) (used-regions image w m o.used) o.known.layout

module _ (image : List ℕ) (d : Opened) (m : Means image d) where
  -- where the table ends
  pub table_end_is : d.disc.start + d.disc.table_size ≡ table_end image
  table_end_is = rw (start_meant image d m, room_meant image d m)

  -- its numbers are 32 bits wide
  pub table_end_fits : d.disc.start + d.disc.table_size < 2 ^ 32
  table_end_fits = omega (arith, table_end_is, m.known.reads.bounds.table, m.known.reads.bounds.small)

  pub recorded : (w : List ℕ) (n : ℕ) → IsOpen image w n → (e t used largest : ℕ) → e ≡ d.disc.end → t ≡ d.disc.start + d.disc.table_size → used ≡ total_size d.disc.used
      → largest ≡ longest_from e 0 (record { offset = 0; size = 0 }) t 0 (regions_in w 1 (n - 1)) → (teams made : List Team) → teams ≡ made → ◌≡◌ {A = Totals} (record { used = used; largest = largest; teams = teams }) (totals_of image made)
  recorded w n o e t used largest p q u l teams made s =
      let f : largest ≡ largest_size (free_space_of image) = rw (p, ← end_meant image d m, q, table_end_is) at l ∙ largest-is image w n o in
      rw (f, u, s, ← total_meant image d m)
