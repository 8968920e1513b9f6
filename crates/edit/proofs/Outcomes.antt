-- What each function that decides found, as the decision that its plan comes to on an image that means the disc. Assumes nothing.
use Rattle.std.specs.Prelude.{Result, Ok, Err}
use Prim.Native.Nat.{ℕ, ◌+◌, ◌-◌, ◌*◌, ◌≤◌, ◌^◌}
use mathlib.Core.Path.{◌≡◌, sym, ◌∙◌}
use mathlib.Core.List.{List}
use native.Mathlib.Omega.{arith}
use lib.ListN.{length, get_or}
use Rattle.endian.specs.Bytes.{put, span}
use Rattle.refusal.specs.Refusal.{Verdict}
use Rattle.refusal.specs.declared.Refusal.{Refusal}
use Rattle.tree.specs.Table.{Node, empty_root, encode}
use Rattle.tree.specs.Insert.{set_place}
use Rattle.tree.proofs.Laws.WrittenEntries.{length-encode}
use Rattle.space.specs.declared.region.DiscRegion.{DiscRegion}
use Rattle.space.specs.Used.{no_region}
use Rattle.opened.specs.Opening.{region_of, free_of}
use Rattle.edit_rules.specs.Change.{table_verdict, change}
use Rattle.edit_rules.specs.Edits.{table_change, relocate_verdict}
use Rattle.opened.specs.Inner.Disc.{Opened, Means}
use Rattle.edit.specs.declared.decision.Writing.{Writing}
use Rattle.edit.specs.declared.decision.Decision.TheVariants as decision
use Rattle.edit.specs.Inner.Decision.{LiesApart, IsDecided, Judges, placing_change, change_with, nothing_besides, judged_size}
use Rattle.edit.proofs.Puts.{span-start}
use Rattle.edit.proofs.Decisions.{nothing-inside, nothing-apart, tests-passed, tests-refused, refused-decided, write-decided, same_tests}
use Rattle.edit.proofs.Discs.{nodes_are, free_is, new_table}
use Rattle.edit.specs.declared.file.File.{File}
use Rattle.edit.specs.Inner.Files.{IsFile, IsFileOf, relocation_of}
use Rattle.edit.proofs.Files.{relocate-inside, resize-inside}

-- a table that holds the tree has the file's entry
pub entry-fits : (nodes : List Node) (k long : ℕ) → IsFile nodes k → length (encode nodes) ≤ long → 12 * k + 12 ≤ long
entry-fits nodes k long f h = omega (arith, length-encode nodes, f.inside)

module _ (image : List ℕ) (d : Opened) (m : Means image d) where
  -- ---- the table, judged and written

  module _ (room : ℕ) (to : DiscRegion) (r : Result ℕ Refusal) (judged : r ≡ judged_size d room to) where
    past : (c : Refusal) → r ≡ Err c → table_verdict (placing_change d.disc.nodes to) d.disc d.words room ≡ Err c
    past c e = tests-refused _ (length (encode d.disc.nodes)) c (sym judged ∙ e)

  module _ (bytes : List ℕ) (r : Result ℕ Refusal) (judged : r ≡ judged_size d (length bytes) no_region) where
    pub rewrite-refused : (c : Refusal) (after : List ℕ) → r ≡ Err c → IsDecided (change 0 (table_change d.disc.nodes)) image d.disc d.words (length bytes) after (Err c)
    rewrite-refused c after e = refused-decided image d.disc d.words (length bytes) after (change 0 (table_change d.disc.nodes)) c (past (length bytes) no_region r judged c e)

    pub rewrite-decided : (size : ℕ) (after : List ℕ) → r ≡ Ok size → after ≡ put bytes 0 (encode d.disc.nodes) →
        IsDecided (change 0 (table_change d.disc.nodes)) image d.disc d.words (length bytes) after (Ok (decision.Write 0 size nothing_besides))
    rewrite-decided size after e h =
        let n = new_table image d m (length bytes) no_region r judged size e in
        write-decided image d.disc d.words (length bytes) after 0 d.disc.nodes size nothing_besides
        (record { table = n.fits; inside = nothing-inside (length image) }) nothing-apart n.passed
        (span-start bytes (encode d.disc.nodes) after size h n.held n.length-is)

  module _ (room : ℕ) (r : Result ℕ Refusal) (k : ℕ) (x : Writing) (judged : r ≡ judged_size d room x.place) where
    pub place-refused : (c : Refusal) (bytes : List ℕ) → r ≡ Err c → IsDecided (change k (change_with (set_place k x.place.offset x.place.size d.disc.nodes) x)) image d.disc d.words room bytes (Err c)
    place-refused c bytes e =
        refused-decided image d.disc d.words room bytes (change k (change_with (set_place k x.place.offset x.place.size d.disc.nodes) x)) c
        (same_tests d.disc d.words room k x.place.offset x.place.size d.disc.nodes x ∙ past room x.place r judged c e)

    place-decided : (size : ℕ) (bytes : List ℕ) → r ≡ Ok size → LiesApart (length image) x → span bytes 0 size ≡ encode (set_place k x.place.offset x.place.size d.disc.nodes) →
        IsDecided (change k (change_with (set_place k x.place.offset x.place.size d.disc.nodes) x)) image d.disc d.words room bytes (Ok (decision.Write k size x))
    place-decided size bytes e l h =
        let n = new_table image d m room x.place r judged size e in
        write-decided image d.disc d.words room bytes k (set_place k x.place.offset x.place.size d.disc.nodes) size x (record { table = n.fits; inside = l.inside }) l.apart
        (same_tests d.disc d.words room k x.place.offset x.place.size d.disc.nodes x ∙ n.passed) h

  -- ---- another place

  module _ (f : File) (h : IsFileOf d f) where
    here : region_of (get_or d.disc.nodes f.number empty_root) ≡ f.place
    here = h.place

    pub relocated-in-image : (new : DiscRegion) (v : Verdict) → v ≡ relocate_verdict (free_of d.disc) f.place new → v ≡ Ok tt → LiesApart (length image) (relocation_of f.place new)
    relocated-in-image new v judged passed =
        relocate-inside image d.words m.known f.number f.place (rw (nodes_are image d m) here) new (rw (free_is image d m) (sym judged ∙ passed))

    pub resized-in-image : (n lost : ℕ) → lost ≡ f.place.size - n →
        LiesApart (length image) (record { old = f.place; place = record { offset = f.place.offset; size = n }; kept = 0; lost = record { offset = f.place.offset + n; size = lost } })
    resized-in-image n lost e = resize-inside image d.words m.known f.number f.place (rw (nodes_are image d m) here) n lost e

-- a file's place judged: room for the table, and what it comes to with that table in any bytes
pub place-judged : (d : Opened) (room : ℕ) (r : Result ℕ Refusal) (k : ℕ) (x : Writing) → r ≡ judged_size d room x.place → (size : ℕ) → r ≡ Ok size → IsFile d.disc.nodes k → ((image : List ℕ) → Means image d → LiesApart (length image) x) →
    length (encode d.disc.nodes) ≤ room → length (encode d.disc.nodes) ≤ 2 ^ 24 → Judges (change k (change_with (set_place k x.place.offset x.place.size d.disc.nodes) x)) d room (Ok (decision.Write k size x))
place-judged d room r k x judged size e f apart held small =
    let n : length (encode d.disc.nodes) ≡ size = (tests-passed _ (length (encode d.disc.nodes)) size (sym judged ∙ e)).1 in
    record {
      draftable = record { file = f; long = sym n; held = omega (arith, n); small = omega (arith, n) };
      decides = λ bytes t image m. place-decided image d m room r k x judged size bytes e (apart image m) t;
    }
