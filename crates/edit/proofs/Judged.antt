-- What is judged is what its plan comes to with its table in any bytes, so behind tests too; and there are such bytes. Assumes nothing.
use Rattle.std.specs.Prelude.{Result, Ok, Err}
use Prim.Native.Nat.{ℕ, ◌+◌, ◌*◌, ◌≤◌}
use mathlib.Core.Path.{◌≡◌, refl, sym, ◌∙◌}
use mathlib.Core.List.{List, ◌++◌}
use native.Mathlib.Omega.{arith}
use lib.ListN.{length, replicate}
use Rattle.std.proofs.lemmas.List.{length-replicate}
use Rattle.endian.specs.Bytes.{put, span, be32_bytes}
use Rattle.endian.specs.Laws.Stored.{length-put}
use Rattle.refusal.specs.declared.Refusal.{Refusal}
use Rattle.tree.specs.Table.{Node, encode}
use Rattle.tree.specs.Insert.{set_place}
use Rattle.edit.specs.declared.decision.Writing.{Writing}
use Rattle.edit.specs.declared.decision.Decision.{Decision}
use Rattle.edit.specs.declared.decision.Decision.TheVariants as decision
use Rattle.edit.specs.Inner.Decision.{CanDraft, IsDraftable, IsDrafted}
use Rattle.edit.proofs.Puts.{span-start}
use Rattle.edit.proofs.Decisions.{length-encode-set_place}
use Rattle.edit.proofs.Files.{placed-table}

-- some bytes, so many, in which the table stands
pub record Drafted (nodes : List Node) (room : ℕ) (r : Result Decision Refusal) : Type 0 where
  pub bytes : List ℕ
  pub long : length bytes ≡ room
  pub is : IsDrafted nodes bytes r

module _ (nodes : List Node) (room : ℕ) where
  abbrev blank : List ℕ
  blank = replicate room 0

  blank-long : length blank ≡ room
  blank-long = length-replicate {A = ℕ} room 0

  pub some-draft : (r : Result Decision Refusal) → IsDraftable nodes room r → Drafted nodes room r
  some-draft (Err c) h = record { bytes = blank; long = blank-long; is = tt }
  some-draft (Ok decision.Nothing) h = record { bytes = blank; long = blank-long; is = tt }
  some-draft (Ok (decision.Clip n at)) h = record { bytes = blank; long = blank-long; is = tt }
  some-draft (Ok (decision.Write n size w)) h =
      let table : List ℕ = encode (set_place n w.place.offset w.place.size nodes) in
      let e : length table ≡ length (encode nodes) = length-encode-set_place w.place.offset w.place.size n nodes in
      let f : length table ≤ length blank = omega (arith, e, h.long, h.held, blank-long) in
      record {
        bytes = put blank 0 table;
        long = length-put blank 0 table (omega arith) ∙ blank-long;
        is = span-start blank table (put blank 0 table) size refl f (h.long ∙ sym e);
      }

-- the tree written anew, and then 8 bytes changed
pub table-drafted : (nodes : List Node) (room : ℕ) (bytes anew after : List ℕ) (n size : ℕ) (w : Writing) → room ≡ length bytes → CanDraft nodes room n size → anew ≡ put bytes 0 (encode nodes) →
    after ≡ put anew (12 * n + 4) (be32_bytes w.place.offset ++ be32_bytes w.place.size) → span after 0 size ≡ encode (set_place n w.place.offset w.place.size nodes)
table-drafted nodes room bytes anew after n size w e h p q =
    let i : length (encode (set_place n w.place.offset w.place.size nodes)) ≡ length (encode nodes) = length-encode-set_place w.place.offset w.place.size n nodes in
    let f : length (encode nodes) ≤ length bytes = omega (arith, h.long, h.held, e) in
    span-start bytes (encode (set_place n w.place.offset w.place.size nodes)) after size (placed-table nodes n w.place.offset w.place.size bytes anew after h.file f p q) (omega (arith, i)) (h.long ∙ sym i)

-- of what was judged, where it is to be written
module _ (nodes : List Node) (r : Result Decision Refusal) (x : Decision) (n size : ℕ) (w : Writing) (e : r ≡ Ok x) (f : x ≡ decision.Write n size w) where
  pub can-draft : (room : ℕ) → IsDraftable nodes room r → CanDraft nodes room n size
  can-draft room h = rw (e, f) at h

  pub is-drafted : (bytes : List ℕ) → span bytes 0 size ≡ encode (set_place n w.place.offset w.place.size nodes) → IsDrafted nodes bytes r
  is-drafted bytes t = rw (e, f) t
