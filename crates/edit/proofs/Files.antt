-- A file of a disc: found by its number, given another place, and what that place asks. Assumes nothing.
use Rattle.std.specs.Prelude.{Result, Ok, Err}
use Rattle.refusal.specs.Refusal.{Verdict, first}
use Prim.Native.Nat.{ℕ, ◌+◌, ◌-◌, ◌*◌, ◌≤◌, ◌<◌}
use mathlib.Core.Path.{◌≡◌, refl, sym, ap, ◌∙◌}
use mathlib.Core.Logic.{inl, inr, ⊎_elim}
use mathlib.Core.Bool.{false}
use mathlib.Core.List.{List, ◌++◌}
use native.Mathlib.Omega.{arith}
use borrow.Author.Tests.{leb-false, eq-eqb}
use lib.Dec.{leb}
use lib.ListN.{length, get_or}
use Rattle.endian.specs.Bytes.{put, be32_bytes}
use Rattle.refusal.specs.declared.Refusal.{Refusal}
use Rattle.refusal.specs.declared.Refusal.TheVariants.{NoSuchEntry, ExpectedFile, OverlappingMove}
use Rattle.refusal.specs.Laws.Chains.{refuse-passed}
use Rattle.header.specs.Verdicts.{table_end}
use Rattle.tree.specs.Table.{Node, file, directory, empty_root, encode}
use Rattle.tree.specs.Lookup.{is_directory}
use Rattle.tree.specs.Insert.{set_place}
use Rattle.tree.proofs.Laws.PatchLaws.{place-patched}
use Rattle.tree.proofs.Laws.WrittenEntries.{length-encode}
use Rattle.space.specs.declared.region.DiscRegion.{DiscRegion}
use Rattle.opened.specs.Opening.{nodes_in, region_of, free_space_of, Disc}
use Rattle.opened.specs.Inner.Prepared.{IsOpenImage}
use Rattle.edit.specs.declared.decision.Decision.{Decision}
use Rattle.edit.specs.declared.decision.Decision.TheVariants as decision
use Rattle.edit_rules.specs.Change.{change}
use Rattle.edit_rules.specs.Edits.{file_verdict, is_overlapping, relocate_verdict, relocation_change, plan_behind, plan_move, plan_resize, plan_sized}
use Rattle.edit.specs.declared.file.File.{File}
use Rattle.edit.specs.Inner.Files.{IsFile, file_with_number, relocation_of}
use Rattle.edit.specs.Inner.Decision.{LiesApart, IsDecided, value_behind}
use Rattle.edit.proofs.Puts.{put-inside}
use Rattle.edit.proofs.Decisions.{tests-passed, tests-refused, plan_behind-first, behind-passed, behind-refused}
use Rattle.edit.proofs.Images.{one-behind, file-lies, new-place, end-in-image}

-- ---- found by its number

module _ (nodes : List Node) (k : ℕ) where
  abbrev node : Node
  node = get_or nodes k empty_root

  -- a file that was found
  pub record FoundFile (f : File) : Type 0 where
    pub passed : file_verdict nodes k ≡ Ok tt
    pub number : f.number ≡ k
    pub place : region_of node ≡ f.place
    pub is : IsFile nodes k

  pub file-found : (r : Result File Refusal) (f : File) → r ≡ value_behind (file_verdict nodes k) (file_with_number nodes k) → r ≡ Ok f → FoundFile f
  file-found r f e g =
      let p = tests-passed (file_verdict nodes k) (file_with_number nodes k) f (sym e ∙ g) in
      let a = refuse-passed (leb (length nodes) k) NoSuchEntry _ p.0 in
      let b = refuse-passed (is_directory node) ExpectedFile _ a.1 in
      record {
        passed = p.0;
        number = ap (λ (x : File). x.number) (sym p.1);
        place = ap (λ (x : File). x.place) p.1;
        is = record { inside = leb-false (length nodes) k a.0; kind = b.0 };
      }

  pub file-refused : (r : Result File Refusal) (c : Refusal) → r ≡ value_behind (file_verdict nodes k) (file_with_number nodes k) → r ≡ Err c → file_verdict nodes k ≡ Err c
  file-refused r c e f = tests-refused (file_verdict nodes k) (file_with_number nodes k) c (sym e ∙ f)

-- ---- the table with another place for it

file-is : (x : Node) → is_directory x ≡ false → (nm : List ℕ) × (a : ℕ) × (b : ℕ) × (x ≡ file nm a b)
file-is (file nm a b) e = (nm, a, b, refl)
file-is (directory nm n) e = let z : ◌≡◌ {A = ℕ} 0 1 = cc in absurd (omega arith)

pub placed-table : (nodes : List Node) (k o n : ℕ) (s l m : List ℕ) → IsFile nodes k → length (encode nodes) ≤ length s → l ≡ put s 0 (encode nodes) → m ≡ put l (12 * k + 4) (be32_bytes o ++ be32_bytes n) →
    m ≡ put s 0 (encode (set_place k o n nodes))
placed-table nodes k o n s l m f h e g =
    let x = file-is (get_or nodes k empty_root) f.kind in
    let i : 12 * k + 4 + length (be32_bytes o ++ be32_bytes n) ≤ length (encode nodes) = omega (arith, length-encode nodes, f.inside) in
    g ∙ ap (λ (y : List ℕ). put y (12 * k + 4) (be32_bytes o ++ be32_bytes n)) e ∙ put-inside s (encode nodes) (12 * k + 4) (be32_bytes o ++ be32_bytes n) i h
    ∙ ap (put s 0) (place-patched o n k nodes x.0 x.1 x.2 x.3 f.inside)

-- ---- a new place

module _ (image : List ℕ) (words : ℕ) (known : IsOpenImage image words) (k : ℕ) (old : DiscRegion) (here : region_of (get_or (nodes_in image) k empty_root) ≡ old) where
  lies : 0 < old.size → (table_end image ≤ old.offset) × (old.offset + old.size ≤ length image)
  lies z = let l = rw here at (file-lies image words known k (rw here z)) in (l.0, omega (arith, l.1, end-in-image image words known))

  -- the table lies behind the header, and so does what lies behind the table
  behind : (at : ℕ) → table_end image ≤ at → 0x440 ≤ at
  behind at h = omega (arith, known.reads.bounds.after-header)

  pub relocate-inside : (new : DiscRegion) → relocate_verdict (free_space_of image) old new ≡ Ok tt → LiesApart (length image) (relocation_of old new)
  relocate-inside new p = record {
    inside = record {
      copied = record {
        from = λ z. omega (arith, (lies (omega arith)).1);
        into = λ z. omega (arith, (new-place image words known old new p (omega arith)).1, end-in-image image words known);
      };
      zeroed = record { into = λ z. (lies z).1 };
    };
    apart = record {
      apart = λ z. ⊎_elim (λ h. inr (omega arith)) (λ h. inl (omega arith)) (one-behind old new (refuse-passed (is_overlapping old new) OverlappingMove _ p).0 (omega arith) (omega arith));
      copy_behind = λ z. behind new.offset (new-place image words known old new p (omega arith)).0;
      lost_behind = λ z. behind old.offset (lies z).0;
    };
  }

  pub resize-inside : (n lost : ℕ) → lost ≡ old.size - n →
      LiesApart (length image) (record { old = old; place = record { offset = old.offset; size = n }; kept = 0; lost = record { offset = old.offset + n; size = lost } })
  resize-inside n lost e = record {
    inside = record {
      copied = record { from = λ z. absurd (omega arith); into = λ z. absurd (omega arith) };
      zeroed = record { into = λ z. omega (arith, (lies (omega arith)).1) };
    };
    apart = record {
      apart = λ z. absurd (omega arith);
      copy_behind = λ z. absurd (omega arith);
      lost_behind = λ z. behind (old.offset + n) (omega (arith, (lies (omega arith)).0));
    };
  }

-- ---- the decisions

module _ (image : List ℕ) (x : Disc) (words room : ℕ) (bytes : List ℕ) (free : List DiscRegion) (nodes : List Node) (k : ℕ) where
  pub move-decided : (to : ℕ) (old : DiscRegion) (d : Result Decision Refusal) → file_verdict nodes k ≡ Ok tt → region_of (get_or nodes k empty_root) ≡ old →
      IsDecided (plan_behind (relocate_verdict free old (record { offset = to; size = old.size })) (change k (relocation_change nodes k old (record { offset = to; size = old.size })))) image x words room bytes d →
      IsDecided (plan_move free nodes k to) image x words room bytes d
  unfolding plan_move
  move-decided to old d p e h =
      let r : DiscRegion = region_of (get_or nodes k empty_root) in
      let h' : IsDecided (plan_behind (relocate_verdict free r (record { offset = to; size = r.size })) (change k (relocation_change nodes k r (record { offset = to; size = r.size })))) image x words room bytes d = rw (← e) at h in
      rw (plan_behind-first (file_verdict nodes k) (relocate_verdict free r (record { offset = to; size = r.size })) (change k (relocation_change nodes k r (record { offset = to; size = r.size }))))
      (behind-passed image x words room bytes (file_verdict nodes k) (plan_behind (relocate_verdict free r (record { offset = to; size = r.size })) (change k (relocation_change nodes k r (record { offset = to; size = r.size })))) d p h')

  pub move-refused : (to : ℕ) (c : Refusal) → file_verdict nodes k ≡ Err c → IsDecided (plan_move free nodes k to) image x words room bytes (Err c)
  unfolding plan_move
  move-refused to c e =
      let r : DiscRegion = region_of (get_or nodes k empty_root) in
      behind-refused image x words room bytes (first (file_verdict nodes k) (relocate_verdict free r (record { offset = to; size = r.size }))) (change k (relocation_change nodes k r (record { offset = to; size = r.size }))) c
      (ap (λ (v : Verdict). first v (relocate_verdict free r (record { offset = to; size = r.size }))) e)

  pub resize-decided : (n : ℕ) (old : DiscRegion) (d : Result Decision Refusal) → file_verdict nodes k ≡ Ok tt → region_of (get_or nodes k empty_root) ≡ old →
      IsDecided (plan_sized free nodes k old n) image x words room bytes d → IsDecided (plan_resize free nodes k n) image x words room bytes d
  unfolding plan_resize
  resize-decided n old d p e h =
      let r : DiscRegion = region_of (get_or nodes k empty_root) in
      let h' : IsDecided (plan_sized free nodes k r n) image x words room bytes d = rw (← e) at h in
      behind-passed image x words room bytes (file_verdict nodes k) (plan_sized free nodes k r n) d p h'

  pub resize-refused : (n : ℕ) (c : Refusal) → file_verdict nodes k ≡ Err c → IsDecided (plan_resize free nodes k n) image x words room bytes (Err c)
  unfolding plan_resize
  resize-refused n c e = behind-refused image x words room bytes (file_verdict nodes k) (plan_sized free nodes k (region_of (get_or nodes k empty_root)) n) c e

  module _ (old : DiscRegion) (n : ℕ) where
    pub size-kept : n ≡ old.size → IsDecided (plan_sized free nodes k old n) image x words room bytes (Ok decision.Nothing)
    size-kept e = rw (eq-eqb n old.size e) (record { fits = tt; apart = tt; carries = tt; answer = refl; after = refl })
