-- What an image that opens is, what opens, and that more words open it too, and those that its entries ask for, and fewer are refused with 9. Assumes nothing.
use Rattle.std.specs.Prelude.{Ok, Err}
use Rattle.std.specs.Prelude.{ℕ, ◌+◌, ◌-◌, ◌*◌, ◌<◌, ◌≤◌, ◌≡◌, ◌⊎◌, true, List, ◌∷◌, length, ltb, eqb}
use Rattle.std.proofs.Common.{inl, inr, ⊎_elim, arith, ltb-false, le-ltb, lt-ltb}
use Rattle.endian.specs.Bytes.{AllBytes}
use Rattle.refusal.specs.declared.Refusal.TheVariants.{EntryPastTable, UnrecognizedKind, RootIsNotDirectory, MissingNullTerminator, LimitOrMemory}
use Rattle.refusal.specs.Laws.Chains.{refuse-passed, first-passed}
use Rattle.refusal.specs.Laws.Tests.{lt-or-le}
use Rattle.header.specs.Verdicts.{header_verdict, bounds_verdict, disc_end, table_end}
use Rattle.header.specs.Laws.FieldTests.{GoodHeader, Bounded, header-passes, bounds-pass}
use Rattle.tree.specs.Table.{Node, kind, count, entries_verdict, is_unended, check, limits}
use Rattle.tree.specs.Inner.WellFormed.{IsWellFormed}
use Rattle.tree.proofs.Laws.RoundTrip.{within-limits, limits-within, written-accepted, written-reads}
use Rattle.space.specs.Used.{used_regions}
use Rattle.space.specs.Layout.{are_disjoint_below}
use Rattle.executable.specs.Program.{program_of, program_verdict, program_in, program_behind}
use Rattle.opened.specs.Opening.{table_of, nodes_in, regions_behind_table, used_in, layout_verdict, opening}
use Rattle.opened.proofs.Laws.OpeningLaws.{opens, table-accepted}
use Rattle.edit_rules.specs.Change.{Change, written_image}
use Rattle.ledger.proofs.Laws.Written.{new_end, Safe, header-written_image, bounds-written_image, table-written_image, fst-offset-written_image, fst-size-written_image, disc-end-written_image}
use Rattle.ledger.specs.Inner.Files.{files_of}
use Rattle.ledger.proofs.Laws.Files.{places_in, used-files}
use Rattle.ledger.proofs.Laws.Apart.{Apart, apart_from}

pub record Opened (image : List ℕ) : Type 0 where
  pub header : GoodHeader image
  pub bounds : Bounded image
  pub well : IsWellFormed (nodes_in image)
  pub program : program_verdict (program_of image) ≡ Ok tt
  pub regions : are_disjoint_below (disc_end image) (used_in image) ≡ true
  pub places : Apart (table_end image) (disc_end image) (places_in image)

-- LAW: what opening accepts
pub opened : (image : List ℕ) (w : ℕ) → opening image w ≡ Ok tt → AllBytes image → Opened image
unfolding used_in regions_behind_table nodes_in
opened image w e b =
    let o = opens image w b e in
    record {
      header = o.reads.header;
      bounds = o.reads.bounds;
      well = o.reads.table.well;
      program = o.program;
      regions = o.layout;
      places = apart_from (table_end image) (disc_end image) (places_in image) (omega (arith, o.reads.bounds.after-header)) (rw (used-files (table_end image) (program_behind image) (nodes_in image)) at o.layout);
    }

-- LAW: and what it must accept
pub opening-passes : (image : List ℕ) (w : ℕ) → GoodHeader image → Bounded image → check (table_of image) w ≡ Ok tt → program_verdict (program_of image) ≡ Ok tt → are_disjoint_below (disc_end image) (used_in image) ≡ true → opening image w ≡ Ok tt
unfolding opening layout_verdict
opening-passes image w g b c p d = rw (header-passes image g, bounds-pass image b, c, p, d)

-- ---- other words

other-check : (tab : List ℕ) (w w' : ℕ) → (w ≤ w') ⊎ (4 * (count tab + 2) ≤ w') → check tab w ≡ Ok tt → check tab w' ≡ Ok tt
unfolding check
other-check tab w w' h e =
    let c : ℕ = count tab in
    let e₁ = refuse-passed (ltb (length tab) 12) EntryPastTable _ e in
    let e₂ = refuse-passed (ltb 1 (kind tab 0)) UnrecognizedKind _ e₁.1 in
    let e₃ = refuse-passed (eqb (kind tab 0) 0) RootIsNotDirectory _ e₂.1 in
    let e₄ = refuse-passed (ltb 16384 c) LimitOrMemory _ e₃.1 in
    let e₅ = first-passed (entries_verdict tab 1 (c - 1)) _ e₄.1 in
    let e₆ = refuse-passed (is_unended tab c) MissingNullTerminator _ e₅.1 in
    let e₇ = refuse-passed (ltb 1048576 (length tab - 12 * c)) LimitOrMemory _ e₆.1 in
    let e₈ = refuse-passed (ltb w (4 * (c + 2))) LimitOrMemory _ e₇.1 in
    let r : 4 * (c + 2) ≤ w = ltb-false _ _ e₈.0 in
    rw (e₁.0, e₂.0, e₃.0, e₄.0, e₅.0, e₆.0, e₇.0, le-ltb w' (4 * (c + 2)) (⊎_elim (λ z. omega arith) (λ z. z) h)) e₈.1

few-words : (tab : List ℕ) (w words : ℕ) → words < 4 * (count tab + 2) → check tab w ≡ Ok tt → check tab words ≡ Err LimitOrMemory
unfolding check
few-words tab w words short e =
    let c : ℕ = count tab in
    let e₁ = refuse-passed (ltb (length tab) 12) EntryPastTable _ e in
    let e₂ = refuse-passed (ltb 1 (kind tab 0)) UnrecognizedKind _ e₁.1 in
    let e₃ = refuse-passed (eqb (kind tab 0) 0) RootIsNotDirectory _ e₂.1 in
    let e₄ = refuse-passed (ltb 16384 c) LimitOrMemory _ e₃.1 in
    let e₅ = first-passed (entries_verdict tab 1 (c - 1)) _ e₄.1 in
    let e₆ = refuse-passed (is_unended tab c) MissingNullTerminator _ e₅.1 in
    let e₇ = refuse-passed (ltb 1048576 (length tab - 12 * c)) LimitOrMemory _ e₆.1 in
    rw (e₁.0, e₂.0, e₃.0, e₄.0, e₅.0, e₆.0, e₇.0, lt-ltb words (4 * (c + 2)) short)

any-check : (tab : List ℕ) (w words : ℕ) → check tab w ≡ Ok tt → (check tab words ≡ Ok tt) ⊎ (check tab words ≡ Err LimitOrMemory)
any-check tab w words e = ⊎_elim (λ short. inr (few-words tab w words short e)) (λ held. inl (other-check tab w words (inr held) e)) (lt-or-le words (4 * (count tab + 2)))

other-words : (image : List ℕ) (w w' : ℕ) → (w ≤ w') ⊎ (4 * (count (table_of image) + 2) ≤ w') → AllBytes image → opening image w ≡ Ok tt → opening image w' ≡ Ok tt
other-words image w w' h b e =
    let o = opened image w e b in
    opening-passes image w' o.header o.bounds (other-check (table_of image) w w' h (table-accepted image w e)) o.program o.regions

pub more-words : (image : List ℕ) (w w' : ℕ) → w ≤ w' → AllBytes image → opening image w ≡ Ok tt → opening image w' ≡ Ok tt
more-words image w w' h = other-words image w w' (inl h)

-- LAW: 4 × (entries + 2) words are enough for every image that opens, with a program behind the table too
pub enough-words : (image : List ℕ) (w : ℕ) → AllBytes image → opening image w ≡ Ok tt → opening image (4 * (count (table_of image) + 2)) ≡ Ok tt
enough-words image w = other-words image w (4 * (count (table_of image) + 2)) (inr (omega arith))

-- LAW: lent other words, an image that opens with some is refused for want of words alone
pub any-words : (image : List ℕ) (w words : ℕ) → opening image w ≡ Ok tt → (opening image words ≡ Ok tt) ⊎ (opening image words ≡ Err LimitOrMemory)
unfolding opening
any-words image w words e =
    let p = first-passed (header_verdict image) _ e in
    let q = first-passed (bounds_verdict image) _ p.1 in
    let r = first-passed (check (table_of image) w) _ q.1 in
    ⊎_elim (λ (o : check (table_of image) words ≡ Ok tt). inl (rw (p.0, q.0, o) r.1)) (λ (o : check (table_of image) words ≡ Err LimitOrMemory). inr (rw (p.0, q.0, o))) (any-check (table_of image) w words r.0)

pub more-limits : (nodes : List Node) (w w' : ℕ) → w ≤ w' → limits nodes w ≡ Ok tt → limits nodes w' ≡ Ok tt
more-limits nodes w w' h e =
    let i = within-limits nodes w e in
    limits-within nodes w' (record { few = i.few; texts = i.texts; room = omega (arith, i.room); depth = i.depth })

-- ---- a change written

module _ (c : Change) (image : List ℕ) (s : Safe c image) (words w : ℕ) (h : words ≤ w) (l : limits c.nodes words ≡ Ok tt) where
  -- LAW: the image afterwards has the tree that was written
  pub nodes-written_image : nodes_in (written_image c image) ≡ c.nodes
  unfolding nodes_in
  nodes-written_image = rw (table-written_image c image s) (written-reads c.nodes words s.well l)

  -- LAW: and opens, if its program is the same and the files lie apart
  pub opens-written_image : program_verdict (program_of image) ≡ Ok tt → program_of (written_image c image) ≡ program_of image →
      are_disjoint_below (disc_end image) (used_regions (new_end c image) (program_behind image ∷ files_of c.nodes)) ≡ true → opening (written_image c image) w ≡ Ok tt
  unfolding used_in regions_behind_table program_in
  opens-written_image p q d =
      opening-passes (written_image c image) w (header-written_image c image s) (bounds-written_image c image s) (rw (table-written_image c image s) (written-accepted c.nodes w s.well (more-limits c.nodes words w h l))) (rw q p)
      (rw (nodes-written_image, fst-offset-written_image c image s, fst-size-written_image c image s, disc-end-written_image c image s, q, used-files (new_end c image) (program_behind image) c.nodes) d)
