-- An image opens whatever maximum it states: one that differs in the FST maximum alone opens too, to the same tree with the same free regions. So an
-- image whose table is larger than its maximum still opens. Assumes nothing.
use Rattle.std.specs.Prelude.{Ok}
use Rattle.std.specs.Prelude.{ℕ, ◌+◌, ◌≤◌, ◌≡◌, List, length, get_or}
use Rattle.std.proofs.Common.{inl, inr, ⊎_elim, arith}
use Rattle.endian.specs.Bytes.{AllBytes}
use Rattle.endian.specs.Laws.Stored.{be32-same, Outside}
use Rattle.opened.specs.Opening.{nodes_in, free_space_of, opening}
use Rattle.ledger.proofs.Laws.Alike.{Alike, tree-same, free-same, opens-same}
use Rattle.ledger.proofs.Laws.Opened.{Opened, opened}
use Rattle.ledger.proofs.Laws.ProgramKept.{program-spared}

module _ (image image' : List ℕ) (w : ℕ) (b : AllBytes image) (e : opening image w ≡ Ok tt) (len : length image' ≡ length image)
    (else : (i : ℕ) → Outside 0x42C 4 i → get_or image' i 0 ≡ get_or image i 0) where
  o : Opened image
  o = opened image w e b

  behind : (i : ℕ) → 0x430 ≤ i → get_or image' i 0 ≡ get_or image i 0
  behind i h = else i (inr (omega arith))

  alike : Alike image image'
  alike = record {
    len = len;
    field = λ at h. be32-same image' image at (λ i l. else (at + i) (⊎_elim (λ z. inl (omega arith)) (λ z. inr (omega (arith, z.0))) h));
    table = λ i h l. behind i (omega (arith, o.bounds.after-header));
    program = (program-spared image image' o len (λ i h. else i (inl (omega arith))) (λ i h g. behind i (omega arith)) (λ i h. behind i (omega (arith, o.bounds.after-header, (o.places.lie 0 i h).0)))).program;
  }

  -- THEOREM
  pub any-maximum : (opening image' w ≡ Ok tt) × (nodes_in image' ≡ nodes_in image) × (free_space_of image' ≡ free_space_of image)
  any-maximum = (opens-same image image' alike o w e, tree-same image image' alike o, free-same image image' alike o)
