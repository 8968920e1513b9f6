-- After any list of calls the stated maximum is the first image's, and a table above it is the first image's, byte for byte: an accepted edit that
-- writes a table passed the test of 26. Assumes nothing.
use Rattle.std.specs.Prelude.{Ok, Err, is_err}
use Rattle.refusal.specs.Refusal.{Verdict}
use Rattle.std.specs.Prelude.{ℕ, ◌<◌, ◌≤◌, ◌≡◌, refl, cond, not, List, [], ◌∷◌, length}
use Rattle.std.proofs.Common.{◌∙◌, ⊎_elim, arith}
use Rattle.endian.specs.Bytes.{AllBytes}
use Rattle.refusal.specs.Laws.Chains.{first-passed}
use Rattle.refusal.specs.Laws.Tests.{lt-or-le}
use Rattle.header.specs.Verdicts.{fst_size, fst_max_size}
use Rattle.tree.specs.Table.{encode, limits}
use Rattle.opened.specs.Opening.{table_of, disc_of}
use Rattle.edit_rules.specs.Change.{Change, table_verdict, Plan, refused, nothing, change, filled}
use Rattle.edit_rules.specs.Edits.{Edit, Account, plan_of, plan_verdict, plan_image, verdict_of, image_after}
use Rattle.edit_rules.proofs.Laws.Accepted.{accepted}
use Rattle.edit_rules.proofs.Laws.PlaceTests.{place-passed}
use Rattle.ledger.specs.Ledger.{Ledger, first_ledger, ledger_with}
use Rattle.ledger.specs.Runs.{Call, image_after_all, IsPassable, AllWithin}
use Rattle.ledger.specs.Theorem.{WithinMaximum, MaximumKept}
use Rattle.ledger.proofs.Laws.Kept.{Kept}
use Rattle.ledger.proofs.Laws.Layout.{Lays}
use Rattle.ledger.proofs.Laws.Sequence.{start}
use Rattle.ledger.proofs.Laws.Steps.{step}
use Rattle.ledger.proofs.Laws.TreeAfter.{arrives}

-- LAW: where a larger table is the first one, a table within the maximum at first is within it at last
kept-within : (first last : List ℕ) → fst_max_size last ≡ fst_max_size first → (0 < fst_max_size first → fst_max_size first < fst_size last → (fst_size last ≡ fst_size first) × (table_of last ≡ table_of first)) → WithinMaximum first last
kept-within first last same larger = record {
  field = same;
  within = λ z h. ⊎_elim (λ l. absurd (omega (arith, (larger z l).0))) (λ l. l) (lt-or-le (fst_max_size first) (fst_size last));
  larger = larger;
}

same : (image : List ℕ) → WithinMaximum image image
same image = kept-within image image refl (λ z h. (refl, refl))

trans : (a b c : List ℕ) → WithinMaximum a b → WithinMaximum b c → WithinMaximum a c
trans a b c p q =
    kept-within a c (q.field ∙ p.field) (λ z h.
    let e = q.larger (omega (arith, p.field)) (omega (arith, p.field)) in
    let f = p.larger z (omega (arith, e.0)) in
    (e.0 ∙ f.0, e.1 ∙ f.1))

-- ---- one call

-- a change that passed its tests has a table within a nonzero maximum
table-within : (c : Change) (image : List ℕ) (words bytes : ℕ) → table_verdict c (disc_of image) words bytes ≡ Ok tt → 0 < fst_max_size image → length (encode c.nodes) ≤ fst_max_size image
unfolding table_verdict
table-within c image words bytes v = (place-passed image bytes (length (encode c.nodes)) c.place (first-passed (limits c.nodes words) _ v).1).within

-- an image that has the layout of a plan whose tests pass
laid-within : (p : Plan) (image image' : List ℕ) (words bytes : ℕ) → plan_verdict p (disc_of image) words bytes ≡ Ok tt → Lays p image image' → WithinMaximum image image'
laid-within (refused (Err c)) image image' words bytes v l = let z : ◌≡◌ {A = ℕ} 0 1 = cc in absurd (omega arith)
laid-within (refused (Ok _)) image image' words bytes v l = let z : ◌≡◌ {A = ℕ} 0 1 = cc in absurd (omega arith)
laid-within nothing image image' words bytes v l = kept-within image image' l.0.maximum (λ z h. (l.0.table, l.1))
laid-within (change k c) image image' words bytes v l = kept-within image image' l.maximum (λ z h. absurd (omega (arith, l.table, table-within c image words bytes v z)))
laid-within (filled k clip p) image image' words bytes v l = laid-within p image image' words bytes v l

-- LAW: accepted or refused
pub call-within : (ed : Edit) (account : Account) (image : List ℕ) (words bytes : ℕ) → AllBytes image → IsPassable ed → WithinMaximum image (image_after ed account image words bytes)
unfolding image_after
call-within ed account image words bytes b h = go (verdict_of ed account image words bytes) refl
  where
    go : (v : Verdict) → verdict_of ed account image words bytes ≡ v → WithinMaximum image (cond (is_err v) image (plan_image (plan_of ed (disc_of image)) image))
    go (Ok tt) e =
        let a = accepted ed account image words bytes e in
        laid-within (plan_of ed (disc_of image)) image (plan_image (plan_of ed (disc_of image)) image) words bytes a.own (arrives image words bytes b a.opens ed h a.own).2
    go (Err c) e = same image

-- ---- any list

within-along : (w : ℕ) (calls : List Call) (image : List ℕ) (l : Ledger) → AllWithin w calls → Kept w image l → WithinMaximum image (image_after_all calls image)
unfolding image_after_all
within-along w [] image l a k = same image
within-along w (c ∷ calls) image l a k =
    let next : List ℕ = image_after c.edit c.account image c.words c.bytes in
    trans image next (image_after_all calls next) (call-within c.edit c.account image c.words c.bytes k.bytes a.1)
    (within-along w calls next (cond (not (is_err (verdict_of c.edit c.account image c.words c.bytes))) (ledger_with c.edit l) l) a.2 (step w image l k c.words c.bytes a.0 c.account c.edit a.1))

-- THEOREM
pub maximum-kept : MaximumKept
maximum-kept image w₀ w calls b e h a = within-along w calls image (first_ledger image) a (start image w₀ w h b e)
