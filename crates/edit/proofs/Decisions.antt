-- When a decision is what a plan comes to: behind tests that passed or refused, and for a change that is written.
-- Assumes nothing.
use Rattle.std.specs.Prelude.{Result, Ok, Err, is_err}
use Rattle.refusal.specs.Refusal.{Verdict, first}
use Prim.Native.Nat.{ℕ}
use mathlib.Core.Path.{◌≡◌, refl, sym, ap, ◌∙◌}
use mathlib.Core.Bool.{cond}
use mathlib.Core.List.{List, []}
use native.Mathlib.Omega.{arith}
use lib.ListN.{length}
use Rattle.endian.specs.Bytes.{span}
use Rattle.refusal.specs.declared.Refusal.{Refusal}
use Rattle.tree.specs.Table.{Node, encode}
use Rattle.tree.specs.Insert.{set_place}
use Rattle.tree.proofs.Laws.PlaceLaws.{length-set_place, texts-set_place, limits-set_place}
use Rattle.tree.proofs.Laws.WrittenEntries.{length-encode}
use Rattle.edit.specs.declared.decision.Writing.{Writing}
use Rattle.edit.specs.declared.decision.Decision.{Decision}
use Rattle.edit.specs.declared.decision.Decision.TheVariants as decision
use Rattle.opened.specs.Opening.{Disc}
use Rattle.edit_rules.specs.Change.{written_image, table_verdict, Plan, refused, nothing, change, filled, place_verdict}
use Rattle.edit_rules.specs.Edits.{plan_behind, plan_verdict, plan_image, plan_number, number_behind}
use Rattle.edit_rules.proofs.Laws.Behind as behind
use Rattle.edit.specs.Inner.Decision.{change_with, nothing_besides, placing_change, written_with, InImage, Fits, IsSetApart, value_behind, carried_answer, IsDecided, DecidedAs}

pub plan_behind-first : (a b : Verdict) (p : Plan) → plan_behind (first a b) p ≡ plan_behind a (plan_behind b p)
plan_behind-first (Ok _) b p = refl
plan_behind-first (Err c) b p = refl

-- what was found behind tests, and that they passed; or the cause
pub tests-passed : {A : Type 0} (v : Verdict) (x y : A) → value_behind v x ≡ Ok y → (v ≡ Ok tt) × (x ≡ y)
tests-passed (Ok _) x y e = (refl, cc)
tests-passed (Err c) x y e = let z : ◌≡◌ {A = ℕ} 0 1 = cc in absurd (omega arith)

pub tests-refused : {A : Type 0} (v : Verdict) (x : A) (c : Refusal) → value_behind v x ≡ Err c → v ≡ Err c
tests-refused (Ok _) x c e = let z : ◌≡◌ {A = ℕ} 0 1 = cc in absurd (omega arith)
tests-refused (Err d) x c e = cc

-- a change with no byte but the table's
pub nothing-inside : (long : ℕ) → InImage long nothing_besides
nothing-inside long = record {
  copied = record { from = λ z. absurd (omega arith); into = λ z. absurd (omega arith) };
  zeroed = record { into = λ z. absurd (omega arith) };
}

pub nothing-apart : IsSetApart nothing_besides
nothing-apart = record {
  apart = λ z. absurd (omega arith);
  copy_behind = λ z. absurd (omega arith);
  lost_behind = λ z. absurd (omega arith);
}

written_same : (image : List ℕ) (nodes : List Node) (w : Writing) → written_with w (encode nodes) image ≡ written_image (change_with nodes w) image
unfolding written_with written_image
written_same image nodes w = refl

module _ (image : List ℕ) (x : Disc) (words room : ℕ) (bytes : List ℕ) where
  -- with any clip: none is written
  refused-with : (clip : List ℕ) (p : Plan) (c : Refusal) → plan_verdict p x words room ≡ Err c → DecidedAs (plan_verdict p x words room) p image room bytes clip (Err c)
  refused-with clip p c e = record {
    fits = tt;
    apart = tt;
    carries = tt;
    answer = sym e;
    after = sym (ap (λ (v : Verdict). cond (is_err v) image (plan_image p image)) e);
  }

  pub refused-decided : (p : Plan) (c : Refusal) → plan_verdict p x words room ≡ Err c → IsDecided p image x words room bytes (Err c)
  refused-decided p c e = refused-with [] p c e

  pub behind-passed : (v : Verdict) (p : Plan) (d : Result Decision Refusal) → v ≡ Ok tt → IsDecided p image x words room bytes d → IsDecided (plan_behind v p) image x words room bytes d
  behind-passed v p d e h = rw (behind.behind-passed v p e) h

  pub behind-refused-with : (clip : List ℕ) (v : Verdict) (p : Plan) (c : Refusal) → v ≡ Err c → DecidedAs (plan_verdict (plan_behind v p) x words room) (plan_behind v p) image room bytes clip (Err c)
  behind-refused-with clip v p c e = rw (behind.behind-refused v p c e) (refused-with clip (refused (Err c)) c refl)

  pub behind-refused : (v : Verdict) (p : Plan) (c : Refusal) → v ≡ Err c → IsDecided (plan_behind v p) image x words room bytes (Err c)
  behind-refused v p c e = behind-refused-with [] v p c e

  -- a change whose tests passed, with its table in the working bytes
  pub write-decided : (k : ℕ) (nodes : List Node) (size : ℕ) (w : Writing) → Fits image room size w → IsSetApart w → table_verdict (change_with nodes w) x words room ≡ Ok tt → span bytes 0 size ≡ encode nodes →
      IsDecided (change k (change_with nodes w)) image x words room bytes (Ok (decision.Write k size w))
  write-decided k nodes size w f a e s = record {
    fits = (λ z. omega arith, f);
    apart = (λ z. absurd (omega arith), a);
    carries = record { number = refl; table = s; change = refl };
    answer = sym e;
    after = ap (λ (t : List ℕ). written_with w t image) s ∙ written_same image nodes w ∙ sym (ap (λ (v : Verdict). cond (is_err v) image (written_image (change_with nodes w) image)) e);
  }

-- ---- the tests of a tree that differs in a place only

pub length-encode-set_place : (o n k : ℕ) (nodes : List Node) → length (encode (set_place k o n nodes)) ≡ length (encode nodes)
length-encode-set_place o n k nodes =
    omega (arith, length-encode (set_place k o n nodes), length-encode nodes, length-set_place o n k nodes, ap length (texts-set_place o n k nodes))

pub same_tests : (x : Disc) (words room k o n : ℕ) (nodes : List Node) (w : Writing) →
    table_verdict (change_with (set_place k o n nodes) w) x words room ≡ table_verdict (placing_change nodes w.place) x words room
unfolding table_verdict place_verdict
same_tests x words room k o n nodes w = rw (limits-set_place o n k nodes words, length-encode-set_place o n k nodes)

-- ---- the answer with the entry's number

pub answered : (v : Verdict) (p : Plan) (image : List ℕ) (room : ℕ) (bytes clip : List ℕ) (d : Result Decision Refusal) → DecidedAs v p image room bytes clip d → carried_answer d ≡ number_behind v (plan_number p)
answered v p image room bytes clip (Err c) h = rw (← h.answer)
answered v nothing image room bytes clip (Ok decision.Nothing) h = rw (← h.answer)
answered v (refused u) image room bytes clip (Ok decision.Nothing) h = absurd h.carries
answered v (change k c) image room bytes clip (Ok decision.Nothing) h = absurd h.carries
answered v (filled k x p) image room bytes clip (Ok decision.Nothing) h = absurd h.carries
answered v nothing image room bytes clip (Ok (decision.Clip n at)) h = absurd h.carries
answered v (refused u) image room bytes clip (Ok (decision.Clip n at)) h = absurd h.carries
answered v (change k c) image room bytes clip (Ok (decision.Clip n at)) h = absurd h.carries
answered v (filled k x nothing) image room bytes clip (Ok (decision.Clip n at)) h = rw (← h.answer) (ap Ok h.carries)
answered v (filled k x (refused u)) image room bytes clip (Ok (decision.Clip n at)) h = absurd h.carries
answered v (filled k x (change j c)) image room bytes clip (Ok (decision.Clip n at)) h = absurd h.carries
answered v (filled k x (filled j y p)) image room bytes clip (Ok (decision.Clip n at)) h = absurd h.carries
answered v (change k c) image room bytes clip (Ok (decision.Write n size w)) h = rw (← h.answer) (ap Ok h.carries.number)
answered v (refused u) image room bytes clip (Ok (decision.Write n size w)) h = absurd h.carries
answered v nothing image room bytes clip (Ok (decision.Write n size w)) h = absurd h.carries
answered v (filled k x (change j c)) image room bytes clip (Ok (decision.Write n size w)) h = rw (← h.answer) (ap Ok h.carries.number)
answered v (filled k x nothing) image room bytes clip (Ok (decision.Write n size w)) h = absurd h.carries
answered v (filled k x (refused u)) image room bytes clip (Ok (decision.Write n size w)) h = absurd h.carries
answered v (filled k x (filled j y p)) image room bytes clip (Ok (decision.Write n size w)) h = absurd h.carries
