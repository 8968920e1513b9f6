-- A plan behind tests is the plan if they pass, and else their refusal. Assumes nothing.
use Rattle.std.specs.Prelude.{Ok, Err}
use Rattle.refusal.specs.Refusal.{Verdict}
use Rattle.std.specs.Prelude.{ℕ, ◌≡◌, refl}
use Rattle.std.proofs.Common.{ap, arith}
use Rattle.refusal.specs.declared.Refusal.{Refusal}
use Rattle.edit_rules.specs.Change.{Plan, refused}
use Rattle.edit_rules.specs.Edits.{plan_behind}

pub behind-passed : (v : Verdict) (p : Plan) → v ≡ Ok tt → plan_behind v p ≡ p
behind-passed (Ok _) p e = refl
behind-passed (Err c) p e = let z : ◌≡◌ {A = ℕ} 0 1 = cc in absurd (omega arith)

pub behind-refused : (v : Verdict) (p : Plan) (c : Refusal) → v ≡ Err c → plan_behind v p ≡ refused (Err c)
behind-refused v p c e = ap (λ (u : Verdict). plan_behind u p) e
