-- What the tests of a wish list give. Assumes nothing.
use Rattle.std.specs.Prelude.{Ok, Err, IsTrue, is_ok, ℕ, suc, ◌-◌, ◌≡◌, refl, Bool, true, false, not, ◌&&◌, List, [], ◌∷◌, length, get_or, ltb}
use Rattle.std.proofs.Common.{arith, lt-ltb, eqb-true}
use Rattle.std.proofs.lemmas.Bool.{false≢true}
use Rattle.refusal.specs.Refusal.{Verdict}
use Rattle.wish_list.proofs.Laws.AcceptedPaths.{list-accepted}
use Rattle.wish_list.specs.Paths.{is_zero, has_rest, paths_in, list_verdict}

pub ok-is : (v : Verdict) → IsTrue (is_ok v) → v ≡ Ok tt
ok-is (Ok tt) h = refl
ok-is (Err c) h = absurd (false≢true h)

pub is-ok : (v : Verdict) → v ≡ Ok tt → IsTrue (is_ok v)
is-ok v e = rw e refl

-- the last byte is zero, if there is one
no-rest : (bytes : List ℕ) → has_rest bytes ≡ false → get_or bytes (length bytes - 1) 0 ≡ 0
no-rest [] e = refl
no-rest (b ∷ s) e = go (is_zero (get_or (b ∷ s) (suc (length s) - 1) 0)) refl (ltb 0 (suc (length s))) (lt-ltb 0 (suc (length s)) (omega arith)) e
  where
    go : (t : Bool) → is_zero (get_or (b ∷ s) (suc (length s) - 1) 0) ≡ t → (u : Bool) → u ≡ true → (u && not t) ≡ false → get_or (b ∷ s) (suc (length s) - 1) 0 ≡ 0
    go true p u q r = eqb-true (get_or (b ∷ s) (suc (length s) - 1) 0) 0 p
    go false p true q r = let z : ◌≡◌ {A = ℕ} 0 1 = cc in absurd (omega arith)
    go false p false q r = let z : ◌≡◌ {A = ℕ} 0 1 = cc in absurd (omega arith)

pub ended : (bytes : List ℕ) (n : ℕ) → IsTrue (is_ok (list_verdict bytes n)) → get_or bytes (length bytes - 1) 0 ≡ 0
ended bytes n h = no-rest bytes (list-accepted bytes n (ok-is (list_verdict bytes n) h)).ended

-- one path for each size
pub counted : (bytes : List ℕ) (n : ℕ) → IsTrue (is_ok (list_verdict bytes n)) → length (paths_in bytes) ≡ n
counted bytes n h = (list-accepted bytes n (ok-is (list_verdict bytes n) h)).counted
