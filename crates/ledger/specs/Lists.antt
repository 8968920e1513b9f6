-- A list of edits as one call: the calls that it comes to, what each gives back, what the one call
-- does; and what the theorems about lists of calls then say of it, as of any call that comes to such
-- a list. Assumes nothing: these are definitions.
use Rattle.std.specs.Prelude.{Result, Ok, ℕ, ◌≡◌, ◌++◌, nat_lt, if◌then◌else◌, List, [], ◌∷◌, length, drop}
use Rattle.refusal.specs.declared.Refusal.{Refusal}
use Rattle.refusal.specs.declared.Refusal.TheVariants.{LimitOrMemory}
use Rattle.refusal.specs.Refusal.{Verdict, refuse}
use Rattle.totals.specs.declared.Totals.{Totals}
use Rattle.opened.specs.Opening.{zeros, opening, disc_of}
use Rattle.disc.specs.Calls.{record_answer}
use Rattle.edit_rules.specs.Edits.{Edit, account, plan_of, plan_number, number_behind, verdict_of, image_after, totals_after}
use Rattle.edit_rules.specs.Promise.{Loan}
use Rattle.ledger.specs.Ledger.{first_ledger, ledger_after}
use Rattle.ledger.specs.Runs.{Call, image_after_all, reports_of, totals_after_all, team_after_all}
use Rattle.ledger.specs.Theorem.{LedgerHolds, Tells, IsFairStart, SharesHold, SharesSuffice}

-- an edit, and the team whose turn it is
pub record Turn : Type 0 where
  pub team : ℕ
  pub edit : Edit

-- each in turn, on the image and with the record that the one before left, and all with the same working words and bytes
unfoldable pub calls_of : List Turn → Totals → List ℕ → ℕ → ℕ → List Call
calls_of [] t image words bytes = []
calls_of (x ∷ turns) t image words bytes =
    record { edit = x.edit; account = account t x.team; words = words; bytes = bytes }
    ∷ calls_of turns (totals_after x.edit (account t x.team) image words bytes) (image_after x.edit (account t x.team) image words bytes) words bytes

-- what each call gives back: the number of the entry, or why it is refused
unfoldable pub answers_of : List Call → List ℕ → List (Result ℕ Refusal)
answers_of [] image = []
answers_of (c ∷ calls) image =
    number_behind (verdict_of c.edit c.account image c.words c.bytes) (plan_number (plan_of c.edit (disc_of image)))
    ∷ answers_of calls (image_after c.edit c.account image c.words c.bytes)

-- the calls of a list that has room for so many answers: with room for fewer than there are turns there is none
abbrev pub calls_with : ℕ → List Turn → Loan → List Call
calls_with room turns l = if nat_lt room (length turns) then [] else calls_of turns l.totals l.image (length l.words) (length l.bytes)

-- every byte of the image, the record, each answer, and the working memory, which is zero; answers beyond the turns stay as they were
pub record AppliesInTurn (turns : List Turn) (before after : Loan) (old new : List (Result ℕ Refusal)) (r : Verdict) : Type 0 where
  pub verdict : r ≡ refuse (nat_lt (length old) (length turns)) LimitOrMemory (Ok tt)
  pub image : after.image ≡ image_after_all (calls_with (length old) turns before) before.image
  pub totals : after.totals ≡ totals_after_all before.totals (calls_with (length old) turns before) before.image
  pub answers : new ≡ answers_of (calls_with (length old) turns before) before.image ++ drop (length (calls_with (length old) turns before)) old
  pub words : after.words ≡ zeros before.words
  pub bytes : after.bytes ≡ zeros before.bytes

-- ---- what the theorems about lists of calls say of the image and the record that a call leaves, if
-- it comes to these calls

-- an image that opens with the lent words: what holds after any list of calls holds of the image
-- afterwards, by the list's ledger
abbrev pub LedgerHoldsAfter : List Call → Loan → Loan → Type 0
LedgerHoldsAfter calls before after =
    opening before.image (length before.words) ≡ Ok tt →
    LedgerHolds (length before.words) before.image after.image
    (ledger_after (reports_of calls before.image) (first_ledger before.image))

-- a record that was made of the image with the lent words: it tells what one made afresh would, and
-- what each team has taken since, in how many accepted edits
abbrev pub TellsAfter : List Call → Loan → Loan → Type 0
TellsAfter calls before after =
    (limits shares : List ℕ) → length limits ≡ 16 → length shares ≡ 16 →
    record_answer before.image (length before.words) limits shares ≡ Ok before.totals →
    Tells after.image (length before.words)
    (team_after_all limits shares calls before.image) after.totals

-- an image that opens with the lent words, nothing taken and all shares free: the shares hold, and
-- suffice at each call
abbrev pub SharesHoldAfter : List Call → Loan → Loan → Type 0
SharesHoldAfter calls before after =
    opening before.image (length before.words) ≡ Ok tt → IsFairStart before.image before.totals →
    SharesHold before.totals after.image after.totals × SharesSuffice calls before.image
