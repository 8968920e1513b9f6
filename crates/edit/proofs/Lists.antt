-- A list of turns under way: what is left of it comes to what the whole comes to. Assumes nothing.
use Rattle.std.specs.Prelude.{Result, Ok, Err, ℕ, ◌+◌, ◌<◌, ◌≤◌, ◌≡◌, ◌++◌, refl, suc, true, false, nat_lt, List, [], ◌∷◌, map, length, take, drop, slice_set, slice_index_or}
use Rattle.std.proofs.Common.{sym, ap, ◌∙◌, arith}
use Rattle.std.proofs.lemmas.List.{append_assoc, append-nil, length-set, length-map, get_or-map, drop_more, take_more_set, take-append-drop, drop_all, drop-drop, drop-set-lt}
use borrow.Author.Tests.{lt-ltb, le-ltb}
use Rattle.endian.specs.Bytes.{AllBytes}
use Rattle.refusal.specs.declared.Refusal.{Refusal}
use Rattle.refusal.specs.declared.Refusal.TheVariants.{LimitOrMemory}
use Rattle.totals.specs.declared.Totals.{Totals}
use Rattle.opened.specs.Opening.{opening, zeros}
use Rattle.edit_rules.specs.Edits.{account, number_behind, image_after, totals_after}
use Rattle.edit_rules.specs.Promise.{loan, IsEdited}
use Rattle.ledger.specs.Ledger.{first_ledger}
use Rattle.ledger.specs.Runs.{IsPassable, AllWithin, IsHandedOn, image_after_all, totals_after_all}
use Rattle.ledger.specs.Lists.{Turn, calls_of, answers_of, calls_with, AppliesInTurn, LedgerHoldsAfter, TellsAfter, SharesHoldAfter}
use Rattle.ledger.proofs.Laws.Sequence.{start}
use Rattle.ledger.proofs.Laws.Steps.{step}
use Rattle.ledger.proofs.Laws.AfterAnyList.{ledger-holds}
use Rattle.ledger.proofs.Laws.RecordTells.{made_of, record-tells}
use Rattle.ledger.proofs.Laws.TeamsServed.{teams-served}

-- the first i turns are applied; `now` are the answers so far
pub record IsUnderway (turns : List Turn) (words bytes : ℕ) (first : List ℕ) (t₀ : Totals) (old : List (Result ℕ Refusal)) (i : ℕ) (here : List ℕ) (t : Totals) (now : List (Result ℕ Refusal)) : Type 0 where
  pub image : image_after_all (calls_of (drop i turns) t here words bytes) here ≡ image_after_all (calls_of turns t₀ first words bytes) first
  pub totals : totals_after_all t (calls_of (drop i turns) t here words bytes) here ≡ totals_after_all t₀ (calls_of turns t₀ first words bytes) first
  pub answers : take i now ++ answers_of (calls_of (drop i turns) t here words bytes) here ≡ answers_of (calls_of turns t₀ first words bytes) first
  pub kept : drop i now ≡ drop i old
  pub long : length now ≡ length old
  -- an image that opened opens still, and what the ledger asks of the edits is known of those that are applied
  pub opens : opening first words ≡ Ok tt → AllBytes here × (opening here words ≡ Ok tt)
  pub within : opening first words ≡ Ok tt → AllWithin words (calls_of (drop i turns) t here words bytes) → AllWithin words (calls_of turns t₀ first words bytes)

-- all of them are applied
pub record IsFinished (turns : List Turn) (words bytes : ℕ) (first : List ℕ) (t₀ : Totals) (old : List (Result ℕ Refusal)) (last : List ℕ) (t : Totals) (now : List (Result ℕ Refusal)) : Type 0 where
  pub image : last ≡ image_after_all (calls_of turns t₀ first words bytes) first
  pub totals : t ≡ totals_after_all t₀ (calls_of turns t₀ first words bytes) first
  pub answers : now ≡ answers_of (calls_of turns t₀ first words bytes) first ++ drop (length (calls_of turns t₀ first words bytes)) old
  pub within : opening first words ≡ Ok tt → AllWithin words (calls_of turns t₀ first words bytes)

module _ (turns : List Turn) (words bytes : ℕ) (first : List ℕ) (t₀ : Totals) (old : List (Result ℕ Refusal)) where
  pub begun : AllBytes first → IsUnderway turns words bytes first t₀ old 0 first t₀ old
  begun b = record { image = refl; totals = refl; answers = refl; kept = refl; long = refl; opens = λ o. (b, o); within = λ o a. a }

  -- one turn more
  pub turn : (i : ℕ) (image ws bs image' ws' bs' : List ℕ) (t t' : Totals) (now : List (Result ℕ Refusal)) (x : Turn) (r : Result ℕ Refusal) →
      IsUnderway turns words bytes first t₀ old i image t now → i < length old → drop i turns ≡ x ∷ drop (i + 1) turns → length ws ≡ words → length bs ≡ bytes →
      IsEdited number_behind x.edit x.team (loan image ws bs t) (loan image' ws' bs' t') r → IsPassable x.edit →
      IsUnderway turns words bytes first t₀ old (i + 1) image' t' (slice_set now i r)
  unfolding calls_of answers_of image_after_all totals_after_all
  turn i image ws bs image' ws' bs' t t' now x r u h e lw lb d p =
      let n : i < length now = omega (arith, u.long) in
      let f : image' ≡ image_after x.edit (account t x.team) image words bytes = rw (lw, lb) at d.image in
      let g : t' ≡ totals_after x.edit (account t x.team) image words bytes = rw (lw, lb) at d.totals in
      record {
        image = rw (f, g) (rw e at u.image);
        totals = rw (f, g) (rw e at u.totals);
        answers = rw (f, g, take_more_set now i r n, append_assoc, d.answered, lw, lb) (rw e at u.answers);
        kept = drop-set-lt (i + 1) now i r (omega arith) ∙ sym (drop-drop 1 i now) ∙ ap (drop 1) u.kept ∙ drop-drop 1 i old;
        long = length-set now i r ∙ u.long;
        opens = λ o.
            let q = u.opens o in
            let k = step words image (first_ledger image) (start image words words (omega arith) q.0 q.1) words bytes (omega arith) (account t x.team) x.edit p in
            rw f (k.bytes, k.opens);
        within = λ o a. (rw e at (u.within o)) (omega arith, p, rw (f, g) at a);
      }

  counted : (xs : List Turn) (t : Totals) (image : List ℕ) → length (calls_of xs t image words bytes) ≡ length xs
  unfolding calls_of
  counted [] t image = refl
  counted (x ∷ xs) t image = ap suc (counted xs (totals_after x.edit (account t x.team) image words bytes) (image_after x.edit (account t x.team) image words bytes))

  -- no turn is left
  pub finished : (i : ℕ) (image : List ℕ) (t : Totals) (now : List (Result ℕ Refusal)) → IsUnderway turns words bytes first t₀ old i image t now → length turns ≤ i → i ≤ length turns →
      IsFinished turns words bytes first t₀ old image t now
  unfolding calls_of answers_of image_after_all totals_after_all
  finished i image t now u h z =
      let e : drop i turns ≡ [] = drop_all i turns h in
      let n : length (calls_of turns t₀ first words bytes) ≡ i = omega (arith, counted turns t₀ first) in
      let a : take i now ≡ answers_of (calls_of turns t₀ first words bytes) first = sym (append-nil (take i now)) ∙ rw e at u.answers in
      record {
        image = rw e at u.image;
        totals = rw e at u.totals;
        answers = sym (take-append-drop i now) ∙ ap (λ (x : List (Result ℕ Refusal)). x ++ drop i now) a ∙ rw (n, u.kept) refl;
        within = λ o. (rw e at (u.within o)) tt;
      }

  -- what an edit does to the record goes into the next
  handed : (xs : List Turn) (t : Totals) (image : List ℕ) → IsHandedOn t (calls_of xs t image words bytes) image
  unfolding calls_of
  handed [] t image = tt
  handed (x ∷ xs) t image = (refl, handed xs (totals_after x.edit (account t x.team) image words bytes) (image_after x.edit (account t x.team) image words bytes))

-- ---- the whole call

module _ (turns : List Turn) (first ws bs : List ℕ) (t₀ : Totals) (old : List (Result ℕ Refusal)) where
  -- with room for fewer answers than there are turns
  module _ (h : length old < length turns) (ws' bs' : List ℕ) where
    short : nat_lt (length old) (length turns) ≡ true
    short = lt-ltb (length old) (length turns) h

    pub none-applied : ws' ≡ zeros ws → bs' ≡ zeros bs → AppliesInTurn turns (loan first ws bs t₀) (loan first ws' bs' t₀) old old (Err LimitOrMemory)
    unfolding answers_of image_after_all totals_after_all
    none-applied zw zb = record { verdict = rw short; image = rw short; totals = rw short; answers = rw short; words = zw; bytes = zb }

    pub none-holds : AllBytes first → LedgerHoldsAfter (calls_with (length old) turns (loan first ws bs t₀)) (loan first ws bs t₀) (loan first ws' bs' t₀)
    unfolding image_after_all
    none-holds b o = rw short (ledger-holds first (length ws) (length ws) [] b o (omega arith) tt)

    pub none-tells : AllBytes first → TellsAfter (calls_with (length old) turns (loan first ws bs t₀)) (loan first ws bs t₀) (loan first ws' bs' t₀)
    unfolding image_after_all totals_after_all
    none-tells b limits shares nl ns m = rw short (record-tells first (length ws) (length ws) limits shares t₀ [] b nl ns m (omega arith) tt tt)

    pub none-share : AllBytes first → SharesHoldAfter (calls_with (length old) turns (loan first ws bs t₀)) (loan first ws bs t₀) (loan first ws' bs' t₀)
    unfolding image_after_all totals_after_all
    none-share b o fair = rw short (teams-served first (length ws) (length ws) t₀ [] b o (omega arith) tt tt fair)

  -- with room for an answer to each
  module _ (h : length turns ≤ length old) (i : ℕ) (last ws' bs' : List ℕ) (t : Totals) (now : List (Result ℕ Refusal)) (u : IsUnderway turns (length ws) (length bs) first t₀ old i last t now) (d : length turns ≤ i) (z : i ≤ length turns) where
    long : nat_lt (length old) (length turns) ≡ false
    long = le-ltb (length old) (length turns) h

    done : IsFinished turns (length ws) (length bs) first t₀ old last t now
    done = finished turns (length ws) (length bs) first t₀ old i last t now u d z

    passed-on : IsHandedOn t₀ (calls_of turns t₀ first (length ws) (length bs)) first
    passed-on = handed turns (length ws) (length bs) first t₀ old turns t₀ first

    pub all-applied : ws' ≡ zeros ws → bs' ≡ zeros bs → AppliesInTurn turns (loan first ws bs t₀) (loan last ws' bs' t) old now (Ok tt)
    all-applied zw zb = record { verdict = rw long; image = rw long done.image; totals = rw long done.totals; answers = rw long done.answers; words = zw; bytes = zb }

    pub all-hold : AllBytes first → LedgerHoldsAfter (calls_with (length old) turns (loan first ws bs t₀)) (loan first ws bs t₀) (loan last ws' bs' t)
    all-hold b o = rw (long, done.image) (ledger-holds first (length ws) (length ws) (calls_of turns t₀ first (length ws) (length bs)) b o (omega arith) (done.within o))

    pub all-tell : AllBytes first → TellsAfter (calls_with (length old) turns (loan first ws bs t₀)) (loan first ws bs t₀) (loan last ws' bs' t)
    all-tell b limits shares nl ns m =
        let o = (made_of first (length ws) limits shares t₀ m).0 in
        rw (long, done.image, done.totals) (record-tells first (length ws) (length ws) limits shares t₀ (calls_of turns t₀ first (length ws) (length bs)) b nl ns m (omega arith) (done.within o) passed-on)

    pub all-share : AllBytes first → SharesHoldAfter (calls_with (length old) turns (loan first ws bs t₀)) (loan first ws bs t₀) (loan last ws' bs' t)
    all-share b o fair =
        rw (long, done.image, done.totals) (teams-served first (length ws) (length ws) t₀ (calls_of turns t₀ first (length ws) (length bs)) b o (omega arith) (done.within o) passed-on fair)

-- the next element of a list that is read through f
pub next : {A B : Type 0} (f : A → B) (xs : List A) (i : ℕ) (d : A) → i < length xs → drop i (map f xs) ≡ f (slice_index_or xs i d) ∷ drop (i + 1) (map f xs)
next f xs i d h =
    let m : i < length (map f xs) = rw length-map h in
    drop_more (map f xs) i (f d) m ∙ ap (λ y. y ∷ drop (i + 1) (map f xs)) (get_or-map f xs i d (f d) h)
