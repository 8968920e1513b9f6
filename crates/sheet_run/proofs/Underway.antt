-- A run of lines under way: what is left of it comes to what the whole comes to. Assumes nothing.
use Rattle.std.specs.Prelude.{Result, Ok, Err, ℕ, suc, ◌≡◌, refl, List, [], ◌∷◌, length}
use Rattle.std.proofs.Common.{sym, ap, ◌∙◌, arith}
use Rattle.endian.specs.Bytes.{AllBytes}
use Rattle.refusal.specs.declared.Refusal.{Refusal}
use Rattle.totals.specs.declared.Totals.{Totals}
use Rattle.opened.specs.Opening.{opening, nodes_in}
use Rattle.edit_rules.specs.Edits.{Edit, account, verdict_of, image_after, totals_after}
use Rattle.edit_rules.specs.Promise.{loan}
use Rattle.ledger.specs.Ledger.{first_ledger}
use Rattle.ledger.specs.Runs.{Call, image_after_all, totals_after_all}
use Rattle.ledger.proofs.Laws.Sequence.{start}
use Rattle.ledger.proofs.Laws.Steps.{step}
use Rattle.sheet.specs.Layout.{Line}
use Rattle.sheet_run.specs.Lines.{line_edit}
use Rattle.sheet_run.specs.Run.{Run, stopped_at, run_lines}
use Rattle.sheet_run.specs.Inner.Running.{edit_in, IsLineRun, IsRun}

-- ---- one line in front

module _ (n : ℕ) (line : Line) (lines : List Line) (team : ℕ) (t : Totals) (image : List ℕ) (words bytes : ℕ) where
  -- an accepted edit is a call more in front
  ran : (ed : Edit) → line_edit (nodes_in image) line ≡ Ok ed → verdict_of ed (account t team) image words bytes ≡ Ok tt →
      let later : Run = run_lines (suc n) lines team (totals_after ed (account t team) image words bytes) (image_after ed (account t team) image words bytes) words bytes in
      let call : Call = record { edit = ed; account = account t team; words = words; bytes = bytes } in
      run_lines n (line ∷ lines) team t image words bytes ≡ record { calls = call ∷ later.calls; answer = later.answer }
  unfolding run_lines
  ran ed e v = rw (e, v) refl

  unfound : (c : Refusal) → line_edit (nodes_in image) line ≡ Err c → run_lines n (line ∷ lines) team t image words bytes ≡ stopped_at n c
  unfolding run_lines
  unfound c e = rw e refl

  refused : (ed : Edit) (c : Refusal) → line_edit (nodes_in image) line ≡ Ok ed → verdict_of ed (account t team) image words bytes ≡ Err c →
      run_lines n (line ∷ lines) team t image words bytes ≡ stopped_at n c
  unfolding run_lines
  refused ed c e v = rw (e, v) refl

-- ---- the run r, from the image `first` and the record t₀ on

module _ (r : Run) (team words bytes : ℕ) (first : List ℕ) (t₀ : Totals) where
  -- the lines `left`, the first of which has number n, come from here to the rest of r
  pub record IsUnderway (n : ℕ) (left : List Line) (here : List ℕ) (t : Totals) : Type 0 where
    pub answer : (run_lines n left team t here words bytes).answer ≡ r.answer
    pub image : image_after_all (run_lines n left team t here words bytes).calls here ≡ image_after_all r.calls first
    pub totals : totals_after_all t (run_lines n left team t here words bytes).calls here ≡ totals_after_all t₀ r.calls first
    -- an image that opened opens still
    pub of_bytes : AllBytes here
    pub opens : opening here words ≡ Ok tt

  module _ (n : ℕ) (left : List Line) (line : Line) (ws bs image image' ws' bs' : List ℕ) (t t' : Totals) (u : IsUnderway n (line ∷ left) image t) (lw : length ws ≡ words) (lb : length bs ≡ bytes) where
    -- the line's edit
    in_image : edit_in image (length ws) line ≡ line_edit (nodes_in image) line
    in_image = rw (lw, u.opens) refl

    -- it ran
    pub turn : IsLineRun team (loan image ws bs t) (loan image' ws' bs' t') (Ok tt) (edit_in image (length ws) line) → IsUnderway (suc n) left image' t'
    unfolding image_after_all totals_after_all
    turn h = go (line_edit (nodes_in image) line) refl (rw in_image at h)
      where
        go : (found : Result Edit Refusal) → line_edit (nodes_in image) line ≡ found → IsLineRun team (loan image ws bs t) (loan image' ws' bs' t') (Ok tt) found → IsUnderway (suc n) left image' t'
        go (Err c) e h = let z : ◌≡◌ {A = ℕ} 0 1 = cc in absurd (omega arith)
        go (Ok ed) e h =
            let v : verdict_of ed (account t team) image words bytes ≡ Ok tt = rw (lw, lb) at (sym h.verdict) in
            let f : image' ≡ image_after ed (account t team) image words bytes = rw (lw, lb) at h.image in
            let g : t' ≡ totals_after ed (account t team) image words bytes = rw (lw, lb) at h.totals in
            let w = ran n line left team t image words bytes ed e v in
            let k = step words image (first_ledger image) (start image words words (omega arith) u.of_bytes u.opens) words bytes (omega arith) (account t team) ed h.passable in
            record {
              answer = rw (f, g) (rw w at u.answer);
              image = rw (f, g) (rw w at u.image);
              totals = rw (f, g) (rw w at u.totals);
              of_bytes = rw f k.bytes;
              opens = rw f k.opens;
            }

    -- it is refused
    pub stop : (c : Refusal) → IsLineRun team (loan image ws bs t) (loan image' ws' bs' t') (Err c) (edit_in image (length ws) line) →
        IsRun r first image' t₀ t' (Err (record { line = n; cause = c }))
    unfolding image_after totals_after image_after_all totals_after_all
    stop c h = go (line_edit (nodes_in image) line) refl (rw in_image at h)
      where
        -- what stops with nothing more
        stays : run_lines n (line ∷ left) team t image words bytes ≡ stopped_at n c → image' ≡ image → t' ≡ t → IsRun r first image' t₀ t' (Err (record { line = n; cause = c }))
        stays w f g = record { answered = rw w at u.answer; image = f ∙ (rw w at u.image); totals = g ∙ (rw w at u.totals) }

        go : (found : Result Edit Refusal) → line_edit (nodes_in image) line ≡ found → IsLineRun team (loan image ws bs t) (loan image' ws' bs' t') (Err c) found →
            IsRun r first image' t₀ t' (Err (record { line = n; cause = c }))
        go (Err d) e h = let q : d ≡ c = cc in stays (unfound n line left team t image words bytes c (e ∙ ap Err q)) h.image h.totals
        go (Ok ed) e h =
            let v : verdict_of ed (account t team) image words bytes ≡ Err c = rw (lw, lb) at (sym h.verdict) in
            stays (refused n line left team t image words bytes ed c e v) (rw (lw, lb, v) at h.image) (rw (lw, lb, v) at h.totals)

  -- no line is left
  pub done : (n : ℕ) (image : List ℕ) (t : Totals) → IsUnderway n [] image t → IsRun r first image t₀ t (Ok tt)
  unfolding run_lines image_after_all totals_after_all
  done n image t u = record { answered = u.answer; image = u.image; totals = u.totals }

pub begun : (lines : List Line) (team words bytes : ℕ) (first : List ℕ) (t₀ : Totals) → AllBytes first → opening first words ≡ Ok tt →
    IsUnderway (run_lines 1 lines team t₀ first words bytes) team words bytes first t₀ 1 lines first t₀
begun lines team words bytes first t₀ b o = record { answer = refl; image = refl; totals = refl; of_bytes = b; opens = o }
