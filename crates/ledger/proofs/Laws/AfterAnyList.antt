-- What is claimed of any list of calls holds, and a file that no accepted edit named lies where it lay. Assumes nothing.
use Rattle.std.specs.Prelude.{Ok, ℕ, ◌≡◌, List}
use Rattle.endian.specs.Bytes.{span, AllBytes}
use Rattle.opened.specs.Opening.{nodes_in, opening}
use Rattle.ledger.specs.Ledger.{Ledger, files_before, first_ledger, Report, ledger_after}
use Rattle.ledger.specs.Runs.{image_after_all, reports_of}
use Rattle.ledger.specs.Spared.{number_after}
use Rattle.ledger.proofs.Laws.SparedLaws.{spared, begins}
use Rattle.ledger.proofs.Laws.Kept.{Kept}
use Rattle.ledger.proofs.Laws.Sequence.{start, along, no-byte-twice, sum, used-reported, free-reported, free-listed, entry-least, entry_known, entry_first, entry_place, still-there}
use Rattle.ledger.proofs.Laws.Opened.{opened}
use Rattle.ledger.proofs.Laws.ProgramKept.{ProgramKept}
use Rattle.ledger.proofs.Laws.ProgramAfter.{program-along, same-program, program-reported}
use Rattle.ledger.specs.Theorem.{LedgerHolds, AnyList, UnnamedStays}

-- LAW: what is kept, with the program, is what is claimed
pub kept-holds : (image : List ℕ) (w₀ w : ℕ) → AllBytes image → opening image w₀ ≡ Ok tt → (last : List ℕ) (l : Ledger) → Kept w last l → ProgramKept image last → LedgerHolds w image last l
kept-holds image w₀ w b e last l k p = record {
  opens = k.opens;
  tree = k.shape;
  apart = no-byte-twice w last l k;
  sum = sum w last l k;
  used-reported = used-reported w last l k;
  free-reported = free-reported w last l k;
  free-listed = free-listed w last l k;
  program = same-program image last (opened image w₀ e b) p;
  program-reported = program-reported w image last k.opens p;
  files = λ n nm offset size q. record {
    m-size = entry-least w last l k n nm offset size q;
    m-bytes = entry_known w last l k n nm offset size q;
    first-bytes = entry_first w last l k n nm offset size q;
    unnamed = entry_place w last l k n nm offset size q;
  };
}

pub ledger-holds : AnyList
ledger-holds image w₀ w calls b e h a =
    let k : Kept w image (first_ledger image) = start image w₀ w h b e in
    kept-holds image w₀ w b e (image_after_all calls image) (ledger_after (reports_of calls image) (first_ledger image))
    (along w calls image (first_ledger image) a k) (program-along w calls image (first_ledger image) a k)

pub unnamed-stays : UnnamedStays
unnamed-stays image w₀ w calls b e h a k nm offset size q s =
    let reports : List Report = reports_of calls image in
    let last : List ℕ = image_after_all calls image in
    let l : Ledger = ledger_after reports (first_ledger image) in
    let f : ℕ = number_after reports (first_ledger image) (files_before k (nodes_in image)) in
    let g = spared reports (first_ledger image) (files_before k (nodes_in image)) _ nm s (begins image k nm offset size q) in
    let t = still-there w last l (along w calls image (first_ledger image) a (start image w₀ w h b e)) f (record { offset = offset; size = size }) nm (span image offset size) g.0.0 g.0.1 g.1.1 in
    record { entry = t.0; number = t.1; lies = t.2; bytes = t.3 }
