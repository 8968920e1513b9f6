use Rattle.std.proofs.Common.{◌≡◌, ap, sym, ◌∙◌, ◌+◌, ◌-◌, Bool, nat_le, ◌&&◌, ℕ, length}
use Rattle.std.proofs.lemmas.Bool.{true≢false, leb-true, and_parts}
use Rattle.journal.specs.Journal.{copying_fits, copying_in, steps_fit, steps_in, record_count}
use Rattle.journal.proofs.Heads.{applies_by_head}
use Rattle.journal.proofs.head.applies.Goals.{then-is_owner, else-is_owner, then-copying_fits, else-copying_fits}
use Rattle.journal.proofs.head.applies.Goals as goal

pub returns-then-steps_fit-clause-same : goal.returns-then-steps_fit-clause-same
returns-then-steps_fit-clause-same c journal image long_journal head_is long header_is =
    let e = applies_by_head c.args.head.now journal c.args.number image head_is c.requires in
    let fits = λ (n m : ℕ). nat_le n 4097 && nat_le (1266 + (n - 1)) m in
    elim c.if-copying_fits.branch [
      | then-copying_fits w ↦ elim c.if-is_owner.branch [
        | then-is_owner v ↦
            (let owner = sym (c.is_owner.ensures image long header_is) ∙ v.if-is_owner.true in
            let copying = (λ i. copying_fits (long i) (sym v.copying.ensures i)) ∙ sym v.copying_fits.ensures ∙ sym v.value-is ∙ w.if-copying_fits.true in
            let steps = (λ i. steps_fit journal (long i) (sym w.steps.ensures i)) ∙ sym (w.steps_fit.ensures journal long_journal) ∙ sym w.value-is ∙ c.if-steps_fit.true in
            c.record_fits.ensures ∙ (λ i. fits (c.record_count.ensures i) (sym long_journal i)) ∙ sym (e ∙ (λ i. owner i && copying i && steps i && fits (record_count c.args.head.now) (length journal))))
        | else-is_owner v ↦ absurd (true≢false (sym w.if-copying_fits.true ∙ v.value-is ∙ v.if-is_owner.false))
      ]
      | else-copying_fits w ↦ absurd (true≢false (sym c.if-steps_fit.true ∙ w.value-is ∙ w.if-copying_fits.false))
    ]

pub returns-then-steps_fit-clause-fits : goal.returns-then-steps_fit-clause-fits
returns-then-steps_fit-clause-fits c fit =
    let count : c.record_count.result ≡ record_count c.args.head.now = c.record_count.ensures in
    let fits = and_parts (nat_le c.record_count.result 4097) (nat_le (1266 + (c.record_count.result - 1)) c.args.journal_len) (sym c.record_fits.ensures ∙ fit) in
    elim c.if-copying_fits.branch [
      | then-copying_fits w ↦ elim c.if-is_owner.branch [
        | then-is_owner v ↦ record {
          copying_fit = ap (copying_fits c.args.image_len) (sym v.copying.ensures) ∙ sym v.copying_fits.ensures ∙ sym v.value-is ∙ w.if-copying_fits.true;
          steps_fit_in = λ journal long. ap (steps_fit journal c.args.image_len) (sym w.steps.ensures) ∙ sym (w.steps_fit.ensures journal long) ∙ sym w.value-is ∙ c.if-steps_fit.true;
          short_record = rw (← count) (leb-true _ _ fits.0);
          held = rw (← count) (leb-true _ _ fits.1);
        }
        | else-is_owner v ↦ absurd (true≢false (sym w.if-copying_fits.true ∙ v.value-is ∙ v.if-is_owner.false))
      ]
      | else-copying_fits w ↦ absurd (true≢false (sym c.if-steps_fit.true ∙ w.value-is ∙ w.if-copying_fits.false))
    ]

pub returns-else-steps_fit-clause-same : goal.returns-else-steps_fit-clause-same
returns-else-steps_fit-clause-same c journal image long_journal head_is long header_is =
    let e = applies_by_head c.args.head.now journal c.args.number image head_is c.requires in
    let fits : Bool = nat_le (record_count c.args.head.now) 4097 && nat_le (1266 + (record_count c.args.head.now - 1)) (length journal) in
    let copy : Bool = copying_fits (length image) (copying_in c.args.head.now) in
    let rest : Bool = steps_fit journal (length image) (steps_in c.args.head.now) in
    c.if-steps_fit.false ∙ sym (e ∙ elim c.if-copying_fits.branch [
      | then-copying_fits w ↦ elim c.if-is_owner.branch [
        | then-is_owner v ↦
            (let owner = sym (c.is_owner.ensures image long header_is) ∙ v.if-is_owner.true in
            let copying = (λ i. copying_fits (long i) (sym v.copying.ensures i)) ∙ sym v.copying_fits.ensures ∙ sym v.value-is ∙ w.if-copying_fits.true in
            let steps = (λ i. steps_fit journal (long i) (sym w.steps.ensures i)) ∙ sym (w.steps_fit.ensures journal long_journal) ∙ sym w.value-is ∙ c.if-steps_fit.false in
            (λ i. owner i && copying i && steps i && fits))
        | else-is_owner v ↦ absurd (true≢false (sym w.if-copying_fits.true ∙ v.value-is ∙ v.if-is_owner.false))
      ]
      | else-copying_fits w ↦ elim c.if-is_owner.branch [
        | then-is_owner v ↦
            (let owner = sym (c.is_owner.ensures image long header_is) ∙ v.if-is_owner.true in
            let copying = (λ i. copying_fits (long i) (sym v.copying.ensures i)) ∙ sym v.copying_fits.ensures ∙ sym v.value-is ∙ w.if-copying_fits.false in
            (λ i. owner i && copying i && rest && fits))
        | else-is_owner v ↦
            (let owner = sym (c.is_owner.ensures image long header_is) ∙ v.if-is_owner.false in
            (λ i. owner i && copy && rest && fits))
      ]
    ])
