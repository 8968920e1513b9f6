use Rattle.std.proofs.Common.{ap, sym, ◌∙◌, ◌==◌, ◌&&◌, length}
use Rattle.std.proofs.lemmas.Bool.{true≢false, eq-eqb, ne_eqb}
use Rattle.endian.specs.Bytes.{span, are_same_bytes}
use Rattle.journal.specs.Journal.{number_at}
use Rattle.journal.proofs.Heads.{owner_by_header, owner_short}
use Rattle.journal.proofs.head.is_owner.Goals.{then-number-image_len, else-number-image_len, then-number, else-number}
use Rattle.journal.proofs.head.is_owner.Goals as goal

pub returns-then-header-lt-HEADER : goal.returns-then-header-lt-HEADER
returns-then-header-lt-HEADER c image long is =
    sym (owner_short c.args.head.now c.args.header.now image c.args.number is c.requires c.if-header-lt-HEADER.true)

pub returns-then-same : goal.returns-then-same
returns-then-same c image long is =
    let e = owner_by_header c.args.head.now c.args.header.now image c.args.number is in
    let back = are_same_bytes (span c.args.header.now 0x430 0x10) (span c.args.head.now 1250 0x10) in
    elim c.if-number.branch [
      | then-number w ↦ elim c.if-number-image_len.branch [
        | then-number-image_len v ↦
            (let a = eq-eqb _ _ (sym c.number.ensures ∙ v.if-number-image_len.true ∙ sym long) in
            let b = ap (λ n. n == c.args.number) (sym v.number-then-number-image_len.ensures) ∙ sym v.value-is ∙ w.if-number.true in
            let front = sym w.same.ensures ∙ sym w.value-is ∙ c.if-same.true in
            c.same-then-same.ensures ∙ sym (e ∙ (λ i. a i && b i && front i && back)))
        | else-number-image_len v ↦ absurd (true≢false (sym w.if-number.true ∙ v.value-is ∙ ne_eqb _ _ v.if-number-image_len.false))
      ]
      | else-number w ↦ absurd (true≢false (sym c.if-same.true ∙ w.value-is ∙ w.if-number.false))
    ]

pub returns-else-same : goal.returns-else-same
returns-else-same c image long is =
    let e = owner_by_header c.args.head.now c.args.header.now image c.args.number is in
    let front = are_same_bytes (span c.args.header.now 0 0x428) (span c.args.head.now 178 0x428) in
    let back = are_same_bytes (span c.args.header.now 0x430 0x10) (span c.args.head.now 1250 0x10) in
    c.if-same.false ∙ sym (e ∙ elim c.if-number.branch [
      | then-number w ↦ elim c.if-number-image_len.branch [
        | then-number-image_len v ↦
            (let a = eq-eqb _ _ (sym c.number.ensures ∙ v.if-number-image_len.true ∙ sym long) in
            let b = ap (λ n. n == c.args.number) (sym v.number-then-number-image_len.ensures) ∙ sym v.value-is ∙ w.if-number.true in
            let f = sym w.same.ensures ∙ sym w.value-is ∙ c.if-same.false in
            (λ i. a i && b i && f i && back))
        | else-number-image_len v ↦ absurd (true≢false (sym w.if-number.true ∙ v.value-is ∙ ne_eqb _ _ v.if-number-image_len.false))
      ]
      | else-number w ↦ elim c.if-number-image_len.branch [
        | then-number-image_len v ↦
            (let a = eq-eqb _ _ (sym c.number.ensures ∙ v.if-number-image_len.true ∙ sym long) in
            let b = ap (λ n. n == c.args.number) (sym v.number-then-number-image_len.ensures) ∙ sym v.value-is ∙ w.if-number.false in
            (λ i. a i && b i && front && back))
        | else-number-image_len v ↦ (let a = ap (λ n. n == length image) (sym c.number.ensures) ∙ ap (λ n. c.number.result == n) long ∙ ne_eqb _ _ v.if-number-image_len.false in (λ i. a i && number_at c.args.head.now 10 == c.args.number && front && back))
      ]
    ])
