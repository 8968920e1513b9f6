-- The program by the cases of its header. Assumes nothing.
use Rattle.std.specs.Prelude.{None, Some, Ok, Err}
use Rattle.refusal.specs.Refusal.{Verdict}
use Prim.Native.Nat.{ℕ, max}
use mathlib.Core.Path.{◌≡◌, sym, ap, ◌∙◌}
use mathlib.Core.List.{List}
use borrow.Author.Tests.{eq-eqb, ne_eqb}
use Rattle.refusal.specs.declared.Refusal.{Refusal}
use Rattle.executable.specs.Laws.DolFacts.{size-passed, size-refused}
use Rattle.executable.specs.Dol.{dol_header_of, file_size_of, dol_verdict_of, dol_size_of}
use Rattle.executable.specs.Program.{Program}
use Rattle.executable.specs.Inner.Reading.{program_at}
use Rattle.std.specs.Result.{result_and}

module _ (bytes : List ℕ) (offset at : ℕ) where
  pub no_program : offset ≡ 0 → Ok None ≡ program_at offset bytes at
  unfolding program_at
  no_program z = rw (eq-eqb offset 0 z)

  module _ (some : offset ≡ 0 → ⊥) where
    -- a program as long as n bytes
    abbrev as_long_as : ℕ → Program
    as_long_as n = Ok (Some (record { offset = offset; size = n }))

    by-verdict : (v : Verdict) → dol_verdict_of bytes at ≡ v → program_at offset bytes at ≡ result_and v (Ok (Some (record { offset = offset; size = max (file_size_of (dol_header_of bytes at)) 0xE4 })))
    unfolding program_at
    by-verdict v e = rw (ne_eqb offset 0 some, e)

    pub a_program : (m n : ℕ) → Ok m ≡ dol_size_of bytes at → n ≡ max m 0xE4 → as_long_as n ≡ program_at offset bytes at
    a_program m n e f =
        let t = size-passed bytes at m (sym e) in
        sym (by-verdict (Ok tt) t.0 ∙ ap as_long_as (ap (λ (x : ℕ). max x 0xE4) (sym t.1) ∙ sym f))

    pub no_header : (c : Refusal) → Err c ≡ dol_size_of bytes at → Err c ≡ program_at offset bytes at
    no_header c e = sym (by-verdict (Err c) (size-refused bytes at c (sym e)))
