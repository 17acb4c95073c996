use Rattle.std.proofs.Common.{ℕ, ◌≡◌, ◌^◌, ◌≤◌, Fits, w64, Bool, true, arith, sym, ◌∙◌}
use Rattle.std.proofs.lemmas.Bool.{false≢true, le-leb, leb-true}
use Rattle.std.specs.Int.{is_power_of_two}
use Rattle.rlsf_model_sizes.specs.PowerOfTwo.{IsPowerOfTwo}
use Rattle.rlsf_base.proofs.Numbers.PowersOfTwo.{IsPowerOfTwo-le, is_power_of_two-iff}
use Rattle.rlsf_base.proofs.memory.layout.is_layout.Goals as goal

-- the test that was passed says that the alignment is a power of two
aligned : (align : ℕ) (test : Bool) → test ≡ is_power_of_two align → test ≡ true → IsPowerOfTwo align
aligned align test told passed = (is_power_of_two-iff align).0 (sym told ∙ passed)

-- a power of two of 64 bits
at_most : (align : ℕ) → IsPowerOfTwo align → Fits w64 align → align ≤ 2 ^ 63
at_most align power range = IsPowerOfTwo-le align 63 power (omega (arith, range))

pub overflow_sub-result : goal.overflow_sub-result
overflow_sub-result c = at_most _ (aligned _ _ c.is_power_of_two.ensures c.if-is_power_of_two.true) c.ranges.align

pub returns-then-is_power_of_two : goal.returns-then-is_power_of_two
returns-then-is_power_of_two c =
    let power = aligned _ _ c.is_power_of_two.ensures c.if-is_power_of_two.true in
    let above = at_most _ power c.ranges.align in (
      (λ within. let fits = leb-true _ _ within in record { aligned = power; fits = omega arith }),
      λ valid. le-leb _ _ (omega (arith, valid.fits)),
    )

pub returns-else-is_power_of_two : goal.returns-else-is_power_of_two
returns-else-is_power_of_two c = (
  (λ passed. absurd (false≢true (sym c.if-is_power_of_two.false ∙ passed))),
  λ valid. let passed : is_power_of_two c.args.align ≡ true = (is_power_of_two-iff c.args.align).1 valid.aligned in c.is_power_of_two.ensures ∙ passed,
)
