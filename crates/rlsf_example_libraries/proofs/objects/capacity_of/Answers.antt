use Rattle.std.proofs.Common.{◌≡◌, ℕ, ◌+◌, ◌-◌, ◌/◌, ◌^◌, ◌<◌, ◌≤◌, Some, lit<, arith, inl, inr, refl, sym, ◌∙◌, ap}
use Rattle.std.proofs.lemmas.Bool.{cases_lt}
use Rattle.std.proofs.lemmas.Bool.Decides.{nat_tests}
use Rattle.std.proofs.lemmas.Grind.{common_steps}
use Rattle.std.proofs.lemmas.Nat.{div_below}
use Rattle.rlsf_model_sizes.specs.Sizes.{pool_size_to_contain_allocation}
use Rattle.rlsf_base.proofs.Numbers.Roundings.{round32-le}
use Rattle.rlsf_base.proofs.SizeMaps.Laws.{pool_contains_its_allocation}
use Rattle.rlsf_example_libraries.proofs.objects.capacity_of.Goals as goal

least_long : (size align least : ℕ) → pool_size_to_contain_allocation 59 8 size align ≡ Some least → 64 ≤ least
least_long size align least told = (pool_contains_its_allocation 64 64 59 8 size align least
    (record { some_rows = lit< tt; rows_fit = omega arith; power_of_two = refl; classes_fit = omega arith }) told).0

pub overflow_sub-least : goal.overflow_sub-least
overflow_sub-least c = least_long c.args.layout.size c.args.layout.align c.in-Some.least (sym c.pool_size_to_contain_allocation.ensures ∙ c.in-Some.is)

-- a sum that is cut off at a word's end divides what fits in a word as the sum does
cut_off : (n d e word : ℕ) → n < word - 1 → 0 < d → (d < word → e ≡ d) → (word ≤ d → e ≡ word - 1) → n / e ≡ n / d
cut_off n d e word less some within past = elim (cases_lt d word) [
  | inl fits ↦ ap (λ k. n / k) (within fits)
  | inr long ↦ ap (λ k. n / k) (past long) ∙ div-small n (word - 1) less ∙ sym (div-small n d (omega arith))
]
  where
    div-small : (n d : ℕ) → n < d → n / d ≡ 0
    div-small n d less = omega (arith, div_below n d 1 (omega arith) (omega arith))

pub returns-else-layout-le32 : goal.returns-else-layout-le32
returns-else-layout-le32 c =
    let n = c.args.len - c.in-Some.least in
    let block = c.request_size-block.result in
    let d = block + (c.in-Some.least - 64) in
    let long : 64 ≤ c.in-Some.least = least_long c.args.layout.size c.args.layout.align c.in-Some.least (sym c.pool_size_to_contain_allocation.ensures ∙ c.in-Some.is) in
    let some : 0 < d = omega (arith, c.request_size-block.ensures, round32-le (c.args.layout.size + (c.args.layout.align - 16) + 16)) in
    let quotient : n / c.saturating_add.result ≡ n / d = cut_off n d c.saturating_add.result (2 ^ 64) (omega (arith, long, c.ranges.len.fits)) some
    (λ fits. omega (arith, c.saturating_add.ensures, fits)) (λ past. omega (arith, c.saturating_add.ensures, past)) in
    let told = sym c.pool_size_to_contain_allocation.ensures ∙ c.in-Some.is in
    grind (arith, nat_tests, common_steps, quotient, told, c.request_size-block.ensures)
