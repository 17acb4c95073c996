-- Whether an allocator's parameters are valid.
use Rattle.std.proofs.Common.{◌≡◌, ◌↔◌, ℕ, true≢false, IsTrue, nat_le, nat_lt, arith, sym, ◌∙◌, ap, inl, inr}
use mathlib.Core.Bool.{◌&&◌}
use Rattle.std.proofs.lemmas.Bool.{and_parts, cases_lt, le-leb, leb-true, lt-ltb, ltb-true}
use Rattle.rlsf_model_sizes.specs.SizeClass.{IsValid, is_row_length}
use Rattle.rlsf_int.specs.Bits.{IsFirstOne, bit, bit-zero}
use Rattle.rlsf_checked.specs.Steps.Classes.{is_valid}

-- the test is true exactly if the parameters are valid
pub is_valid-iff : (fl_bits sl_bits fllen sllen : ℕ) → IsTrue (is_valid fl_bits sl_bits fllen sllen) ↔ IsValid fl_bits sl_bits fllen sllen
is_valid-iff fl_bits sl_bits fllen sllen = (to, from)
  where
    to : IsTrue (is_valid fl_bits sl_bits fllen sllen) → IsValid fl_bits sl_bits fllen sllen
    to is =
        let (some, rest) = and_parts (nat_lt 0 fllen) (nat_le fllen fl_bits && (nat_le sllen sl_bits && is_row_length sllen)) is in
        let (rows, more) = and_parts (nat_le fllen fl_bits) (nat_le sllen sl_bits && is_row_length sllen) rest in
        let (classes, power) = and_parts (nat_le sllen sl_bits) (is_row_length sllen) more in
        record { some_rows = ltb-true 0 fllen some; rows_fit = leb-true fllen fl_bits rows; power_of_two = power; classes_fit = leb-true sllen sl_bits classes }

    from : IsValid fl_bits sl_bits fllen sllen → IsTrue (is_valid fl_bits sl_bits fllen sllen)
    from is =
        ap (λ t. t && (nat_le fllen fl_bits && (nat_le sllen sl_bits && is_row_length sllen))) (lt-ltb 0 fllen is.some_rows)
        ∙ ap (λ t. t && (nat_le sllen sl_bits && is_row_length sllen)) (le-leb fllen fl_bits is.rows_fit)
        ∙ ap (λ t. t && is_row_length sllen) (le-leb sllen sl_bits is.classes_fit)
        ∙ is.power_of_two

-- without a one, the first one is sought past the last position
pub first_past : (width n answer : ℕ) → n ≡ 0 → IsFirstOne width n 0 answer → answer ≡ width
first_past width n answer none is = elim (cases_lt answer width) [
  | inl below ↦ absurd (true≢false (sym (is.found below).1 ∙ ap (λ m. bit m answer) none ∙ bit-zero answer))
  | inr past ↦ omega (arith, is.within, past)
]
