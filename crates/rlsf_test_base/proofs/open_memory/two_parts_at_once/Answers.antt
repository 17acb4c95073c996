use Rattle.std.proofs.Common.{rules, ◌≡◌, length, true, arith, inl, inr, ◌∙◌}
use Rattle.std.proofs.lemmas.Bool.{cases_lt}
use Rattle.rlsf_base.specs.LendsPiece.{lent_piece}
use Rattle.rlsf_base.specs.OpenSpace.{IsOwned}
use Rattle.rlsf_base.specs.Out.{is_own}
use Rattle.rlsf_base.specs.Range.{range_at}
use Rattle.rlsf_base.specs.Space.{out_at}
use Rattle.rlsf_test_base.proofs.open_memory.two_parts_at_once.Goals as goal

-- a byte is in the lower part, in the upper one, or behind both
pub free-requires : goal.free-requires
free-requires g c =
    let m2 = c.set_word-2.new.self in let m3 = c.take_out-lower.new.self in let m4 = c.take_out-upper.new.self in let m5 = c.put_back.new.self in let m6 = c.put_back-2.new.self in
    let lower = lent_piece c.take_out-lower.result c.swap_with_slice.new.self in let upper = lent_piece c.take_out-upper.result c.swap_with_slice.new.other in
    let at2 : m2.start ≡ 4096 = search rules in let at3 = c.take_out-lower.ensures.memory.start ∙ at2 in let at4 = c.take_out-upper.ensures.memory.start ∙ at3 in
    let at5 = c.put_back.ensures.memory.start ∙ at4 in let at6 = c.put_back-2.ensures.memory.start ∙ at5 in let long6 : length m6.bytes ≡ 32 = search rules in
    let lower_at : lower.start ≡ 4096 = c.as_mut_slice.ensures.start c.swap_with_slice.new.self ∙ c.take_out-lower.ensures.part.start in
    let lower_long : length lower.bytes ≡ 8 = c.as_mut_slice.ensures.lengths c.swap_with_slice.new.self ∙ c.take_out-lower.ensures.part.len in
    let upper_at : upper.start ≡ 4104 = c.as_mut_slice-2.ensures.start c.swap_with_slice.new.other ∙ c.take_out-upper.ensures.part.start in
    let upper_long : length upper.bytes ≡ 8 = c.as_mut_slice-2.ensures.lengths c.swap_with_slice.new.other ∙ c.take_out-upper.ensures.part.len in
    let rest : IsOwned m2 (range_at 4112 16) = search rules in
    λ a lo hi. elim (cases_lt a 4104) [
      | inl low ↦ c.put_back-2.ensures.back.own a (omega (arith, lower_at, lo, at6)) (omega (arith, lower_at, lower_long, low))
      | inr past ↦
          let step : is_own (out_at m5 a) ≡ true → is_own (out_at m6 a) ≡ true =
          c.put_back-2.ensures.back.own_beside a (omega (arith, at5, past)) (inr (omega (arith, lower_at, lower_long, past))) in
          elim (cases_lt a 4112) [
            | inl middle ↦ step (c.put_back.ensures.back.own a (omega (arith, upper_at, past)) (omega (arith, upper_at, upper_long, middle)))
            | inr high ↦ step (c.put_back.ensures.back.own_beside a (omega (arith, at4, past)) (inr (omega (arith, upper_at, upper_long, high)))
                (c.take_out-upper.ensures.beside.own a (omega (arith, at3, past)) (inr high)
                (c.take_out-lower.ensures.beside.own a (omega (arith, at2, past)) (inr past) (rest a high (omega (arith, hi, at6, long6))))))
          ]
    ]
