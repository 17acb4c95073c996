use Rattle.std.specs.Bool.{then_some}
use Rattle.std.specs.Prelude.{nat_lt, ◌^◌}
use Rattle.std.proofs.Common.{◌+◌, Some, cond, arith, sym, ◌∙◌, ap}
use Rattle.std.proofs.lemmas.Bool.{lt-ltb}
use Rattle.rlsf_flex.proofs.Asks.{sum_is}
use Rattle.rlsf_flex.proofs.growth.range_len.Goals as goal

pub returns-then-min_align-lt32 : goal.returns-then-min_align-lt32
returns-then-min_align-lt32 g c =
    let t = g.S.FlexSource.terms c.args.source.now in
    let wanted = c.args.wanted in
    sum_is c.checked_add.result (wanted + 32) c.checked_add.ensures
    ∙ sym (ap (λ b. cond b (then_some (nat_lt (wanted + 32) (2 ^ 64)) (wanted + 32)) (Some wanted))
    (lt-ltb t.min_align 32 (omega (arith, c.min_align.ensures, c.if-min_align-lt32.true))))
