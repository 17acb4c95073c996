use Rattle.std.proofs.Common.{◌≡◌, ◌<◌, ◌+◌, arith, lit<, ap, ◌∙◌}
use Rattle.rlsf_flex.proofs.Refused.{match_none}
use Rattle.rlsf_model_global.specs.Cursor.{pages}
use Rattle.rlsf_flex.proofs.pages.Source.end_of_pages.Goals as goal

pub returns-in_err-len : goal.returns-in_err-len
returns-in_err-len g c = rw (← c.self.view_is) (match_none _ c.from_residual.result c.from_residual.ensures
    (omega (arith, λ (fits : pages c.args.len < 18446744073709551616). c.in_err-len.ensures (lit< tt, fits), c.self.invariant.addressable)))

pub returns-in_err-end : goal.returns-in_err-end
returns-in_err-end g c = rw (← c.self.view_is) (
    let len : c.in_ok-len.len ≡ pages c.args.len = c.in_ok-len.ensures.1 in
    match_none _ c.from_residual-in_err-end.result c.from_residual-in_err-end.ensures (omega (arith, len, c.in_err-end.ensures, c.self.invariant.addressable)))

pub returns-then-end-last : goal.returns-then-end-last
returns-then-end-last g c = rw (← c.self.view_is) (
    let len : c.in_ok-len.len ≡ pages c.args.len = c.in_ok-len.ensures.1 in
    (c.in_ok-end.ensures.1 ∙ ap (λ n. c.args.start + n) len, c.if-end-last.true))

pub returns-else-end-last : goal.returns-else-end-last
returns-else-end-last g c = rw (← c.self.view_is) (
    let len : c.in_ok-len.len ≡ pages c.args.len = c.in_ok-len.ensures.1 in
    omega (arith, len, c.in_ok-end.ensures.1, c.if-end-last.false))
