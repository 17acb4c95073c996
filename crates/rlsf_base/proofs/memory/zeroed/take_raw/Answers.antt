use Rattle.std.proofs.Common.{◌∙◌, ap, arith, length, sym, []}
use Rattle.rlsf_base.specs.Out.{is_own, kept_at}
use Rattle.rlsf_base.specs.Steps.Ownership.{units_for}
use Rattle.rlsf_base.proofs.RawBlock.Fills.{all_own, none_own}
use Rattle.rlsf_base.proofs.memory.zeroed.take_raw.Goals as goal

pub returns-clause-bytes : goal.returns-clause-bytes
returns-clause-bytes c =
    let e = c.in_ok-base.ensures.bytes in
    (sym e.0, e.1, e.2, omega arith, λ k. ap (λ cs. is_own (kept_at cs k)) e.3 ∙ all_own [] 0 c.args.len none_own k, e.4 ∙ c.units.ensures)

pub returns-then-len-eq0-clause-bytes : goal.returns-then-len-eq0-clause-bytes
returns-then-len-eq0-clause-bytes c =
    let e = c.no_block-bytes.ensures in
    (sym e.0, e.1, omega (arith, ap length e.2), omega arith, λ k. ap (λ cs. is_own (kept_at cs k)) e.4 ∙ none_own k, e.5 ∙ ap (λ n. units_for c.args.skip n) (omega arith))
