use Rattle.std.proofs.Common.{length, get_or, is_some, lit<, arith, ◌∙◌, ap}
use Rattle.rlsf_test_tlsf.proofs.KeptBytes.{kept_byte, where_some}
use Rattle.rlsf_test_tlsf.proofs.reallocations.kept_there.Goals as goal

pub payload-requires : goal.payload-requires
payload-requires c = (lit< tt, ap is_some c.reallocate_no_move.ensures.frame.live)

pub bounds-payload-offset : goal.bounds-payload-offset
bounds-payload-offset c =
    let (to, is) = where_some c.reallocate_no_move.result _ c.if-is_none.ensures c.reallocate_no_move.ensures.result in
    omega (arith, ap length c.payload.ensures, is.sized, c.requires)

pub returns : goal.returns
returns c =
    let n = length c.payload_mut.result.now in
    let filled = c.payload_mut.ensures.filled c.fill.new.self c.fill.ensures.len ∙ c.fill.ensures.after (λ y e. e) in
    let (to, is) = where_some c.reallocate_no_move.result _ c.if-is_none.ensures c.reallocate_no_move.ensures.result in
    ap (λ bs. get_or bs c.args.offset 0) c.payload.ensures
    ∙ kept_byte _ _ n c.args.byte c.args.offset filled is.kept (omega (arith, ap length c.payload_mut.ensures.value, c.in_ok-addr.ensures.result.sized, c.requires))
    (omega (arith, is.sized, c.requires))
