use Rattle.std.proofs.Common.{length, get_or, is_some, lit<, arith, sym, ◌∙◌, ap, Some}
use Rattle.rlsf_base.specs.Addr.{at}
use Rattle.rlsf_test_tlsf.proofs.KeptBytes.{kept_byte}
use Rattle.rlsf_test_tlsf.proofs.reallocations.kept.Goals as goal

pub reallocate-requires : goal.reallocate-requires
reallocate-requires c =
    (lit< tt, ap (λ aligns. aligns (at c.in_ok-addr.addr)) (c.payload_mut.ensures.aligns c.fill.new.self) ∙ c.in_ok-addr.ensures.result.live ∙ sym (ap Some c.requires.0))

pub payload-bytes-requires : goal.payload-bytes-requires
payload-bytes-requires c = (lit< tt, ap is_some c.in_ok-moved.ensures.result.live)

pub bounds-bytes-offset : goal.bounds-bytes-offset
bounds-bytes-offset c = omega (arith, ap length c.payload-bytes.ensures, c.in_ok-moved.ensures.result.sized, c.requires)

pub returns : goal.returns
returns c =
    let n = length c.payload_mut.result.now in
    let filled = c.payload_mut.ensures.filled c.fill.new.self c.fill.ensures.len ∙ c.fill.ensures.after (λ y e. e) in
    ap (λ bs. get_or bs c.args.offset 0) c.payload-bytes.ensures
    ∙ kept_byte _ _ n c.args.byte c.args.offset filled c.in_ok-moved.ensures.result.kept
    (omega (arith, ap length c.payload_mut.ensures.value, c.in_ok-addr.ensures.result.sized, c.requires))
    (omega (arith, c.in_ok-moved.ensures.result.sized, c.requires))
