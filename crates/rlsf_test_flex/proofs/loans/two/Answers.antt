use Rattle.std.proofs.Common.{◌≢◌, length, get_or, arith, ◌∙◌, ap}
use Rattle.std.proofs.lemmas.List.{get_or-replicate}
use Rattle.rlsf_base.specs.Addr.{at}
use Rattle.rlsf_test_flex.proofs.loans.two.Goals as goal

pub returns : goal.returns
returns c =
    let one = at c.in_ok-one.one in
    let other = at c.in-Some.other in
    let live = ap (λ aligns. aligns one) (c.payload_mut.ensures.aligns c.fill.new.self) ∙ c.in_ok-one.ensures.result.live in
    let new = c.in-Some.ensures.result.new in
    let apart : one ≢ other = λ same. cc (live, new) in
    let first =
    c.payload.ensures ∙ c.payload_mut-2.ensures.bytes c.fill-2.new.self one apart ∙ c.in-Some.ensures.result.bytes one apart
    ∙ c.payload_mut.ensures.filled c.fill.new.self c.fill.ensures.len ∙ c.fill.ensures.after (λ y e. e) in
    let second = c.payload-2.ensures ∙ c.payload_mut-2.ensures.filled c.fill-2.new.self c.fill-2.ensures.len ∙ c.fill-2.ensures.after (λ y e. e) in (
      ap (λ bytes. get_or bytes 0 0) first
          ∙ get_or-replicate (length c.payload_mut.result.now) 0 7 0 (omega (arith, ap length c.payload_mut.ensures.value, c.in_ok-one.ensures.result.sized, c.requires)),
      ap (λ bytes. get_or bytes 0 0) second
          ∙ get_or-replicate (length c.payload_mut-2.result.now) 0 9 0 (omega (arith, ap length c.payload_mut-2.ensures.value, c.in-Some.ensures.result.sized, c.requires)),
    )
