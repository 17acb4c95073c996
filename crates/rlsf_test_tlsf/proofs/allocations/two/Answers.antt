use Rattle.std.proofs.Common.{◌≡◌, ◌≢◌, ◌∙◌}
use Rattle.rlsf_base.specs.Addr.{at}
use Rattle.rlsf_test_tlsf.proofs.allocations.two.Goals as goal

pub returns : goal.returns
returns c =
    let one = at c.in-Some.one in
    let other = at c.in-Some-allocate.other in
    let live = c.in-Some.ensures.result.live in
    let new = c.in-Some-allocate.ensures.result.new in
    let apart : one ≢ other = λ same. cc (live, new) in
    record {
      first = c.in-Some-allocate.ensures.result.aligns one apart ∙ live;
      second = c.in-Some-allocate.ensures.result.live;
      apart = apart;
    }
