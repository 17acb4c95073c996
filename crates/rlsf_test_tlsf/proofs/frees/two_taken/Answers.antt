use Rattle.std.proofs.Common.{◌≢◌, ◌∙◌}
use Rattle.rlsf_base.specs.Addr.{at}
use Rattle.rlsf_test_tlsf.proofs.frees.two_taken.Goals as goal

pub returns : goal.returns
returns g c =
    let first = at c.in-Some.first in
    let second = at c.in-Some-allocate.second in
    let live = c.in-Some.ensures.result.live in
    let new = c.in-Some-allocate.ensures.result.new in
    let apart : first ≢ second = λ same. cc (live, new) in
    record {
      first = c.third.ensures first c.args.layout.align (c.in-Some-allocate.ensures.result.aligns first apart ∙ live);
      second = c.third.ensures second c.args.layout.align c.in-Some-allocate.ensures.result.live;
      apart = apart;
    }
