use Rattle.std.proofs.Common.{length}
use Rattle.rlsf_base.specs.Addr.{at}
use Rattle.rlsf_tlsf.specs.Lending.{written}
use Rattle.rlsf_tlsf.proofs.Arrivals.{well_formed}
use Rattle.rlsf_tlsf.proofs.FilledAllocations.{Steps-filled}
use Rattle.rlsf_tlsf.proofs.tlsf.Tlsf.allocate_zeroed.Goals as goal

pub returns-clause-step : goal.returns-clause-step
returns-clause-step g c =
    let addr = at c.in_ok-addr.addr in
    let w = c.fill.new.self in
    Steps-filled c.args.self.now c.allocate.new.self (written c.allocate.new.self addr (length c.payload_mut.result.now) w) c.args.layout.size c.args.layout.align addr w
    (well_formed c.args.self.now c.memory_ref.ensures.stands)
    c.args.layout.valid.aligned c.in_ok-addr.ensures.frame.place c.in_ok-addr.ensures.step (c.payload_mut.ensures.meaning w c.fill.ensures.len)
