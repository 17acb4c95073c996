use Rattle.std.proofs.Common.{sym, ap, subst, ◌∙◌}
use Rattle.rlsf_base.specs.MemoryCalls.{IsSpaceWith}
use Rattle.rlsf_base.specs.OpenSpace.{out_with}
use Rattle.rlsf_base.specs.Space.{with_bytes}
use Rattle.rlsf_heap.specs.Heap.{IsWritten, PayloadView, payload_range}
use Rattle.rlsf_heap.proofs.payload.Payload.take_back.Goals as goal

pub put_back-requires-clause-home : goal.put_back-requires-clause-home
put_back-requires-clause-home c = ap (λ (p : PayloadView). p.identity.home) c.redeemed-part.ensures.parts ∙ c.requires.home

pub put_back-requires-clause-full : goal.put_back-requires-clause-full
put_back-requires-clause-full c = subst (λ (p : PayloadView). IsWritten p) (sym c.redeemed-part.ensures.parts) c.requires.written

pub returns-clause-back : goal.returns-clause-back
returns-clause-back c =
    let e = c.put_back.ensures in
    let m = c.args.memory.now in record {
      memory = subst (λ (p : PayloadView). IsSpaceWith m c.put_back.new.self (with_bytes m p.start p.bytes) (out_with m (payload_range p))) c.redeemed-part.ensures.parts e.memory;
      long = e.back.len;
      counts = e.counts;
      entries = c.redeemed-part.ensures.entries;
    }
