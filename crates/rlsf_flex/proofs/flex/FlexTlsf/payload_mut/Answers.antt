use Rattle.std.proofs.Common.{length, refl}
use Rattle.rlsf_base.specs.Addr.{at}
use Rattle.rlsf_tlsf.specs.Lending.{written}
use Rattle.rlsf_flex.proofs.Calls.{left, steps_alone}
use Rattle.rlsf_flex.proofs.InnerAllocator.{flex_stood_at}
use Rattle.rlsf_flex.proofs.flex.FlexTlsf.payload_mut.Goals as goal

pub invariant_of-self-lent : goal.invariant_of-self-lent
invariant_of-self-lent g c = λ w.
    let rest = c.payload_mut.ensures.rest w in
    record { valid = c.self.invariant.valid; stands = left c.self.invariant.stands _ rest c.self.invariant.whole; whole = rest.1.3 c.self.invariant.whole }

pub returns : goal.returns
returns g c =
    let addr = at c.args.addr in
    let is = c.payload_mut.ensures in
    let stands = c.self.invariant.stands in
    rw (← c.self.view_is) (
      (refl, λ w. refl),
      record {
        writes_back = tt;
        value = is.value;
        meaning =
            λ w long. steps_alone stands (written c.self.inside.parts.tlsf addr (length c.payload_mut.result.now) w) _ (is.rest w).1 c.self.invariant.whole (is.rest w).0
            (is.meaning w long);
        filled = is.filled;
        bytes = is.bytes;
        aligns = is.aligns;
        count = is.count;
        bounds = is.bounds;
        lengths = is.lengths;
        rest = λ w.
            let (chunks, place, stood, touches, copied, spare) = is.rest w in (
              chunks,
              refl,
              refl,
              place,
              flex_stood_at (left stands _ (is.rest w) c.self.invariant.whole),
              touches,
              copied,
            );
      },
    )
