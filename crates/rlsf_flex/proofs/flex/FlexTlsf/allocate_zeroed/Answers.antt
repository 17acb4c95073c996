use Rattle.std.proofs.Common.{replicate, length, arith, sym, ◌∙◌, ap, subst}
use Rattle.rlsf_base.specs.Addr.{at}
use Rattle.rlsf_flex.specs.Lending.{flex_written}
use Rattle.rlsf_flex.specs.StandsFor.{FlexStandsFor, allocator_of}
use Rattle.rlsf_tlsf.specs.Lending as tlsf
use Rattle.rlsf_flex.proofs.FilledAllocations.{FlexSteps-filled}
use Rattle.rlsf_flex.proofs.Places.{SamePlace-then}
use Rattle.rlsf_flex.proofs.flex.FlexTlsf.allocate_zeroed.Goals as goal

pub returns : goal.returns
returns g c =
    let made = c.allocate.new.self in
    let addr = at c.in_ok-addr.addr in
    let w = c.fill.new.self in
    let new = tlsf.written (allocator_of made) addr (length c.payload_mut.result.now) w in
    let is = c.in_ok-addr.ensures in
    let did = c.payload_mut.ensures in
    let long = did.lengths w ∙ ap length did.value in
    let (chunks, same, source, place, stands, touches, copied) = did.rest w in
    record {
      step =
          FlexSteps-filled g.S.FlexSource.leads c.args.self.now made new c.args.layout.size c.args.layout.align addr w c.self.invariant.valid
          (subst (FlexStandsFor g.row.FLLEN g.row.SLLEN g.S.FlexSource.terms g.S.FlexSource.owes) c.self.view_is c.self.invariant.stands)
          c.args.layout.valid.aligned place is.step (did.meaning w c.fill.ensures.len);
      result = record {
        made = record {
          live = ap (λ f. f addr) (did.aligns w) ∙ is.result.live;
          sized = omega (arith, is.result.sized, long);
          few = omega (arith, is.result.few, long);
          new = is.result.new;
          aligns = λ a other. ap (λ f. f a) (did.aligns w) ∙ is.result.aligns a other;
          bytes = λ a other. did.bytes w a other ∙ is.result.bytes a other;
          count = did.count w ∙ is.result.count;
        };
        zeros = did.filled w c.fill.ensures.len ∙ c.fill.ensures.after (λ y same. same) ∙ ap (λ n. replicate n 0) (sym (did.lengths w));
      };
      room = record { room = is.room.room; unasked = is.room.unasked };
      bounds = λ count most widest sized short fits. did.bounds w count most widest (is.bounds count most widest sized short fits);
      refused = tt;
      frame = record {
        place = SamePlace-then c.args.self.now.memory made.memory (flex_written made addr (length c.payload_mut.result.now) w).memory is.frame.place place;
        grow = omega (arith, is.frame.grow, touches);
        copied = copied ∙ is.frame.copied;
      };
      touches = λ room. omega (arith, is.touches room, touches);
    }

pub returns-in_err-addr : goal.returns-in_err-addr
returns-in_err-addr g c =
    let is = c.in_err-addr.ensures in
    rw c.from_residual.ensures (record {
      step = is.step;
      result = tt;
      room = is.room;
      bounds = is.bounds;
      refused = is.refused;
      frame = is.frame;
      touches = λ room. omega (arith, is.touches room);
    })
