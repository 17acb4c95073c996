use Rattle.std.proofs.Common.{◌+◌, None, arith, ap, ◌∙◌}
use Rattle.rlsf_base.specs.Addr.{at}
use Rattle.rlsf_global.proofs.KeptMemories.{kept_allocated, kept_moved}
use Rattle.rlsf_global.proofs.MovedPayloads.{moved_away, moved_away_seen}
use Rattle.rlsf_global.proofs.Placements.{refusal_made, refusal_stays}
use Rattle.rlsf_global.proofs.moves.move_away.Goals as goal

pub returns-in_err-to : goal.returns-in_err-to
returns-in_err-to g c =
    let did = c.in_err-to.ensures in
    let stays = refusal_stays c.args.flex.now c.allocate.new.self _ did.step (λ notes is. (_, is.extends)) did.refused.same did.refused.bytes in
    rw c.from_residual.ensures (record {
      step = tt;
      moved = tt;
      none = refusal_made c.args.flex.now c.allocate.new.self _ did.step stays;
      refused = stays;
      touches = λ some.
          let first = did.touches some in
          omega (arith, first);
      frame = record {
        memory = kept_allocated c.args.flex.now c.allocate.new.self c.args.wanted.size c.args.wanted.align None did.step;
        grow = did.frame.grow;
        copied = tt;
        copied_none = did.frame.copied;
      };
    })

pub returns : goal.returns
returns g c = record {
  step = λ rows.
      moved_away c.args.flex.now c.allocate.new.self c.copy_payload.new.self c.deallocate.new.self (at c.args.addr) c.args.keep c.args.wanted c.in_ok-to.to c.in_ok-to.ensures.step
      c.copy_payload.ensures.step c.deallocate.ensures.step
      c.copy_payload.ensures.frame.source c.deallocate.ensures.frame.source rows;
  moved =
      let first = c.in_ok-to.ensures in
      let second = c.copy_payload.ensures in
      let third = c.deallocate.ensures in
      moved_away_seen c.args.flex.now c.allocate.new.self c.copy_payload.new.self c.deallocate.new.self (at c.args.addr) c.args.keep c.args.wanted c.in_ok-to.to first.step
      second.step third.step
      c.args.align c.requires.live first.result.new (record { live = first.result.live; sized = first.result.sized; few = first.result.few }) first.result.aligns
      first.result.bytes second.result.aligns second.result.bytes
      third.result.gone third.result.aligns third.result.bytes;
  none = tt;
  refused = tt;
  touches = λ some.
      let first = c.in_ok-to.ensures.touches some in
      omega (arith, first, c.copy_payload.ensures.touches, c.deallocate.ensures.touches);
  frame =
      let copy = c.copy_payload.ensures in
      let free = c.deallocate.ensures in record {
        memory =
            kept_moved c.args.flex.now c.allocate.new.self c.copy_payload.new.self c.deallocate.new.self c.args.wanted.size c.args.wanted.align (at c.in_ok-to.to) _ _
            c.in_ok-to.ensures.step copy.step copy.frame.place copy.frame.chunks free.step free.frame.place free.frame.chunks;
        grow = omega (arith, c.in_ok-to.ensures.frame.grow, copy.touches, free.frame.grow);
        copied = free.frame.copied ∙ copy.frame.copied ∙ ap (λ n. n + c.args.keep) c.in_ok-to.ensures.frame.copied;
        copied_none = tt;
      };
}
