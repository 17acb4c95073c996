use Rattle.std.proofs.Common.{◌*◌, ◌/◌, ◌^◌, ◌+◌, arith, refl, ap, sym, ◌∙◌}
use Rattle.std.specs.Int.NonZero.{non_zero_usize_get}
use Rattle.std.specs.Option.{option_map}
use Rattle.rlsf_base.specs.Space.{range_of}
use Rattle.rlsf_model.specs.Insert.{grown}
use Rattle.rlsf_blocks.proofs.LongerChunks.Appended.{Appends-grown, Appends-inserted, found_chunk, no_most, or_zero, some_most, Costs-cut, Costs-grown}
use Rattle.rlsf_blocks.proofs.extend.append_chunks.Goals as goal

pub extend_chunk-requires : goal.extend_chunk-requires
extend_chunk-requires g c =
    let (s, v, next) = c.requires.next in
    let (d, is, at) = found_chunk g.row.FLLEN s c.args.range (no_most g.row.FLLEN (cc)) (range_of c.args.memory.now) (omega (arith, c.if-len-eq0.false)) next in
    (omega arith, (c.requires.parameters, ((s, d, v, is, at), (λ a low high. c.requires.own a low (omega (arith, high))))))

pub returns-in-None : goal.returns-in-None
returns-in-None g c =
    let fllen = g.row.FLLEN in
    record {
      step = λ s v next.
          let limited = some_most fllen (cc) in
          let (t, step, stands, spare) = c.insert_chunks.ensures.step s v next.fresh in
          let none = sym (ap (λ o. or_zero (option_map non_zero_usize_get o)) c.in-None.is) in
          (t, Appends-inserted fllen (2 ^ (5 + fllen)) s c.args.range (option_map non_zero_usize_get c.insert_chunks.result) 0 t limited none step, stands, spare);
      unchanged = λ none. c.in-None.ensures.refused;
      costs = Costs-cut fllen c.args.range (cc) c.insert_chunks.ensures.costs;
      own = c.insert_chunks.ensures.own;
      here = c.insert_chunks.ensures.here;
    }

pub returns-in-Some : goal.returns-in-Some
returns-in-Some g c =
    let fllen = g.row.FLLEN in
    record {
      step = λ s v next.
          let limited = some_most fllen (cc) in
          let (t, step, stands, spare) = c.insert_chunks.ensures.step s v next.fresh in
          let some = c.get.ensures.value ∙ sym (ap (λ o. or_zero (option_map non_zero_usize_get o)) c.in-Some.is) in
          (t, Appends-inserted fllen (2 ^ (5 + fllen)) s c.args.range (option_map non_zero_usize_get c.insert_chunks.result) c.get.result t limited some step, stands, spare);
      unchanged = λ none. absurd (omega (arith, none, c.get.ensures.nonzero));
      costs = Costs-cut fllen c.args.range (cc) c.insert_chunks.ensures.costs;
      own = c.insert_chunks.ensures.own;
      here = c.insert_chunks.ensures.here;
    }

pub returns : goal.returns
returns g c =
    let is = c.is_some.ensures in
    record {
      step = λ s v next.
          let unlimited = no_most g.row.FLLEN (cc) in
          let len = c.args.range.len / 32 * 32 in
          let (d, is, at) = found_chunk g.row.FLLEN s c.args.range unlimited (range_of c.args.memory.now) (omega (arith, c.if-len-eq0.false)) next in
          let (stands, spare) = c.extend_chunk.ensures.step s d v is at in
          (grown d len s, Appends-grown g.row.FLLEN s c.args.range unlimited len d refl is at, stands, spare);
      unchanged = λ none. absurd (c.if-len-eq0.false none);
      costs = Costs-grown g.row.FLLEN c.args.range (cc) c.extend_chunk.ensures.costs;
      own = c.extend_chunk.ensures.own;
      here = c.extend_chunk.ensures.here;
    }
