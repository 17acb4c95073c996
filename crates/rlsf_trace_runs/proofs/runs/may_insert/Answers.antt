use Rattle.std.proofs.Common.{length, arith, sym, subst, IsTrue, ◌↔◌, ◌<◌, ◌^◌}
use Rattle.rlsf_base.specs.Range.{LiesIn, end_of}
use Rattle.rlsf_base.specs.Space.{range_of}
use Rattle.rlsf_model.specs.Insert.{IsVacant}
use Rattle.rlsf_trace_runs.proofs.runs.may_insert.Goals as goal

pub is_vacant-requires : goal.is_vacant-requires
is_vacant-requires g c =
    let (s, at) = c.requires in
    record {
      in_runs = at.in_runs;
      apart = at.apart;
      inside = λ p i. subst (λ m. LiesIn p m.start (length m.bytes)) (sym c.memory_ref.ensures.memory) (at.inside p i);
      addressable = subst (λ m. end_of (range_of m) < 2 ^ 64) (sym c.memory_ref.ensures.memory) at.stands.stands.well_formed.addressable;
    }

pub returns : goal.returns
returns g c =
    let (s, at) = c.requires in
    record {
      vacant = subst (λ m. IsTrue c.is_vacant.result ↔ IsVacant (range_of m) c.args.tables.now.pools.ranges.items c.args.range) c.memory_ref.ensures.memory c.is_vacant.ensures;
      in_runs = at.in_runs;
      apart = at.apart;
      addressable = λ p i. omega (arith, (at.inside p i).1, at.stands.stands.well_formed.addressable);
    }
