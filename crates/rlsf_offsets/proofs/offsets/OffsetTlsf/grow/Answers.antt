use Rattle.std.proofs.Common.{arith}
use Rattle.rlsf_offsets.proofs.Bytes.{IsSpaceGrown-units, KeepsRanges-unchanged, grown_fits, grown_live}
use Rattle.rlsf_offsets.proofs.offsets.OffsetTlsf.grow.Goals as goal

pub invariant_of-self : goal.invariant_of-self
invariant_of-self g c =
    let e = c.grow.ensures in
    (c.self.invariant.0, grown_fits g.row.UNIT c.self.inside.inner c.grow.new.self c.args.len c.grow.result e.longer e.same c.self.invariant.1 (omega arith))

pub returns : goal.returns
returns g c =
    let unit = g.row.UNIT in
    let v = c.self.inside.inner in
    let x = c.grow.new.self in
    let e = c.grow.ensures in
    rw (← c.self.view_is) (record {
      grown = λ is. IsSpaceGrown-units unit v x c.args.len (e.longer is);
      which = e.which;
      stay = grown_live unit v x c.args.len c.grow.result e.longer e.same;
      sized = e.sized;
      same = λ none. KeepsRanges-unchanged unit v x (e.same none);
      touches = e.touches;
    })
