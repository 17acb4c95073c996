use Rattle.std.proofs.Common.{arith, refl, subst}
use Rattle.rlsf_offsets.specs.Blocks.{AreSpaceTotals}
use Rattle.rlsf_offsets.specs.Units.{Offsets}
use Rattle.rlsf_offsets.proofs.Blocks.{AreStats-totals, few_bytes}
use Rattle.rlsf_offsets.proofs.offsets.OffsetTlsf.stats.Goals as goal

pub in_bytes-used-requires : goal.in_bytes-used-requires
in_bytes-used-requires g c =
    let few = few_bytes g.row.UNIT c.self.inside.inner.units c.totals-totals.result.used c.totals-totals.ensures.few.0 in
    omega (arith, few, c.self.invariant.1)

pub in_bytes-free-requires : goal.in_bytes-free-requires
in_bytes-free-requires g c =
    let few = few_bytes g.row.UNIT c.self.inside.inner.units c.totals-totals.result.free c.totals-totals.ensures.few.1 in
    omega (arith, few, c.self.invariant.1)

pub in_bytes-longest-requires : goal.in_bytes-longest-requires
in_bytes-longest-requires g c =
    let few = few_bytes g.row.UNIT c.self.inside.inner.units c.totals-totals.result.longest c.totals-totals.ensures.few.2 in
    omega (arith, few, c.self.invariant.1)

pub returns : goal.returns
returns g c =
    let are = subst (λ (v : Offsets). AreSpaceTotals v c.totals-totals.result) c.self.view_is c.totals-totals.ensures.totals in
    AreStats-totals g.row.UNIT c.args.self.now c.totals-totals.result _ are refl c.in_bytes-used.ensures c.in_bytes-free.ensures c.in_bytes-longest.ensures
