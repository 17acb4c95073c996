use Rattle.std.proofs.Common.{subst, sym, arith}
use Rattle.rlsf_offsets.specs.Blocks.{AreAllBlocks, AreSpaceTotals}
use Rattle.rlsf_offsets.specs.Units.{Offsets}
use Rattle.rlsf_offsets.proofs.Blocks.{AreSpaceTotals-blocks}
use Rattle.rlsf_offsets.proofs.units.UnitTlsf.totals.Goals as goal

pub totals_of-requires : goal.totals_of-requires
totals_of-requires c = c.blocks-2.ensures.blocks.in_order

pub returns : goal.returns
returns c =
    let all = subst (λ (v : Offsets). AreAllBlocks v c.blocks-2.result) (sym c.self.view_is) c.blocks-2.ensures.blocks in
    let are = subst (λ (v : Offsets). AreSpaceTotals v c.totals_of.result) c.self.view_is
    (AreSpaceTotals-blocks c.self.invariant.shadow c.blocks-2.result c.totals_of.result all c.totals_of.ensures.totals) in
    record { totals = are; few = (omega arith, omega arith, omega arith) }
