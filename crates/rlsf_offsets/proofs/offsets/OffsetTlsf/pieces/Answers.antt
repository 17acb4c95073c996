use Rattle.std.proofs.Common.{refl, subst}
use Rattle.std_collections.proofs.IterRuns.{gives_in_order}
use Rattle.rlsf_offsets.specs.Blocks.{AreAllBlocks}
use Rattle.rlsf_offsets.specs.Units.{Offsets}
use Rattle.rlsf_offsets.proofs.Blocks.{AreInSpace-within}
use Rattle.rlsf_offsets.proofs.offsets.OffsetTlsf.pieces.Goals as goal

pub invariant_of-result : goal.invariant_of-result
invariant_of-result g c =
    AreInSpace-within g.row.UNIT c.self.inside.inner.units c.blocks-blocks.result c.blocks-blocks.ensures.within c.self.invariant.1

pub returns : goal.returns
returns g c =
    let bs = c.blocks-blocks.result in
    record { pieces = (bs, subst (λ (v : Offsets). AreAllBlocks v bs) c.self.view_is c.blocks-blocks.ensures.blocks, refl); runs = gives_in_order }
