use Rattle.std.proofs.Common.{subst}
use Rattle.std_collections.proofs.IterRuns.{gives_in_order}
use Rattle.rlsf_offsets.specs.Blocks.{AreAllBlocks, AreWithinSpace}
use Rattle.rlsf_offsets.specs.Units.{Offsets}
use Rattle.rlsf_offsets.proofs.Blocks.{AreAllBlocks-row, AreWithinSpace-blocks, IsRow-shadow}
use Rattle.rlsf_offsets.proofs.units.UnitTlsf.blocks.Goals as goal

pub walk_blocks-requires : goal.walk_blocks-requires
walk_blocks-requires c =
    (59, 8, _, _, c.self.invariant.shadow.stands, IsRow-shadow c.self.invariant.shadow c.chunk_len-len.result c.chunk_len-len.ensures.some c.chunk_len-len.ensures.none)

pub returns : goal.returns
returns c =
    let shadow = c.self.invariant.shadow in
    let some = c.chunk_len-len.ensures.some in
    let none = c.chunk_len-len.ensures.none in
    let len = c.chunk_len-len.result in
    let bs = c.walk_blocks.result in
    let all = AreAllBlocks-row shadow len some none bs (c.walk_blocks.ensures.blocks 59 8 _ _ shadow.stands (IsRow-shadow shadow len some none)) in
    record {
      blocks = subst (λ (v : Offsets). AreAllBlocks v bs) c.self.view_is all;
      within = subst (λ (v : Offsets). AreWithinSpace v.units bs) c.self.view_is (AreWithinSpace-blocks shadow bs all);
      runs = gives_in_order;
    }
