use Rattle.std.proofs.Common.{arith, rules}
use Rattle.rlsf_base.specs.declared.memory.range.Range.{Range}
use Rattle.rlsf_model.specs.State.{State}
use Rattle.rlsf_blocks.specs.StandsFor.{contents, StandsFor}
use Rattle.rlsf_blocks.specs.Steps.Join.{IsNextOut}
use Rattle.rlsf_blocks.specs.Steps.Removal.{IsIdleChunk}
use Rattle.rlsf_blocks.proofs.Chunks.Removed.{IsMarked-idle, end_is, KeepsSpare-removed, StandsFor-removed}
use Rattle.rlsf_blocks.proofs.RepresentedStates.FreeBlocks.{IsFreeTable-free}
use Rattle.rlsf_blocks.proofs.removal.remove_chunk.Given as given
use Rattle.rlsf_blocks.proofs.removal.remove_chunk.Goals as goal
use Rattle.rlsf_blocks.proofs.removal.remove_chunk.Goals.{After-take_if_free-free}

pub take_if_free-free-requires : goal.take_if_free-free-requires
take_if_free-free-requires g c =
    let (s, k, v, is) = c.requires.idle in
    (omega arith, (c.requires.parameters, ((s.free, IsFreeTable-free v, IsMarked-idle v k is.is_chunk is.idle c.args.start is.begins), search rules)))

-- its free block is taken out
out : (g : given.Over) (c : After-take_if_free-free g) {s : State} (k : Range) → StandsFor g.row.FLLEN g.row.SLLEN (contents c.args.memory.now c.args.table.now) s
    → IsIdleChunk s k c.args.start
    → IsNextOut g.row.FLLEN g.row.SLLEN c.args.memory.now c.take_if_free-free.new.memory c.take_if_free-free.new.table s.free c.args.start c.take_if_free-free.result
out g c {s} k v is = c.take_if_free-free.ensures.step s.free (IsFreeTable-free v) (IsMarked-idle v k is.is_chunk is.idle c.args.start is.begins)

pub overflow_add-result : goal.overflow_add-result
overflow_add-result g c =
    let (s, k, v, is) = c.requires.idle in
    let end = end_is v k is.is_chunk is.idle is.begins (out g (goal.at.overflow_add-result g c).After-take_if_free-free k v is) in
    record { fits = omega (arith, end, (v.well_formed.chunks k is.is_chunk).lies_in.1, v.well_formed.addressable) }

pub overflow_add-result-2 : goal.overflow_add-result-2
overflow_add-result-2 g c =
    let (s, k, v, is) = c.requires.idle in
    let end = end_is v k is.is_chunk is.idle is.begins (out g (goal.at.overflow_add-result-2 g c).After-take_if_free-free k v is) in
    record { fits = omega (arith, end, (v.well_formed.chunks k is.is_chunk).lies_in.1, v.well_formed.addressable) }

pub returns : goal.returns
returns g c =
    let at = (goal.at.returns g c).After-take_if_free-free in
    let (s, k, v, is) = c.requires.idle in
    let rewrites = (out g at k v is).rewrites in
    record {
      step = λ s k v is.
          let gone = out g at k v is in
          (StandsFor-removed v k is.is_chunk is.idle is.begins gone, KeepsSpare-removed v k is.is_chunk is.idle is.begins gone, end_is v k is.is_chunk is.idle is.begins gone);
      costs = c.take_if_free-free.ensures.costs;
      own = rewrites.own;
      here = rewrites.here;
    }
