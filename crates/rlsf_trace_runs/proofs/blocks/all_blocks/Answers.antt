use Rattle.std.proofs.Common.{◌≡◌, ◌<◌, ◌++◌, ◌+◌, take, length, [], ◌∷◌, Ok, arith, sym, ◌∙◌, ap, subst}
use Rattle.std.proofs.lemmas.Iterator.{items_from_collect}
use Rattle.std.proofs.lemmas.Iterator.Consumers.{YieldsList-from_shown}
use Rattle.std.proofs.lemmas.List.{get_or_default, take_all, take_more}
use Rattle.std.specs.Map.Iter.{TakesFirst}
use Rattle.rlsf_base.specs.Space.{range_of}
use Rattle.rlsf_blocks.specs.Blocks.{AreBlocks, Block, walked}
use Rattle.rlsf_model.specs.ChunkRows.{IsRow}
use Rattle.rlsf_model.specs.Lists.{IsIn}
use Rattle.rlsf_tlsf.proofs.Standing.{at_state, of_state}
use Rattle.rlsf_trace_runs.proofs.Overlapping.{IsIn-at}
use Rattle.rlsf_trace_runs.proofs.PoolBlocks.{AreBlocks-all, AreGathered, AreGathered-more, pool_walked, pools_before, walked_bounds}
use Rattle.rlsf_trace_runs.proofs.blocks.all_blocks.Goals as goal

pub iter_blocks-requires : goal.iter_blocks-requires
iter_blocks-requires g c =
    let (s, at) = c.requires.state in
    let pools = c.args.tables.now.pools.ranges.items in
    let p = c.index.result.now in
    let below : c.loop-place.place < length pools = omega (arith, c.loop-place-test.true, c.len-place-end.ensures) in
    let there = subst (λ q. IsIn q pools) (sym c.index.ensures) (IsIn-at pools c.loop-place.place p below) in
    (omega arith, of_state at.stands (λ x. IsRow x (walked p)) (pool_walked at p there))

pub loop-place-preserved : goal.loop-place-preserved
loop-place-preserved g c =
    let (s, at) = c.requires.state in
    let pools = c.args.tables.now.pools.ranges.items in
    let p = c.index.result.now in
    let i = c.loop-place.place in
    let below : i < length pools = omega (arith, c.loop-place-test.true, c.len-place-end.ensures) in
    let there = subst (λ q. IsIn q pools) (sym c.index.ensures) (IsIn-at pools i p below) in
    let (begins, ends) = walked_bounds at p there in
    let behind = pools_before c.requires.in_order i below p (λ d. get_or_default pools i d p below ∙ sym c.index.ensures) in
    let more = AreGathered-more c.loop-place.invariant p c.iter_blocks.result behind (walked p) begins ends c.iter_blocks.ensures.blocks in
    let given = YieldsList-from_shown (TakesFirst (λ (b : Block). b)) (λ b. b) (λ bs. bs) (λ x t h. ap length h.0) (λ x b t h. h) c.iter_blocks.result in
    let collected : c.in_ok-blocks.blocks.items ≡ c.iter_blocks.result = items_from_collect {E = Unit {0}} (Ok c.in_ok-blocks.blocks) c.in_ok-blocks.ensures.ran given in
    let items = c.in_ok-extend_from_slice.ensures.items ∙ ap (λ l. c.loop-place.all.items ++ l) (c.deref.ensures.value ∙ collected) in
    let walked_pools : take (i + 1) pools ≡ take i pools ++ p ∷ [] = take_more pools i p below ∙ ap (λ q. take i pools ++ q ∷ []) (sym c.index.ensures) in
    subst (λ l. AreGathered c.args.tlsf.now.state (take (i + 1) pools) l) (sym items)
    (subst (λ l. AreGathered c.args.tlsf.now.state l (c.loop-place.all.items ++ c.iter_blocks.result)) (sym walked_pools) more)

pub returns : goal.returns
returns g c =
    let (s, at) = c.requires.state in
    let pools = c.args.tables.now.pools.ranges.items in
    let bs = c.loop-place.all.items in
    let all : take c.loop-place.place pools ≡ pools = take_all c.loop-place.place pools (omega (arith, c.loop-place-test.false, c.len-place-end.ensures)) in
    let gathered = subst (λ l. AreGathered c.args.tlsf.now.state l bs) all c.loop-place.invariant in
    of_state at.stands (λ x. AreBlocks x (range_of c.args.tlsf.now.memory) bs) (AreBlocks-all at bs (at_state at.stands (λ x. AreGathered x pools bs) gathered))
